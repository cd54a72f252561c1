-- `Text::word` meets its contract: the invariant is that the first bytes are written.
use Prim.Native.Nat.{ℕ}
use lib.ListN.{length, take}
use Rattle.printing.specs.Printing.{Pieces}
use Rattle.printing.proofs.Text.word.Given as goal

abbrev pub invariant-loop-byte : goal.invariant-loop-byte
invariant-loop-byte l =
    Pieces (λ (k : ℕ). take k l.w) 1 (length l.w) l.initial.self l.self l.byte-index
