-- `Text::hexadecimal` meets its contract: the invariant is that the digits of the bytes from the `i`th on are written.
use Prim.Native.Nat.{◌-◌}
use Rattle.printing.specs.Printing.{Pieces}
use Rattle.printing.specs.PrintingLaws.{highest}
use Rattle.printing.proofs.Text.hexadecimal.Given as goal

abbrev pub invariant-loop-i : goal.invariant-loop-i
invariant-loop-i l = Pieces (highest l.area l.from l.n) 2 l.n l.initial.self l.self (l.n - l.i)
