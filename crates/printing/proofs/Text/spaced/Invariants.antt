-- `Text::spaced` meets its contract: the invariant is that the first numbers are written.
use lib.ListN.{length}
use Rattle.printing.specs.Printing.{Pieces}
use Rattle.printing.specs.PrintingLaws.{spaced_to}
use Rattle.printing.proofs.Text.spaced.Given as goal

abbrev pub invariant-loop-n : goal.invariant-loop-n
invariant-loop-n l = Pieces (spaced_to l.numbers) 11 (length l.numbers) l.initial.self l.self l.n-index
