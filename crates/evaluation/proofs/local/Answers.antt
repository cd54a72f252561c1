use mathlib.Core.Path.{sym, ◌∙◌}
use native.Mathlib.Omega.{arith}
use Rattle.words.specs.Sizes.{set_words}
use Rattle.evaluation.specs.ElementCases.{row_put-none, row_put-in, row_put-out, row_put-all}
use Rattle.evaluation.proofs.local.Goals as goal
use Rattle.evaluation.proofs.local.Goals.{then-junction, else-junction}

pub loop-d-init : goal.loop-d-init
loop-d-init c = row_put-none

pub junction-requires : goal.junction-requires
junction-requires c = (omega (arith, c.requires.2), omega (arith, c.requires.3))

pub put_row-requires : goal.put_row-requires
put_row-requires c = (omega arith, c.requires.1)

pub loop-d-preserved : goal.loop-d-preserved
loop-d-preserved c =
    let test = sym (c.junction.ensures set_words c.requires.2 c.requires.3) in
    elim c.if-junction.branch [
      | then-junction w ↦ row_put-in c.loop-d.invariant (omega arith) c.requires.1 (test ∙ w.if-junction.true) (w.elements-is ∙ w.put_row.ensures)
      | else-junction w ↦ row_put-out c.loop-d.invariant (omega arith) (test ∙ w.if-junction.false) w.elements-is
    ]

pub returns : goal.returns
returns c = record { holds = row_put-all c.loop-d.invariant (omega arith) }
