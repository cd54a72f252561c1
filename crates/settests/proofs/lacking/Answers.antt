-- `settests::lacking` meets its contract: what is left of `box` without the set above.
use mathlib.Core.Path.{ap, ◌∙◌}
use lib.ListN.{length}
use Rattle.concepts.specs.RowSet.{RowSet, union, minus, from_list}
use Rattle.concepts.specs.RowSetLaws.{empty-union}
use Rattle.procedure.specs.SetTests.{box}
use Rattle.words.specs.WordLaws.{length-put_le}
use Rattle.rowset.specs.SetOf.{set_of}
use Rattle.problem.specs.Decoded.{problem_of}
use Rattle.settests.specs.AnswerLaws.{minus-lacking}
use Rattle.settests.proofs.lacking.Goals as goal

pub returns : goal.returns
returns c =
    let a = c.args in
    let P = problem_of a.problem.now in
    let set = set_of a.s.now a.at in
    let above = set_of a.above.now a.there in
    let along = from_list (box P set a.role) in
    let all = c.join_box.ensures.1 ∙ ap (λ (x : RowSet). union x along) c.requires.4 ∙ empty-union along in (
      ap length c.cut.ensures.0 ∙ (simp length-put_le) ∙ c.join_box.ensures.0,
      c.cut.ensures.1 ∙ ap (λ (x : RowSet). minus x above) all ∙ minus-lacking P set a.role above,
    )
