-- `settests::successor` meets its contract: the rules, the argument and the arguments along the role, in another order.
use mathlib.Core.Path.{ap, ◌∙◌}
use Prim.Native.Nat.{ℕ}
use lib.ListN.{length}
use Rattle.concepts.specs.RowSet.{RowSet, union, insert, from_list}
use Rattle.concepts.specs.RowSetLaws.{empty-union, insert-union, union_comm}
use Rattle.procedure.specs.SetTests.{box}
use Rattle.procedure.specs.Tableau.{successor}
use Rattle.words.specs.Sizes.{set_words}
use Rattle.words.specs.WordLaws.{length-put_le}
use Rattle.rowset.specs.SetOf.{set_of}
use Rattle.problem.specs.Decoded.{problem_of, rules_of, mask_of}
use Rattle.settests.proofs.successor.Goals as goal

pub returns : goal.returns
unfolding successor
returns c =
    let a = c.args in
    let w = a.problem.now in
    let along = from_list (box (problem_of w) (set_of a.s.now a.at) a.role) in
    let rules = c.join_mask.ensures.1
    ∙ ap (λ (x : ℕ). union (set_of a.out.now a.to) (mask_of w x)) c.rules.ensures
    ∙ ap (λ (x : RowSet). union x (rules_of w)) c.requires.4 ∙ empty-union (rules_of w) in (
      c.join_box.ensures.0 ∙ ap length c.insert.ensures.0 ∙ (simp length-put_le) ∙ ap length c.join_mask.ensures.0
          ∙ (simp length-put_le),
      c.join_box.ensures.1
          ∙ ap (λ (x : RowSet). union x along) (c.insert.ensures.1 set_words c.requires.2 ∙ ap (insert a.argument) rules)
          ∙ insert-union a.argument (rules_of w) along ∙ union_comm (rules_of w) (insert a.argument along),
    )
