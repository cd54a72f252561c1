-- `expansion::join_kit` meets its contract: the wanted rows join the empty set, and then the rules.
use mathlib.Core.Path.{ap, ap₂, ◌∙◌}
use native.Mathlib.Omega.{arith}
use borrow.Author.Rules.{rules}
use Rattle.concepts.specs.RowSet.{union}
use Rattle.concepts.specs.RowSetLaws.{empty-union}
use Rattle.problem.specs.Decoded.{mask_of}
use Rattle.expansion.proofs.join_kit.Goals as goal

pub join_mask-requires : goal.join_mask-requires
join_mask-requires c = (search rules, omega (arith, c.wanted.ensures, c.requires.0.rows.enough))

pub join_mask-requires-2 : goal.join_mask-requires-2
join_mask-requires-2 c = (search rules, omega (arith, c.rules.ensures, c.requires.0.rows.enough))

pub returns : goal.returns
returns c =
    let w = c.args.problem.now in
    let begun = c.join_mask.ensures.1 ∙ ap₂ union c.requires.1 (ap (mask_of w) c.wanted.ensures) ∙ empty-union _ in
    c.join_mask-2.ensures.1 ∙ ap₂ union begun (ap (mask_of w) c.rules.ensures)
