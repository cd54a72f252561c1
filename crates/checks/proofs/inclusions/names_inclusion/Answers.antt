-- `checks::inclusions::names_inclusion` meets its contract: the rows that are named are tested one by one.
use Rattle.std.proofs.Common.{sym, ap, ◌∙◌, Some}
use Rattle.std.proofs.Math.Path.{ap₂}
use Rattle.std.proofs.Math.Bool.{◌||◌}
use Rattle.concepts.specs.Tests.{or_nothing}
use Rattle.concepts.specs.Lists.{any}
use Rattle.decoding.specs.Named.{named_by}
use Rattle.checks.specs.FindingLaws.{named-inclusion}
use Rattle.checks.proofs.inclusions.names_inclusion.Goals as goal

pub returns-in_default : goal.returns-in_default
unfolding any
returns-in_default c = sym (named-inclusion c.args.file.now c.args.kinds c.args.k (sym c.row_at.ensures ∙ ap named_by c.in_default.is))

pub returns-in-Nullary : goal.returns-in-Nullary
unfolding any
returns-in-Nullary c =
    sym (named-inclusion c.args.file.now c.args.kinds c.args.k (sym c.row_at.ensures ∙ ap named_by (c.in-Some.is ∙ ap Some c.in-Nullary.is)))

pub returns-in-Unary : goal.returns-in-Unary
unfolding any
returns-in-Unary c =
    c.is_inclusion.ensures ∙ sym (or_nothing _)
    ∙ sym (named-inclusion c.args.file.now c.args.kinds c.args.k (sym c.row_at.ensures ∙ ap named_by (c.in-Some.is ∙ ap Some c.in-Unary.is)))

pub returns-in-Binary : goal.returns-in-Binary
unfolding any
returns-in-Binary c =
    ap₂ ◌||◌ c.is_inclusion-in-Binary.ensures (c.is_inclusion-in-Binary-2.ensures ∙ sym (or_nothing _))
    ∙ sym (named-inclusion c.args.file.now c.args.kinds c.args.k (sym c.row_at.ensures ∙ ap named_by (c.in-Some.is ∙ ap Some c.in-Binary.is)))
