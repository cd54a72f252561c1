-- `checks::inclusions::inclusion_serves` meets its contract: without a row of kind 7 none serves; else the three tests are those of the definition.
use Rattle.std.proofs.Common.{sym, ◌∙◌}
use Rattle.rulefile.specs.Format.{inclusion_serves}
use Rattle.rulefile.specs.ReadingLaws.{none-serves}
use Rattle.checks.proofs.inclusions.inclusion_serves.Goals as goal

pub returns-then-some_inclusion : goal.returns-then-some_inclusion
unfolding inclusion_serves
returns-then-some_inclusion c = cc

pub returns-else-some_inclusion : goal.returns-else-some_inclusion
returns-else-some_inclusion c =
    let a = c.args in
    c.if-some_inclusion.false ∙ sym (none-serves a.file.now a.kinds a.wanted.now (sym c.some_inclusion.ensures ∙ c.if-some_inclusion.false))
