-- `catalogue::names::list_name` meets its contract: one of its rows is missing, or it is listed.
use Rattle.std.proofs.Common.{sym, ◌∙◌}
use Rattle.catalogue.specs.NameCases.{name-passed, name-listed}
use Rattle.catalogue.proofs.names.list_name.Goals as goal

pub returns-in-Some : goal.returns-in-Some
returns-in-Some c = λ t A. name-listed A (sym c.in-Some.ensures) c.with_bit-list.ensures c.push.ensures c.push-in-Some.ensures

pub returns-in_default : goal.returns-in_default
returns-in_default c = λ t A. name-passed A (sym c.zip.ensures ∙ c.in_default.is)
