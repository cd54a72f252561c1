-- `converter::convert` meets its contract: what the definition gives keeps the promise.
use mathlib.Core.Path.{sym, ap, ◌∙◌}
use Rattle.rulefile.specs.Format.{wanted_rows}
use Rattle.reader.specs.Read.{numbered}
use Rattle.reader.specs.PartLaws.{reads-refused, reads-accepted}
use Rattle.decoding.specs.Decoding.{draft_kinds}
use Rattle.converter.specs.Clauses.{refused_numbers}
use Rattle.converter.specs.ConvertCases.{numbers_as, given-is, refused-converts, converts-promise}
use Rattle.converter.proofs.convert.Goals as goal

pub convert_accepted-requires : goal.convert_accepted-requires
convert_accepted-requires c =
    reads-accepted draft_kinds (wanted_rows c.args.draft.now) c.args.draft.now _ (ap numbered (sym c.in-Ok.is) ∙ c.read.ensures)

pub returns-in-Err : goal.returns-in-Err
returns-in-Err c =
    let refused = reads-refused draft_kinds (wanted_rows c.args.draft.now) c.args.draft.now _ (ap numbered (sym c.in-Err.is) ∙ c.read.ensures) in
    converts-promise (numbers_as (refused-converts c.args.draft.now _ refused) (c.refused.ensures ∙ ap refused_numbers c.number.ensures))

pub returns-in-Ok-convert_accepted : goal.returns-in-Ok-convert_accepted
returns-in-Ok-convert_accepted c = converts-promise (given-is c.convert_accepted.ensures c.in-Ok-convert_accepted.is)

pub returns-in-Err-convert_accepted : goal.returns-in-Err-convert_accepted
returns-in-Err-convert_accepted c =
    converts-promise (numbers_as (given-is c.convert_accepted.ensures c.in-Err-convert_accepted.is) c.refused-in-Err-convert_accepted.ensures)
