-- `catalogue::classify` meets its contract: the promise, for every file.
use mathlib.Core.Path.{sym, ap, ◌∙◌}
use Rattle.decoding.specs.Decoding.{rule_kinds}
use Rattle.rulefile.specs.Format.{wanted_rows}
use Rattle.reader.specs.Read.{numbered}
use Rattle.reader.specs.PartLaws.{reads-refused, reads-accepted}
use Rattle.subsumption.specs.Catalogue.{areas_of, refusal_alone}
use Rattle.catalogue.specs.PageCases.{promised, refused-answered}
use Rattle.catalogue.proofs.classify.Goals as goal

pub classify_accepted-requires : goal.classify_accepted-requires
classify_accepted-requires c = reads-accepted rule_kinds (wanted_rows c.args.file.now) c.args.file.now c.in-Ok.layout
    (ap numbered (sym c.in-Ok.is) ∙ c.read.ensures)

pub returns-in-Err : goal.returns-in-Err
returns-in-Err c =
    refused-answered c.args.file.now (areas_of c.args.nodes.now c.args.edges.now c.args.alternatives.now c.args.table.now)
    _ (reads-refused rule_kinds (wanted_rows c.args.file.now) c.args.file.now _
    (ap numbered (sym c.in-Err.is) ∙ c.read.ensures)) _ (c.refused.ensures ∙ ap refusal_alone c.number.ensures)

pub returns-in-Ok : goal.returns-in-Ok
returns-in-Ok c =
    promised c.args.file.now (areas_of c.args.nodes.now c.args.edges.now c.args.alternatives.now c.args.table.now) _ _
    c.classify_accepted.ensures
