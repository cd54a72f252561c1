-- `engine::fit_wanted` meets its contract: the promise, for every file and all wanted rows.
use mathlib.Core.Path.{sym, ap, ◌∙◌}
use Rattle.run.specs.Run.{areas_of, refused_with}
use Rattle.decoding.specs.Decoding.{rule_kinds}
use Rattle.reader.specs.Read.{numbered}
use Rattle.reader.specs.PartLaws.{reads-refused, reads-accepted}
use Rattle.engine.specs.AnswerCases.{promised, refused-answered}
use Rattle.engine.proofs.fit_wanted.Goals as goal

pub fit_accepted-requires : goal.fit_accepted-requires
fit_accepted-requires c = reads-accepted rule_kinds c.args.wanted.now c.args.file.now c.in-Ok.layout (ap numbered (sym c.in-Ok.is) ∙ c.read_for.ensures)

pub returns-in-Err : goal.returns-in-Err
returns-in-Err c =
    refused-answered c.args.wanted.now c.args.file.now
    (areas_of c.args.nodes.now c.args.edges.now c.args.alternatives.now c.args.elements.now c.args.links.now)
    _ (reads-refused rule_kinds c.args.wanted.now c.args.file.now _
    (ap numbered (sym c.in-Err.is) ∙ c.read_for.ensures)) _ (c.refused.ensures ∙ ap refused_with c.number.ensures)

pub returns-in-Ok : goal.returns-in-Ok
returns-in-Ok c =
    promised c.args.wanted.now c.args.file.now
    (areas_of c.args.nodes.now c.args.edges.now c.args.alternatives.now c.args.elements.now c.args.links.now) _ _
    c.fit_accepted.ensures
