-- `engine::fit_accepted` meets its contract: the file is decoded and decided, and the work areas are cleared.
use mathlib.Core.Path.{refl}
use Rattle.decoder.specs.WritingLaws.{fresh-zeros}
use Rattle.run.specs.Run.{areas_of}
use Rattle.engine.specs.AnswerCases.{Settled, file-settled, file-answered}
use Rattle.engine.proofs.fit_accepted.Goals as goal

pub decode_file-requires : goal.decode_file-requires
decode_file-requires c = (c.requires, fresh-zeros _ refl)

pub decide-d-requires : goal.decide-d-requires
decide-d-requires c = c.decode_file.ensures.decoded

pub answer_of-requires : goal.answer_of-requires
answer_of-requires c = c.decide-d.ensures.small

pub returns : goal.returns
returns c =
    let settled : Settled c.requires c.decode_file.ensures (areas_of c.args.nodes.now c.args.edges.now c.args.alternatives.now c.args.elements.now
    c.args.links.now) c.decide-d.result c.decide-d.new.elements c.decide-d.new.links = file-settled _ _ _ c.decide-d.ensures in
    file-answered settled c.answer_of.ensures c.clear.ensures c.decide-d.auto.nodes c.clear-2.ensures c.decide-d.auto.edges
    c.clear-3.ensures c.decide-d.auto.alternatives
