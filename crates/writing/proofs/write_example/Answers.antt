-- `writing::write_example` meets its contract: the names and the links are written, and the world that they give is evaluated.
use Rattle.writing.specs.WritingLaws.{evaluation-asks, all-written}
use Rattle.writing.proofs.write_example.Goals as goal

pub write_names-requires : goal.write_names-requires
write_names-requires c = (c.requires.decoded, c.requires.elements_ask)

pub write_links-requires : goal.write_links-requires
write_links-requires c = c.requires.links_ask

pub evaluate-requires : goal.evaluate-requires
evaluate-requires c = evaluation-asks c.requires c.write_names.ensures c.write_links.ensures c.write_links.auto.links

pub returns : goal.returns
returns c = all-written c.requires c.write_names.ensures c.write_links.ensures c.evaluate.ensures
