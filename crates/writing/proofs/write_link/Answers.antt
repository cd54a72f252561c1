-- `writing::write_link` meets its contract: the numbers that it writes are the fields of the link.
use Rattle.writing.specs.WritingLaws.{link-put}
use Rattle.writing.proofs.write_link.Goals as goal

pub returns : goal.returns
returns c = link-put _ _ c.load_role_link-l.ensures c.put2.ensures c.put2-2.ensures c.put2-3.ensures
