-- `reader::read` meets its contract: it is `read_for` with the file's own wanted row.
use Rattle.std.proofs.Common.{ap, ◌∙◌}
use Rattle.reader.specs.Read.{read_of}
use Rattle.rulefile.specs.ReadingLaws.{reading-own}
use Rattle.reader.proofs.read.Goals as goal

pub returns : goal.returns
returns c = c.read_for.ensures ∙ ap read_of (reading-own c.args.kinds c.args.file.now c.wanted_of.ensures.0)
