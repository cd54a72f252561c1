-- `reader::text` meets its contract: it is `text_for` with the file's own wanted row.
use Rattle.std.proofs.Common.{◌∙◌}
use Rattle.rulefile.specs.ReadingLaws.{text-own}
use Rattle.reader.proofs.text.Goals as goal

pub returns : goal.returns
returns c = (c.text_for.ensures.0 ∙ text-own c.args.kinds c.args.file.now c.wanted_of.ensures.0, c.text_for.ensures.1)
