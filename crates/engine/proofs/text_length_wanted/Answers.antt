-- `engine::text_length_wanted` meets its contract: the text is a leading part of the file.
use mathlib.Core.Path.{ap}
use lib.ListN.{length}
use Rattle.decoding.specs.Decoding.{rule_kinds}
use Rattle.rulefile.specs.ReadingLaws.{take-text_for}
use Rattle.engine.proofs.text_length_wanted.Goals as goal

pub returns : goal.returns
returns c =
    let text = c.text_for.ensures.0 in
    (ap length text, rw text (take-text_for rule_kinds c.args.wanted.now c.args.file.now))
