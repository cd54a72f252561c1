-- `words::put8` meets its contract: the bytes that std makes of the number are those of the definition.
-- Assumes nothing.
use Rattle.words.specs.WordLaws.{put_le-bytes}
use Rattle.words.proofs.put8.Goals as goal

pub returns : goal.returns
returns c = let written = put_le-bytes c.args.b.now c.args.at 8 c.args.v c.requires in cc
