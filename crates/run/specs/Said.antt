-- What a run says to whoever asks for no example (02, [7]): it was short, "cannot", or "can".
--
-- In order: what can be said; what the root says; what a run says, by its result; what an answer says.
-- Of an accepted file both say the same: proofs/Said.
use Rattle.std.specs.Prelude.{Bool, true, false, cond}
use Rattle.procedure.specs.Status.{Status, unset, «open», sat, unsat, toosmall}
use Rattle.procedure.specs.Graph.{Result, reached, no_place, out_of_fuel, node_at}
use Rattle.run.specs.Run.{Answer, refused_file, short, cannot, can, too_long, undefined}

pub data Said : Type 0 where
  says_short : Said  -- a record found no place in its area
  says_cannot : Said
  says_can : Said
  says_nothing : Said  -- never happens: fuel never runs out, and who has a run has an accepted file

-- "Root yes or open means "can"; never or small means "cannot""
abbrev pub good_root : Status → Bool
good_root sat = true
good_root «open» = true
good_root unset = false
good_root unsat = false
good_root toosmall = false

unfoldable pub said : Result → Said
said (reached g) = cond (good_root (node_at g 0).status) says_can says_cannot
said (no_place a g) = says_short
said out_of_fuel = says_nothing

-- "can", whether its example fits or not: who asks for no example lends no area for it
unfoldable pub said_by : Answer → Said
said_by (short a n) = says_short
said_by (cannot u) = says_cannot
said_by (can u x) = says_can
said_by (too_long x) = says_can
said_by (refused_file n) = says_nothing
said_by undefined = says_nothing
