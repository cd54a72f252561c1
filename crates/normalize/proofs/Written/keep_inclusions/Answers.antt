use mathlib.Core.Path.{refl, sym, ◌∙◌}
use Rattle.normalize.specs.ShapeLaws.{draft-parted}
use Rattle.normalize.specs.KeepCases.{kept-none, kept-without, kept-all}
use Rattle.normalize.proofs.Written.keep_inclusions.Goals as goal

pub some_inclusion-requires : goal.some_inclusion-requires
some_inclusion-requires c = draft-parted c.requires.draft

pub loop-k-init : goal.loop-k-init
loop-k-init c = (kept-none c.requires, refl)

pub returns-after-loop-k : goal.returns-after-loop-k
returns-after-loop-k c = kept-all c.loop-k.invariant.0 c.requires.rows c.loop-k-test.false c.loop-k.invariant.1

pub returns-else-some_inclusion : goal.returns-else-some_inclusion
returns-else-some_inclusion c = kept-without c.requires (sym c.some_inclusion.ensures ∙ c.if-some_inclusion.false)
