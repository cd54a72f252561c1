use native.Mathlib.Omega.{arith}
use Rattle.writing.specs.WritingLaws.{element-fits, element-inside, element-set, naming-none, naming-more, naming-all}
use Rattle.writing.proofs.write_names.Goals as goal

pub loop-d-init : goal.loop-d-init
loop-d-init c = naming-none

pub load_state-requires : goal.load_state-requires
load_state-requires c = element-fits c.requires.1 (omega arith)

pub names-named-requires : goal.names-named-requires
names-named-requires c = (c.requires.0, element-inside c.requires.1 (omega arith) c.load_state.ensures c.node_set.ensures)

pub loop-d-preserved : goal.loop-d-preserved
loop-d-preserved c =
    naming-more c.loop-d.invariant c.requires.0 c.requires.1.room (omega arith) (element-set _ _ c.load_state.ensures c.node_set.ensures)
    c.names-named.ensures c.put_low.ensures

pub returns : goal.returns
returns c = naming-all c.loop-d.invariant (omega arith)
