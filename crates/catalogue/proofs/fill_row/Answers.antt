use native.Mathlib.Omega.{arith}
use Rattle.catalogue.specs.FillCases.{row-none, row-size, row-asks, row_more, row-all}
use Rattle.catalogue.proofs.fill_row.Goals as goal

pub loop-j-init : goal.loop-j-init
loop-j-init c = row-none c.requires _

pub entry-requires : goal.entry-requires
entry-requires c = row-asks c.requires _ _ c.loop-j.invariant (omega arith)

pub bounds-row-j : goal.bounds-row-j
bounds-row-j c = omega (arith, row-size c.requires _ _ c.loop-j.invariant, c.requires.room)

pub loop-j-preserved : goal.loop-j-preserved
loop-j-preserved c =
    row_more c.requires _ _ c.loop-j.invariant (omega arith) c.entry.ensures c.entry.auto.problem
    (record { nodes = c.entry.auto.nodes; edges = c.entry.auto.edges; alternatives = c.entry.auto.alternatives })

pub shape_of-problem : goal.shape_of-problem
shape_of-problem c = c.loop-j.invariant.words

pub shape_of-nodes : goal.shape_of-nodes
shape_of-nodes c = c.loop-j.invariant.sized.nodes

pub shape_of-edges : goal.shape_of-edges
shape_of-edges c = c.loop-j.invariant.sized.edges

pub shape_of-alternatives : goal.shape_of-alternatives
shape_of-alternatives c = c.loop-j.invariant.sized.alternatives

pub shape_of-row : goal.shape_of-row
shape_of-row c = row-size c.requires _ _ c.loop-j.invariant

pub returns : goal.returns
returns c = row-all c.requires _ _ c.loop-j.invariant (omega arith)
