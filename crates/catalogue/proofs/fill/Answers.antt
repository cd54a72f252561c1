use native.Mathlib.Omega.{arith}
use Rattle.catalogue.specs.FillCases.{fill_none, table-size, row-start, row-start-small, fill-asks, fill_more, fill-all}
use Rattle.catalogue.proofs.fill.Goals as goal

pub loop-i-init : goal.loop-i-init
loop-i-init c = fill_none c.requires _

pub overflow_mul-at : goal.overflow_mul-at
overflow_mul-at c = omega (arith, row-start-small c.requires _ _ c.loop-i.invariant)

pub slice_bounds-fill_row-count : goal.slice_bounds-fill_row-count
slice_bounds-fill_row-count c = row-start c.requires _ _ c.loop-i.invariant

pub slice_bounds-fill_row-start : goal.slice_bounds-fill_row-start
slice_bounds-fill_row-start c = row-start c.requires _ _ c.loop-i.invariant

pub fill_row-requires : goal.fill_row-requires
fill_row-requires c = fill-asks c.requires _ _ c.loop-i.invariant (omega arith)

pub loop-i-preserved : goal.loop-i-preserved
loop-i-preserved c =
    fill_more c.requires _ _ c.loop-i.invariant (omega arith) c.fill_row.ensures c.fill_row.auto.problem
    (record { nodes = c.fill_row.auto.nodes; edges = c.fill_row.auto.edges; alternatives = c.fill_row.auto.alternatives })

pub shape_of-problem : goal.shape_of-problem
shape_of-problem c = c.loop-i.invariant.words

pub shape_of-nodes : goal.shape_of-nodes
shape_of-nodes c = c.loop-i.invariant.sized.nodes

pub shape_of-edges : goal.shape_of-edges
shape_of-edges c = c.loop-i.invariant.sized.edges

pub shape_of-alternatives : goal.shape_of-alternatives
shape_of-alternatives c = c.loop-i.invariant.sized.alternatives

pub shape_of-table : goal.shape_of-table
shape_of-table c = table-size c.requires _ _ c.loop-i.invariant

pub returns : goal.returns
returns c = fill-all c.requires _ _ c.loop-i.invariant (omega arith)
