-- The children of a node, by its lowest unfinished conjunction.
use Rattle.std.proofs.Common.{ap, ◌∙◌, arith}
use Rattle.concepts.specs.RowSet.{insert}
use Rattle.words.specs.Sizes.{set_words}
use Rattle.expansion.specs.PutCases.{expand-fits, expand-inside, own-set}
use Rattle.expansion.specs.ChildCases.{both_found, both-none, both_left, both_right, both-asks, both-gives, conj-gives}
use Rattle.expansion.proofs.expand_conj.Goals as goal

pub load_node-node-requires : goal.load_node-node-requires
load_node-node-requires c = expand-fits c.requires

pub lowest_conj-requires : goal.lowest_conj-requires
lowest_conj-requires c = (c.requires.decoded, rw c.node_set-set.ensures (expand-inside c.requires))

pub expand_disj-requires : goal.expand_disj-requires
expand_disj-requires c =
    both-none c.requires c.load_node-node.result c.load_node-node.ensures c.node_set-set.ensures c.lowest_conj.ensures c.in_default.is

pub returns-in_default : goal.returns-in_default
returns-in_default c =
    conj-gives (both-none c.requires c.load_node-node.result c.load_node-node.ensures c.node_set-set.ensures c.lowest_conj.ensures c.in_default.is)
    c.expand_disj.ensures

pub with_row-requires : goal.with_row-requires
with_row-requires c =
    let both = both_found c.requires c.load_node-node.result c.load_node-node.ensures c.node_set-set.ensures c.lowest_conj.ensures c.in-Some.is in
    (rw c.node_set-set.ensures (expand-inside c.requires), both_right both)

pub insert-requires : goal.insert-requires
insert-requires c =
    let both = both_found c.requires c.load_node-node.result c.load_node-node.ensures c.node_set-set.ensures c.lowest_conj.ensures c.in-Some.is in
    omega (arith, both_left both)

pub put-requires : goal.put-requires
put-requires c =
    let both = both_found c.requires c.load_node-node.result c.load_node-node.ensures c.node_set-set.ensures c.lowest_conj.ensures c.in-Some.is in
    both-asks both (own-set _ _ c.node_set-set.ensures (λ s. insert c.in-Some.left (insert c.in-Some.right s))
    (c.insert.ensures.1 set_words (both_left both) ∙ ap (insert c.in-Some.left) c.with_row.ensures))

pub returns : goal.returns
returns c =
    let both = both_found c.requires c.load_node-node.result c.load_node-node.ensures c.node_set-set.ensures c.lowest_conj.ensures c.in-Some.is in
    both-gives both (own-set _ _ c.node_set-set.ensures (λ s. insert c.in-Some.left (insert c.in-Some.right s))
    (c.insert.ensures.1 set_words (both_left both) ∙ ap (insert c.in-Some.left) c.with_row.ensures)) c.put.ensures
