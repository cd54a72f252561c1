-- The proof of the cycle of calls {put, judge, judge_linked, put_alternatives}: each alternative adds a row to its state's set.
--
-- In order: the goals of each function of the cycle, in the code's order; what falls from call to call is in Invariants.antt.
use Rattle.std.proofs.Common.{refl, ap, ◌∙◌, arith, ℕ}
use borrow.Author.Rules.{rules}
use Rattle.procedure.specs.SetTests.{lacking}
use Rattle.problem.specs.Decoded.{problem_of}
use Rattle.rowset.specs.SetOf.{set_of}
use Rattle.rowset.specs.ByteLaws.{zeros-empty}
use Rattle.graph.specs.Graphs.{work}
use Rattle.graph.specs.RefineLaws.{passed-on}
use Rattle.tableau.specs.JudgeCases.{judge-judges, judge-links, judge-lapses, judge-states, judge-branches, linked-fits, linked-sets}
use Rattle.tableau.specs.JudgeCases.{linked-takes, linked-small, small-judges}
use Rattle.tableau.specs.PutCases.{put-adds, put-joins, put-clashes, put-waits, put-weighs, put-completes, put-above}
use Rattle.tableau.specs.PutCases.{put-lapses, put-link-short, put-links, put-judge-asks, put-judge-falls, put-judge-short, put-edge-asks, put-judged}
use Rattle.tableau.specs.SmallCases.{turn-start, turn-walks, turn-sets, turn-next, turn-judges, turn_end}
use Rattle.tableau.specs.SmallCases.{turn-index, turn-less, turn-joined, turn-sets-inside, turn-asks, turn-falls, turn-short, turn-put}
use Rattle.tableau.proofs.+judge_judge_linked_put_put_alternatives.Goals as goal

-- ---- judge

pub judge-judge_linked-requires : goal.judge-judge_linked-requires
judge-judge_linked-requires t c = (omega arith, judge-links c.requires c.load_node-node.result (search) (search))

pub judge-judge_branch-requires : goal.judge-judge_branch-requires
judge-judge_branch-requires t c = search (judge-judges, rules)

pub judge-judge_state-requires : goal.judge-judge_state-requires
judge-judge_state-requires t c = search (judge-judges, rules)

pub judge-returns-then-node : goal.judge-returns-then-node
judge-returns-then-node t c = search (judge-states, rules)

pub judge-judge_branch-requires-in-None : goal.judge-judge_branch-requires-in-None
judge-judge_branch-requires-in-None t c = search (judge-judges, rules)

pub judge-returns-in-Lapsed : goal.judge-returns-in-Lapsed
judge-returns-in-Lapsed t c = search (judge-lapses, rules)

pub judge-returns-else-node : goal.judge-returns-else-node
judge-returns-else-node t c = search (judge-branches, rules)

-- ---- judge_linked

pub judge_linked-status_of-requires : goal.judge_linked-status_of-requires
judge_linked-status_of-requires t c = linked-fits c.requires

pub judge_linked-put_alternatives-requires : goal.judge_linked-put_alternatives-requires
judge_linked-put_alternatives-requires t c =
    (omega arith, linked-small c.requires c.status_of.result c.status_of.ensures c.in_default.ensures)

pub judge_linked-returns-in_default : goal.judge_linked-returns-in_default
judge_linked-returns-in_default t c =
    small-judges (linked-small c.requires c.status_of.result c.status_of.ensures c.in_default.ensures) c.put_alternatives.ensures

pub judge_linked-set_status-requires : goal.judge_linked-set_status-requires
judge_linked-set_status-requires t c = linked-sets c.requires

pub judge_linked-returns : goal.judge_linked-returns
judge_linked-returns t c =
    linked-takes c.requires c.status_of.result c.status_of.ensures c.in-Some.status c.in-Some.ensures c.set_status.ensures

-- ---- put

pub put-add_child-requires : goal.put-add_child-requires
put-add_child-requires t c = put-adds c.requires

pub put-returns-then-clash : goal.put-returns-then-clash
put-returns-then-clash t c = search (put-clashes, rules)

pub put-add_child-requires-then-unfinished : goal.put-add_child-requires-then-unfinished
put-add_child-requires-then-unfinished t c = put-adds c.requires

pub put-returns-then-unfinished : goal.put-returns-then-unfinished
put-returns-then-unfinished t c = search (put-waits, rules)

pub put-lacks-requires : goal.put-lacks-requires
put-lacks-requires t c = (c.requires.decoded, omega arith, rw c.node_set-above.ensures (put-above c.requires))

pub put-slice_bounds-lacking-end-then-lacks : goal.put-slice_bounds-lacking-end-then-lacks
put-slice_bounds-lacking-end-then-lacks t c = refl

pub put-lacking-requires : goal.put-lacking-requires
put-lacking-requires t c =
    (c.requires.decoded, omega arith, rw c.node_set-above.ensures (put-above c.requires), omega arith, zeros-empty)

pub put-add_lapsed-requires : goal.put-add_lapsed-requires
put-add_lapsed-requires t c = put-joins c.requires

pub put-returns-then-lacks : goal.put-returns-then-lacks
put-returns-then-lacks t c =
    let weighed = put-weighs c.requires c.clash.ensures c.if-clash.false c.unfinished.ensures c.if-unfinished.false
    c.inverse-back.ensures c.node_set-above.ensures c.lacks.ensures in
    put-lapses weighed c.if-lacks.true
    (c.lacking.ensures.1
    ∙ ap (λ (q : ℕ). lacking (problem_of c.args.problem.now) (set_of c.args.s.now 0) c.inverse-back.result (set_of c.args.nodes.now q))
    c.node_set-above.ensures)
    {w' = work c.add_lapsed.new.nodes c.add_lapsed.new.edges c.add_lapsed.new.alternatives} c.add_lapsed.ensures

pub put-judge-requires : goal.put-judge-requires
put-judge-requires t c =
    let complete = put-completes c.requires c.clash.ensures c.if-clash.false c.unfinished.ensures c.if-unfinished.false
    c.inverse-back.ensures c.node_set-above.ensures c.lacks.ensures c.if-lacks.false in
    let linked = put-links complete c.link_special.ensures c.in_ok-d.was in
    (omega (arith, put-judge-falls linked), put-judge-asks linked)

pub put-add_edge-requires : goal.put-add_edge-requires
put-add_edge-requires t c =
    let complete = put-completes c.requires c.clash.ensures c.if-clash.false c.unfinished.ensures c.if-unfinished.false
    c.inverse-back.ensures c.node_set-above.ensures c.lacks.ensures c.if-lacks.false in
    put-edge-asks (put-links complete c.link_special.ensures c.in_ok-d.was) c.judge.ensures c.in_ok-b.was

pub put-returns-in_err-d : goal.put-returns-in_err-d
put-returns-in_err-d t c =
    let complete = put-completes c.requires c.clash.ensures c.if-clash.false c.unfinished.ensures c.if-unfinished.false
    c.inverse-back.ensures c.node_set-above.ensures c.lacks.ensures c.if-lacks.false in
    rw (passed-on c.from_residual.ensures) (put-link-short complete c.link_special.ensures c.in_err-d.was)

pub put-returns-in_err-b : goal.put-returns-in_err-b
put-returns-in_err-b t c =
    let complete = put-completes c.requires c.clash.ensures c.if-clash.false c.unfinished.ensures c.if-unfinished.false
    c.inverse-back.ensures c.node_set-above.ensures c.lacks.ensures c.if-lacks.false in
    rw (passed-on c.from_residual-in_err-b.ensures)
    (put-judge-short (put-links complete c.link_special.ensures c.in_ok-d.was) c.judge.ensures c.in_err-b.was)

pub put-returns : goal.put-returns
put-returns t c =
    let complete = put-completes c.requires c.clash.ensures c.if-clash.false c.unfinished.ensures c.if-unfinished.false
    c.inverse-back.ensures c.node_set-above.ensures c.lacks.ensures c.if-lacks.false in
    put-judged (put-links complete c.link_special.ensures c.in_ok-d.was) c.judge.ensures c.in_ok-b.was c.add_edge.ensures

-- ---- put_alternatives

pub put_alternatives-loop-i-init : goal.put_alternatives-loop-i-init
put_alternatives-loop-i-init t c = turn-start c.requires

pub put_alternatives-next_alternative-requires : goal.put_alternatives-next_alternative-requires
put_alternatives-next_alternative-requires t c = turn-walks c.loop-i.invariant

pub put_alternatives-join_alternative-requires : goal.put_alternatives-join_alternative-requires
put_alternatives-join_alternative-requires t c =
    let chosen = turn-next c.loop-i.invariant c.next_alternative.ensures c.in-Some.is in
    let (a, n) = turn-sets-inside chosen in (n, omega (arith, turn-index chosen), a)

pub put_alternatives-put-requires : goal.put_alternatives-put-requires
put_alternatives-put-requires t c =
    let chosen = turn-next c.loop-i.invariant c.next_alternative.ensures c.in-Some.is in
    let joined = turn-joined chosen c.load_node-node.result c.load_node-node.ensures c.join_alternative.ensures in
    (omega (arith, turn-falls joined), turn-asks joined)

pub put_alternatives-returns-in_err-cur : goal.put_alternatives-returns-in_err-cur
put_alternatives-returns-in_err-cur t c =
    let chosen = turn-next c.loop-i.invariant c.next_alternative.ensures c.in-Some.is in
    let joined = turn-joined chosen c.load_node-node.result c.load_node-node.ensures c.join_alternative.ensures in
    rw (passed-on c.from_residual.ensures) (turn-short joined c.put.ensures c.in_err-cur.was)

pub put_alternatives-overflow_add-from : goal.put_alternatives-overflow_add-from
put_alternatives-overflow_add-from t c =
    omega (arith, turn-index (turn-next c.loop-i.invariant c.next_alternative.ensures c.in-Some.is))

pub put_alternatives-loop-i-smaller : goal.put_alternatives-loop-i-smaller
put_alternatives-loop-i-smaller t c = turn-less (turn-next c.loop-i.invariant c.next_alternative.ensures c.in-Some.is)

pub put_alternatives-loop-i-preserved : goal.put_alternatives-loop-i-preserved
put_alternatives-loop-i-preserved t c =
    let chosen = turn-next c.loop-i.invariant c.next_alternative.ensures c.in-Some.is in
    let joined = turn-joined chosen c.load_node-node.result c.load_node-node.ensures c.join_alternative.ensures in
    turn-put joined c.put.ensures c.in_ok-cur.was

pub put_alternatives-set_link-requires : goal.put_alternatives-set_link-requires
put_alternatives-set_link-requires t c = turn-sets c.loop-i.invariant

pub put_alternatives-judge_branch-requires : goal.put_alternatives-judge_branch-requires
put_alternatives-judge_branch-requires t c = turn-judges c.loop-i.invariant c.set_link.ensures

pub put_alternatives-returns : goal.put_alternatives-returns
put_alternatives-returns t c = turn_end c.loop-i.invariant c.set_link.ensures c.next_alternative.ensures c.in_default.is c.judge_branch.ensures
