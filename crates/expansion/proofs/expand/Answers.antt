-- The whole expansion: children, judgement, and the updates unless the node is merely open.
use Rattle.graph.specs.RefineLaws.{passed-on}
use Rattle.updates.specs.UpdateCases.{loaded}
use Rattle.expansion.specs.ExpandCases.{children-short, children-done, judge-asks, judge-short}
use Rattle.expansion.specs.ExpandCases.{judge-done, judged-fits, judged-open, parents-asks, parents-gives}
use Rattle.expansion.proofs.expand.Goals as goal

pub judge-requires : goal.judge-requires
judge-requires c = judge-asks (children-done c.requires c.expand_conj.ensures c.in_ok-d.was)

pub returns-in_err-d : goal.returns-in_err-d
returns-in_err-d c = rw (passed-on c.from_residual.ensures) (children-short c.requires c.expand_conj.ensures c.in_err-d.was)

pub returns-in_err-b : goal.returns-in_err-b
returns-in_err-b c =
    rw (passed-on c.from_residual-in_err-b.ensures)
    (judge-short (children-done c.requires c.expand_conj.ensures c.in_ok-d.was) c.judge.ensures c.in_err-b.was)

pub status_of-requires : goal.status_of-requires
status_of-requires c = judged-fits (judge-done (children-done c.requires c.expand_conj.ensures c.in_ok-d.was) c.judge.ensures c.in_ok-b.was)

pub returns-then-is_open : goal.returns-then-is_open
returns-then-is_open c =
    let judged = judge-done (children-done c.requires c.expand_conj.ensures c.in_ok-d.was) c.judge.ensures c.in_ok-b.was in
    judged-open judged (loaded c.status_of.result c.status_of.ensures c.is_open.ensures c.if-is_open.true)

pub update_parents-requires : goal.update_parents-requires
update_parents-requires c = parents-asks (judge-done (children-done c.requires c.expand_conj.ensures c.in_ok-d.was) c.judge.ensures c.in_ok-b.was)

pub returns : goal.returns
returns c =
    parents-gives (judge-done (children-done c.requires c.expand_conj.ensures c.in_ok-d.was) c.judge.ensures c.in_ok-b.was)
    c.update_parents.ensures
