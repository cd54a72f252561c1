-- `settests::next_exist` meets its contract: the next existential row of the set, which the words in use have, is the first from there on.
use Rattle.std.proofs.Common.{Some, None, arith}
use Rattle.rowset.specs.SetOf.{set_of}
use Rattle.settests.specs.Answers.{NextExist}
use Rattle.settests.specs.Masks.{common-row}
use Rattle.settests.specs.ExistLaws.{next-found, next-none, next-in-use}
use Rattle.settests.proofs.next_exist.Goals as goal

pub returns-in_err-row : goal.returns-in_err-row
unfolding NextExist
returns-in_err-row c =
    let a = c.args in
    let mask = c.of_kind-mask.ensures in
    let next = next-in-use mask c.requires.0 (λ i. omega (arith, c.type_inv.problem i)) a.s.now (λ i. omega (arith, c.type_inv.s i)) a.at a.from
    c.words_used-n.ensures None c.in_err-row.ensures in
    rw c.from_residual.ensures (next-none (set_of a.s.now a.at) a.from mask.picked next)

pub role_at-requires : goal.role_at-requires
role_at-requires c =
    let a = c.args in
    let mask = c.of_kind-mask.ensures in
    let next = next-in-use mask c.requires.0 (λ i. omega (arith, c.type_inv.problem i)) a.s.now (λ i. omega (arith, c.type_inv.s i)) a.at a.from
    c.words_used-n.ensures (Some _) c.in_ok-row.ensures in
    (c.requires.0, (common-row mask (set_of a.s.now a.at) c.in_ok-row.row next.0).0)

pub left_at-requires : goal.left_at-requires
left_at-requires c =
    let a = c.args in
    let mask = c.of_kind-mask.ensures in
    let next = next-in-use mask c.requires.0 (λ i. omega (arith, c.type_inv.problem i)) a.s.now (λ i. omega (arith, c.type_inv.s i)) a.at a.from
    c.words_used-n.ensures (Some _) c.in_ok-row.ensures in
    (c.requires.0, (common-row mask (set_of a.s.now a.at) c.in_ok-row.row next.0).0)

pub returns : goal.returns
unfolding NextExist
returns c =
    let a = c.args in
    let mask = c.of_kind-mask.ensures in
    let next = next-in-use mask c.requires.0 (λ i. omega (arith, c.type_inv.problem i)) a.s.now (λ i. omega (arith, c.type_inv.s i)) a.at a.from
    c.words_used-n.ensures (Some _) c.in_ok-row.ensures in
    next-found (set_of a.s.now a.at) a.from mask.picked _ next c.role_at.ensures c.left_at.ensures.0
