-- `evaluation::evaluate_row` meets its contract: by the kind of the row.
use mathlib.Core.Path.{sym, ◌∙◌}
use Prim.Native.Nat.{◌<◌}
use native.Mathlib.Omega.{arith}
use borrow.Author.Tests.{not-true, not-false}
use Rattle.problem.specs.DecodedLaws.{role-lt}
use Rattle.evaluation.specs.RowCases.{row-local, row-argument, counting-ways, counting-alone, row-along, row_other}
use Rattle.evaluation.proofs.evaluate_row.Goals as goal

pub kind_at-kind-requires : goal.kind_at-kind-requires
kind_at-kind-requires c = (c.requires.0.decoded, c.requires.1)

pub left_at-left-requires : goal.left_at-left-requires
left_at-left-requires c = (c.requires.0.decoded, c.requires.1)

pub right_at-right-requires : goal.right_at-right-requires
right_at-right-requires c = (c.requires.0.decoded, c.requires.1)

pub local-requires : goal.local-requires
local-requires c = (c.requires.0.room, omega (arith, c.requires.0.decoded.rows.few), c.left_at-left.ensures.1, c.right_at-right.ensures.1)

pub returns-then-kind : goal.returns-then-kind
returns-then-kind c = row-local c.requires.0.decoded c.requires.1 c.kind_at-kind.ensures c.left_at-left.ensures.0 c.if-kind.true c.right_at-right.ensures.0
    c.local.ensures

pub role_at-role-requires : goal.role_at-role-requires
role_at-role-requires c = (c.requires.0.decoded, c.requires.1)

pub has_inclusion-requires : goal.has_inclusion-requires
has_inclusion-requires c = c.requires.0.decoded

pub ways_of-ways-requires : goal.ways_of-ways-requires
ways_of-ways-requires c =
    let role-inside : c.role_at-role.result < 32 = omega (arith, c.role_at-role.ensures, role-lt c.requires.0.decoded.rows c.args.k c.requires.1) in
    (c.requires.0.decoded, not-true _ (sym c.has_inclusion.ensures ∙ c.if-has_inclusion.true), role-inside)

pub along-requires : goal.along-requires
along-requires c = record {
  room = c.requires.0.room;
  linked = c.requires.0.linked;
  row = omega (arith, c.requires.0.decoded.rows.few);
  argument = row-argument c.requires.0.decoded c.requires.1 c.kind_at-kind.ensures c.left_at-left.ensures.0 c.if-kind-2.true;
}

pub along-requires-else-has_inclusion : goal.along-requires-else-has_inclusion
along-requires-else-has_inclusion c = record {
  room = c.requires.0.room;
  linked = c.requires.0.linked;
  row = omega (arith, c.requires.0.decoded.rows.few);
  argument = row-argument c.requires.0.decoded c.requires.1 c.kind_at-kind.ensures c.left_at-left.ensures.0 c.if-kind-2.true;
}

pub returns-then-has_inclusion : goal.returns-then-has_inclusion
returns-then-has_inclusion c =
    let role-inside : c.role_at-role.result < 32 = omega (arith, c.role_at-role.ensures, role-lt c.requires.0.decoded.rows c.args.k c.requires.1) in
    row-along c.requires.0.decoded c.requires.1 c.kind_at-kind.ensures c.left_at-left.ensures.0 c.if-kind-2.true c.role_at-role.ensures
    (counting-ways c.requires.0.decoded c.requires.1 role-inside c.ways_of-ways.ensures) c.along.ensures

pub returns-else-has_inclusion : goal.returns-else-has_inclusion
returns-else-has_inclusion c =
    row-along c.requires.0.decoded c.requires.1 c.kind_at-kind.ensures c.left_at-left.ensures.0 c.if-kind-2.true c.role_at-role.ensures
    (counting-alone c.requires.0.decoded c.requires.1 (not-false _ (sym c.has_inclusion.ensures ∙ c.if-has_inclusion.false))
    (c.inverse.ensures.role (omega (arith, c.role_at-role.ensures, role-lt c.requires.0.decoded.rows c.args.k c.requires.1)))) c.along-else-has_inclusion.ensures

pub returns-else-kind-2 : goal.returns-else-kind-2
returns-else-kind-2 c = row_other c.requires.0.decoded c.requires.1 c.kind_at-kind.ensures c.left_at-left.ensures.0 c.if-kind.false c.if-kind-2.false
