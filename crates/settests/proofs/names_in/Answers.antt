use Rattle.std.proofs.Common.{◌≡◌, ℕ, ◌*◌, ◌%◌, ◌^◌, ◌<◌, bit_or, ap, ◌∙◌, arith}
use Rattle.std.proofs.Math.Nat.{one-mul}
use borrow.Author.Tests.{eqb-true}
use Rattle.std.proofs.Math.Pow.{shl_exact}
use Rattle.concepts.specs.RowSet.{single, union}
use Rattle.concepts.specs.RowSetLaws.{empty-union}
use Rattle.rowset.specs.SetOf.{set_of}
use Rattle.problem.specs.Decoded.{table_of, of_kind}
use Rattle.problem.specs.DecodedLaws.{name-lt}
use Rattle.settests.specs.MaskLoops.{loop-begins, loop-passes, loop-ends, next_row, loop-after}
use Rattle.settests.specs.AnswerLaws.{gather-more, gather_none, names-masked}
use Rattle.settests.proofs.names_in.Goals as goal

pub loop-j-init : goal.loop-j-init
loop-j-init c =
    let mask = c.of_kind-mask.ensures in
    loop-begins record {
      decoded = c.requires.0;
      masking = mask;
      words = λ i. omega (arith, c.type_inv.problem i);
      bytes = λ i. omega (arith, c.type_inv.s i);
      room = c.requires.2;
    } (empty-union _ ∙ names-masked (set_of c.args.s.now c.args.at) c.args.kind mask.picked)

pub left_at-left-requires : goal.left_at-left-requires
left_at-left-requires c =
    let next = next_row c.loop-i.invariant.2 (omega arith) c.in-Some.ensures.steps in
    (c.requires.0, next.below)

pub overflow_shl-names : goal.overflow_shl-names
unfolding of_kind
overflow_shl-names c =
    let next = next_row c.loop-i.invariant.2 (omega arith) c.in-Some.ensures.steps in
    omega (arith, c.left_at-left.ensures.0, name-lt c.requires.0.rows _ next.below (omega (arith, eqb-true _ c.args.kind next.passes, c.requires.1)))

pub loop-i-preserved : goal.loop-i-preserved
unfolding single union of_kind
loop-i-preserved c =
    let inv = c.loop-i.invariant.2 in
    let next = next_row inv (omega arith) c.in-Some.ensures.steps in
    let name = c.left_at-left.result in
    let low : name < 64 =
    omega (arith, c.left_at-left.ensures.0, name-lt c.requires.0.rows _ next.below (omega (arith, eqb-true _ c.args.kind next.passes, c.requires.1))) in
    let bit : (1 * 2 ^ name) % 2 ^ 64 ≡ 2 ^ name = shl_exact 1 name 64 (omega arith) (omega arith) ∙ one-mul (2 ^ name) in
    let names = c.loop-i.names in (
      tt,
      tt,
      loop-after inv next (gather-more (table_of c.args.problem.now) next.low next.inside c.left_at-left.ensures.0 names (ap (λ (x : ℕ). bit_or x names) bit)
          ∙ inv.midway.holds),
    )

pub loop-j-preserved : goal.loop-j-preserved
loop-j-preserved c = loop-passes c.loop-i.invariant.2 c.in-None.ensures.steps.0

pub returns : goal.returns
returns c = gather_none (table_of c.args.problem.now) c.loop-j.names ∙ loop-ends c.loop-j.invariant (omega arith)
