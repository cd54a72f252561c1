use Rattle.std.proofs.Common.{◌≡◌, ℕ, ◌*◌, ◌-◌, ◌^◌, ◌<◌, ◌%◌, bit_or, refl, ap, ◌∙◌, arith}
use Rattle.std.proofs.Math.Decide.{ℕ_discrete}
use Rattle.std.proofs.Math.Nat.{one-mul}
use Rattle.std.proofs.Math.Pow.{shl_exact}
use Rattle.std.proofs.lemmas.Nat.{and_le_l}
use Rattle.concepts.specs.RowSet.{mem, single, union, insert}
use Rattle.concepts.specs.Lowest.{Lowest, Rest}
use Rattle.concepts.specs.LowestLaws.{trailing-lowest, rest-lowest}
use Rattle.rowset.specs.declared.Bits.{Bits}
use Rattle.rowset.specs.Bits.{TakesLowest}
use Rattle.evaluation.specs.LiteralCases.{asking-none, asking-in, asking-out, asking-all}
use Rattle.evaluation.proofs.named.Goals as goal

-- (1u64 << i) | passed
inserted : (i s : ℕ) → i < 64 → bit_or ((1 * 2 ^ i) % 2 ^ 64) s ≡ insert i s
unfolding single union
inserted i s h = ap (λ (x : ℕ). bit_or x s) (shl_exact 1 i 64 (omega arith) (omega arith) ∙ one-mul (2 ^ i))

-- the row that is taken is the lowest, and the others are left
module _ {bits after : Bits} {i : ℕ} (small : bits.rest < 2 ^ 64) (takes : TakesLowest bits i after) where
  lowest : Lowest bits.rest i
  lowest =
      let some : 0 < bits.rest = elim (ℕ_discrete bits.rest 0) [ yes e ↦ absurd (takes.some e) | no d ↦ omega arith ] in
      rw takes.is (trailing-lowest 64 bits.rest some small).0

  others : Rest bits.rest after.rest
  others = rw takes.left (rest-lowest bits.rest)

  fits : after.rest < 2 ^ 64
  fits = omega (arith, takes.left, and_le_l bits.rest (bits.rest - 1))

pub loop-i-init : goal.loop-i-init
loop-i-init c = rw c.into_iter-i-iterator.ensures.into_iter_gives (tt, tt, omega arith, asking-none)

pub overflow_mul-j : goal.overflow_mul-j
overflow_mul-j c =
    let (_, _, small, asking) = c.loop-i.invariant in
    let h = c.requires.1.inside _ (asking.inside _ (lowest small c.in-Some.ensures.steps).member) in
    omega (arith, c.requires.0.rows.few)

pub overflow_add-j : goal.overflow_add-j
overflow_add-j c =
    let (_, _, small, asking) = c.loop-i.invariant in
    let h = c.requires.1.inside _ (asking.inside _ (lowest small c.in-Some.ensures.steps).member) in
    omega (arith, c.requires.0.rows.few)

pub left_at-requires : goal.left_at-requires
left_at-requires c =
    let (_, _, small, asking) = c.loop-i.invariant in
    (c.requires.0, c.requires.1.inside _ (asking.inside _ (lowest small c.in-Some.ensures.steps).member))

pub has_bit-requires : goal.has_bit-requires
has_bit-requires c =
    let (_, _, small, asking) = c.loop-i.invariant in
    omega (arith, c.left_at.ensures.0, c.requires.1.small _ (asking.inside _ (lowest small c.in-Some.ensures.steps).member))

pub loop-i-preserved-then-has_bit : goal.loop-i-preserved-then-has_bit
loop-i-preserved-then-has_bit c =
    let a = c.args in
    let (_, _, small, asking) = c.loop-i.invariant in
    let takes = c.in-Some.ensures.steps in
    let asked = c.has_bit.ensures ∙ ap (λ (x : ℕ). mem x a.names) c.left_at.ensures.0 in (
      tt,
      tt,
      fits small takes,
      asking-in asking (lowest small takes) (others small takes) asked c.if-has_bit.true (inserted c.in-Some.i c.loop-i.passed takes.small),
    )

pub loop-i-preserved : goal.loop-i-preserved
loop-i-preserved c =
    let a = c.args in
    let (_, _, small, asking) = c.loop-i.invariant in
    let takes = c.in-Some.ensures.steps in
    let asked = c.has_bit.ensures ∙ ap (λ (x : ℕ). mem x a.names) c.left_at.ensures.0 in (
      tt,
      tt,
      fits small takes,
      asking-out asking (lowest small takes) (others small takes) asked c.if-has_bit.false refl,
    )

pub returns : goal.returns
returns c = asking-all c.loop-i.invariant.3 c.in-None.ensures.steps.0
