-- `evaluation::put_row` meets its contract: the row joins or leaves its byte, and the set with it.
use mathlib.Core.Path.{◌≡◌, ap, ◌∙◌}
use Prim.Native.Nat.{ℕ, ◌+◌, ◌-◌, ◌*◌, ◌/◌, ◌%◌, ◌^◌, ◌<◌}
use native.Mathlib.Nat.{one-mul}
use native.Mathlib.Omega.{arith}
use lib.Bits.{bit_or, bit_and, and_le_l}
use lib.ListN.{get_or, set}
use lib.Pow.{shl_exact}
use Rattle.concepts.specs.RowSet.{single, union, minus}
use Rattle.words.specs.Sizes.{set_size}
use Rattle.rowset.specs.ByteLaws.{AreBytes}
use Rattle.rowset.specs.RowByteLaws.{byte-insert, byte-remove}
use Rattle.evaluation.proofs.put_row.Goals as goal

-- 1u8 << (k % 8)
row-bit : (i : ℕ) → i < 8 → (1 * 2 ^ i) % 2 ^ 8 ≡ 2 ^ i
row-bit i l = shl_exact 1 i 8 (omega arith) (omega arith) ∙ one-mul (2 ^ i)

pub returns-then-holds : goal.returns-then-holds
unfolding single union
returns-then-holds c =
    let bytes : AreBytes c.args.elements.now = λ i. omega (arith, c.slice_known-1.given i) in
    let a = c.args in
    let b = a.elements.now in
    let i : ℕ = a.at + a.k / 8 in
    rw c.if-holds.true
    (ap (λ (row : ℕ). set b i (bit_or row (get_or b i 0))) (row-bit (a.k % 8) (omega arith))
    ∙ byte-insert b bytes a.at a.k set_size (omega (arith, c.requires.1)) c.requires.0)

pub overflow_sub-elements : goal.overflow_sub-elements
overflow_sub-elements c = and_le_l _ _

pub returns : goal.returns
unfolding single minus
returns c =
    let bytes : AreBytes c.args.elements.now = λ i. omega (arith, c.slice_known-1.given i) in
    let a = c.args in
    let b = a.elements.now in
    let i : ℕ = a.at + a.k / 8 in
    rw c.if-holds.false
    (ap (λ (row : ℕ). set b i (get_or b i 0 - bit_and (get_or b i 0) row)) (row-bit (a.k % 8) (omega arith))
    ∙ byte-remove b bytes a.at a.k set_size (omega (arith, c.requires.1)) c.requires.0)
