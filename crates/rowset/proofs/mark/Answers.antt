-- `rowset::mark` meets its contract: row k joins its word.
use mathlib.Core.Path.{◌≡◌, ap, ◌∙◌}
use Prim.Native.Nat.{ℕ, ◌+◌, ◌*◌, ◌/◌, ◌%◌, ◌^◌}
use native.Mathlib.Nat.{one-mul}
use native.Mathlib.Omega.{arith}
use lib.Bits.{bit_or}
use lib.ListN.{get_or, set}
use lib.Pow.{shl_exact}
use Rattle.concepts.specs.RowSet.{single, union}
use Rattle.rowset.specs.NextLaws.{mask-insert}
use Rattle.rowset.proofs.mark.Goals as goal

pub returns : goal.returns
unfolding single union
returns c =
    let a = c.args in
    let i : ℕ = a.k % 64 in
    let w : ℕ = get_or a.ws.now (a.at + a.k / 64) 0 in
    let bit : (1 * 2 ^ i) % 2 ^ 64 ≡ 2 ^ i = shl_exact 1 i 64 (omega arith) (omega arith) ∙ one-mul (2 ^ i) in
    let e = ap (λ (x : ℕ). bit_or x w) bit in (
      ap (set a.ws.now (a.at + a.k / 64)) e,
      λ n l. mask-insert a.ws.now (λ i. omega (arith, c.slice_known-1.given i)) a.at a.k n (bit_or ((1 * 2 ^ i) % 2 ^ 64) w) l (omega arith) e,
    )
