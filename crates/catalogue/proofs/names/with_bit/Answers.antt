-- `catalogue::names::with_bit` meets its contract: a shift of 1 by less than 64 places loses nothing.
use mathlib.Core.Path.{◌≡◌, ap, ◌∙◌}
use Prim.Native.Nat.{ℕ, ◌*◌, ◌%◌, ◌^◌}
use native.Mathlib.Nat.{one-mul}
use native.Mathlib.Omega.{arith}
use lib.Bits.{bit_or}
use lib.Pow.{shl_exact}
use Rattle.concepts.specs.RowSet.{single, union}
use Rattle.catalogue.proofs.names.with_bit.Goals as goal

pub returns : goal.returns
unfolding single union
returns c =
    let a = c.args in
    let e : (1 * 2 ^ a.name) % 2 ^ 64 ≡ 2 ^ a.name = shl_exact 1 a.name 64 (omega arith) (omega (arith, c.requires)) ∙ one-mul (2 ^ a.name) in
    ap (λ (x : ℕ). bit_or x a.names) e
