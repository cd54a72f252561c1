-- `problem::inverse` meets its contract: each case is one of the table, and a code that is none of the 32 is no role's.
use mathlib.Core.Path.{◌≡◌}
use Prim.Native.Nat.{ℕ, zero, suc, ◌≤◌}
use native.Mathlib.Omega.{arith}
use Rattle.concepts.specs.Role.{turned-other}
use Rattle.problem.proofs.inverse.Goals as goal

-- a code that is none of the first n codes
abbrev NoneOf : ℕ → ℕ → Type 0
NoneOf zero ρ = Unit {0}
NoneOf (suc n) ρ = NoneOf n ρ × (ρ ≡ n → ⊥)

none-le : (n : ℕ) {ρ : ℕ} → NoneOf n ρ → n ≤ ρ
none-le zero h = omega arith
none-le (suc n) {ρ} (h, d) = let l = none-le n h in omega (arith, l, d)

pub returns-in_default : goal.returns-in_default
returns-in_default c = turned-other (none-le 32 c.in_default.in_default-own.rest)
