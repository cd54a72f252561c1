-- `chains::follow` meets its contract: by whether the place is the chain's start.
-- Assumes nothing.
use mathlib.Core.Path.{◌≡◌, refl, ap, ◌∙◌}
use mathlib.Core.List.{List}
use Prim.Native.Nat.{ℕ, zero, suc, ◌-◌, ◌≤◌}
use native.Mathlib.Omega.{arith}
use Rattle.records.specs.Areas.{Fits, room_of}
use Rattle.records.specs.AreaLaws.{room_fits}
use Rattle.chains.specs.Chain.{following}
use Rattle.chains.specs.Places.{next_in, first_in}
use Rattle.chains.proofs.follow.Goals as goal

-- the record before a place is in the area
before_fits : (size : ℕ) (b : List ℕ) {from : ℕ} → from ≤ room_of size b → (from ≡ 0 → ⊥) → Fits size b (from - 1)
before_fits size b room some = room_fits size b room (omega (arith, some))

following_later : (next first : ℕ → ℕ) (x from : ℕ) → (from ≡ 0 → ⊥) → next (from - 1) ≡ following next first x from
following_later next first x zero some = absurd (some refl)
following_later next first x (suc j) some = ap next (omega arith)

pub overflow_mul-p : goal.overflow_mul-p
overflow_mul-p c = omega (arith, before_fits _ _ c.requires.2 c.if-from-eq0.false)

pub overflow_add-p : goal.overflow_add-p
overflow_add-p c = omega (arith, before_fits _ _ c.requires.2 c.if-from-eq0.false, c.requires.0.in-next)

pub get2-requires-2 : goal.get2-requires-2
get2-requires-2 c = omega (arith, before_fits _ _ c.requires.2 c.if-from-eq0.false, c.requires.0.in-next)

pub returns : goal.returns
returns c =
    let a = c.args in
    c.get2-2.ensures ∙ following_later (next_in a.p a.area.now) (first_in a.p a.nodes.now) a.x a.from c.if-from-eq0.false
