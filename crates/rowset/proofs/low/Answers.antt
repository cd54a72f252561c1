-- `rowset::low` meets its contract, by the number of the word.
use mathlib.Core.Path.{◌≡◌, refl, sym, ap}
use Prim.Native.Nat.{ℕ, zero, suc}
use Rattle.rowset.specs.Joined.{low_word}
use Rattle.rowset.proofs.low.Goals as goal

above : (w j : ℕ) → (j ≡ 0 → ⊥) → 0 ≡ low_word w j
above w zero d = absurd (d refl)
above w (suc j) d = refl

pub returns-then-j-eq0 : goal.returns-then-j-eq0
returns-then-j-eq0 c = sym (ap (low_word c.args.w) c.if-j-eq0.true)

pub returns-else-j-eq0 : goal.returns-else-j-eq0
returns-else-j-eq0 c = above c.args.w c.args.j c.if-j-eq0.false
