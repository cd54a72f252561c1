-- Where bytes of a number alone have changed, the number is written (`put-between`): what is known of it then is known of the bytes around, too.
use Rattle.std.specs.Prelude.{◌≡◌, List, ℕ, zero, suc, ◌+◌, ◌-◌, ◌*◌, ◌/◌, ◌%◌, ◌≤◌, ◌<◌, length, get_or, set}
use Rattle.std.proofs.Common.{sym, ap₂, ◌∙◌, arith, length-set, get_or-set_same, get_or-set_other, ext_get_or}
use Rattle.std.proofs.Math.Decide.{ℕ_discrete}
use Rattle.std.proofs.Math.ListN.{get_or-eq_default}
use Rattle.words.specs.Words.{le_at, put_le}
use Rattle.rowset.specs.ByteLaws.{AreBytes}

-- bytes stay bytes
pub put_le-bytes : (b : List ℕ) → AreBytes b → (at n v : ℕ) → AreBytes (put_le b at n v)
unfolding put_le
put_le-bytes b h at zero v = h
put_le-bytes b h at (suc n) v = put_le-bytes (set b at (v % 256)) stored (suc at) n (v / 256)
  where
    stored : AreBytes (set b at (v % 256))
    stored i = elim (ℕ_discrete i at) [
      | yes e ↦ here i e (ℕ_discrete (length b - at) 0)
      | no d ↦ omega (arith, get_or-set_other b at i (v % 256) 0 d, h i)
    ]
      where
        -- a byte past the end is not stored
        here : (i : ℕ) → i ≡ at → Dec (length b - at ≡ 0) → get_or (set b at (v % 256)) i 0 < 256
        here i e (yes z) = omega (arith, get_or-eq_default (set b at (v % 256)) 0 {n = i} (simp length-set (omega arith)))
        here i e (no z) = rw e (omega (arith, get_or-set_same b at (v % 256) 0 (omega arith)))

-- what differs from b in the n bytes from place at on alone is b with the number that stands there
pub put-between : (c : List ℕ) → AreBytes c → (n : ℕ) (b : List ℕ) (at : ℕ) → length c ≡ length b → at + n ≤ length b
    → ((i : ℕ) → i < at → get_or c i 0 ≡ get_or b i 0) → ((i : ℕ) → at + n ≤ i → get_or c i 0 ≡ get_or b i 0) → c ≡ put_le b at n (le_at c at n)
unfolding put_le le_at
put-between c h zero b at size room low high =
    ext_get_or 0 c b size (λ i _. elim (ℕ_discrete (at - i) 0) [ yes e ↦ high i (omega arith) | no d ↦ low i (omega arith) ])
put-between c h (suc n) b at size room low high =
    let here : ℕ = get_or c at 0 in
    let rest : ℕ = le_at c (suc at) n in
    let first : (here + 256 * rest) % 256 ≡ here = omega (arith, h at) in
    let others : (here + 256 * rest) / 256 ≡ rest = omega (arith, h at) in
    put-between c h n (set b at here) (suc at) (size ∙ sym (length-set b at here)) (simp length-set (omega arith)) below
    (λ i l. high i (omega arith) ∙ sym (get_or-set_other b at i here 0 (λ e. omega arith)))
    ∙ sym (ap₂ (λ (x y : ℕ). put_le (set b at x) (suc at) n y) first others)
  where
    below : (i : ℕ) → i < suc at → get_or c i 0 ≡ get_or (set b at (get_or c at 0)) i 0
    below i l = elim (ℕ_discrete i at) [
      | yes e ↦ rw e (sym (get_or-set_same b at (get_or c at 0) 0 (omega arith)))
      | no d ↦ low i (omega arith) ∙ sym (get_or-set_other b at i (get_or c at 0) 0 d)
    ]
