-- Row k joins a set in n bytes (`byte-insert`), or leaves it (`byte-remove`), by the byte that has it: that byte alone is stored, and the set is written.
use Rattle.std.specs.Prelude.{◌≡◌, refl, length, get_or}
use Rattle.std.proofs.Common.{sym, ◌∙◌, arith, length-set, get_or-set_same, get_or-set_other}
use Rattle.std.proofs.Math.Path.{ap, ap₂}
use mathlib.Core.List.{List}
use Prim.Native.Nat.{ℕ, zero, suc, ◌+◌, ◌*◌, ◌/◌, ◌%◌, ◌≤◌, ◌<◌}
use Rattle.std.proofs.Math.ListN.{set}
use Rattle.concepts.specs.RowSet.{single, minus, insert}
use Rattle.concepts.specs.RowSetLaws.{insert-lt}
use Rattle.words.specs.Words.{le_at, put_le}
use Rattle.words.specs.WordLaws.{put_le-one}
use Rattle.rowset.specs.Joined.{joined, place}
use Rattle.rowset.specs.JoinedLaws.{place-row, joined_same, joined-insert, joined-without}
use Rattle.rowset.specs.ByteLaws.{AreBytes}
use Rattle.rowset.specs.WholeLaws.{put_le-bytes, put-between}

-- byte j of the bytes from place at on
abbrev pub byte_at : List ℕ → ℕ → ℕ → ℕ
byte_at b at j = get_or b (at + j) 0

-- a number of n bytes is its bytes joined
pub number-bytes : (b : List ℕ) (n at : ℕ) → le_at b at n ≡ joined 8 (byte_at b at) n
unfolding joined le_at
number-bytes b zero at = refl
number-bytes b (suc n) at =
    let first : at + 0 ≡ at = omega arith in
    let here : byte_at b at 0 ≡ get_or b at 0 = ap (λ (i : ℕ). get_or b i 0) first in
    let rest : joined 8 (λ (j : ℕ). byte_at b at (suc j)) n ≡ joined 8 (byte_at b (suc at)) n =
    joined_same 8 (λ (j : ℕ). byte_at b at (suc j)) (byte_at b (suc at)) n (λ j _. ap (λ (i : ℕ). get_or b i 0) (omega arith)) in
    omega (arith, here, rest, number-bytes b n (suc at))

-- ---- the byte that has row k

module _ (b : List ℕ) (h : AreBytes b) (at k n : ℕ) (l : k < 8 * n) (room : at + n ≤ length b) where
  row-place : place 8 (k / 8) (k % 8) ≡ k
  row-place = place-row 8 (k / 8) (k % 8) ∙ omega arith

  stored_bytes : (v : ℕ) → v < 256 → AreBytes (set b (at + k / 8) v)
  stored_bytes v small = rw (put_le-one b (at + k / 8) v small) at (put_le-bytes b h (at + k / 8) 1 v)

  stored_here : (v : ℕ) → byte_at (set b (at + k / 8) v) at (k / 8) ≡ v
  stored_here v = get_or-set_same b (at + k / 8) v 0 (omega arith)

  stored-others : (v m : ℕ) → (m ≡ k / 8 → ⊥) → byte_at (set b (at + k / 8) v) at m ≡ byte_at b at m
  stored-others v m d = get_or-set_other b (at + k / 8) (at + m) v 0 (λ e. d (omega arith))

  stored-whole : (v : ℕ) → v < 256 → set b (at + k / 8) v ≡ put_le b at n (le_at (set b (at + k / 8) v) at n)
  stored-whole v small =
      put-between (set b (at + k / 8) v) (stored_bytes v small) n b at (length-set b (at + k / 8) v) room
      (λ i below. get_or-set_other b (at + k / 8) i v 0 (λ e. omega arith)) (λ i above. get_or-set_other b (at + k / 8) i v 0 (λ e. omega arith))

  pub byte-insert : set b (at + k / 8) (insert (k % 8) (get_or b (at + k / 8) 0)) ≡ put_le b at n (insert k (le_at b at n))
  byte-insert =
      let v : ℕ = insert (k % 8) (get_or b (at + k / 8) 0) in
      let c : List ℕ = set b (at + k / 8) v in
      let small : v < 256 = insert-lt 8 (k % 8) (get_or b (at + k / 8) 0) (omega arith) (h (at + k / 8)) in
      stored-whole v small ∙ ap (put_le b at n) (
      number-bytes c n at
      ∙ joined-insert 8 (byte_at b at) (byte_at c at) (λ j. h (at + j)) n (k / 8) (k % 8) (omega arith) (omega arith) (stored_here v) (stored-others v)
      ∙ ap₂ insert row-place (sym (number-bytes b n at))
      )

  pub byte-remove : set b (at + k / 8) (minus (get_or b (at + k / 8) 0) (single (k % 8))) ≡ put_le b at n (minus (le_at b at n) (single k))
  unfolding minus
  byte-remove =
      let v : ℕ = minus (get_or b (at + k / 8) 0) (single (k % 8)) in
      let c : List ℕ = set b (at + k / 8) v in
      let small : v < 256 = omega (arith, h (at + k / 8)) in
      stored-whole v small ∙ ap (put_le b at n) (
      number-bytes c n at
      ∙ joined-without 8 (byte_at b at) (byte_at c at) (λ j. h (at + j)) (λ j. stored_bytes v small (at + j)) n (k / 8) (k % 8) (omega arith) (omega arith)
      (stored_here v) (stored-others v)
      ∙ ap₂ (λ (s x : ℕ). minus s (single x)) (sym (number-bytes b n at)) row-place
      )
