-- A loop from word to word around one from row to row, each word's lowest row first: what holds of the rows that are left (`Midway`).
--
-- In order: the state of such a loop; it begins with the whole set, passes a word of which nothing is left, ends with no row; its next row (`LowestOfWord`),
-- and its state after it.
-- What is left is a set, by Pending: so a proof speaks of one set that loses its lowest row.
use Rattle.std.specs.Prelude.{◌≡◌, true, not, ℕ, ◌+◌, ◌*◌, ◌-◌, ◌^◌, ◌≤◌, ◌<◌}
use Rattle.std.proofs.Common.{sym, ap, subst, ◌∙◌, arith}
use Rattle.std.proofs.Math.Decide.{ℕ_discrete}
use Rattle.std.specs.Int.Bits.{bit_and}
use Rattle.std.proofs.lemmas.Nat.{and_le_l}
use Rattle.std.specs.Int.Count.{count_trailing_zeros}
use Rattle.concepts.specs.Tests.{and-true}
use Rattle.concepts.specs.RowSet.{RowSet, mem, empty, minus, single}
use Rattle.concepts.specs.RowSetLaws.{mem-minus}
use Rattle.concepts.specs.Lowest.{Lowest}
use Rattle.concepts.specs.LowestLaws.{trailing-lowest, rest-lowest, rest_lt}
use Rattle.rowset.specs.Joined.{joined, Fit}
use Rattle.rowset.specs.JoinedLaws.{place-row}
use Rattle.rowset.specs.Pending.{left, left-whole, left-next, left-none, left-lowest, left-rest}

-- the rows of n words are gone through: the words before word j are passed, m is left of word j, and P holds of all that is left
pub record Midway (f : ℕ → ℕ) (n : ℕ) (P : RowSet → Type 0) (j m : ℕ) : Type 0 where
  pub small : m < 2 ^ 64
  pub inside : (k : ℕ) → mem k (left 64 f j m n) ≡ true → mem k (joined 64 f n) ≡ true
  pub holds : P (left 64 f j m n)

module _ {f : ℕ → ℕ} (fits : Fit 64 f) {n : ℕ} {P : RowSet → Type 0} where
  pub midway-begins : P (joined 64 f n) → Midway f n P 0 (f 0)
  midway-begins h =
      let e = left-whole 64 f fits n in
      record { small = fits 0; inside = λ k i. ap (mem k) (sym e) ∙ i; holds = subst P (sym e) h }

  pub midway-passes : (j m : ℕ) → m ≡ 0 → Midway f n P j m → Midway f n P (j + 1) (f (j + 1))
  midway-passes j m z l =
      let e = left-next 64 f fits n j m z in
      record { small = fits (j + 1); inside = λ k i. l.inside k (ap (mem k) e ∙ i); holds = subst P e l.holds }

  pub midway-ends : (j m : ℕ) → n ≤ j → Midway f n P j m → P empty
  midway-ends j m h l = subst P (left-none 64 f fits n j m h) l.holds

-- what else holds of the rows that are left
pub midway-also : {f : ℕ → ℕ} {n j m : ℕ} {P Q : RowSet → Type 0} → Midway f n P j m → Q (left 64 f j m n) → Midway f n Q j m
midway-also l h = record { small = l.small; inside = l.inside; holds = h }

-- ---- the next row: the lowest of word j, of which m is left

abbrev pub row_at : ℕ → ℕ → ℕ
row_at j m = 64 * j + count_trailing_zeros 64 m

pub record LowestOfWord (f : ℕ → ℕ) (n j m : ℕ) : Type 0 where
  pub low : Lowest (left 64 f j m n) (row_at j m)
  pub whole : mem (row_at j m) (joined 64 f n) ≡ true
  pub less : bit_and m (m - 1) < m
  pub after : Midway f n (λ x. x ≡ minus (left 64 f j m n) (single (row_at j m))) j (bit_and m (m - 1))

-- what holds of the rows without it holds of those that are left then
pub midway-after : {f : ℕ → ℕ} {n j m : ℕ} {P : RowSet → Type 0} → LowestOfWord f n j m → P (minus (left 64 f j m n) (single (row_at j m)))
    → Midway f n P j (bit_and m (m - 1))
midway-after {P = P} row h = midway-also row.after (subst P (sym row.after.holds) h)

pub lowest-of-word : {f : ℕ → ℕ} → Fit 64 f → {n : ℕ} {P : RowSet → Type 0} (j m : ℕ) → j < n → (m ≡ 0 → ⊥) → Midway f n P j m → LowestOfWord f n j m
lowest-of-word {f} fits {n} j m h d l =
    let some : 0 < m = elim (ℕ_discrete m 0) [ yes z ↦ absurd (d z) | no z ↦ omega arith ] in
    let (first, b) = trailing-lowest 64 m some l.small in
    let e = place-row 64 j (count_trailing_zeros 64 m) in
    let k = row_at j m in
    let s = left 64 f j m n in
    let small : bit_and m (m - 1) < 2 ^ 64 = omega (arith, and_le_l m (m - 1), l.small) in
    let low : Lowest s k = rw (← e) (left-lowest 64 f fits n j m (count_trailing_zeros 64 m) h l.small b first) in
    let rest : left 64 f j (bit_and m (m - 1)) n ≡ minus s (single k) =
    left-rest 64 f fits n j m (bit_and m (m - 1)) (count_trailing_zeros 64 m) h l.small small b first (rest-lowest m) ∙ ap (λ (x : ℕ). minus s (single x)) e in
    record {
      low = low;
      whole = l.inside k low.member;
      less = rest_lt m some;
      after = record {
        small = small;
        inside = λ i a. l.inside i (and-true (mem i s) (not (mem i (single k))) (sym (mem-minus i s (single k)) ∙ ap (mem i) (sym rest) ∙ a)).0;
        holds = rest;
      };
    }
