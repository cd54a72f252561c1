-- Laws of Remade.
--
-- In order: words beside a stretch, and the masks there; the table, and what is said of the rows, where the stretch has neither the counts nor the rows;
-- words made one by one.
use Rattle.std.specs.Prelude.{◌≡◌, refl, ◌⊎◌, ℕ, ◌+◌, ◌≤◌, ◌<◌, T, length, set}
use Rattle.std.proofs.Common.{sym, ◌∙◌, arith, length-set, get_or-set_same, get_or-set_other}
use Rattle.std.proofs.Math.Path.{ap}
use mathlib.Core.List.{List, map}
use Rattle.std.proofs.Math.Logic.{inl, inr}
use Rattle.std.proofs.Math.Decide.{ℕ_discrete}
use Rattle.std.proofs.Math.ListN.{get_or}
use Rattle.concepts.specs.Lists.{range}
use Rattle.concepts.specs.ListLaws.{map_same}
use Rattle.concepts.specs.Concept.{NoInclusion}
use Rattle.concepts.specs.RowSet.{mem}
use Rattle.words.specs.Sizes.{set_words}
use Rattle.rowset.specs.Joined.{mask_at}
use Rattle.rowset.specs.JoinedLaws.{joined_same}
use Rattle.problem.specs.Layout.{count_at, used_at, rows_at, kind_place}
use Rattle.problem.specs.Decoded.{count_of, used_of, mask_of, row_of, table_of, rules_of, wanted_of, RowsDecoded}
use Rattle.decoder.specs.Remade.{Beside, Remade}

-- ---- words beside a stretch

pub beside-refl : {at n : ℕ} (w : List ℕ) → Beside at n w w
beside-refl w = record { longs = refl; others = λ i o. refl }

pub beside-then : {at n : ℕ} {w v u : List ℕ} → Beside at n w v → Beside at n v u → Beside at n w u
beside-then B C = record { longs = C.longs ∙ B.longs; others = λ i o. C.others i o ∙ B.others i o }

-- a stretch that has this one
pub beside-wider : {at n from m : ℕ} {w v : List ℕ} → from ≤ at → at + n ≤ from + m → Beside at n w v → Beside from m w v
beside-wider {at} {n} {from} {m} lo hi B = record { longs = B.longs; others = λ i o. B.others i (outside i o) }
  where
    outside : (i : ℕ) → (i < from) ⊎ (from + m ≤ i) → (i < at) ⊎ (at + n ≤ i)
    outside i (inl l) = inl (omega arith)
    outside i (inr g) = inr (omega arith)

pub beside-set : {at n : ℕ} (w : List ℕ) (i v : ℕ) → at ≤ i → i < at + n → Beside at n w (set w i v)
beside-set {at} {n} w i v lo hi = record { longs = length-set w i v; others = λ j o. get_or-set_other w i j v 0 (apart j o) }
  where
    apart : (j : ℕ) → (j < at) ⊎ (at + n ≤ j) → j ≡ i → ⊥
    apart j (inl l) e = omega arith
    apart j (inr g) e = omega arith

module _ {at n : ℕ} {w v : List ℕ} (B : Beside at n w v) where
  -- a mask there
  pub mask-beside : (p : ℕ) → (p + set_words ≤ at) ⊎ (at + n ≤ p) → mask_of v p ≡ mask_of w p
  unfolding mask_at
  mask-beside p o = joined_same 64 (λ (j : ℕ). get_or v (p + j) 0) (λ (j : ℕ). get_or w (p + j) 0) set_words (λ j l. B.others (p + j) (outside j l o))
    where
      outside : (j : ℕ) → j < set_words → (p + set_words ≤ at) ⊎ (at + n ≤ p) → (p + j < at) ⊎ (at + n ≤ p + j)
      outside j l (inl h) = inl (omega arith)
      outside j l (inr h) = inr (omega arith)

  -- ---- what is said of the rows

  module _ (low : used_at < at) (high : at + n ≤ rows_at) where
    pub count-beside : count_of v ≡ count_of w
    count-beside = B.others count_at (inl (omega arith))

    pub used-beside : used_of v ≡ used_of w
    used-beside = B.others used_at (inl low)

    pub row-beside : (k : ℕ) → get_or v (rows_at + k) 0 ≡ get_or w (rows_at + k) 0
    row-beside k = B.others (rows_at + k) (inr (omega arith))

    pub table_beside : table_of v ≡ table_of w
    unfolding table_of
    table_beside =
        ap (λ (m : ℕ). map (row_of v) (range 0 m)) count-beside
        ∙ map_same (row_of v) (row_of w) (range 0 (count_of w)) (λ k m. rw (row-beside k))

    pub rows-beside : RowsDecoded w → ((kind : ℕ) → kind < 8 → mask_of v (kind_place kind) ≡ mask_of w (kind_place kind))
        → ((k : ℕ) → T (mem k (rules_of v)) → (k < length (table_of w)) × NoInclusion (table_of w) k)
        → ((k : ℕ) → T (mem k (wanted_of v)) → (k < length (table_of w)) × NoInclusion (table_of w) k) → RowsDecoded v
    rows-beside ok kinds rules wanted = record {
      enough = omega (arith, B.longs, ok.enough);
      few = omega (arith, count-beside, ok.few);
      used = rw (count-beside, used-beside) ok.used;
      formed = λ k h. rw (row-beside k) (ok.formed k (omega (arith, count-beside)));
      ordered = rw table_beside ok.ordered;
      kinds = λ kind h. rw (table_beside, kinds kind h) (ok.kinds kind h);
      rule_rows = λ k m. rw table_beside (rules k m);
      wanted_rows = λ k m. rw table_beside (wanted k m);
      argument_rows = rw table_beside ok.argument_rows;
    }

-- ---- words made one by one

pub remade-none : (at : ℕ → ℕ) (f : ℕ → ℕ → ℕ) (w : List ℕ) → Remade at 0 f w w
remade-none at f w = record { longs = refl; others = λ i d. refl; made = λ c h. absurd (omega arith) }

-- nothing changes where each word is made what it was
pub remade-same : {at : ℕ → ℕ} {n : ℕ} {f : ℕ → ℕ → ℕ} (w : List ℕ) → ((c : ℕ) → c < n → f c (get_or w (at c) 0) ≡ get_or w (at c) 0)
    → Remade at n f w w
remade-same w e = record { longs = refl; others = λ i d. refl; made = λ c h. sym (e c h) }

-- n words from a place on
pub remade-beside : {at n : ℕ} {f : ℕ → ℕ → ℕ} {w v : List ℕ} → Remade (λ c. at + c) n f w v → Beside at n w v
remade-beside {at} {n} R = record { longs = R.longs; others = λ i o. R.others i (apart i o) }
  where
    apart : (i : ℕ) → (i < at) ⊎ (at + n ≤ i) → (c : ℕ) → c < n → i ≡ at + c → ⊥
    apart i (inl l) c h e = omega arith
    apart i (inr g) c h e = omega arith

pub stretch-apart : (at c d : ℕ) → at + c ≡ at + d → c ≡ d
stretch-apart at c d e = omega arith

-- at places that are all apart
module _ {at : ℕ → ℕ} (apart : (c d : ℕ) → at c ≡ at d → c ≡ d) {n : ℕ} {f : ℕ → ℕ → ℕ} {w v : List ℕ}
    (R : Remade at n f w v) where
  -- the next word is still as it was
  pub next_word : get_or v (at n) 0 ≡ get_or w (at n) 0
  next_word = R.others (at n) (λ c h e. omega (arith, apart n c e))

  -- and is written
  pub remade-written : {x : ℕ} → at n < length w → x ≡ f n (get_or v (at n) 0) → Remade at (n + 1) f w (set v (at n) x)
  remade-written {x} h e = record {
    longs = length-set v (at n) x ∙ R.longs;
    others = λ i d. get_or-set_other v (at n) i x 0 (d n (omega arith)) ∙ R.others i (λ c l. d c (omega arith));
    made = λ c l. elim (ℕ_discrete c n) [
      | yes q ↦
          ap (λ (y : ℕ). get_or (set v (at n) x) (at y) 0) q ∙ get_or-set_same v (at n) x 0 (omega (arith, R.longs)) ∙ e ∙ ap (f n) next_word
          ∙ sym (ap (λ (y : ℕ). f y (get_or w (at y) 0)) q)
      | no d ↦ get_or-set_other v (at n) (at c) x 0 (λ z. d (apart c n z)) ∙ R.made c (omega arith)
    ];
  }
