-- Laws of Marking.
--
-- In order: where masks stand; the words, and every mask, after a row joined one (`mark-mem`); a list of rows as a mask (`list_put`); a mask joined by another.
use Rattle.std.specs.Prelude.{◌≡◌, refl, Bool, true, false, ◌&&◌, ◌||◌, cond, List, ◌⊎◌, ℕ, suc, ◌+◌, ◌-◌, ◌*◌, ◌/◌, ◌%◌, ◌≤◌, ◌<◌, eqb, length, get_or}
use Rattle.std.proofs.Common.{sym, ap, ap₂, ◌∙◌, inl, inr, arith, eq-eqb, ne_eqb}
use Rattle.std.proofs.Math.Decide.{ℕ_discrete}
use Rattle.concepts.specs.RowSet.{mem, union, insert, from_list}
use Rattle.concepts.specs.RowSetLaws.{mem-insert, insert-lt, union-lt, from_list-lt}
use Rattle.words.specs.Sizes.{set_words, width}
use Rattle.rowset.specs.Joined.{mask_at}
use Rattle.rowset.specs.JoinedLaws.{joined_same, joined-union}
use Rattle.rowset.specs.NextLaws.{Words, words-set, mask-insert}
use Rattle.rowset.specs.WordOf.{word_of, joined_words}
use Rattle.problem.specs.Rows.{AllBelow}
use Rattle.problem.specs.Layout.{room, kind_place, role_place}
use Rattle.problem.specs.Decoded.{mask_of}
use Rattle.decoder.specs.Remade.{Beside, Remade}
use Rattle.decoder.specs.RemadeLaws.{beside-set, mask-beside, remade-beside}
use Rattle.decoder.specs.Marking.{masks, kind_mask, role_mask, mask_place, mark, PutsList}

-- ---- where masks stand

pub kind-place : (kind : ℕ) → kind_place kind ≡ mask_place (kind_mask kind)
kind-place kind = omega arith

pub role-place : (ρ : ℕ) → role_place ρ ≡ mask_place (role_mask ρ)
role-place ρ = omega arith

-- ---- a row joins a mask

module _ (w : List ℕ) (at k : ℕ) (h : k < width) where
  pub mark-beside : Beside at set_words w (mark w at k)
  mark-beside = beside-set w (at + k / 64) (insert (k % 64) (get_or w (at + k / 64) 0)) (omega arith) (omega arith)

  pub mark-words : Words w → at + set_words ≤ length w → Words (mark w at k)
  mark-words words room =
      words-set w words (at + k / 64) (insert (k % 64) (get_or w (at + k / 64) 0)) (omega arith)
      (insert-lt 64 (k % 64) (get_or w (at + k / 64) 0) (omega arith) (words (at + k / 64)))

-- the rows of every mask
pub mark-mem : (w : List ℕ) → Words w → room ≤ length w → (i m k q : ℕ) → i < masks → m < masks → k < width
    → mem q (mask_of (mark w (mask_place i) k) (mask_place m)) ≡ ((eqb m i && eqb q k) || mem q (mask_of w (mask_place m)))
mark-mem w words enough i m k q hi hm hk = elim (ℕ_discrete m i) [
  | yes e ↦
      let d : mask_place m ≡ mask_place i = omega arith in
      ap (λ (p : ℕ). mem q (mask_of (mark w (mask_place i) k) p)) d
      ∙ ap (mem q) (mask-insert w words (mask_place i) k set_words (insert (k % 64) (get_or w (mask_place i + k / 64) 0)) hk (omega arith) refl)
      ∙ mem-insert q k (mask_of w (mask_place i))
      ∙ sym (ap₂ (λ (b : Bool) (p : ℕ). (b && eqb q k) || mem q (mask_of w p)) (eq-eqb m i e) d)
  | no d ↦
      ap (mem q) (mask-beside (mark-beside w (mask_place i) k hk) (mask_place m) (apart d))
      ∙ sym (ap (λ (b : Bool). (b && eqb q k) || mem q (mask_of w (mask_place m))) (ne_eqb m i d))
]
  where
    apart : (m ≡ i → ⊥) → (mask_place m + set_words ≤ mask_place i) ⊎ (mask_place i + set_words ≤ mask_place m)
    apart d = elim (ℕ_discrete (suc m - i) 0) [
      | yes e ↦ inl (omega arith)
      | no g ↦ inr (omega arith)
    ]

-- ---- a list of rows as a mask

-- by its words
pub list_put : (at n : ℕ) {list w v : List ℕ} → AllBelow (64 * n) list → Remade (λ j. at + j) n (λ j _. word_of (from_list list) j) w v
    → PutsList at n list w v
unfolding mask_at
list_put at n {list} {w} {v} below R = record {
  beside = remade-beside R;
  rows =
      joined_same 64 (λ (j : ℕ). get_or v (at + j) 0) (word_of (from_list list)) n (λ j l. R.made j l)
      ∙ joined_words n (from_list list) (from_list-lt (64 * n) list below);
}

-- ---- a mask joined by another

-- if its words are, or are not
pub mask-joining : (test : Bool) (w w' : List ℕ) → Words w → (p q : ℕ)
    → ((j : ℕ) → j < set_words → get_or w' (p + j) 0 ≡ cond test (union (get_or w (p + j) 0) (get_or w (q + j) 0)) (get_or w (p + j) 0))
    → mask_of w' p ≡ cond test (union (mask_of w p) (mask_of w q)) (mask_of w p)
unfolding mask_at
mask-joining true w w' words p q e =
    let f : ℕ → ℕ = λ (j : ℕ). get_or w (p + j) 0 in
    let g : ℕ → ℕ = λ (j : ℕ). get_or w (q + j) 0 in
    joined_same 64 (λ (j : ℕ). get_or w' (p + j) 0) (λ (j : ℕ). union (f j) (g j)) set_words e
    ∙ joined-union 64 f g (λ (j : ℕ). union (f j) (g j)) (λ j. words (p + j)) (λ j. words (q + j))
    (λ j. union-lt 64 (f j) (g j) (words (p + j)) (words (q + j))) (λ j. refl) set_words
mask-joining false w w' words p q e = joined_same 64 (λ (j : ℕ). get_or w' (p + j) 0) (λ (j : ℕ). get_or w (p + j) 0) set_words e
