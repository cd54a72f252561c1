-- Laws of the rows of kind 7 that a converted draft begins with.
--
-- In order: a choice of elements keeps what holds of each two; each row is an inclusion of the draft; the rows are sound (`inclusion_rows-sound`);
-- a table that begins with them and has no other inclusions is obeyed by the same worlds in this (`obeys-inclusions`).
-- Assumes nothing.
use Rattle.std.specs.Prelude.{◌≡◌, refl, Bool, true, false, not, ◌↔◌, ℕ, zero, suc, ◌≤◌, ◌<◌, get_or, Option, None, Some}
use Rattle.std.proofs.Common.{sym, ◌∙◌, not-suc-le-zero, le_of_suc-le-suc, arith}
use Rattle.std.proofs.Math.Path.{subst}
use mathlib.Core.List.{List, [], ◌∷◌, Memᴰ}
use Rattle.std.proofs.Math.Decide.{dec_lt}
use Rattle.std.proofs.Math.Dec.{T, not_T}
use Rattle.std.proofs.Math.ListN.{length, get_or-eq_default}
use Rattle.concepts.specs.Tests.{impossible, as-true, as-false}
use Rattle.concepts.specs.Lists.{select}
use Rattle.concepts.specs.ListLaws.{get_or-mem, mem-get_or, select-mem, mem-select}
use Rattle.concepts.specs.Begins.{Begins, begins-get_or}
use Rattle.concepts.specs.Concept.{Concept, atomic, inclusion, Table, concept_at, as_inclusion, arguments, is_inclusion, NoInclusion, is_normal}
use Rattle.concepts.specs.ConceptLaws.{as_inclusion-some}
use Rattle.meaning.specs.Meaning.{Interpretation, ObeysInclusions}
use Rattle.decoding.specs.RowParts.{in_range}
use Rattle.drafts.specs.Normalize.{same_row, inclusion_rows}
use Rattle.drafts.specs.Sound.{Sound}
use Rattle.drafts.proofs.ShareLaws.{same_row-path}

-- ---- a choice of elements

-- what holds of each two elements, the later and the earlier one
abbrev Pairs : {A : Type 0} → (A → A → Type 0) → A → List A → Type 0
Pairs R d xs = (j k : ℕ) → j < k → k < length xs → R (get_or xs k d) (get_or xs j d)

module _ {A : Type 0} (R : A → A → Type 0) (d : A) (f : A → Bool) where
  select-pairs : (xs : List A) → Pairs R d xs → Pairs R d (select f xs)
  unfolding select
  select-pairs [] H = λ j k l h. absurd (not-suc-le-zero h)
  select-pairs (x ∷ xs) H = by (f x) (select-pairs xs (λ j k l h. H (suc j) (suc k) (omega arith) (omega arith)))
    where
      -- the first element and a later one
      first : (k : ℕ) → k < length (select f xs) → R (get_or (select f xs) k d) x
      first k h =
          let (i, b, e) = mem-get_or xs (get_or (select f xs) k d) d (select-mem f xs _ (get_or-mem (select f xs) k d h)).0 in
          subst (λ (y : A). R y x) e (H 0 (suc i) (omega arith) (omega arith))

      by : (b : Bool) → Pairs R d (select f xs) → Pairs R d (elim b [ true ↦ x ∷ select f xs | false ↦ select f xs ])
      by false rest j k l h = rest j k l h
      by true rest zero zero l h = absurd (omega arith)
      by true rest zero (suc k) l h = first k (le_of_suc-le-suc h)
      by true rest (suc j) zero l h = absurd (not-suc-le-zero l)
      by true rest (suc j) (suc k) l h = rest j k (le_of_suc-le-suc l) (le_of_suc-le-suc h)

-- ---- each row is an inclusion of the draft

is-inclusion : (c : Concept) → T (is_inclusion c) → (ρ : ℕ) × (σ : ℕ) × (c ≡ inclusion ρ σ)
is-inclusion c = by (as_inclusion c) refl
  where
    by : (o : Option (ℕ × ℕ)) → as_inclusion c ≡ o → T (elim o [ Some i ↦ true | None ↦ false ]) → (ρ : ℕ) × (σ : ℕ) × (c ≡ inclusion ρ σ)
    by (Some i) e h = (i.0, i.1, as_inclusion-some c i e)
    by None e h = absurd h

module _ (t : Table) where
  row-mem : (c : Concept) → Memᴰ c (inclusion_rows t) → Memᴰ c t × T (is_inclusion c)
  unfolding inclusion_rows
  row-mem = select-mem is_inclusion t

  -- a row, or no row
  row-cases : (P : Concept → Type 0) → P (atomic 0) → ((ρ σ : ℕ) → Memᴰ (inclusion ρ σ) t → P (inclusion ρ σ)) → (k : ℕ) → P (concept_at (inclusion_rows t) k)
  row-cases P past row k = elim (dec_lt k (length (inclusion_rows t))) [
    | yes h ↦
        let (m, i) = row-mem (concept_at (inclusion_rows t) k) (get_or-mem (inclusion_rows t) k (atomic 0) h) in
        let (ρ, σ, e) = is-inclusion (concept_at (inclusion_rows t) k) i in
        subst P (sym e) (row ρ σ (subst (λ (c : Concept). Memᴰ c t) e m))
    | no g ↦ subst P (sym (get_or-eq_default (inclusion_rows t) (atomic 0) {n = k} (omega arith))) past
  ]

  -- ---- the rows are sound

  pub inclusion_rows-sound : ((k : ℕ) → T (in_range (concept_at t k))) → ((j k : ℕ) → j < k → k < length t → concept_at t j ≡ concept_at t k → ⊥) → Sound (inclusion_rows t)
  unfolding inclusion_rows in_range
  inclusion_rows-sound ranged distinct = record {
    ordered = λ k l. row-cases (λ c. Memᴰ l (arguments c) → l < k) (λ m. absurd (mathlib.Core.List.Memᴰ.not-nil m)) (λ ρ σ r m. absurd (mathlib.Core.List.Memᴰ.not-nil m)) k;
    idle = λ k l.
        row-cases (λ c. Memᴰ l (arguments c) → NoInclusion (inclusion_rows t) l) (λ m. absurd (mathlib.Core.List.Memᴰ.not-nil m)) (λ ρ σ r m. absurd (mathlib.Core.List.Memᴰ.not-nil m)) k;
    normal = row-cases (λ c. T (is_normal c)) tt (λ ρ σ r. tt);
    ranged = row-cases (λ c. T (in_range c)) tt (λ ρ σ r. let (i, h, e) = mem-get_or t (inclusion ρ σ) (atomic 0) r in subst (λ (c : Concept). T (in_range c)) e (ranged i));
    distinct = select-pairs (λ c d. same_row c d ≡ false) (atomic 0) is_inclusion t (λ j k l h.
        as-false _ (not_T (same_row (concept_at t k) (concept_at t j)) (λ s. distinct j k l h (sym (same_row-path _ _ (as-true _ s))))));
  }

  -- ---- a table that begins with these rows and has no other inclusions

  module _ (u : Table) (begins : Begins (inclusion_rows t) u) (others : (k : ℕ) → length (inclusion_rows t) ≤ k → NoInclusion u k) where
    inclusions-there : (k ρ σ : ℕ) → concept_at t k ≡ inclusion ρ σ → (j : ℕ) × (concept_at u j ≡ inclusion ρ σ)
    unfolding inclusion_rows
    inclusions-there k ρ σ e = elim (dec_lt k (length t)) [
      | yes h ↦
          let listed : Memᴰ (inclusion ρ σ) t = subst (λ (c : Concept). Memᴰ c t) e (get_or-mem t k (atomic 0) h) in
          let (j, l, q) = mem-get_or (inclusion_rows t) (inclusion ρ σ) (atomic 0) (mem-select is_inclusion t (inclusion ρ σ) listed tt) in
          (j, begins-get_or (inclusion_rows t) u j (atomic 0) begins l ∙ q)
      | no g ↦ let past = get_or-eq_default t (atomic 0) {n = k} (omega arith) in impossible cc
    ]

    inclusions-back : (k ρ σ : ℕ) → concept_at u k ≡ inclusion ρ σ → (j : ℕ) × (concept_at t j ≡ inclusion ρ σ)
    inclusions-back k ρ σ e = elim (dec_lt k (length (inclusion_rows t))) [
      | yes h ↦
          let row : concept_at (inclusion_rows t) k ≡ inclusion ρ σ = sym (begins-get_or (inclusion_rows t) u k (atomic 0) begins h) ∙ e in
          let (m, i) = row-mem (concept_at (inclusion_rows t) k) (get_or-mem (inclusion_rows t) k (atomic 0) h) in
          let (j, l, q) = mem-get_or t (concept_at (inclusion_rows t) k) (atomic 0) m in
          (j, q ∙ row)
      | no g ↦ absurd (subst (λ (c : Concept). T (not (is_inclusion c))) e (others k (omega arith)))
    ]

    pub obeys-inclusions : (I : Interpretation) → ObeysInclusions I t ↔ ObeysInclusions I u
    obeys-inclusions I = (
      λ o k ρ σ e. let (j, q) = inclusions-back k ρ σ e in o j ρ σ q,
      λ o k ρ σ e. let (j, q) = inclusions-there k ρ σ e in o j ρ σ q,
    )
