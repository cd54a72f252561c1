-- Laws of Normalize: in a finite world, what becomes of a row means the same as the row, or the opposite if that was needed.
--
-- In order: connectives over parts that mean the same; the opposite of each connective; what a shape should mean (`ShapeMeans`), and that it does (`shape-means`).
-- No law of logic says that a row holds or does not, so a law asks for that decision where it needs it; "not all" needs an end of the elements as well.
-- Assumes nothing.
use Rattle.std.specs.Prelude.{Bool, not, ◌↔◌, ◌⊎◌, ℕ, ◌<◌, T}
use Rattle.std.proofs.Math.Bool.{true, false}
use Rattle.std.proofs.Math.Logic.{⊎_map, by_cases}
use mathlib.Core.Logic.Dec
use mathlib.Core.Logic.Iff
use Rattle.std.proofs.Common.{inl, inr, ⊎_elim, T_not}
use Rattle.std.proofs.Math.Dec.{not_T}
use Rattle.concepts.specs.Concept.{Concept, atomic, negated, conj, disj, univ, exist, inclusion, neg, impl, is_inclusion}
use Rattle.meaning.specs.Meaning.{leads, Means, World, finite}
use Rattle.meaning.proofs.FiniteLaws.{T-decided, if-decided, all-or-not}
use Rattle.drafts.specs.Normalize.{Sign, Shape, literal, other, unary, binary, shape}

-- ---- parts that mean the same

either_same : {A B C D : Type 0} → A ↔ C → B ↔ D → (A ⊎ B) ↔ (C ⊎ D)
either_same p q = (⊎_map p.0 q.0, ⊎_map p.1 q.1)

module _ {E R P Q : ℕ → Type 0} where
  all_same : ((e : ℕ) → P e ↔ Q e) → ((e : ℕ) → E e → R e → P e) ↔ ((e : ℕ) → E e → R e → Q e)
  all_same same = (λ f e h r. (same e).0 (f e h r), λ f e h r. (same e).1 (f e h r))

  some_same : ((e : ℕ) → P e ↔ Q e) → ((e : ℕ) × E e × R e × P e) ↔ ((e : ℕ) × E e × R e × Q e)
  some_same same = (λ (e, h, r, p). (e, h, r, (same e).0 p), λ (e, h, r, q). (e, h, r, (same e).1 q))

-- ---- opposites: on the right as said, on the left pushed down

not-T-not : (b : Bool) → T b ↔ (T (not b) → ⊥)
not-T-not true = (λ _ x. x, λ _. tt)
not-T-not false = (λ x _. x, λ f. f tt)

module _ {A B : Type 0} where
  not-either : ((A → ⊥) × (B → ⊥)) ↔ (A ⊎ B → ⊥)
  not-either = (λ (x, y). ⊎_elim x y, λ f. (λ a. f (inl a), λ b. f (inr b)))

  either-if : Dec A → ((A → ⊥) ⊎ B) ↔ (A → B)
  either-if p = (⊎_elim (λ x a. absurd (x a)) (λ b _. b), λ f. by_cases p (λ a. inr (f a)) inl)

  not-if : Dec A → (A × (B → ⊥)) ↔ ((A → B) → ⊥)
  not-if p = (λ (a, y) f. y (f a), λ f. ((Dec.not-not p).0 (λ x. f (λ a. absurd (x a))), λ b. f (λ _. b)))

not-both : {A B : Type 0} → Dec A → ((A → ⊥) ⊎ (B → ⊥)) ↔ (A × B → ⊥)
not-both p = Iff.trans (either-if p) (λ f (a, b). f a b, λ f a b. f (a, b))

module _ {R P : ℕ → Type 0} where
  not_some : {E : ℕ → Type 0} → ((e : ℕ) → E e → R e → P e → ⊥) ↔ (((e : ℕ) × E e × R e × P e) → ⊥)
  not_some = (λ f (e, h, r, p). f e h r p, λ f e h r p. f (e, h, r, p))

  not-all : (n : ℕ) → ((e : ℕ) → Dec (R e)) → ((e : ℕ) → Dec (P e)) → ((e : ℕ) × (e < n) × R e × (P e → ⊥)) ↔ (((e : ℕ) → e < n → R e → P e) → ⊥)
  not-all n r p = (
    λ (e, h, x, y) f. y (f e h x),
    λ f. ⊎_elim (λ all. absurd (f all)) (λ (e, h, x). let (y, z) = (not-if (r e)).1 x in (e, h, y, z)) (all-or-not n (λ e _. if-decided (r e) (p e))),
  )

-- ---- shapes

-- a row holds as it stands, or does not
abbrev pub Signed : Sign → Type 0 → Type 0
Signed true P = P
Signed false P = P → ⊥

-- G l e: row l of the draft holds at e; H i e: row i of the result does
module _ (W : World) (G H : ℕ → ℕ → Type 0) where
  -- the shape means what concept c does, or the opposite, where the rows that it stands over mean what they should
  abbrev pub ShapeMeans : Concept → Sign → Shape → Type 0
  ShapeMeans c s (literal x) = (d : ℕ) → Means (finite W) H x d ↔ Signed s (Means (finite W) G c d)
  ShapeMeans c s (other z l) = (d : ℕ) → Signed z (G l d) ↔ Signed s (Means (finite W) G c d)
  ShapeMeans c s (unary make z l) =
      (i : ℕ) → ((e : ℕ) → H i e ↔ Signed z (G l e)) → (d : ℕ) → Means (finite W) H (make i) d ↔ Signed s (Means (finite W) G c d)
  ShapeMeans c s (binary make z l y r) =
      (i j : ℕ) → ((e : ℕ) → H i e ↔ Signed z (G l e)) → ((e : ℕ) → H j e ↔ Signed y (G r e)) → (d : ℕ)
      → Means (finite W) H (make i j) d ↔ Signed s (Means (finite W) G c d)

  module _ (decided : (l e : ℕ) → Dec (G l e)) where
    -- a role inclusion holds at no element, and has no opposite
    pub shape-means : (c : Concept) (s : Sign) → T (not (is_inclusion c)) → ShapeMeans c s (shape c s)
    unfolding shape
    shape-means (atomic a) true _ = λ _. Iff.rfl
    shape-means (atomic a) false _ = λ d. (T_not (W.named a d), not_T (W.named a d))
    shape-means (negated a) true _ = λ _. Iff.rfl
    shape-means (negated a) false _ = λ d. not-T-not (W.named a d)
    shape-means (conj l r) true _ = λ _ _ p q d. Iff.and (p d) (q d)
    shape-means (conj l r) false _ = λ _ _ p q d. Iff.trans (either_same (p d) (q d)) (not-both (decided l d))
    shape-means (disj l r) true _ = λ _ _ p q d. either_same (p d) (q d)
    shape-means (disj l r) false _ = λ _ _ p q d. Iff.trans (Iff.and (p d) (q d)) not-either
    shape-means (univ ρ l) true _ = λ _ p _. all_same p
    shape-means (univ ρ l) false _ = λ _ p d. Iff.trans (some_same p) (not-all W.size (λ e. T-decided (leads (finite W) ρ d e)) (decided l))
    shape-means (exist ρ l) true _ = λ _ p _. some_same p
    shape-means (exist ρ l) false _ = λ _ p _. Iff.trans (all_same p) not_some
    shape-means (inclusion ρ σ) s i = absurd i
    shape-means (neg l) true _ = λ _. Iff.rfl
    shape-means (neg l) false _ = λ d. Iff.symm (Dec.not-not (decided l d))
    shape-means (impl l r) true _ = λ _ _ p q d. Iff.trans (either_same (p d) (q d)) (either-if (decided l d))
    shape-means (impl l r) false _ = λ _ _ p q d. Iff.trans (Iff.and (p d) (q d)) (not-if (decided l d))
