-- Laws of Lists: `answers`, and the first of them.
use Rattle.std.proofs.Math.Path.{◌≡◌, refl, ap, ap₂, subst}
use Rattle.std.proofs.Common.{sym, ◌∙◌, not-suc-le-zero, le_of_suc-le-suc, arith}
use mathlib.Core.List.Memᴰ
use mathlib.Core.List.{List, [], ◌∷◌, Memᴰ}
use Rattle.std.proofs.Math.Logic.{inl, inr}
use Prim.Native.Nat.{ℕ, zero, suc, ◌<◌}
use Rattle.std.specs.Prelude.{length, get_or, Option, None, Some}
use Rattle.concepts.specs.Lists.{cons_answer, answers, first}
use Rattle.concepts.specs.Tests.{impossible}

module _ {A B : Type 0} where
  -- ---- answers

  pub mem-answers : (f : A → Option B) (xs : List A) (x : A) (y : B) → Memᴰ x xs → f x ≡ Some y → Memᴰ y (answers f xs)
  unfolding answers cons_answer
  mem-answers f [] x y m e = absurd (Memᴰ.not-nil m)
  mem-answers f (z ∷ zs) x y m e = elim (Memᴰ.cases_cons m) [
    | inl p ↦ subst (λ (o : Option B). Memᴰ y (cons_answer o (answers f zs))) (sym e ∙ ap f p) (Memᴰ.head refl)
    | inr v ↦ more (f z) (mem-answers f zs x y v e)
  ]
    where
      more : (o : Option B) → Memᴰ y (answers f zs) → Memᴰ y (cons_answer o (answers f zs))
      more None m = m
      more (Some w) m = Memᴰ.tail m

  pub answers-mem : (f : A → Option B) (xs : List A) (y : B) → Memᴰ y (answers f xs) → (x : A) × Memᴰ x xs × (f x ≡ Some y)
  unfolding answers cons_answer
  answers-mem f [] y m = absurd (Memᴰ.not-nil m)
  answers-mem f (z ∷ zs) y m = from (f z) refl (answers-mem f zs y) m
    where
      from : (o : Option B) → f z ≡ o → (Memᴰ y (answers f zs) → (x : A) × Memᴰ x zs × (f x ≡ Some y))
          → Memᴰ y (cons_answer o (answers f zs)) → (x : A) × Memᴰ x (z ∷ zs) × (f x ≡ Some y)
      from None e ih m = let (x, u, q) = ih m in (x, Memᴰ.tail u, q)
      from (Some w) e ih m = elim (Memᴰ.cases_cons m) [
        | inl p ↦ (z, Memᴰ.head refl, e ∙ ap Some (sym p))
        | inr v ↦ let (x, u, q) = ih v in (x, Memᴰ.tail u, q)
      ]

  -- ---- first

  pub first_some : (f : A → Option B) (xs : List A) (y : B) → first f xs ≡ Some y → (x : A) × Memᴰ x xs × (f x ≡ Some y)
  unfolding first
  first_some f [] y e = impossible cc
  first_some f (z ∷ zs) y e = from (f z) refl (first_some f zs y) e
    where
      from : (o : Option B) → f z ≡ o → (first f zs ≡ Some y → (x : A) × Memᴰ x zs × (f x ≡ Some y))
          → elim o [ None ↦ first f zs | Some w ↦ Some w ] ≡ Some y → (x : A) × Memᴰ x (z ∷ zs) × (f x ≡ Some y)
      from None e ih q = let (x, u, p) = ih q in (x, Memᴰ.tail u, p)
      from (Some w) e ih q = (z, Memᴰ.head refl, e ∙ q)

  pub first-none : (f : A → Option B) (xs : List A) (x : A) → first f xs ≡ None → Memᴰ x xs → f x ≡ None
  unfolding first
  first-none f [] x e m = absurd (Memᴰ.not-nil m)
  first-none f (z ∷ zs) x e m = from (f z) refl (first-none f zs x) e
    where
      from : (o : Option B) → f z ≡ o → (first f zs ≡ None → Memᴰ x zs → f x ≡ None)
          → ◌≡◌ {A = Option B} (elim o [ None ↦ first f zs | Some w ↦ Some w ]) None → f x ≡ None
      from None p ih q = elim (Memᴰ.cases_cons m) [ inl u ↦ ap f u ∙ p | inr v ↦ ih q v ]
      from (Some w) p ih q = impossible cc

  pub first-same : (f g : A → Option B) (xs : List A) → ((x : A) → f x ≡ g x) → first f xs ≡ first g xs
  unfolding first
  first-same f g [] h = refl
  first-same f g (x ∷ xs) h =
      ap₂ (λ (o : Option B) (r : Option B). elim o as (λ _. Option B) [ None ↦ r | Some y ↦ Some y ]) (h x) (first-same f g xs h)

  -- the first answer stands at k if nothing before k has one
  pub first-at : (f : A → Option B) (xs : List A) (d : A) (k : ℕ) (y : B) → k < length xs → ((j : ℕ) → j < k → f (get_or xs j d) ≡ None)
      → f (get_or xs k d) ≡ Some y → first f xs ≡ Some y
  unfolding first
  first-at f [] d k y h before here = absurd (not-suc-le-zero h)
  first-at f (x ∷ xs) d zero y h before here = rw (here, first)
  first-at f (x ∷ xs) d (suc k) y h before here =
      rw (before 0 (omega arith), first) (first-at f xs d k y (le_of_suc-le-suc h) (λ j l. before (suc j) (omega arith)) here)

  pub first-nowhere : (f : A → Option B) (xs : List A) (d : A) → ((j : ℕ) → j < length xs → f (get_or xs j d) ≡ None) → first f xs ≡ None
  unfolding first
  first-nowhere f [] d before = refl
  first-nowhere f (x ∷ xs) d before =
      rw (before 0 (omega arith), first) (first-nowhere f xs d (λ j l. before (suc j) (omega arith)))
