-- Laws of Names.
--
-- In order: the place of the first concept that passes, from a row on (`place_of-drop`), and that it passes, if one does (`place_of-passes`, `passes-place_of`); a concept of a name;
-- a name is listed if and only if it has both rows (`names-positive`, `names-negative`, `mem-names`); a table row after row: length, entries, rows and columns that stand for others, more rows.
-- Assumes nothing.
use Rattle.std.specs.Prelude.{◌≡◌, Bool, ltb, drop, Option, None, Some}
use Rattle.std.proofs.Math.Path.{refl, sym, ap, ap₂, subst}
use Rattle.std.proofs.Common.{◌∙◌, eqb→eq, lt→ltb, length-append, drop-cons}
use Rattle.std.proofs.Math.Bool.{true, false, cond}
use mathlib.Core.List.{List, [], ◌∷◌, ◌++◌, map, map-map, append-nil, append_assoc, Memᴰ}
use Prim.Native.Nat.{ℕ, zero, suc, ◌+◌, ◌*◌, ◌≤◌, ◌<◌}
use Rattle.std.proofs.Math.Nat.{zero-mul, suc-mul}
use native.Mathlib.Omega.{arith}
use Rattle.std.proofs.Math.Dec.{T, eqb_refl, ltb→lt}
use Rattle.std.proofs.Math.ListN.{length, get_or, length-map, get_or-append}
use Rattle.std.proofs.Math.Seq.{get_or-append-add}
use Rattle.concepts.specs.Tests.{and_both, and-make, from-true}
use Rattle.concepts.specs.Lists.{range}
use Rattle.concepts.specs.ListLaws.{select-mem, mem-select, mem-range, range-mem, get_d_map, map_same}
use Rattle.concepts.specs.Concept.{Concept, atomic, negated, as_atomic, as_negated, Table, concept_at}
use Rattle.concepts.specs.ConceptLaws.{as_atomic-some, as_negated-some}
use Rattle.procedure.specs.Problem.{same_name}
use Rattle.subsumption.specs.Names.{place_of, of_name, positive, negative, has_both, names, row_after_row}

-- ---- the place of the first concept that passes

module _ (passes : Concept → Bool) where
  pub place_of-none : place_of passes [] ≡ 0
  unfolding place_of
  place_of-none = refl

  pub place_of-le : (t : Table) → place_of passes t ≤ length t
  unfolding place_of
  place_of-le [] = omega arith
  place_of-le (c ∷ t) = go (passes c) (place_of-le t)
    where
      go : (b : Bool) → place_of passes t ≤ length t → cond b zero (suc (place_of passes t)) ≤ suc (length t)
      go true h = omega arith
      go false h = omega arith

  -- from a row on: it is that row, or one behind it
  pub place_of-drop : (t : Table) (k : ℕ) → k < length t → place_of passes (drop k t) ≡ cond (passes (concept_at t k)) 0 (suc (place_of passes (drop (suc k) t)))
  unfolding place_of
  place_of-drop t k h = ap (place_of passes) (drop-cons t k (atomic 0) h)

  pub place_of-passes : (t : Table) → place_of passes t < length t → T (passes (concept_at t (place_of passes t)))
  unfolding place_of
  place_of-passes [] h = absurd (omega arith)
  place_of-passes (c ∷ t) h = go (passes c) refl (place_of-passes t) h
    where
      go : (b : Bool) → passes c ≡ b → (place_of passes t < length t → T (passes (concept_at t (place_of passes t))))
          → cond b zero (suc (place_of passes t)) < suc (length t) → T (passes (concept_at (c ∷ t) (cond b zero (suc (place_of passes t)))))
      go true e further l = from-true (passes c) e
      go false e further l = further (omega arith)

  pub passes-place_of : (t : Table) (k : ℕ) → k < length t → T (passes (concept_at t k)) → place_of passes t < length t
  unfolding place_of
  passes-place_of [] k h p = absurd (omega arith)
  passes-place_of (c ∷ t) k h p = go (passes c) refl (passes-place_of t) k h p
    where
      go : (b : Bool) → passes c ≡ b → ((j : ℕ) → j < length t → T (passes (concept_at t j)) → place_of passes t < length t)
          → (j : ℕ) → j < suc (length t) → T (passes (concept_at (c ∷ t) j)) → cond b zero (suc (place_of passes t)) < suc (length t)
      go true e further j l q = omega arith
      go false e further zero l q = absurd (subst T e q)
      go false e further (suc j) l q = omega (arith, further j (omega arith) q)

-- ---- a concept of a name

same_some : (o : Option ℕ) (a : ℕ) → T (same_name (Some a) o) → o ≡ Some a
same_some (Some b) a h = ap Some (sym (eqb→eq a b h))
same_some None a h = absurd h

module _ (view : Concept → Option ℕ) (a : ℕ) {c : Concept} where
  pub of_name-view : T (of_name view a c) → view c ≡ Some a
  unfolding of_name
  of_name-view h = same_some (view c) a h

  pub view-of_name : view c ≡ Some a → T (of_name view a c)
  unfolding of_name
  view-of_name e = subst (λ (o : Option ℕ). T (same_name (Some a) o)) (sym e) (eqb_refl a)

-- ---- the names

module _ (t : Table) (a : ℕ) where
  module _ (m : Memᴰ a (names t)) where
    names-both : (a < 64) × (positive t a < length t) × (negative t a < length t)
    unfolding names
    names-both =
        let (r, b) = select-mem (has_both t) (range 0 64) a m in
        let (p, n) = and_both (ltb (positive t a) (length t)) (ltb (negative t a) (length t)) b in
        (omega (arith, (range-mem 0 64 a r).1), ltb→lt (positive t a) (length t) p, ltb→lt (negative t a) (length t) n)

    pub names-below : a < 64
    names-below = names-both.0

    pub names-positive : (positive t a < length t) × (concept_at t (positive t a) ≡ atomic a)
    names-positive =
        let h = names-both.1 in
        (h, as_atomic-some (concept_at t (positive t a)) a (of_name-view as_atomic a (place_of-passes (of_name as_atomic a) t h)))

    pub names-negative : (negative t a < length t) × (concept_at t (negative t a) ≡ negated a)
    names-negative =
        let h = names-both.2 in
        (h, as_negated-some (concept_at t (negative t a)) a (of_name-view as_negated a (place_of-passes (of_name as_negated a) t h)))

  pub mem-names : a < 64 → (k j : ℕ) → k < length t → concept_at t k ≡ atomic a → j < length t → concept_at t j ≡ negated a → Memᴰ a (names t)
  unfolding names
  mem-names h k j hk p hj n =
      mem-select (has_both t) (range 0 64) a (mem-range 0 64 a (omega arith) (omega arith))
      (and-make (ltb (positive t a) (length t)) (ltb (negative t a) (length t))
      (lt→ltb (positive t a) (length t) (passes-place_of (of_name as_atomic a) t k hk (view-of_name as_atomic a (ap as_atomic p))))
      (lt→ltb (negative t a) (length t) (passes-place_of (of_name as_negated a) t j hj (view-of_name as_negated a (ap as_negated n)))))

-- ---- a table row after row

module _ (g : ℕ → ℕ → ℕ) where
  pub length-row_after_row : (rows columns : List ℕ) → length (row_after_row g rows columns) ≡ length rows * length columns
  unfolding row_after_row
  length-row_after_row [] columns = sym (zero-mul (length columns))
  length-row_after_row (a ∷ rows) columns =
      simp (length-append, length-map)
      (omega (arith, length-row_after_row rows columns, suc-mul (length rows) (length columns)))

  pub get_or-row_after_row : (rows columns : List ℕ) (i j : ℕ) → i < length rows → j < length columns
      → get_or (row_after_row g rows columns) (i * length columns + j) 0 ≡ g (get_or rows i 0) (get_or columns j 0)
  unfolding row_after_row
  get_or-row_after_row [] columns i j hi hj = absurd (omega arith)
  get_or-row_after_row (a ∷ rows) columns zero j hi hj =
      let here : 0 * length columns + j ≡ j = omega (arith, zero-mul (length columns)) in
      let row = map (g a) columns in
      ap (λ (n : ℕ). get_or (row ++ row_after_row g rows columns) n 0) here
      ∙ get_or-append row (row_after_row g rows columns) 0 j (omega (arith, length-map columns (g a)))
      ∙ get_d_map (g a) columns j 0 0 hj
  get_or-row_after_row (a ∷ rows) columns (suc i) j hi hj =
      let row = map (g a) columns in
      let there : suc i * length columns + j ≡ length row + (i * length columns + j) = omega (arith, suc-mul i (length columns), length-map columns (g a)) in
      ap (λ (n : ℕ). get_or (row ++ row_after_row g rows columns) n 0) there
      ∙ get_or-append-add row (row_after_row g rows columns) (i * length columns + j) 0
      ∙ get_or-row_after_row rows columns i j (omega arith) hj

  -- rows and columns that stand for others
  pub row_after_row-map : (f h : ℕ → ℕ) (xs ys : List ℕ) → row_after_row g (map f xs) (map h ys) ≡ row_after_row (λ x y. g (f x) (h y)) xs ys
  unfolding row_after_row
  row_after_row-map f h [] ys = refl
  row_after_row-map f h (x ∷ xs) ys = ap₂ (λ (l r : List ℕ). l ++ r) (map-map (g (f x)) h ys) (row_after_row-map f h xs ys)

  pub row_after_row-one : (x : ℕ) (columns : List ℕ) → row_after_row g (x ∷ []) columns ≡ map (g x) columns
  unfolding row_after_row
  row_after_row-one x columns = append-nil (map (g x) columns)

  -- more rows
  pub row_after_row-append : (xs zs columns : List ℕ) → row_after_row g (xs ++ zs) columns ≡ row_after_row g xs columns ++ row_after_row g zs columns
  unfolding row_after_row
  row_after_row-append [] zs columns = refl
  row_after_row-append (x ∷ xs) zs columns =
      ap (λ (l : List ℕ). map (g x) columns ++ l) (row_after_row-append xs zs columns)
      ∙ sym (append_assoc (map (g x) columns) (row_after_row g xs columns) (row_after_row g zs columns))

-- entries that are the same of all rows and columns
pub row_after_row-same : (g h : ℕ → ℕ → ℕ) (rows columns : List ℕ) → ((a b : ℕ) → Memᴰ a rows → Memᴰ b columns → g a b ≡ h a b)
    → row_after_row g rows columns ≡ row_after_row h rows columns
unfolding row_after_row
row_after_row-same g h [] columns e = refl
row_after_row-same g h (a ∷ rows) columns e =
    ap₂ (λ (l r : List ℕ). l ++ r) (map_same (g a) (h a) columns (λ b m. e a b (Memᴰ.head refl) m)) (row_after_row-same g h rows columns (λ x y m n. e x y (Memᴰ.tail m) n))
