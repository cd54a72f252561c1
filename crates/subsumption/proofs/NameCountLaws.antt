-- How many names are listed: each has two rows of its own, so at most half as many as there are rows (`names-half`).
--
-- In order: no name is listed twice; the rows of some names, two for each; no row is of two names, nor of both kinds; the count.
-- Assumes nothing.
use Rattle.std.specs.Prelude.{◌≡◌, Bool, true, false, ◌⊎◌, ℕ, zero, suc, ◌*◌, ◌≤◌, ◌<◌, length}
use Rattle.std.proofs.Math.Path.{refl}
use mathlib.Core.List.Memᴰ
use mathlib.Core.List.{List, [], ◌∷◌, Memᴰ}
use Rattle.std.proofs.Math.Logic.{inl, inr}
use Rattle.std.proofs.Common.{arith}
use Rattle.concepts.specs.Tests.{impossible}
use Rattle.concepts.specs.Lists.{range, select}
use Rattle.concepts.specs.ListLaws.{select-mem, range-mem}
use Rattle.concepts.specs.Counting.{Distinct, distinct-below}
use Rattle.concepts.specs.Concept.{atomic, negated, Table, concept_at}
use Rattle.subsumption.specs.Names.{positive, negative, has_both, names}
use Rattle.subsumption.proofs.NameLaws.{names-positive, names-negative}

-- ---- no name is listed twice

distinct-select : (f : ℕ → Bool) (i n : ℕ) → Distinct (select f (range i n))
unfolding select range
distinct-select f i zero = tt
distinct-select f i (suc n) = by (f i) (distinct-select f (suc i) n)
  where
    by : (b : Bool) → Distinct (select f (range (suc i) n)) → Distinct (elim b [ true ↦ i ∷ select f (range (suc i) n) | false ↦ select f (range (suc i) n) ])
    by true rest = (λ m. omega (arith, (range-mem (suc i) n i (select-mem f (range (suc i) n) i m).0).0), rest)
    by false rest = rest

names-distinct : (t : Table) → Distinct (names t)
unfolding names
names-distinct t = distinct-select (has_both t) 0 64

-- ---- the rows of some names

module _ (t : Table) where
  rows_of : List ℕ → List ℕ
  rows_of [] = []
  rows_of (a ∷ ns) = positive t a ∷ negative t a ∷ rows_of ns

  length-rows_of : (ns : List ℕ) → length (rows_of ns) ≡ 2 * length ns
  unfolding rows_of
  length-rows_of [] = refl
  length-rows_of (a ∷ ns) = omega (arith, length-rows_of ns)

  -- a row of one of them: whose, and which of its two rows
  record RowOf (ns : List ℕ) (k : ℕ) : Type 0 where
    name : ℕ
    there : Memᴰ name ns
    inside : k < length t
    is : (concept_at t k ≡ atomic name) ⊎ (concept_at t k ≡ negated name)

  abbrev Listed : List ℕ → Type 0
  Listed ns = (a : ℕ) → Memᴰ a ns → Memᴰ a (names t)

  row_of : (ns : List ℕ) → Listed ns → (k : ℕ) → Memᴰ k (rows_of ns) → RowOf ns k
  unfolding rows_of
  row_of [] h k m = absurd (Memᴰ.not-nil m)
  row_of (a ∷ ns) h k (Memᴰ.head e) =
      let (below, is) = names-positive t a (h a (Memᴰ.head refl)) in
      record { name = a; there = Memᴰ.head refl; inside = rw e below; is = inl (rw e is) }
  row_of (a ∷ ns) h k (Memᴰ.tail (Memᴰ.head e)) =
      let (below, is) = names-negative t a (h a (Memᴰ.head refl)) in
      record { name = a; there = Memᴰ.head refl; inside = rw e below; is = inr (rw e is) }
  row_of (a ∷ ns) h k (Memᴰ.tail (Memᴰ.tail m)) =
      let R = row_of ns (λ b n. h b (Memᴰ.tail n)) k m in
      record { name = R.name; there = Memᴰ.tail R.there; inside = R.inside; is = R.is }

  -- ---- no row is of two names, nor of both kinds

  same-positive : {ns : List ℕ} {k : ℕ} (a : ℕ) → concept_at t k ≡ atomic a → RowOf ns k → Memᴰ a ns
  same-positive {ns} a p R = elim R.is [
    | inl q ↦ let e : R.name ≡ a = cc in rw (← e) R.there
    | inr q ↦ impossible cc
  ]

  same-negative : {ns : List ℕ} {k : ℕ} (a : ℕ) → concept_at t k ≡ negated a → RowOf ns k → Memᴰ a ns
  same-negative {ns} a p R = elim R.is [
    | inl q ↦ impossible cc
    | inr q ↦ let e : R.name ≡ a = cc in rw (← e) R.there
  ]

  rows-distinct : (ns : List ℕ) → Distinct ns → Listed ns → Distinct (rows_of ns)
  unfolding rows_of
  rows-distinct [] d h = tt
  rows-distinct (a ∷ ns) d h =
      let there = h a (Memᴰ.head refl) in
      let rest : Listed ns = λ b n. h b (Memᴰ.tail n) in
      let is = (names-positive t a there).1 in
      let none = (names-negative t a there).1 in
      (alone is none rest, ((λ m. d.0 (same-negative a none (row_of ns rest (negative t a) m))), rows-distinct ns d.1 rest))
    where
      alone : concept_at t (positive t a) ≡ atomic a → concept_at t (negative t a) ≡ negated a → Listed ns → Memᴰ (positive t a) (negative t a ∷ rows_of ns) → ⊥
      alone p q rest (Memᴰ.head e) = let same : concept_at t (negative t a) ≡ atomic a = rw (← e) p in impossible cc
      alone p q rest (Memᴰ.tail m) = d.0 (same-positive a p (row_of ns rest (positive t a) m))

  -- ---- the count

  pub names-half : 2 * length (names t) ≤ length t
  names-half =
      let all : Listed (names t) = λ a m. m in
      omega (arith, length-rows_of (names t), distinct-below (length t) (rows_of (names t)) (rows-distinct (names t) (names-distinct t) all) (λ k m. (row_of (names t) all k m).inside))
