-- Laws of what becomes of a row, one line for each kind and sign.
--
-- In order: the rows of a shape are the arguments of the concept (`shape-rows`); the row that is written is one of a rule file over what was put for
-- them (`shape-written`).
-- That it means the same is in ShapeMeaning.
use Rattle.std.specs.Prelude.{◌≡◌, refl, true, false, List, [], ◌∷◌, ℕ, T}
use Rattle.concepts.specs.Concept.{Concept, atomic, negated, conj, disj, univ, exist, inclusion, neg, impl, arguments, is_inclusion, is_normal}
use Rattle.decoding.specs.RowParts.{in_range}
use Rattle.drafts.specs.Normalize.{Sign, Shape, literal, other, unary, binary, shape}

abbrev pub shape_rows : Shape → List ℕ
shape_rows (literal c) = []
shape_rows (other s k) = k ∷ []
shape_rows (unary make s k) = k ∷ []
shape_rows (binary make s k z l) = k ∷ l ∷ []

-- a row that names these rows, of a kind of a rule file; its name or role is that of the concept, and it is an inclusion if that is one
pub record RowLike (c : Concept) (named : List ℕ) (x : Concept) : Type 0 where
  pub names : arguments x ≡ named
  pub normal : T (is_normal x)
  pub ranged : in_range x ≡ in_range c
  pub included : is_inclusion x ≡ is_inclusion c

abbrev pub ShapeWritten : Concept → Shape → Type 0
ShapeWritten c (literal x) = RowLike c [] x
ShapeWritten c (other s k) = Unit {0}
ShapeWritten c (unary make s k) = (i : ℕ) → RowLike c (i ∷ []) (make i)
ShapeWritten c (binary make s k z l) = (i j : ℕ) → RowLike c (i ∷ j ∷ []) (make i j)

shape-laws : (c : Concept) (s : Sign) → (shape_rows (shape c s) ≡ arguments c) × ShapeWritten c (shape c s)
unfolding shape in_range
shape-laws (atomic a) true = (refl, record { names = refl; normal = tt; ranged = refl; included = refl })
shape-laws (atomic a) false = (refl, record { names = refl; normal = tt; ranged = refl; included = refl })
shape-laws (negated a) true = (refl, record { names = refl; normal = tt; ranged = refl; included = refl })
shape-laws (negated a) false = (refl, record { names = refl; normal = tt; ranged = refl; included = refl })
shape-laws (conj l r) true = (refl, λ i j. record { names = refl; normal = tt; ranged = refl; included = refl })
shape-laws (conj l r) false = (refl, λ i j. record { names = refl; normal = tt; ranged = refl; included = refl })
shape-laws (disj l r) true = (refl, λ i j. record { names = refl; normal = tt; ranged = refl; included = refl })
shape-laws (disj l r) false = (refl, λ i j. record { names = refl; normal = tt; ranged = refl; included = refl })
shape-laws (univ ρ l) true = (refl, λ i. record { names = refl; normal = tt; ranged = refl; included = refl })
shape-laws (univ ρ l) false = (refl, λ i. record { names = refl; normal = tt; ranged = refl; included = refl })
shape-laws (exist ρ l) true = (refl, λ i. record { names = refl; normal = tt; ranged = refl; included = refl })
shape-laws (exist ρ l) false = (refl, λ i. record { names = refl; normal = tt; ranged = refl; included = refl })
shape-laws (inclusion ρ σ) s = (refl, record { names = refl; normal = tt; ranged = refl; included = refl })
shape-laws (neg l) s = (refl, tt)
shape-laws (impl l r) true = (refl, λ i j. record { names = refl; normal = tt; ranged = refl; included = refl })
shape-laws (impl l r) false = (refl, λ i j. record { names = refl; normal = tt; ranged = refl; included = refl })

pub shape-rows : (c : Concept) (s : Sign) → shape_rows (shape c s) ≡ arguments c
shape-rows c s = (shape-laws c s).0

pub shape-written : (c : Concept) (s : Sign) → ShapeWritten c (shape c s)
shape-written c s = (shape-laws c s).1
