-- A row that is shared. Theorems on them are in proofs/ShareLaws.
use Rattle.std.specs.Prelude.{◌≡◌, Bool, ℕ, [], ◌∷◌, ◌++◌, ◌⊎◌, ◌<◌, length}
use Rattle.concepts.specs.Lists.{NoneBelow}
use Rattle.concepts.specs.Begins.{Begins}
use Rattle.concepts.specs.Concept.{Concept, Table, concept_at}
use Rattle.drafts.specs.Normalize.{same_row, Put}

-- ---- the first equal row

module _ (c : Concept) (out : Table) where
  -- row k is equal to c
  abbrev pub equal_at : ℕ → Bool
  equal_at k = same_row c (concept_at out k)

-- ---- what sharing a row gives

pub record Shared (c : Concept) (out : Table) (p : Put) : Type 0 where
  pub more : Begins out p.rows
  pub inside : p.at < length p.rows
  pub here : concept_at p.rows p.at ≡ c
  -- no lower row is equal to it
  pub least : NoneBelow (equal_at c p.rows) p.at
  -- it is there already, or it is the only new row
  pub which : (p.rows ≡ out) ⊎ ((p.rows ≡ out ++ c ∷ []) × (p.at ≡ length out) × NoneBelow (equal_at c out) (length out))
