-- The inclusions of a table, written into the words of a problem (02, [6]).
--
-- In order: a set that joins another; what is written: into the words of narrower roles, and into the masks along a role, word by word and as a whole;
-- words that are left as they are, the words in use, and a pair of roles more; the inclusion in a row, and in the first rows. Laws are in ChainingLaws.
-- The masks along a role and the words of narrower roles hold a relation (`Reaching`, `Narrowing` in Decoded); each pair that is added makes it the relation
-- with that pair chained to it.
use Rattle.std.specs.Prelude.{◌≡◌, Bool, false, cond, List, ℕ, ◌+◌, ◌*◌, ◌≤◌, ◌<◌, eqb, get_or}
use Rattle.concepts.specs.Concept.{Table}
use Rattle.concepts.specs.Inclusion.{Relation, chained, including, narrower_by}
use Rattle.concepts.specs.RowSet.{mem, union, single}
use Rattle.words.specs.Sizes.{set_words}
use Rattle.problem.specs.Layout.{universals_at, narrows_at, role_place}
use Rattle.problem.specs.Decoded.{used_of, mask_of, part_of, table_of, Reaching, Narrowing}
use Rattle.decoder.specs.Remade.{Beside, Remade}

-- a set that joins another where a test passes
abbrev pub joining : Bool → ℕ → ℕ → ℕ
joining test x s = cond test (union s x) s

-- ---- what is written into the words of narrower roles

-- each role is narrower than itself
abbrev pub Sames : ℕ → List ℕ → List ℕ → Type 0
Sames n w w' = Remade (λ σ. narrows_at + σ) n (λ σ _. single σ) w w'

-- what σ is narrower than has what is narrower than ρ, too
abbrev pub JoinsNarrows : ℕ → ℕ → ℕ → List ℕ → List ℕ → Type 0
JoinsNarrows n ρ σ w w' = Remade (λ c. narrows_at + c) n (λ c s. joining (mem σ s) (get_or w (narrows_at + ρ) 0) s) w w'

-- ---- what is written into the masks along a role: what is narrower than ρ has the rows that reach along σ, too

-- those of word j, in the masks along the first n roles
abbrev pub JoinsWord : ℕ → ℕ → ℕ → ℕ → List ℕ → List ℕ → Type 0
JoinsWord j n ρ σ w w' = Remade (λ c. role_place c + j) n (λ c. joining (mem c (get_or w (narrows_at + ρ) 0)) (get_or w (role_place σ + j) 0)) w w'

-- those of the first n words
pub record JoinsWords (n ρ σ : ℕ) (w w' : List ℕ) : Type 0 where
  pub beside : Beside universals_at (32 * set_words) w w'
  pub done : (c j : ℕ) → c < 32 → j < n
      → get_or w' (role_place c + j) 0 ≡ joining (mem c (get_or w (narrows_at + ρ) 0)) (get_or w (role_place σ + j) 0) (get_or w (role_place c + j) 0)
  pub ahead : (c j : ℕ) → c < 32 → n ≤ j → j < set_words → get_or w' (role_place c + j) 0 ≡ get_or w (role_place c + j) 0

-- all of them
pub record JoinsUniversals (ρ σ : ℕ) (w w' : List ℕ) : Type 0 where
  pub beside : Beside universals_at (32 * set_words) w w'
  pub rows : (c : ℕ) → c < 32 → mask_of w' (role_place c) ≡ joining (mem c (get_or w (narrows_at + ρ) 0)) (mask_of w (role_place σ))
      (mask_of w (role_place c))

-- ---- the words of a problem

-- only the masks along a role and the words of narrower roles may differ
abbrev pub RowsKept : List ℕ → List ℕ → Type 0
RowsKept w w' = Beside universals_at (32 * set_words + 32) w w'

-- the rows along a role are of the words in use
pub record InUse (w : List ℕ) : Type 0 where
  pub few : used_of w ≤ set_words
  pub none : (ρ : ℕ) → ρ < 32 → (k : ℕ) → 64 * used_of w ≤ k → mem k (mask_of w (role_place ρ)) ≡ false

-- the pair (ρ, σ) is chained to the relation that the words hold, whichever it is
pub record Chains (ρ σ : ℕ) (w w' : List ℕ) : Type 0 where
  pub kept : RowsKept w w'
  pub in_use : InUse w'
  pub reaching : (t : Table) (R : Relation) → Reaching t R w → Narrowing R w → Reaching t (chained R ρ σ) w'
  pub narrowing : (R : Relation) → Narrowing R w → Narrowing (chained R ρ σ) w'

-- ---- inclusions

-- the relation with the inclusion in row k, if row k is one
abbrev pub with_row : List ℕ → ℕ → Relation → Relation
with_row w k R = cond (eqb (part_of w k 0) 7) (including R (part_of w k 1) (part_of w k 2)) R

-- the role codes of an inclusion in row k
abbrev pub RolesAt : List ℕ → ℕ → Type 0
RolesAt w k = part_of w k 0 ≡ 7 → (part_of w k 1 < 32) × (part_of w k 2 < 32)

-- the inclusion in row k, if it is one, is added
pub record IncludesRow (k : ℕ) (w w' : List ℕ) : Type 0 where
  pub kept : RowsKept w w'
  pub reaching : (t : Table) (R : Relation) → Reaching t R w → Narrowing R w → Reaching t (with_row w k R) w'
  pub narrowing : (R : Relation) → Narrowing R w → Narrowing (with_row w k R) w'

-- those in the first n rows are
pub record Included (w : List ℕ) (n : ℕ) (w' : List ℕ) : Type 0 where
  pub kept : RowsKept w w'
  pub reaching : Reaching (table_of w) (narrower_by (table_of w) n) w'
  pub narrowing : Narrowing (narrower_by (table_of w) n) w'
