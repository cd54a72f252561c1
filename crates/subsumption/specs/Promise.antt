-- What the catalogue's call promises, for every file and all four areas (02, [7]).
--
-- In order: an a that is no b, in a finite world; what an entry says of two names, by the meaning of ALCI; an accepted file; the whole promise.
-- It is kept: proofs/Kept. The table is reflexive and transitive: proofs/Order.
use Rattle.std.specs.Prelude.{◌≡◌, not, [], ◌∷◌, ◌⊎◌, ℕ, ◌+◌, ◌*◌, ◌<◌, T, length, get_or}
use Rattle.concepts.specs.Lists.{Bytes}
use Rattle.concepts.specs.RowSet.{from_list}
use Rattle.meaning.specs.Meaning.{World, finite, Obeys, ObeysInclusions}
use Rattle.rulefile.specs.Format.{RuleFile, refused, accepted, reading}
use Rattle.procedure.specs.Problem.{problem}
use Rattle.procedure.specs.Graph.{Area, Result, FindsNoPlace}
use Rattle.procedure.specs.Tableau.{run}
use Rattle.run.specs.Run.{Lengths, capacity}
use Rattle.subsumption.specs.Names.{positive, negative, names}
use Rattle.subsumption.specs.Catalogue.{Areas, lent, catalogue, CatalogueNumbers, refusal_alone, numbers, areas_after}

-- ---- "an a that isn't a b"

-- a finite world that obeys every rule at each of its elements and every inclusion, and in it an element where the name a holds and b does not
pub record Counterexample (f : RuleFile) (a b : ℕ) : Type 0 where
  pub world : World
  pub obeys : Obeys (finite world) f.table f.tbox
  pub includes : ObeysInclusions (finite world) f.table
  pub element : ℕ
  pub inside : element < world.size
  pub is_a : T (world.named a element)
  pub is_no_b : T (not (world.named b element))

-- ---- an entry

-- the run for row a, column b: it wants a's kind 1 row and b's kind 2 row together
abbrev pub ran_for : RuleFile → Lengths → ℕ → ℕ → Result
ran_for f l a b = run (problem f.table f.tbox (positive f.table a ∷ negative f.table b ∷ [])) (capacity l)

-- an entry that is not 2
abbrev pub Decided : ℕ → Type 0
Decided v = v ≡ 2 → ⊥

-- the entry v says of the names a and b
pub record EntryRight (f : RuleFile) (l : Lengths) (a b v : ℕ) : Type 0 where
  pub value : (v ≡ 0) ⊎ ((v ≡ 1) ⊎ (v ≡ 2))
  -- 2 exactly when a record of that run finds no place
  pub short : v ≡ 2 → (r : Area) × FindsNoPlace r (ran_for f l a b)
  pub short_only : (r : Area) → FindsNoPlace r (ran_for f l a b) → v ≡ 2
  -- else 1 exactly when no finite world of any size that obeys the rules has an a that is no b
  pub under : v ≡ 1 → Counterexample f a b → ⊥
  pub under_only : Decided v → (Counterexample f a b → ⊥) → v ≡ 1
  -- and 0 exactly when one has
  pub apart : v ≡ 0 → Counterexample f a b
  pub apart_only : Decided v → Counterexample f a b → v ≡ 0

-- ---- an accepted file

-- the entry in row i, column j of a table of m names: "row after row"
abbrev pub entry_at : Bytes → ℕ → ℕ → ℕ → ℕ
entry_at table m i j = get_or table (i * m + j) 0

-- how many bytes the table of its names has
abbrev pub square : RuleFile → ℕ
square f = length (names f.table) * length (names f.table)

-- the file f is accepted, r are the numbers of the answer, and the areas hold `before` and then `after`
pub record TableRight (f : RuleFile) (before : Areas) (r : CatalogueNumbers) (after : Areas) : Type 0 where
  -- 17 exactly where the area is shorter than the square, then zeros elsewhere and no area is changed; and no other refusal
  pub too_short : r.refusal ≡ 17 → (length before.table < square f) × (r ≡ refusal_alone 17) × (after ≡ before)
  pub too_short_only : length before.table < square f → r.refusal ≡ 17
  pub no_other : (r.refusal ≡ 17 → ⊥) → r.refusal ≡ 0
  -- else which names are listed, and how many
  pub count_is : r.refusal ≡ 0 → r.count ≡ length (names f.table)
  pub names_are : r.refusal ≡ 0 → r.names ≡ from_list (names f.table)
  -- and each entry is right of the names of its row and its column
  pub entries : r.refusal ≡ 0 → (i j : ℕ) → i < r.count → j < r.count
      → EntryRight f (lent before) (get_or (names f.table) i 0) (get_or (names f.table) j 0) (entry_at after.table r.count i j)

-- ---- the whole promise: the call found the areas `before` and left them as `after`

pub record CataloguePromise (file : Bytes) (before : Areas) (r : CatalogueNumbers) (after : Areas) : Type 0 where
  -- the answer's numbers and every byte of the four areas are those of the definition
  pub numbers_are : r ≡ numbers (catalogue file (lent before) (length before.table))
  pub areas_are : after ≡ areas_after (catalogue file (lent before) (length before.table)) before
  -- a file that check n refuses: its number, zeros elsewhere, and nothing touched
  pub refusal : (n : ℕ) → reading file ≡ refused n → (r ≡ refusal_alone n) × (after ≡ before)
  -- an accepted file
  pub right : (f : RuleFile) → reading file ≡ accepted f → TableRight f before r after
