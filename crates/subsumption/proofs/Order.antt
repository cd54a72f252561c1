-- The table orders the names: reflexive outside entries 2, and transitive wherever the three entries are decided (02, [7]). Over the meaning of ALCI alone.
--
-- In order: of entries that are right; of the table that the call leaves.
use mathlib.Core.Path.{◌≡◌, refl}
use mathlib.Core.Bool.{Bool, true, false, not}
use Prim.Native.Nat.{ℕ, ◌<◌}
use lib.Dec.{T}
use Rattle.concepts.specs.Lists.{Bytes}
use Rattle.rulefile.specs.Format.{RuleFile, accepted, reading}
use Rattle.run.specs.Run.{Lengths}
use Rattle.subsumption.specs.Catalogue.{Areas, CatalogueNumbers}
use Rattle.subsumption.specs.Promise.{Counterexample, Decided, EntryRight, entry_at, CataloguePromise}

-- ---- of entries that are right

-- no a is no a
none-itself : {f : RuleFile} {a : ℕ} → Counterexample f a a → ⊥
none-itself {a = a} c = by (c.world.named a c.element) c.is_a c.is_no_b
  where
    by : (x : Bool) → T x → T (not x) → ⊥
    by true p q = q
    by false p q = p

-- an a that is no c is a b that is no c, or an a that is no b
by-the-middle : {f : RuleFile} {a b c : ℕ} → (Counterexample f a b → ⊥) → (Counterexample f b c → ⊥) → Counterexample f a c → ⊥
by-the-middle {f} {a} {b} {c} first second x = by (x.world.named b x.element) refl
  where
    by : (t : Bool) → x.world.named b x.element ≡ t → ⊥
    by true e = second (record {
      world = x.world;
      obeys = x.obeys;
      includes = x.includes;
      element = x.element;
      inside = x.inside;
      is_a = rw e tt;
      is_no_b = x.is_no_b;
    })
    by false e = first (record {
      world = x.world;
      obeys = x.obeys;
      includes = x.includes;
      element = x.element;
      inside = x.inside;
      is_a = x.is_a;
      is_no_b = rw e tt;
    })

module _ {f : RuleFile} {l : Lengths} where
  pub entries-reflexive : {a v : ℕ} → EntryRight f l a a v → Decided v → v ≡ 1
  entries-reflexive E d = E.under_only d none-itself

  pub entries-transitive : {a b c u v w : ℕ} → EntryRight f l a b u → EntryRight f l b c v → EntryRight f l a c w → u ≡ 1 → v ≡ 1 → Decided w
      → w ≡ 1
  entries-transitive A B C p q d = C.under_only d (by-the-middle (A.under p) (B.under q))

-- ---- of the table that the call leaves

module _ {file : Bytes} {before : Areas} {r : CatalogueNumbers} {after : Areas} (P : CataloguePromise file before r after) {f : RuleFile}
    (e : reading file ≡ accepted f) (filled : r.refusal ≡ 0) where
  -- the entry in row i, column j
  abbrev at : ℕ → ℕ → ℕ
  at i j = entry_at after.table r.count i j

  -- "Outside entries 2, the table must be reflexive"
  pub table-reflexive : (i : ℕ) → i < r.count → Decided (at i i) → at i i ≡ 1
  table-reflexive i h d = entries-reflexive ((P.right f e).entries filled i i h h) d

  -- "and transitive wherever the three entries are decided"
  pub table-transitive : (i j k : ℕ) → i < r.count → j < r.count → k < r.count → at i j ≡ 1 → at j k ≡ 1 → Decided (at i k)
      → at i k ≡ 1
  table-transitive i j k hi hj hk p q d =
      let right = (P.right f e).entries filled in
      entries-transitive (right i j hi hj) (right j k hj hk) (right i k hi hk) p q d
