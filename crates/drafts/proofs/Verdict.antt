-- Verdicts carry over: what the engine says of a converted draft is true of the draft as its writer meant it.
--
-- In order: what is said of the draft (`SpeaksOf`); rows of a list that hold at an element; models of the draft and of the file; the theorem
-- (`verdict-of-draft`), which joins the converter's promise with the engine's.
use mathlib.Core.Path.{◌≡◌, subst}
use mathlib.Core.List.{List, Memᴰ}
use Prim.Native.Nat.{ℕ, ◌<◌}
use native.Mathlib.Omega.{arith}
use lib.ListN.{length, get_or, take}
use Rattle.concepts.specs.Lists.{Bytes}
use Rattle.concepts.specs.ListLaws.{get_or-mem, mem-get_or}
use Rattle.concepts.specs.Concept.{Table}
use Rattle.meaning.specs.Meaning.{World, finite, Holds, Obeys, Member, ObeysInclusions, Model}
use Rattle.rulefile.specs.Format.{RuleFile, accepted, reading}
use Rattle.procedure.specs.Example.{world_of}
use Rattle.run.specs.Run as Run
use Rattle.run.specs.ExampleBytes.{example_in}
use Rattle.run.specs.Promise as Engine
use Rattle.run.specs.Promise.{NotShort, SaysCannot, SaysCan}
use Rattle.drafts.specs.Conversion.{ConversionNumbers, draft_reading}
use Rattle.drafts.specs.Promise.{Same, Keeps, ConversionPromise}
use Rattle.drafts.proofs.InclusionRowLaws.{obeys-inclusions}

-- ---- what is said of the draft

abbrev pub DraftModel : RuleFile → Type 0
DraftModel d = Model d.table d.tbox d.wanted

-- the engine answered r to the file f, and the example areas hold `after`; d is the draft
pub record SpeaksOf (d f : RuleFile) (r : Run.Numbers) (after : Run.Areas) : Type 0 where
  -- unless a record finds no place, "cannot" exactly when no finite world of any size obeys the draft's rules and inclusions and has a member of its kit
  pub cannot : SaysCannot r → DraftModel d → ⊥
  pub cannot_only : NotShort r → (DraftModel d → ⊥) → SaysCannot r
  -- "can" or 11 exactly when one does
  pub can : SaysCan r → DraftModel d
  pub can_only : NotShort r → DraftModel d → SaysCan r
  -- with "can" the world read from the bytes of the example areas is such a world, and its element 0 a member
  pub example : r.verdict ≡ 1
      → let W = finite (world_of f.table (example_in after.elements after.links r.elements r.links)) in
      Obeys W d.table d.tbox × ObeysInclusions W d.table × Member W d.table d.wanted 0

-- ---- the rows of a list

-- rows of two lists that hold of the same elements, place by place
module _ (W : World) (t u : Table) (ks js : List ℕ) (same : (i : ℕ) → i < length ks → Same W t (get_or ks i 0) u (get_or js i 0))
    (count : length js ≡ length ks)
    (e : ℕ) (h : e < W.size) where
  list-there : ((k : ℕ) → Memᴰ k ks → Holds (finite W) t k e) → (j : ℕ) → Memᴰ j js → Holds (finite W) u j e
  list-there all j m =
      let (i, b, q) = mem-get_or js j 0 m in
      let inside : i < length ks = omega arith in
      subst (λ (x : ℕ). Holds (finite W) u x e) q ((same i inside e h).0 (all (get_or ks i 0) (get_or-mem ks i 0 inside)))

  list_back : ((j : ℕ) → Memᴰ j js → Holds (finite W) u j e) → (k : ℕ) → Memᴰ k ks → Holds (finite W) t k e
  list_back all k m =
      let (i, b, q) = mem-get_or ks k 0 m in
      subst (λ (x : ℕ). Holds (finite W) t x e) q ((same i b e h).1 (all (get_or js i 0) (get_or-mem js i 0 (omega arith))))

-- ---- models

module _ {d f : RuleFile} (K : Keeps d f) where
  module _ (W : World) where
    obeys-there : Obeys (finite W) d.table d.tbox → Obeys (finite W) f.table f.tbox
    obeys-there o j m e h = list-there W d.table f.table d.tbox f.tbox (K.rules W) K.rule_count e h (λ k n. o k n e h) j m

    obeys-back : Obeys (finite W) f.table f.tbox → Obeys (finite W) d.table d.tbox
    obeys-back o k m e h = list_back W d.table f.table d.tbox f.tbox (K.rules W) K.rule_count e h (λ j n. o j n e h) k m

    includes-there : ObeysInclusions (finite W) d.table → ObeysInclusions (finite W) f.table
    includes-there = (obeys-inclusions d.table f.table K.inclusions K.others (finite W)).0

    includes-back : ObeysInclusions (finite W) f.table → ObeysInclusions (finite W) d.table
    includes-back = (obeys-inclusions d.table f.table K.inclusions K.others (finite W)).1

    member-there : {e : ℕ} → Member (finite W) d.table d.wanted e → Member (finite W) f.table f.wanted e
    member-there {e} (h, all) = (h, list-there W d.table f.table d.wanted f.wanted (K.kit W) K.kit_count e h all)

    member_back : {e : ℕ} → Member (finite W) f.table f.wanted e → Member (finite W) d.table d.wanted e
    member_back {e} (h, all) = (h, list_back W d.table f.table d.wanted f.wanted (K.kit W) K.kit_count e h all)

  model-there : DraftModel d → Model f.table f.tbox f.wanted
  model-there m = record {
    world = m.world;
    obeys = obeys-there m.world m.obeys;
    includes = includes-there m.world m.includes;
    element = m.element;
    member = member-there m.world m.member;
  }

  model-back : Model f.table f.tbox f.wanted → DraftModel d
  model-back m = record {
    world = m.world;
    obeys = obeys-back m.world m.obeys;
    includes = includes-back m.world m.includes;
    element = m.element;
    member = member_back m.world m.member;
  }

  speaks : {l : Run.Lengths} {r : Run.Numbers} {after : Run.Areas} → Engine.Right f l r after → SpeaksOf d f r after
  speaks {l} {r} {after} E = record {
    cannot = λ s m. E.cannot s (model-there m);
    cannot_only = λ n none. E.cannot_only n (λ m. none (model-back m));
    can = λ s. model-back (E.can s);
    can_only = λ n m. E.can_only n (model-there m);
    example = λ v.
        let W = world_of f.table (example_in after.elements after.links r.elements r.links) in
        (obeys-back W (E.example v).obeys, includes-back W (E.example v).includes, member_back W (E.example v).member);
  }

-- ---- the theorem

-- the draft d was converted, and the engine ran on the bytes that were written
pub verdict-of-draft : (draft area : Bytes) (c : ConversionNumbers) (area' : Bytes) → ConversionPromise draft area c area'
    → (d : RuleFile) → draft_reading draft ≡ accepted d → c.refusal ≡ 0
    → (before : Run.Areas) (r : Run.Numbers) (after : Run.Areas) → Engine.Promise (take c.length area') before r after
    → (f : RuleFile) × (reading (take c.length area') ≡ accepted f) × SpeaksOf d f r after
verdict-of-draft draft area c area' P d e z before r after Q =
    let (f, reads, K) = (P.right d e).result z in
    (f, reads, speaks K (Q.right f reads))
