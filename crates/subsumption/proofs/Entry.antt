-- An entry is right of its two names: from the engine's answer to their two rows to the meaning of ALCI.
--
-- In order: the rows of listed names may be wanted; a model of the two rows is a counterexample, and back; the entry of an answer (`answered-right`);
-- of a file (`entry-right`).
use mathlib.Core.Path.{◌≡◌, refl, ap, ◌∙◌}
use mathlib.Core.List.Memᴰ
use mathlib.Core.List.{List, [], ◌∷◌, Memᴰ}
use mathlib.Core.Logic.{inl, inr}
use Prim.Native.Nat.{ℕ, ◌<◌}
use native.Mathlib.Omega.{arith}
use lib.ListN.{length}
use Rattle.concepts.specs.Lists.{Bytes}
use Rattle.concepts.specs.Concept.{atomic, negated, concept_at, NoInclusion, Ordered}
use Rattle.meaning.specs.Meaning.{Model, finite, Holds}
use Rattle.meaning.proofs.MeaningLaws.{holds_as}
use Rattle.decoding.specs.Decoding.{rule_kinds}
use Rattle.rulefile.specs.Format.{wanted_rows, RuleFile, accepted, reading, reading_for}
use Rattle.rulefile.proofs.FormatLaws.{accepted-admitted}
use Rattle.rulefile.specs.WantedLaws.{wanting}
use Rattle.rulefile.proofs.WantedLaws.{reading-wanting}
use Rattle.procedure.specs.Graph.{Area, room_for, FindsNoPlace}
use Rattle.procedure.specs.Example.{Example, world_of}
use Rattle.run.specs.Run.{Lengths, capacity, Answer, refused_file, short, cannot, can, too_long, undefined, answer_for, answer_result}
use Rattle.run.specs.Claim.{Shows}
use Rattle.run.proofs.Verdict.{Backs, answer-accepted, answer-backed}
use Rattle.subsumption.specs.Names.{positive, negative, names}
use Rattle.subsumption.proofs.NameLaws.{names-positive, names-negative}
use Rattle.subsumption.specs.Catalogue.{entry_of, entry}
use Rattle.subsumption.specs.Promise.{Counterexample, ran_for, EntryRight}

-- the two rows that are wanted for row a, column b
abbrev pub rows_for : RuleFile → ℕ → ℕ → List ℕ
rows_for f a b = positive f.table a ∷ negative f.table b ∷ []

module _ (f : RuleFile) (a b : ℕ) (ma : Memᴰ a (names f.table)) (mb : Memᴰ b (names f.table)) where
  -- ---- the rows of listed names

  abbrev is_row : concept_at f.table (positive f.table a) ≡ atomic a
  is_row = (names-positive f.table a ma).1

  abbrev no_row : concept_at f.table (negative f.table b) ≡ negated b
  no_row = (names-negative f.table b mb).1

  pub rows-serve : (k : ℕ) → Memᴰ k (rows_for f a b) → (k < length f.table) × NoInclusion f.table k
  rows-serve k (Memᴰ.head e) = rw e ((names-positive f.table a ma).0, rw is_row tt)
  rows-serve k (Memᴰ.tail (Memᴰ.head e)) = rw e ((names-negative f.table b mb).0, rw no_row tt)
  rows-serve k (Memᴰ.tail (Memᴰ.tail m)) = absurd (Memᴰ.not-nil m)

  -- ---- a model of the two rows is a world with an a that is no b

  module _ (ordered : Ordered f.table) where
    counterexample-of : Model f.table f.tbox (rows_for f a b) → Counterexample f a b
    counterexample-of m =
        let holds = m.member.1 in
        let W = finite m.world in
        record {
          world = m.world;
          obeys = m.obeys;
          includes = m.includes;
          element = m.element;
          inside = m.member.0;
          is_a = rw (holds_as W f.table ordered (positive f.table a) m.element (atomic a) is_row) at
              (holds (positive f.table a) (Memᴰ.head refl));
          is_no_b =
              rw (holds_as W f.table ordered (negative f.table b) m.element (negated b) no_row) at
              (holds (negative f.table b) (Memᴰ.tail (Memᴰ.head refl)));
        }

    model_of : Counterexample f a b → Model f.table f.tbox (rows_for f a b)
    model_of c =
        let W = finite c.world in
        record {
          world = c.world;
          obeys = c.obeys;
          includes = c.includes;
          element = c.element;
          member = (c.inside, holds);
        }
      where
        holds : (k : ℕ) → Memᴰ k (rows_for f a b) → Holds (finite c.world) f.table k c.element
        holds k (Memᴰ.head e) = rw (e, holds_as (finite c.world) f.table ordered (positive f.table a) c.element (atomic a) is_row) c.is_a
        holds k (Memᴰ.tail (Memᴰ.head e)) =
            rw (e, holds_as (finite c.world) f.table ordered (negative f.table b) c.element (negated b) no_row) c.is_no_b
        holds k (Memᴰ.tail (Memᴰ.tail m)) = absurd (Memᴰ.not-nil m)

    shown-model : (x : Example) → Shows (wanting (rows_for f a b) f) x → Counterexample f a b
    shown-model x S =
        counterexample-of (record { world = world_of f.table x; obeys = S.obeys; includes = S.includes; element = 0; member = S.member })

    -- ---- the entry of an answer

    module _ (l : Lengths) where
      -- a record that finds no place gives no other answer
      abbrev NoPlaceIs : Answer → Type 0
      NoPlaceIs k = (r : Area) → FindsNoPlace r (ran_for f l a b) → k ≡ short r (room_for (capacity l) r)

      -- by what backs it
      answered-right : (k : Answer) → Backs (wanting (rows_for f a b) f) l k → NoPlaceIs k → EntryRight f l a b (entry_of k)
      unfolding entry_of
      answered-right (cannot u) B P = record {
        value = inr (inl refl);
        short = λ e. absurd (omega (arith, e));
        short_only = λ r e. ap entry_of (P r e);
        under = λ e c. B (model_of c);
        under_only = λ d n. refl;
        apart = λ e. absurd (omega (arith, e));
        apart_only = λ d c. absurd (B (model_of c));
      }
      answered-right (can u x) B P = record {
        value = inl refl;
        short = λ e. absurd (omega (arith, e));
        short_only = λ r e. ap entry_of (P r e);
        under = λ e. absurd (omega (arith, e));
        under_only = λ d n. absurd (n (shown-model x B.shows));
        apart = λ e. shown-model x B.shows;
        apart_only = λ d c. refl;
      }
      answered-right (too_long x) B P = record {
        value = inl refl;
        short = λ e. absurd (omega (arith, e));
        short_only = λ r e. ap entry_of (P r e);
        under = λ e. absurd (omega (arith, e));
        under_only = λ d n. absurd (n (shown-model x B.0));
        apart = λ e. shown-model x B.0;
        apart_only = λ d c. refl;
      }
      answered-right (short r n) B P = record {
        value = inr (inr refl);
        short = λ e. (r, B.0);
        short_only = λ s e. refl;
        under = λ e. absurd (omega (arith, e));
        under_only = λ d n. absurd (d refl);
        apart = λ e. absurd (omega (arith, e));
        apart_only = λ d c. absurd (d refl);
      }
      answered-right (refused_file n) B P = absurd B
      answered-right undefined B P = absurd B

-- ---- the entry of a file

module _ (file : Bytes) (f : RuleFile) (e : reading file ≡ accepted f) (l : Lengths) (a b : ℕ) (ma : Memᴰ a (names f.table))
    (mb : Memᴰ b (names f.table)) where
  -- it is accepted with the two rows too
  pub reads-rows : reading_for rule_kinds (rows_for f a b) file ≡ accepted (wanting (rows_for f a b) f)
  reads-rows = reading-wanting rule_kinds (wanted_rows file) file f e (rows_for f a b) (rows-serve f a b ma mb)

  pub entry-right : EntryRight f l a b (entry file l f.table a b)
  unfolding entry answer_result
  entry-right =
      let answered = answer-accepted (rows_for f a b) file l (wanting (rows_for f a b) f) reads-rows in
      answered-right f a b ma mb (accepted-admitted rule_kinds (wanted_rows file) file f e).well_formed.ordered l (answer_for (rows_for f a b) file l)
      (answer-backed (rows_for f a b) file l (wanting (rows_for f a b) f) reads-rows) (λ r q. answered ∙ ap (answer_result l f.table) q.1)
