-- The cases of meeting a state, on plain values: its number says whether it was met, and where it stands.
--
-- In order: where a state stands by its number; what `meet` makes of a walk; one more element; a state met before; a state met first (`New`); the first
-- state of a walk.
use Rattle.std.specs.Prelude.{◌≡◌, Bool, ◌≢◌, ℕ, suc, ◌+◌, ◌-◌, ◌≤◌, ◌<◌, length, get_or}
use Rattle.std.proofs.Math.Path.{refl, ap}
use Rattle.std.proofs.Common.{sym, ap₂, ◌∙◌, subst, arith, lt-ltb, le-ltb, length-append}
use Rattle.std.proofs.Math.Bool.{cond}
use mathlib.Core.List.{List, [], ◌∷◌, ◌++◌, Memᴰ}
use Rattle.std.proofs.Math.Decide.{ℕ_discrete, dec_lt}
use Rattle.concepts.specs.Lists.{Bytes, range}
use Rattle.concepts.specs.ListLaws.{get_or-mem, map_same}
use Rattle.meaning.specs.Given.{RoleLink}
use Rattle.procedure.specs.Example.{Walk, position, meet}
use Rattle.procedure.specs.ExampleLaws.{position-there, position_absent}
use Rattle.words.specs.Sizes.{node_size, most_records}
use Rattle.records.specs.Areas.{Fits, records_in}
use Rattle.records.specs.AreaLaws.{length-records, get_or-records, records-append, beside-refl, beside-then}
use Rattle.graph.specs.Graphs.{Work, work}
use Rattle.graph.specs.declared.Counts.{Counts}
use Rattle.marks.specs.Marks.{number_in, state_in, role_link_in}
use Rattle.marks.specs.Marked.{NumberStored, StateStored, LinkStored, NumbersCleared}
use Rattle.marks.specs.declared.Sizes.{Sizes}
use Rattle.walk.specs.Clauses.{Kept, walk_in, Numbered, MeetAsks, MeetGives, StartGives}
use Rattle.walk.specs.KeptLaws.{kept_trans}

-- ---- where a state stands

module _ {n : Bytes} {c : Counts} {count : ℕ} (N : Numbered n c count) (y : ℕ) (h : y < c.nodes) where
  abbrev states : List ℕ
  states = records_in state_in n count

  -- an element that stands for y has y's number
  standing : (d : ℕ) → d < length states → get_or states d 0 ≡ y → number_in n y ≡ suc d
  standing d l e =
      let b : d < count = omega (arith, length-records state_in n count) in
      ap (number_in n) (sym e ∙ get_or-records state_in n count d 0 b) ∙ N.number d b

  -- a state with a number stands where it says
  position-number : number_in n y ≢ 0 → (position y states < count) × (suc (position y states) ≡ number_in n y)
  position-number k = elim (dec_lt (position y states) (length states)) [
    | yes l ↦ (omega (arith, length-records state_in n count), sym (standing (position y states) l (position-there y states l)))
    | no l ↦
        let (d, b, e) = N.element y h k in
        let m : d < length states = omega (arith, length-records state_in n count) in
        let here : get_or states d 0 ≡ y = get_or-records state_in n count d 0 b ∙ e in
        absurd ((position_absent y states (omega arith)).1 (subst (λ (z : ℕ). Memᴰ z states) here (get_or-mem states d 0 m)))
  ]

  -- a state with none would stand at the end
  position-new : number_in n y ≡ 0 → position y states ≡ count
  position-new k = elim (dec_lt (position y states) (length states)) [
    | yes l ↦ let q = standing (position y states) l (position-there y states l) in absurd (omega arith)
    | no l ↦ (position_absent y states (omega arith)).0 ∙ length-records state_in n count
  ]

-- ---- what `meet` makes of a walk

module _ (d ρ y : ℕ) (w : Walk) where
  -- the links with the one to y
  abbrev linked : List RoleLink
  linked = w.links ++ record { from = d; role = ρ; to = position y w.states } ∷ []

  meet-known : position y w.states < length w.states → meet d ρ y w ≡ record { states = w.states; links = linked }
  unfolding meet
  meet-known h =
      ap (λ (b : Bool). record { states = cond b w.states (w.states ++ y ∷ []); links = linked })
      (lt-ltb (position y w.states) (length w.states) h)

  meet-last : length w.states ≤ position y w.states → meet d ρ y w ≡ record { states = w.states ++ y ∷ []; links = linked }
  unfolding meet
  meet-last h =
      ap (λ (b : Bool). record { states = cond b w.states (w.states ++ y ∷ []); links = linked })
      (le-ltb (position y w.states) (length w.states) h)

abbrev pub sizes : ℕ → ℕ → Sizes
sizes m k = record { elements = m; links = k }

-- ---- one more element

-- state y, which has no number, gets the next one, and element m stands for it
module _ {n n₁ n₂ : Bytes} {c : Counts} {m y : ℕ} (N : Numbered n c m) (new : number_in n y ≡ 0) (h : y < c.nodes)
    (P : NumberStored n n₁ y (m + 1)) (S : StateStored n₁ n₂ m y) where
  state-before : (d : ℕ) → d < m → state_in n₂ d ≡ state_in n d
  state-before d l = S.stored.others d (λ e. omega arith) ∙ P.states d

  number-before : (z : ℕ) → z ≢ y → number_in n₂ z ≡ number_in n z
  number-before z k = S.numbers z ∙ P.stored.others z k

  number-now : number_in n₂ y ≡ m + 1
  number-now = S.numbers y ∙ P.stored.here

  numbered_more : Numbered n₂ c (m + 1)
  numbered_more = record {
    inside = λ d l. elim (ℕ_discrete d m) [
      | yes e ↦ omega (arith, ap (state_in n₂) e ∙ S.stored.here)
      | no k ↦ omega (arith, state-before d (omega arith), N.inside d (omega arith))
    ];
    number = λ d l. elim (ℕ_discrete d m) [
      | yes e ↦ omega (arith, ap (number_in n₂) (ap (state_in n₂) e ∙ S.stored.here), number-now)
      | no k ↦
          let b : d < m = omega arith in
          let other : state_in n d ≢ y = λ e. omega (arith, ap (number_in n) e, N.number d b) in
          ap (number_in n₂) (state-before d b) ∙ number-before (state_in n d) other ∙ N.number d b
    ];
    element = λ z l k. elim (ℕ_discrete z y) [
      | yes e ↦ (m, omega arith, S.stored.here ∙ sym e)
      | no q ↦
          let (d, b, e) = N.element z l (λ o. k (number-before z q ∙ o)) in
          (d, omega arith, state-before d b ∙ e)
    ];
  }

  states-more : records_in state_in n₂ (m + 1) ≡ records_in state_in n m ++ y ∷ []
  states-more = records-append state_in S.stored ∙ ap (λ (xs : List ℕ). xs ++ y ∷ [])
      (map_same (state_in n₁) (state_in n) (range 0 m) (λ d _. P.states d))

  nodes-kept : (e a : Bytes) → Kept (work n e a) (work n₂ e a)
  nodes-kept e a = record { nodes = beside-then P.beside S.beside; edges = beside-refl; alternatives = refl }

-- ---- meeting a state

module _ {w : Work} {c : Counts} {s : Sizes} {d ρ y : ℕ} (A : MeetAsks w c s d ρ y) where
  abbrev at : ℕ
  at = position y (walk_in w s).states

  -- the link is added at the end
  links-more : {e' : Bytes} {z : ℕ} → LinkStored w.edges e' s.links (record { from = d; role = ρ; to = z }) → z ≡ at
      → records_in role_link_in e' (s.links + 1) ≡ linked d ρ y (walk_in w s)
  links-more L p = records-append role_link_in L.stored ∙ ap (λ (x : ℕ). (walk_in w s).links ++ record { from = d; role = ρ; to = x } ∷ []) p

  edges-kept : {e' : Bytes} {l : RoleLink} → LinkStored w.edges e' s.links l → Kept w (work w.nodes e' w.alternatives)
  edges-kept L = record { nodes = beside-refl; edges = L.beside; alternatives = refl }

  -- a state that has a number
  pub met-before : {k : ℕ} {e' : Bytes} → k ≡ number_in w.nodes y → 0 < k
      → LinkStored w.edges e' s.links (record { from = d; role = ρ; to = k - 1 })
      → MeetGives w c s d ρ y (sizes s.elements (s.links + 1)) (work w.nodes e' w.alternatives)
  met-before p h L =
      let (l, q) = position-number A.numbered y A.inside (λ o. omega arith) in
      record {
        kept = edges-kept L;
        numbered = A.numbered;
        meets =
            ap (λ (ls : List RoleLink). record { states = (walk_in w s).states; links = ls }) (links-more L (omega arith))
            ∙ sym (meet-known d ρ y (walk_in w s) (omega (arith, length-records state_in w.nodes s.elements)));
      }

  -- a state that is met first
  pub record New : Type 0 where
    pub is : number_in w.nodes y ≡ 0

  pub meet-new : {k : ℕ} → k ≡ number_in w.nodes y → k ≤ 0 → New
  meet-new p h = record { is = omega arith }

module _ {w : Work} {c : Counts} {s : Sizes} {d ρ y : ℕ} {A : MeetAsks w c s d ρ y} (new : New A) where
  stands-last : at A ≡ s.elements
  stands-last = position-new A.numbered y A.inside new.is

  meets-new : meet d ρ y (walk_in w s) ≡ record { states = (walk_in w s).states ++ y ∷ []; links = linked d ρ y (walk_in w s) }
  meets-new = meet-last d ρ y (walk_in w s) (omega (arith, stands-last, length-records state_in w.nodes s.elements))

  -- there is place for one more element
  room : s.elements < c.nodes
  room =
      omega (
        arith,
        A.few_states,
        ap (λ (v : Walk). length v.states) meets-new,
        length-append (walk_in w s).states (y ∷ []),
        length-records state_in w.nodes s.elements,
      )

  pub meet-few : s.elements + 1 ≤ most_records
  meet-few = omega (arith, room, A.holds.held.nodes)

  module _ {n₁ : Bytes} (P : NumberStored w.nodes n₁ y (s.elements + 1)) where
    pub meet-fits : Fits node_size n₁ s.elements
    meet-fits = (omega (arith, room, A.holds.held.nodes), omega (arith, room, A.holds.held.nodes, P.stored.size))

    pub met-first : {n₂ e' : Bytes} → StateStored n₁ n₂ s.elements y
        → LinkStored w.edges e' s.links (record { from = d; role = ρ; to = s.elements })
        → MeetGives w c s d ρ y (sizes (s.elements + 1) (s.links + 1)) (work n₂ e' w.alternatives)
    met-first {e' = e'} S L = record {
      kept = kept_trans (edges-kept A L) (nodes-kept A.numbered new.is A.inside P S e' w.alternatives);
      numbered = numbered_more A.numbered new.is A.inside P S;
      meets =
          ap₂ (λ (xs : List ℕ) (ls : List RoleLink). record { states = xs; links = ls })
          (states-more A.numbered new.is A.inside P S) (links-more A L (sym stands-last))
          ∙ sym meets-new;
    }

-- ---- the first state of a walk

module _ {n n₀ : Bytes} {c : Counts} {y : ℕ} (C : NumbersCleared n n₀ c.nodes) (h : y < c.nodes) where
  numbered-none : Numbered n₀ c 0
  numbered-none = record {
    inside = λ d l. absurd (omega arith);
    number = λ d l. absurd (omega arith);
    element = λ z l k. absurd (k (C.none_has z l));
  }

  pub started : {n₁ n₂ : Bytes} → NumberStored n₀ n₁ y 1 → StateStored n₁ n₂ 0 y → StartGives n c y (sizes 1 0) n₂
  unfolding range
  started P S = record {
    kept = λ e. record { nodes = beside-then C.beside (beside-then P.beside S.beside); edges = beside-refl; alternatives = refl };
    numbered = numbered_more numbered-none (C.none_has y h) h P S;
    starts = λ e. ap (λ (xs : List ℕ). record { states = xs; links = [] }) (states-more numbered-none (C.none_has y h) h P S);
  }
