-- The cases from a verdict to the decision, on plain values.
--
-- In order: the answer by the root's status; a run without a place; "cannot"; "can": the walk, and what is shown.
use Rattle.std.specs.Prelude.{◌≡◌, Bool, true, false, List, ℕ, T, length, Ok, Err}
use Rattle.std.proofs.Math.Path.{refl, sym, ap, subst}
use Rattle.std.proofs.Common.{◌∙◌}
use Rattle.concepts.specs.Lists.{Bytes}
use Rattle.concepts.specs.Tests.{impossible}
use Rattle.concepts.specs.Concept.{Table}
use Rattle.procedure.specs.Status.{Status, unset, «open», sat, unsat, toosmall, is_live}
use Rattle.procedure.specs.Graph.{Graph, room_for, node_at}
use Rattle.procedure.proofs.Can.{good_if}
use Rattle.procedure.proofs.Outcome.{finished-at, root-set}
use Rattle.run.specs.Run.{room_in, Areas, areas_of, Lengths, lengths, capacity, shown, used, Answer, short, cannot, answer_can, answer_root, answer_result}
use Rattle.run.specs.Run.{areas_after}
use Rattle.run.specs.Said.{good_root}
use Rattle.run.proofs.ShortLaws.{room_for-most}
use Rattle.problem.specs.Decoded.{table_of, problem_of, Decoded}
use Rattle.problem.specs.DecodedLaws.{decoded-posed}
use Rattle.graph.specs.Graphs.{work, graph_of, capacity_of, area_of}
use Rattle.graph.specs.GraphLaws.{held-most}
use Rattle.graph.specs.declared.Counts.{Counts}
use Rattle.graph.specs.declared.Area.{Area}
use Rattle.walk.specs.Clauses.{nodes_edges, WalkAsks}
use Rattle.conclusion.specs.Clauses.{Outcome, Decided, EndsWith, ShortOf, ShowGives, DecideGives}
use Rattle.conclusion.specs.ShowCases.{used-counts}
use Rattle.conclusion.specs.declared.Decision.TheVariants.{Cannot}
use Rattle.conclusion.specs.declared.Shortage.TheVariants.{NoPlace}

-- ---- the answer by the root's status

answer-can : (v : Status) (l : Lengths) (t : Table) (g : Graph) → good_root v ≡ true → answer_root v l t g ≡ answer_can l (used g) (shown t g)
unfolding answer_root
answer-can sat l t g h = refl
answer-can «open» l t g h = refl
answer-can unset l t g h = impossible cc
answer-can unsat l t g h = impossible cc
answer-can toosmall l t g h = impossible cc

answer-cannot : (v : Status) (l : Lengths) (t : Table) (g : Graph) → good_root v ≡ false → (v ≡ unset → ⊥) → answer_root v l t g ≡ cannot (used g)
unfolding answer_root
answer-cannot unsat l t g h d = refl
answer-cannot toosmall l t g h d = refl
answer-cannot unset l t g h d = absurd (d refl)
answer-cannot sat l t g h d = impossible cc
answer-cannot «open» l t g h d = impossible cc

-- ---- a run without a place

-- each area kept its length until it was counted
pub decide-short : {ws : List ℕ} {n e a : Bytes} (elements links : Bytes) {p : Area} → ShortOf ws (work n e a) p
    → {m n₁ e₁ a₁ : ℕ} → m ≡ room_for (room_in n₁ e₁ a₁) (area_of p) → n₁ ≡ length n → e₁ ≡ length e → a₁ ≡ length a
    → DecideGives ws (areas_of n e a elements links) (Err (NoPlace p m)) elements links
unfolding answer_result areas_after
decide-short {ws} {n} {e} {a} elements links {p} S {m} hm hn he ha =
    let before : Areas = areas_of n e a elements links in
    let lent : m ≡ room_for (capacity (lengths before)) (area_of p) = hm ∙ (λ i. room_for (room_in (hn i) (he i) (ha i)) (area_of p)) in
    let k = ap (answer_result (lengths before) (table_of ws)) S.ran.1 ∙ ap (short (area_of p)) (sym lent) in
    record {
      decides = k;
      small = rw lent (room_for-most (lengths before) (area_of p));
      elements_are = sym (ap (λ (r : Answer). (areas_after r before).elements) k);
      links_are = sym (ap (λ (r : Answer). (areas_after r before).links) k);
    }

module _ {ws : List ℕ} {n e a : Bytes} (D : Decoded ws) {c : Counts} {n' e' a' : Bytes} {b : Bool}
    (E : EndsWith ws (work n e a) c (work n' e' a') b) where
  abbrev g : Graph
  g = graph_of (work n' e' a') c

  -- ---- "cannot"

  module _ (hb : b ≡ false) where
    pub decide-cannot : (elements links : Bytes) → DecideGives ws (areas_of n e a elements links) (Ok (Cannot c)) elements links
    unfolding answer_result areas_after
    decide-cannot elements links =
        let before : Areas = areas_of n e a elements links in
        let set : (node_at g 0).status ≡ unset → ⊥ = root-set (problem_of ws) (capacity_of (work n e a)) (decoded-posed D) g E.ran in
        let q = ap (answer_result (lengths before) (table_of ws)) E.ran
        ∙ answer-cannot (node_at g 0).status (lengths before) (table_of ws) g (E.says ∙ hb) set
        ∙ ap cannot (used-counts (work n' e' a') c) in
        record {
          decides = q;
          small = held-most E.held;
          elements_are = sym (ap (λ (r : Answer). (areas_after r before).elements) q);
          links_are = sym (ap (λ (r : Answer). (areas_after r before).links) q);
        }

  -- ---- "can"

  module _ (hb : b ≡ true) where
    pub decide-walks : WalkAsks ws (nodes_edges n' e') c
    decide-walks = go (node_at g 0).status refl (E.says ∙ hb)
      where
        over : (s : Bool) → (s ≡ true → T (is_live (node_at g 0).status)) → T (good_if s (node_at g 0).status) → WalkAsks ws (nodes_edges n' e') c
        over s l q = record {
          decoded = D;
          holds = record { alternatives = a'; held = E.held };
          good = good_if s;
          finished = finished-at (problem_of ws) (capacity_of (work n e a)) (decoded-posed D) g E.ran s l q;
        }

        go : (u : Status) → (node_at g 0).status ≡ u → good_root u ≡ true → WalkAsks ws (nodes_edges n' e') c
        go sat q h = over false (λ v. impossible cc) (rw q tt)
        go «open» q h = over true (λ v. rw q tt) (rw q tt)
        go unset q h = impossible cc
        go unsat q h = impossible cc
        go toosmall q h = impossible cc

    pub decide-shows : {elements links : Bytes} {r : Outcome} {elements' links' : Bytes} → ShowGives ws n' e' c elements links r elements' links'
        → DecideGives ws (areas_of n e a elements links) r elements' links'
    unfolding answer_result
    decide-shows {elements} {links} {r} {elements'} {links'} G =
        let before : Areas = areas_of n e a elements links in
        let q = ap (answer_result (lengths before) (table_of ws)) E.ran ∙ answer-can (node_at g 0).status (lengths before) (table_of ws) g (E.says ∙ hb) in
        subst (λ (k : Answer). Decided k before r elements' links') (sym q) (G a' before refl refl)
