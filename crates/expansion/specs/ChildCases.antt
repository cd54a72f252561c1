-- The ways to put the children of a node, on plain values.
--
-- In order: the put of a set made of the node's own; a conjunction (`Both`), or none; a disjunction (`Either`), with two puts, or none; a state; the root.
use Rattle.std.specs.Prelude.{◌≡◌, List, ◌≢◌, Option, Some, None, Ok, Err}
use Rattle.std.proofs.Math.Path.{refl, ap}
use Rattle.std.proofs.Common.{sym, ◌∙◌, subst}
use Prim.Native.Nat.{ℕ, zero, suc, ◌*◌, ◌<◌}
use Rattle.concepts.specs.Lists.{Bytes}
use Rattle.concepts.specs.RowSet.{RowSet, insert, union}
use Rattle.procedure.specs.SetTests.{lowest_conj, lowest_disj}
use Rattle.procedure.proofs.SetTestLaws.{lowest_conj-lt, lowest_disj-lt}
use Rattle.procedure.specs.Graph.{Node, ◌>>=◌, node_at}
use Rattle.procedure.specs.Tableau.{no_role, put, put_kit, put_successors, expand_state, expand_disj, expand_conj}
use Rattle.procedure.specs.TableauLaws.{expand-conj}
use Rattle.procedure.proofs.ExpandFit.{conj-puts, disj-puts, kit-puts}
use Rattle.problem.specs.Decoded.{table_of, problem_of, rules_of, wanted_of}
use Rattle.words.specs.Sizes.{node_size, width}
use Rattle.records.specs.Records.{node_of, IsNode}
use Rattle.records.specs.declared.Node as D
use Rattle.rowset.specs.SetOf.{set_of}
use Rattle.graph.specs.Graphs.{Work, work, graph_of, capacity_of, Operation, Step, Refines}
use Rattle.graph.specs.GraphLaws.{sized-refl}
use Rattle.graph.specs.RefineLaws.{refines-as, refines-then, refines-short}
use Rattle.graph.specs.declared.Counts.{Counts}
use Rattle.graph.specs.declared.Area.{Area}
use Rattle.tableau.specs.Clauses.{PutAsks, PutGives}
use Rattle.expansion.specs.Clauses.{ExpandAsks, DisjAsks, StateAsks, KitGives, SuccessorsGives, StateGives, DisjGives, ConjGives}
use Rattle.expansion.specs.PutCases.{P, cap, g, row_fits, Now, now-start, growing-start, MayPut, expand-loaded, expand-set, now-asks, now-gives}
use Rattle.expansion.specs.PutCases.{now-put}

-- ---- the put of a set that f makes of the node's own; the node was loaded as v

module _ {ws : List ℕ} {w : Work} {c : Counts} {x : ℕ} {A : ExpandAsks ws w c x} {s : RowSet} (v : D.Node) (loaded : node_at (graph_of w c) x ≡ node_of s v)
    {w' : Work} {d : Counts} (N : Now A w' d) (f : RowSet → RowSet)
    (M : MayPut A (graph_of w' d) (node_at (graph_of w c) x).pst (node_at (graph_of w c) x).prl (f (node_at (graph_of w c) x).rows)) {σ : RowSet}
    (eσ : σ ≡ f s) where
  abbrev own : Node
  own = node_at (graph_of w c) x

  set-asks : PutAsks ws w' d x v.pst v.prl σ
  set-asks =
      subst (λ (s : RowSet). PutAsks ws w' d x v.pst v.prl s) (sym eσ)
      (subst (λ (u : Node). PutAsks ws w' d x u.pst u.prl (f u.rows)) loaded (now-asks N M))

  set_given : {r : Step} {w'' : Work} → PutGives ws w' d x v.pst v.prl σ r w''
      → PutGives ws w' d x own.pst own.prl (f own.rows) r w''
  set_given {r} {w''} G =
      subst (λ (u : Node). PutGives ws w' d x u.pst u.prl (f u.rows) r w'') (sym loaded)
      (subst (λ (s : RowSet). PutGives ws w' d x v.pst v.prl s r w'') eσ G)

-- ---- a conjunction

module _ {ws : List ℕ} {n e a : Bytes} {c : Counts} {x : ℕ} (A : ExpandAsks ws (work n e a) c x) (v : D.Node) where
  -- the lowest that is unfinished is of l and r
  pub record Both (l r : ℕ) : Type 0 where
    pub loaded : node_at (graph_of (work n e a) c) x ≡ node_of (set_of n (node_size * x)) v
    pub found : lowest_conj (table_of ws) (node_at (graph_of (work n e a) c) x).rows ≡ Some (l, r)

  module _ (hv : IsNode n x v) {q : ℕ} (hq : q ≡ node_size * x) {o : Option (ℕ × ℕ)} (ho : o ≡ lowest_conj (table_of ws) (set_of n q)) where
    conj-lowest : {b : Option (ℕ × ℕ)} → o ≡ b → lowest_conj (table_of ws) (node_at (graph_of (work n e a) c) x).rows ≡ b
    conj-lowest e =
        ap (λ (r : RowSet). lowest_conj (table_of ws) r) (sym (expand-set A)) ∙ ap (λ (p : ℕ). lowest_conj (table_of ws) (set_of n p)) (sym hq) ∙ sym ho
        ∙ e

    pub both_found : {l r : ℕ} → o ≡ Some (l, r) → Both l r
    both_found q = record { loaded = expand-loaded A v hv; found = conj-lowest q }

    pub both-none : o ≡ None → DisjAsks ws (work n e a) c x
    both-none q = record { node = A; no_conj = conj-lowest q }

module _ {ws : List ℕ} {n e a : Bytes} {c : Counts} {x : ℕ} {A : ExpandAsks ws (work n e a) c x} {v : D.Node} {l r : ℕ} (B : Both A v l r) where
  both-fit : (l < width) × (r < width)
  both-fit =
      let (p, q) = lowest_conj-lt (table_of ws) (node_at (g A) x).rows A.decoded.rows.ordered (l, r) B.found in
      (row_fits A l p, row_fits A r q)

  pub both_left : l < width
  both_left = both-fit.0

  pub both_right : r < width
  both_right = both-fit.1

  may : MayPut A (g A) (node_at (g A) x).pst (node_at (g A) x).prl (insert l (insert r (node_at (g A) x).rows))
  may = conj-puts A.expands (l, r) B.found

  module _ {σ : RowSet} (eσ : σ ≡ insert l (insert r (set_of n (node_size * x)))) where
    pub both-asks : PutAsks ws (work n e a) c x v.pst v.prl σ
    both-asks = set-asks v B.loaded (now-start A) (λ s. insert l (insert r s)) may eσ

    pub both-gives : {z : Step} {w' : Work} → PutGives ws (work n e a) c x v.pst v.prl σ z w' → ConjGives ws (work n e a) c x z w'
    both-gives G =
        refines-as (now-gives (now-start A) may (set_given v B.loaded (now-start A) (λ s. insert l (insert r s)) may eσ G) refl)
        (expand-conj (P A) (cap A) x (g A) (l, r) B.found)

pub conj-gives : {ws : List ℕ} {w : Work} {c : Counts} {x : ℕ} → DisjAsks ws w c x → {r : Step} {w' : Work} → DisjGives ws w c x r w'
    → ConjGives ws w c x r w'
unfolding expand_conj
conj-gives {ws} {w} {c} {x} A G = refines-as G (ap (λ (o : Option (ℕ × ℕ)). expand_conj (problem_of ws) (capacity_of w) x o (graph_of w c)) A.no_conj)

-- ---- a disjunction

module _ {ws : List ℕ} {n e a : Bytes} {c : Counts} {x : ℕ} (A : DisjAsks ws (work n e a) c x) (v : D.Node) where
  -- the lowest that is unfinished is of l and r
  pub record Either (l r : ℕ) : Type 0 where
    pub loaded : node_at (graph_of (work n e a) c) x ≡ node_of (set_of n (node_size * x)) v
    pub found : lowest_disj (table_of ws) (node_at (graph_of (work n e a) c) x).rows ≡ Some (l, r)

  module _ (hv : IsNode n x v) {q : ℕ} (hq : q ≡ node_size * x) {o : Option (ℕ × ℕ)} (ho : o ≡ lowest_disj (table_of ws) (set_of n q)) where
    disj-lowest : {b : Option (ℕ × ℕ)} → o ≡ b → lowest_disj (table_of ws) (node_at (graph_of (work n e a) c) x).rows ≡ b
    disj-lowest e =
        ap (λ (r : RowSet). lowest_disj (table_of ws) r) (sym (expand-set A.node)) ∙ ap (λ (p : ℕ). lowest_disj (table_of ws) (set_of n p)) (sym hq)
        ∙ sym ho
        ∙ e

    pub either-found : {l r : ℕ} → o ≡ Some (l, r) → Either l r
    either-found q = record { loaded = expand-loaded A.node v hv; found = disj-lowest q }

    pub either-none : o ≡ None → StateAsks ws (work n e a) c x
    either-none q = record { disj = A; no_disj = disj-lowest q }

module _ {ws : List ℕ} {n e a : Bytes} {c : Counts} {x : ℕ} {A : DisjAsks ws (work n e a) c x} {v : D.Node} {l r : ℕ} (E : Either A v l r) where
  abbrev N : ExpandAsks ws (work n e a) c x
  N = A.node

  either-fit : (l < width) × (r < width)
  either-fit =
      let (p, q) = lowest_disj-lt (table_of ws) (node_at (g N) x).rows N.decoded.rows.ordered (l, r) E.found in
      (row_fits N l p, row_fits N r q)

  pub either_left : l < width
  either_left = either-fit.0

  pub either-right : r < width
  either-right = either-fit.1

  -- the put of the node's set with row k
  abbrev with_row : ℕ → Operation
  with_row k q h = put (problem_of ws) q x (node_at (g N) x).pst (node_at (g N) x).prl (insert k (node_at (g N) x).rows) h

  disj-is : expand_disj (P N) (cap N) x (lowest_disj (table_of ws) (node_at (g N) x).rows) (g N) ≡ (with_row l (cap N) (g N) >>= with_row r (cap N))
  unfolding expand_disj
  disj-is = ap (λ (o : Option (ℕ × ℕ)). expand_disj (P N) (cap N) x o (g N)) E.found

  -- the left is put
  pub record Second (w₁ : Work) (d : Counts) : Type 0 where
    pub left : Refines (work n e a) c (Ok d) w₁ (with_row l)
    pub now : Now A.node w₁ d

  may-left : MayPut N (g N) (node_at (g N) x).pst (node_at (g N) x).prl (insert l (node_at (g N) x).rows)
  may-left = (disj-puts N.expands (l, r) E.found (g N) (growing-start N)).0

  module _ {σ : RowSet} (eσ : σ ≡ insert l (set_of n (node_size * x))) where
    pub left-asks : PutAsks ws (work n e a) c x v.pst v.prl σ
    left-asks = set-asks v E.loaded (now-start N) (insert l) may-left eσ

    module _ {z : Step} {w₁ : Work} (G : PutGives ws (work n e a) c x v.pst v.prl σ z w₁) where
      left-given : PutGives ws (work n e a) c x (node_at (g N) x).pst (node_at (g N) x).prl (insert l (node_at (g N) x).rows) z w₁
      left-given = set_given v E.loaded (now-start N) (insert l) may-left eσ G

      pub left-short : {p : Area} → z ≡ Err p → DisjGives ws (work n e a) c x (Err p) w₁
      left-short er = refines-as (refines-short (now-gives (now-start N) may-left left-given er) (λ u. with_row r) sized-refl) disj-is

      pub left-done : {d : Counts} → z ≡ Ok d → Second w₁ d
      left-done er = record { left = now-gives (now-start N) may-left left-given er; now = now-put (now-start N) may-left left-given er }

module _ {ws : List ℕ} {n e a : Bytes} {c : Counts} {x : ℕ} {A : DisjAsks ws (work n e a) c x} {v : D.Node} {l r : ℕ} {E : Either A v l r}
    {w₁ : Work} {d : Counts} (S : Second E w₁ d) {τ : RowSet} (eτ : τ ≡ insert r (set_of n (node_size * x))) where
  may-right : MayPut (N E) (graph_of w₁ d) (node_at (g (N E)) x).pst (node_at (g (N E)) x).prl (insert r (node_at (g (N E)) x).rows)
  may-right =
      let B = A.node in
      (disj-puts B.expands (l, r) E.found (graph_of w₁ d) S.now.growing).1

  pub right-asks : PutAsks ws w₁ d x v.pst v.prl τ
  right-asks = set-asks v E.loaded S.now (insert r) may-right eτ

  pub right-gives : {z : Step} {w₂ : Work} → PutGives ws w₁ d x v.pst v.prl τ z w₂ → DisjGives ws (work n e a) c x z w₂
  right-gives G =
      refines-as (refines-then S.left (λ u. with_row E r) (now-gives S.now may-right (set_given v E.loaded S.now (insert r) may-right eτ G) refl))
      (disj-is E)

pub disj-gives : {ws : List ℕ} {w : Work} {c : Counts} {x : ℕ} → StateAsks ws w c x → {r : Step} {w' : Work} → StateGives ws w c x r w'
    → DisjGives ws w c x r w'
unfolding expand_disj
disj-gives {ws} {w} {c} {x} A G = refines-as G (ap (λ (o : Option (ℕ × ℕ)). expand_disj (problem_of ws) (capacity_of w) x o (graph_of w c)) A.no_disj)

-- ---- a state: the root, or another

module _ {ws : List ℕ} {w : Work} {c : Counts} {x : ℕ} (A : StateAsks ws w c x) where
  pub root-asks : x ≡ 0 → StateAsks ws w c 0
  root-asks root = subst (λ (y : ℕ). StateAsks ws w c y) root A

  pub root-gives : x ≡ 0 → {r : Step} {w' : Work} → KitGives ws w c r w' → StateGives ws w c x r w'
  unfolding expand_state
  root-gives root G = refines-as G (ap (λ (y : ℕ). expand_state (problem_of ws) (capacity_of w) y (graph_of w c)) root)

  pub other-gives : x ≢ 0 → {r : Step} {w' : Work} → SuccessorsGives ws w c x r w' → StateGives ws w c x r w'
  unfolding expand_state
  other-gives other G = refines-as G (is x other)
    where
      is : (y : ℕ) → y ≢ 0 → expand_state (problem_of ws) (capacity_of w) y (graph_of w c) ≡ put_successors (problem_of ws) (capacity_of w) y (graph_of w c)
      is zero d = absurd (d refl)
      is (suc y) d = refl

-- ---- what the root puts

module _ {ws : List ℕ} {w : Work} {c : Counts} (A : StateAsks ws w c 0) {σ : RowSet} (kit-is : σ ≡ union (wanted_of ws) (rules_of ws)) where
  abbrev R : ExpandAsks ws w c 0
  R = A.disj.node

  abbrev kit : RowSet
  kit = union (wanted_of ws) (rules_of ws)

  kit-may : MayPut R (graph_of w c) 0 no_role kit
  kit-may = kit-puts R.expands A.disj.no_conj A.no_disj refl

  pub kit-asks : PutAsks ws w c 0 0 no_role σ
  kit-asks = subst (λ (s : RowSet). PutAsks ws w c 0 0 no_role s) (sym kit-is) (now-asks (now-start R) kit-may)

  pub kit-gives : {r : Step} {w' : Work} → PutGives ws w c 0 0 no_role σ r w' → KitGives ws w c r w'
  unfolding put_kit
  kit-gives {r} {w'} G = now-gives (now-start R) kit-may (subst (λ (s : RowSet). PutGives ws w c 0 0 no_role s r w') kit-is G) refl
