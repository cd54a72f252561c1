-- The parents of one node, updated one after the other: a turn, on plain values.
--
-- In order: what a step along the chain says; what is left of the parents (`ParentsTurn`); its start; the next parent (`ParentFound`), or the end;
-- its update; the last parent, whose own parents are left.
use Rattle.std.specs.Prelude.{◌≡◌, refl, Bool, true, false, ℕ, ◌+◌, ◌-◌, ◌≤◌, ◌<◌, Option, None, Some, is_some, not, Ok, Err}
use Rattle.std.proofs.Common.{sym, ap, ◌∙◌, subst, true≢false, arith}
use mathlib.Core.List.{List, [], ◌∷◌, Memᴰ}
use Rattle.concepts.specs.Lists.{Bytes}
use Rattle.procedure.specs.Graph.{Graph, node_count, parents}
use Rattle.procedure.specs.GraphLaws.{parent-child}
use Rattle.procedure.specs.TableauLaws.{parents-each}
use Rattle.procedure.proofs.Fit.{Fit}
use Rattle.words.specs.Sizes.{edge_size, most_records}
use Rattle.problem.specs.Decoded.{problem_of}
use Rattle.graph.specs.Graphs.{Work, work, graph_of, capacity_of, Step, WithEdges, parents_from, AmongParents, Walks, IsNext}
use Rattle.graph.specs.GraphLaws.{count-nodes, held-most}
use Rattle.graph.specs.SearchLaws.{parents-all, parents-same, among-parents-same, next-parent-same}
use Rattle.graph.specs.RefineLaws.{refines-as, Course, course-start, course-next, course-short, course-end}
use Rattle.graph.specs.declared.Counts.{Counts}
use Rattle.graph.specs.declared.Area.{Area}
use Rattle.updates.specs.Clauses.{UpdateAsks, Enough, updates, UpdateGives, ParentsGives, Later, Settles, none_in}
use Rattle.updates.specs.LaterLaws.{later_refl, later_trans, later-edges, later-walks, later-enough, update-later, update-fit}

-- ---- whether a parent is left

-- what a step says of the next parent of x from place i on
abbrev pub Tells : Bytes → Bytes → Counts → ℕ → ℕ → Option (ℕ × ℕ) → Type 0
Tells n e c x i v = WithEdges n e c (λ g. AmongParents g x i → IsNext v i c.edges (parents_from g x) (AmongParents g x))

-- and of whether there is one
abbrev pub TellsNone : Bytes → Bytes → Counts → ℕ → ℕ → Bool → Type 0
TellsNone n e c x i b = WithEdges n e c (λ g. AmongParents g x i → b ≡ none_in (parents_from g x i))

module _ {n e : Bytes} {c : Counts} (x i : ℕ) where
  -- the answer, as it is known
  answer : {v u : Option (ℕ × ℕ)} → Tells n e c x i v → v ≡ u → Tells n e c x i u
  answer W ev = subst (λ (u : Option (ℕ × ℕ)). Tells n e c x i u) ev W

  -- there is none exactly if the step finds none
  pub tells-none : (v : Option (ℕ × ℕ)) (b : Bool) → Tells n e c x i v → is_some v ≡ not b → TellsNone n e c x i b
  tells-none None true W q = λ a d h g o. sym (ap none_in (W a d h g o))
  tells-none None false W q = absurd (true≢false (sym q))
  tells-none (Some (j, y)) true W q = absurd (true≢false q)
  tells-none (Some (j, y)) false W q = λ a d h g o. sym (ap none_in (W a d h g o).2)

none_in_lem : (l : List ℕ) → none_in l ≡ true → l ≡ []
none_in_lem [] e = refl
none_in_lem (y ∷ ys) e = absurd (true≢false (sym e))

-- ---- what is left

-- the parents of x from record i on are left: w and c were the areas and the counts at the first of them, w' and d are those now
pub record ParentsTurn (ws : List ℕ) (w : Work) (c : Counts) (x : ℕ) (w' : Work) (d : Counts) (i : ℕ) : Type 0 where
  pub asks : UpdateAsks ws w c x
  pub place : i ≤ c.edges
  pub among : AmongParents (graph_of w c) x i
  pub later : Later w c w' d
  pub fit : Fit (problem_of ws) (capacity_of w') (graph_of w' d)
  pub inside : (y : ℕ) → Memᴰ y (parents_from (graph_of w c) x i) → y < node_count (graph_of w c)
  pub course : (f : ℕ) → Enough w c f → Course (updates ws f) (parents (graph_of w c) x) w c (parents_from (graph_of w c) x i) w' d

pub turn-start : {ws : List ℕ} {w : Work} {c : Counts} {x : ℕ} → UpdateAsks ws w c x → ParentsTurn ws w c x w c 0
turn-start {ws} {w} {c} {x} A =
    let g : Graph = graph_of w c in
    record {
      asks = A;
      place = omega arith;
      among = tt;
      later = later_refl A.held;
      fit = A.fit;
      inside = λ y m. (A.fit.inv.ends y x (parent-child g y x (subst (λ (l : List ℕ). Memᴰ y l) (parents-all g x) m))).0;
      course = λ f few. rw (parents-all g x) (course-start (updates ws f) (parents g x) A.held);
    }

-- ---- a turn

module _ {ws : List ℕ} {w : Work} {c : Counts} {x : ℕ} {n' e' a' : Bytes} {d : Counts} {i : ℕ}
    (t : ParentsTurn ws w c x (work n' e' a') d i) where
  -- the graph of the start, and the areas as they are now
  abbrev g : Graph
  g = graph_of w c

  abbrev w' : Work
  w' = work n' e' a'

  -- record j has the next parent, y
  pub record ParentFound (j y : ℕ) : Type 0 where
    pub from : i ≤ j
    pub below : j < c.edges
    pub here : parents_from g x i ≡ y ∷ parents_from g x (j + 1)
    pub among : AmongParents g x (j + 1)

  there : x < c.nodes
  there = omega (arith, t.asks.there, count-nodes w c)

  -- what the step to the next parent asks
  pub turn-walks : Walks edge_size n' e' c.nodes c.edges x i
  turn-walks = later-walks t.later there t.place

  module _ {v : Option (ℕ × ℕ)} (W : Tells n' e' c x i v) where
    next : {u : Option (ℕ × ℕ)} → v ≡ u → IsNext u i c.edges (parents_from g x) (AmongParents g x)
    next {u} ev =
        let same = later-edges t.later in
        next-parent-same g (graph_of w' c) x i c.edges same u
        (answer x i W ev a' d t.later.held t.later.grown (among-parents-same (graph_of w' c) g x i (sym same) t.among))

    pub turn-next : {j y : ℕ} → v ≡ Some (j, y) → ParentFound j y
    turn-next ev = let (l, m, q, o) = next ev in record { from = l; below = m; here = q; among = o }

    pub turn_end : v ≡ None → ParentsGives ws w c x (Ok d) (work n' e' a')
    turn_end ev f few =
        let none : parents_from g x i ≡ [] = next ev in
        let all : Course (updates ws f) (parents g x) w c [] w' d = rw none at (t.course f few) in
        refines-as (course-end all) (parents-each (updates ws f (capacity_of w)) x g)

-- ---- the next parent

module _ {ws : List ℕ} {w : Work} {c : Counts} {x : ℕ} {n' e' a' : Bytes} {d : Counts} {i : ℕ} {t : ParentsTurn ws w c x
    (work n' e' a') d i} {j y : ℕ} (p : ParentFound t j y) where
  abbrev todo : List ℕ
  todo = parents_from (g t) x (j + 1)

  pub turn-asks : UpdateAsks ws (work n' e' a') d y
  turn-asks =
      let m : y < node_count (g t) = t.inside y (subst (λ (l : List ℕ). Memᴰ y l) (sym p.here) (Memᴰ.head refl)) in
      record { decoded = t.asks.decoded; held = t.later.held; fit = t.fit; there = omega (arith, m, t.later.grows.longer) }

  pub turn-less : c.edges - (j + 1) < c.edges - i
  turn-less = omega (arith, p.from, p.below)

  pub turn-index : j + 1 ≤ most_records
  turn-index = omega (arith, p.below, (held-most t.asks.held).1)

  course-here : (f : ℕ) → Enough w c f → Course (updates ws f) (parents (g t) x) w c (y ∷ todo) (w' t) d
  course-here f few = rw p.here at (t.course f few)

  pub turn-short : {s : Area} {w'' : Work} → UpdateGives ws (work n' e' a') d y (Err s) w'' → ParentsGives ws w c x (Err s) w''
  turn-short G f few = refines-as (course-short (course-here f few) (G f (later-enough t.later f few))) (parents-each (updates ws f (capacity_of w)) x (g t))

  pub turn-updated : {d₂ : Counts} {w'' : Work} → UpdateGives ws (work n' e' a') d y (Ok d₂) w'' → ParentsTurn ws w c x w'' d₂ (j + 1)
  turn-updated G = record {
    asks = t.asks;
    place = omega (arith, p.below);
    among = p.among;
    later = later_trans t.later (update-later turn-asks G);
    fit = update-fit turn-asks G;
    inside = λ v m. t.inside v (subst (λ (l : List ℕ). Memᴰ v l) (sym p.here) (Memᴰ.tail m));
    course = λ f few. course-next (course-here f few) (G f (later-enough t.later f few));
  }

  -- ---- the last parent

  -- with its update, all are updated
  turn_last : todo ≡ [] → (r : Step) {w'' : Work} → UpdateGives ws (work n' e' a') d y r w'' → ParentsGives ws w c x r w''
  turn_last none (Err s) G = turn-short G
  turn_last none (Ok d₂) {w''} G = λ f few.
      let all : Course (updates ws f) (parents (g t) x) w c [] w'' d₂ = rw none at ((turn-updated G).course f few) in
      refines-as (course-end all) (parents-each (updates ws f (capacity_of w)) x (g t))

  module _ {n₁ e₁ a₁ : Bytes} {d₁ : Counts} (S : Settles ws (work n' e' a') d y (work n₁ e₁ a₁) d₁) where
    now-later : Later w c (work n₁ e₁ a₁) d₁
    now-later = later_trans t.later S.later

    pub last-walks : Walks edge_size n₁ e₁ c.nodes c.edges x (j + 1)
    last-walks = later-walks now-later (there t) (omega (arith, p.below))

    -- what is left is to update the parents of y
    pub turn-jump : {b : Bool} → TellsNone n₁ e₁ c x (j + 1) b → b ≡ true
        → (r : Step) {w'' : Work} → ParentsGives ws (work n₁ e₁ a₁) d₁ y r w'' → ParentsGives ws w c x r w''
    turn-jump B eb r G =
        let same = later-edges now-later in
        let h = graph_of (work n₁ e₁ a₁) c in
        let none = none_in_lem (parents_from h x (j + 1))
        (sym (B a₁ d₁ now-later.held now-later.grown (among-parents-same h (g t) x (j + 1) (sym same) p.among)) ∙ eb) in
        turn_last (sym (parents-same (g t) h x (j + 1) same) ∙ none) r (S.whole G)
