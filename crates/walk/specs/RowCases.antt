-- The rows of one element walked one after another: a turn of the loop, on plain values.
--
-- In order: what is left of the rows (`left`); the loop's invariant (`RowTurn`), its start; the next row (`Row`) and child (`Child`), or the end; the child
-- met. The set of the state is read at its place in each turn: marks are written beside it.
use Rattle.std.specs.Prelude.{◌≡◌, refl, length, Option, None, Some}
use Rattle.std.proofs.Common.{sym, ◌∙◌, subst, arith, length-append}
use Rattle.std.proofs.Math.Path.{ap, ap₂}
use mathlib.Core.List.{List, [], ◌∷◌, map, zip, zip_with, Memᴰ}
use Prim.Native.Nat.{ℕ, ◌+◌, ◌*◌, ◌-◌, ◌≤◌, ◌<◌}
use Rattle.concepts.specs.Begins.{begins-length}
use Rattle.concepts.specs.Concept.{Table}
use Rattle.concepts.specs.RowSet.{RowSet}
use Rattle.procedure.specs.Graph.{Graph, node_at}
use Rattle.meaning.specs.Given.{RoleLink}
use Rattle.procedure.specs.Example.{Walk, descend, position, meet, walk_rows, rows_of}
use Rattle.procedure.specs.ExampleLaws.{meet-links}
use Rattle.procedure.specs.WalkLaws.{walk_rows-none, walk_rows-next, walk_rows-grows}
use Rattle.procedure.proofs.Way.{Way}
use Rattle.words.specs.Sizes.{node_size, edge_size, set_size, most_records, width}
use Rattle.rowset.specs.SetOf.{set_of}
use Rattle.problem.specs.Decoded.{table_of}
use Rattle.problem.specs.DecodedLaws.{length-table_of}
use Rattle.settests.specs.Answers.{exists_from, NextExist}
use Rattle.settests.specs.ExistLaws.{exists_from-all}
use Rattle.settests.specs.declared.Exist.{Exist}
use Rattle.records.specs.Areas.{Fits}
use Rattle.records.specs.AreaLaws.{length-records}
use Rattle.graph.specs.Graphs.{Work, graph_of, children_from, AmongChildren, Walks, EdgesHeld}
use Rattle.graph.specs.GraphLaws.{held-set, held-most}
use Rattle.graph.specs.SearchLaws.{children-all}
use Rattle.graph.specs.declared.Counts.{Counts}
use Rattle.marks.specs.Marks.{state_in, role_link_in}
use Rattle.marks.specs.declared.Sizes.{Sizes}
use Rattle.walk.specs.Clauses.{Kept, DescendAsks, DescendGives, walk_in, Numbered, MeetAsks, MeetGives, element_rows, RowsAsks, RowsGives}
use Rattle.walk.specs.KeptLaws.{Answer, kept_refl, kept_trans, kept-graph, kept_set, kept-holds, next-walks, next-at, next-end}

-- ---- what is left

-- the existential rows of the set of x, from row k on
abbrev exists_at : Table → Graph → ℕ → ℕ → List (ℕ × ℕ)
exists_at t g x k = exists_from t (node_at g x).rows k

-- these with the children of x, from edge i on
abbrev pub left : Table → Graph → ℕ → ℕ → ℕ → List (ℕ × ℕ)
left t g x k i = zip (map (λ (e : ℕ × ℕ). e.0) (exists_at t g x k)) (children_from g x i)

module _ (t : Table) (g : Graph) (x : ℕ) where
  left-all : left t g x 0 0 ≡ rows_of t g x
  unfolding rows_of
  left-all = ap₂ (λ (es : List (ℕ × ℕ)) (ys : List ℕ). zip (map (λ (e : ℕ × ℕ). e.0) es) ys) (exists_from-all t (node_at g x).rows)
      (children-all g x)

  module _ (k i : ℕ) where
    left-rowless : exists_at t g x k ≡ [] → left t g x k i ≡ []
    unfolding zip zip_with
    left-rowless p = ap (λ (es : List (ℕ × ℕ)). zip (map (λ (e : ℕ × ℕ). e.0) es) (children_from g x i)) p

    left-more : (ρ l y m j : ℕ) → exists_at t g x k ≡ (ρ, l) ∷ exists_at t g x m → children_from g x i ≡ y ∷ children_from g x j
        → left t g x k i ≡ (ρ, y) ∷ left t g x m j
    unfolding zip zip_with
    left-more ρ l y m j p q = ap₂ (λ (es : List (ℕ × ℕ)) (ys : List ℕ). zip (map (λ (e : ℕ × ℕ). e.0) es) ys) p q

    left-childless : (ρ l m : ℕ) → exists_at t g x k ≡ (ρ, l) ∷ exists_at t g x m → children_from g x i ≡ [] → left t g x k i ≡ []
    unfolding zip zip_with
    left-childless ρ l m p q = ap₂ (λ (es : List (ℕ × ℕ)) (ys : List ℕ). zip (map (λ (e : ℕ × ℕ). e.0) es) ys) p q

-- ---- the loop's invariant

-- what is left, from row k and from edge i of the children of x on, gives the whole
pub record RowTurn (ws : List ℕ) (w : Work) (c : Counts) (s : Sizes) (d x : ℕ) (w' : Work) (s' : Sizes) (k i : ℕ) : Type 0 where
  pub asks : RowsAsks ws w c s d
  pub kept : Kept w w'
  pub inside : x < c.nodes
  pub place : i ≤ c.edges
  pub among : AmongChildren (graph_of w c) x i
  pub numbered : Numbered w'.nodes c s'.elements
  pub ways : (r : ℕ × ℕ) → Memᴰ r (left (table_of ws) (graph_of w c) x k i) → (y : ℕ) × Way (graph_of w c) r.1 y
  pub rest : (v : Walk) → walk_rows (graph_of w c) d (element_rows ws w c d) (walk_in w s) ≡ Some v
      → walk_rows (graph_of w c) d (left (table_of ws) (graph_of w c) x k i) (walk_in w' s') ≡ Some v

module _ {ws : List ℕ} {w : Work} {c : Counts} {s : Sizes} {d : ℕ} (A : RowsAsks ws w c s d) where
  pub row-element : Fits node_size w.nodes d
  row-element = (omega (arith, A.element, count, A.holds.held.nodes), omega (arith, A.element, count, A.holds.held.nodes))
    where
      count : s.elements ≤ c.nodes
      count =
          omega (
            arith,
            begins-length (walk_in w s).states A.end.states (walk_rows-grows (graph_of w c) d (element_rows ws w c d) (walk_in w s) A.end A.walks).0,
            length-records state_in w.nodes s.elements,
            A.few_states,
          )

  module _ {x : ℕ} (p : x ≡ state_in w.nodes d) where
    there : x < c.nodes
    there = omega (arith, A.numbered.inside d A.element)

    pub row-start : RowTurn ws w c s d x w s 0 0
    row-start =
        let h = graph_of w c in
        let f : left (table_of ws) h x 0 0 ≡ element_rows ws w c d = left-all (table_of ws) h x ∙ ap (rows_of (table_of ws) h) p in
        record {
          asks = A;
          kept = kept_refl;
          inside = there;
          place = omega arith;
          among = tt;
          numbered = A.numbered;
          ways = λ r m. A.ways r (subst (λ (l : List (ℕ × ℕ)). Memᴰ r l) f m);
          rest = λ v u. ap (λ (l : List (ℕ × ℕ)). walk_rows h d l (walk_in w s)) f ∙ u;
        }

-- ---- a turn

module _ {ws : List ℕ} {w : Work} {c : Counts} {s : Sizes} {d x : ℕ} {w' : Work} {s' : Sizes} {k i : ℕ} (T : RowTurn ws w c s d x w' s' k i) where
  abbrev table : Table
  table = table_of ws

  abbrev h : Graph
  h = graph_of w c

  -- the next row
  pub record Row (row ρ l : ℕ) : Type 0 where
    pub below : row < length table
    pub rest : exists_at table h x k ≡ (ρ, l) ∷ exists_at table h x (row + 1)

  -- and the next child
  pub record Child (row ρ index y : ℕ) : Type 0 where
    pub from : i ≤ index
    pub below : index < c.edges
    pub among : AmongChildren h x (index + 1)
    pub todo : left table h x k i ≡ (ρ, y) ∷ left table h x (row + 1) (index + 1)

  same : graph_of w' c ≡ h
  same = kept-graph T.kept c

  holds : EdgesHeld w'.nodes w'.edges c
  holds = kept-holds T.kept c T.asks.holds

  among-now : AmongChildren (graph_of w' c) x i
  among-now = subst (λ (u : Graph). AmongChildren u x i) (sym same) T.among

  pub row-walks : Walks edge_size w'.nodes w'.edges c.nodes c.edges x i
  row-walks = next-walks w' holds x i T.inside T.place

  ended : left table h x k i ≡ [] → RowsGives ws w c s d s' w'
  ended p =
      let A = T.asks in
      let f : walk_rows h d [] (walk_in w' s') ≡ Some A.end = ap (λ (r : List (ℕ × ℕ)). walk_rows h d r (walk_in w' s')) (sym p)
      ∙ T.rest A.end A.walks in
      record { kept = T.kept; numbered = T.numbered; walked = A.walks ∙ sym f ∙ walk_rows-none h d (walk_in w' s') }

  -- the set at its place
  module _ {at : ℕ} (p : at ≡ node_size * x) where
    pub row_inside : at + set_size ≤ length w'.nodes
    row_inside = omega (arith, held-set holds.held T.inside)

    as-kept : (r : Option Exist) → NextExist table (set_of w'.nodes at) k r → NextExist table (node_at h x).rows k r
    as-kept r N =
        let e : set_of w'.nodes at ≡ (node_at h x).rows = ap (set_of w'.nodes) p ∙ kept_set T.kept c x T.inside in
        subst (λ (v : RowSet). NextExist table v k r) e N

    pub row-none : NextExist table (set_of w'.nodes at) k None → RowsGives ws w c s d s' w'
    unfolding NextExist
    row-none N = ended (left-rowless table h x k i (as-kept None N))

    pub row_next : {v : Exist} → NextExist table (set_of w'.nodes at) k (Some v) → Row v.row v.role v.argument
    unfolding NextExist
    row_next {v} N = let E = as-kept (Some v) N in record { below = E.inside; rest = E.rest }

module _ {ws : List ℕ} {w : Work} {c : Counts} {s : Sizes} {d x : ℕ} {w' : Work} {s' : Sizes} {k i : ℕ} {T : RowTurn ws w c s d x w' s' k i}
    {row ρ l : ℕ} (R : Row T row ρ l) where
  pub row_count_lem : row + 1 ≤ width
  row_count_lem = omega (arith, R.below, length-table_of ws, T.asks.decoded.rows.few)

  pub row-childless : Answer w' c x i None → RowsGives ws w c s d s' w'
  row-childless N =
      ended T (left-childless (table T) (h T) x k i ρ l (row + 1) R.rest
      (subst (λ (u : Graph). children_from u x i ≡ []) (same T) (next-end w' (holds T) x i (among-now T) N)))

  pub row-child : {index y : ℕ} → Answer w' c x i (Some (index, y)) → Child T row ρ index y
  row-child {index} {y} N =
      let next = next-at w' (holds T) x i (among-now T) N in
      record {
        from = next.from;
        below = next.below;
        among = subst (λ (u : Graph). AmongChildren u x (index + 1)) (same T) next.among;
        todo = left-more (table T) (h T) x k i ρ l y (row + 1) (index + 1) R.rest
            (subst (λ (u : Graph). children_from u x i ≡ y ∷ children_from u x (index + 1)) (same T) next.more);
      }

-- both, by what the searches for the row and for the child answered
pub row-turn : {ws : List ℕ} {w : Work} {c : Counts} {s : Sizes} {d x : ℕ} {w' : Work} {s' : Sizes} {k i : ℕ} (T : RowTurn ws w c s d x w' s' k i)
    {at : ℕ} (v : Exist) → at ≡ node_size * x → NextExist (table_of ws) (set_of w'.nodes at) k (Some v) → {index y : ℕ}
    → Answer w' c x i (Some (index, y))
    → Child T v.row v.role index y
row-turn T v p N M = row-child (row_next T p N) M

-- ---- the child met

module _ {ws : List ℕ} {w : Work} {c : Counts} {s : Sizes} {d x : ℕ} {w' : Work} {s' : Sizes} {k i : ℕ} {T : RowTurn ws w c s d x w' s' k i}
    {row ρ index y : ℕ} (C : Child T row ρ index y) where
  pub row-index : index + 1 ≤ most_records
  row-index = omega (arith, C.below, (held-most (holds T).held).1)

  pub row-less : c.edges - (index + 1) < c.edges - i
  row-less = omega (arith, C.from, C.below)

  abbrev more : List (ℕ × ℕ)
  more = left (table T) (h T) x (row + 1) (index + 1)

  pub row-asks : DescendAsks w' c y
  row-asks =
      let (b, v) = T.ways (ρ, y) (subst (λ (r : List (ℕ × ℕ)). Memᴰ (ρ, y) r) (sym C.todo) (Memᴰ.head refl)) in
      record { holds = holds T; end = b; way = subst (λ (u : Graph). Way u y b) (sym (same T)) v }

  module _ {b : ℕ} (D : DescendGives w' c y b) where
    abbrev next : Walk
    next = meet d ρ b (walk_in w' s')

    -- the state that the definition meets is the one that was found
    goes_on : (v : Walk) → walk_rows (h T) d (element_rows ws w c d) (walk_in w s) ≡ Some v → walk_rows (h T) d more next ≡ Some v
    goes_on v u =
        let (z, f, r) = walk_rows-next (h T) d (ρ, y) more (walk_in w' s') v
        (ap (λ (rs : List (ℕ × ℕ)). walk_rows (h T) d rs (walk_in w' s')) (sym C.todo) ∙ T.rest v u) in
        let found : descend (h T) y ≡ Some b = subst (λ (u : Graph). descend u y ≡ Some b) (same T) D.finds in
        let o : z ≡ b = cc in
        subst (λ (a : ℕ). walk_rows (h T) d more (meet d ρ a (walk_in w' s')) ≡ Some v) o r

    pub row-meets : MeetAsks w' c s' d ρ b
    row-meets =
        let A = T.asks in
        let (grown, count) = walk_rows-grows (h T) d more next A.end (goes_on A.end A.walks) in
        record {
          holds = holds T;
          numbered = T.numbered;
          inside = D.inside;
          few_states = omega (arith, begins-length next.states A.end.states grown, A.few_states);
          few_links = omega (
            arith,
            count,
            A.few_links,
            ap (λ (ls : List RoleLink). length ls) (meet-links d ρ b (walk_in w' s')),
            length-append (walk_in w' s').links (record { from = d; role = ρ; to = position b (walk_in w' s').states } ∷ []),
            length-records role_link_in w'.edges s'.links,
          );
        }

    pub row-met : {w'' : Work} {r : Sizes} → MeetGives w' c s' d ρ b r w'' → RowTurn ws w c s d x w'' r (row + 1) (index + 1)
    row-met M = record {
      asks = T.asks;
      kept = kept_trans T.kept M.kept;
      inside = T.inside;
      place = omega (arith, C.below);
      among = C.among;
      numbered = M.numbered;
      ways = λ a i. T.ways a (subst (λ (l : List (ℕ × ℕ)). Memᴰ a l) (sym C.todo) (Memᴰ.tail i));
      rest = λ v u. ap (walk_rows (h T) d more) M.meets ∙ goes_on v u;
    }
