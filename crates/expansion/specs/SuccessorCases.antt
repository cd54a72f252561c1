-- The successors of a state, put one after the other: a turn of the loop, on plain values.
--
-- In order: the loop's invariant (`SuccessorsPut`); its start; the end; the next row (`SuccessorFound`), and its put.
use Rattle.std.specs.Prelude.{Option, Some, None, ◌≡◌, ◌≢◌, ℕ, ◌+◌, ◌-◌, ◌*◌, ◌≤◌, ◌<◌, length, Ok, Err}
use Rattle.std.proofs.Math.Path.{refl, subst}
use Rattle.std.proofs.Common.{sym, ap, ◌∙◌, arith}
use mathlib.Core.List.{List, [], ◌∷◌, Memᴰ}
use Rattle.concepts.specs.RowSet.{RowSet}
use Rattle.procedure.specs.SetTests.{existentials}
use Rattle.procedure.proofs.SetTestLaws.{existentials-lt}
use Rattle.procedure.specs.Graph.{Graph, Capacity, Result, for_each, node_at}
use Rattle.procedure.specs.Tableau.{put, successor, put_successors}
use Rattle.procedure.proofs.ExpandFit.{successor-puts}
use Rattle.problem.specs.Decoded.{count_of, table_of, problem_of}
use Rattle.problem.specs.DecodedLaws.{length-table_of}
use Rattle.words.specs.Sizes.{node_size, set_size, width}
use Rattle.rowset.specs.SetOf.{set_of}
use Rattle.settests.specs.Answers.{exists_from, NextExist}
use Rattle.settests.specs.ExistLaws.{exists_from-all}
use Rattle.settests.specs.declared.Exist.{Exist}
use Rattle.graph.specs.Graphs.{Work, graph_of, Step, Refines}
use Rattle.graph.specs.RefineLaws.{refines-as, Course, course-start, course-next, course-short, course-end}
use Rattle.graph.specs.declared.Counts.{Counts}
use Rattle.graph.specs.declared.Area.{Area}
use Rattle.tableau.specs.Clauses.{PutAsks, PutGives}
use Rattle.expansion.specs.Clauses.{ExpandAsks, StateAsks, SuccessorsGives}
use Rattle.expansion.specs.PutCases.{P, cap, g, row_fits, Growing, growing-start, Now, MayPut, now-set, now-inside, now-asks, now-gives, now-put}

-- ---- the loop's invariant

-- the set of node x
abbrev pub rows_of : Work → Counts → ℕ → RowSet
rows_of w c x = (node_at (graph_of w c) x).rows

-- the put of the successor for a role and an argument, of the set s
abbrev pub step : List ℕ → ℕ → RowSet → Capacity → ℕ × ℕ → Graph → Result
step ws x s k u = put (problem_of ws) k x x u.0 (successor (problem_of ws) s u)

-- the existential rows from row k on are left
pub record SuccessorsPut (ws : List ℕ) (w : Work) (c : Counts) (x : ℕ) (w' : Work) (d : Counts) (k : ℕ) : Type 0 where
  pub asks : StateAsks ws w c x
  pub other : x ≢ 0
  pub growing : Growing asks.disj.node (graph_of w' d)
  pub some : (u : ℕ × ℕ) → Memᴰ u (exists_from (table_of ws) (rows_of w c x) k) → Memᴰ u (existentials (table_of ws) (rows_of w c x))
  pub course : Course (step ws x (rows_of w c x)) (existentials (table_of ws) (rows_of w c x)) w c (exists_from (table_of ws) (rows_of w c x) k) w' d

pub turn-start : {ws : List ℕ} {w : Work} {c : Counts} {x : ℕ} → StateAsks ws w c x → x ≢ 0 → SuccessorsPut ws w c x w c 0
turn-start {ws} {w} {c} {x} A other =
    let t = table_of ws in
    let s = rows_of w c x in
    record {
      asks = A;
      other = other;
      growing = growing-start A.disj.node;
      some = λ u m. subst (λ (l : List (ℕ × ℕ)). Memᴰ u l) (exists_from-all t s) m;
      course = rw (exists_from-all t s) (course-start (step ws x s) (existentials t s) A.disj.node.held);
    }

-- ---- a turn

module _ {ws : List ℕ} {w : Work} {c : Counts} {x : ℕ} {w' : Work} {d : Counts} {k : ℕ} (T : SuccessorsPut ws w c x w' d k) where
  abbrev s : RowSet
  s = rows_of w c x

  abbrev A : ExpandAsks ws w c x
  A = T.asks.disj.node

  abbrev h : Graph
  h = graph_of w' d

  -- the next existential row
  pub record SuccessorFound (row role argument : ℕ) : Type 0 where
    pub from : k ≤ row
    pub below : row < count_of ws
    pub here : exists_from (table_of ws) s k ≡ (role, argument) ∷ exists_from (table_of ws) s (row + 1)

  now : Now A w' d
  now = record { held = T.course.held; sized = T.course.sized; growing = T.growing }

  -- the children are these
  whole : put_successors (P A) (cap A) x (g A) ≡ for_each (step ws x s (cap A)) (existentials (table_of ws) s) (g A)
  unfolding put_successors
  whole = refl

  -- the set stands where it stood
  pub turn-set : set_of w'.nodes (node_size * x) ≡ rows_of w c x
  turn-set = now-set now

  pub turn_inside : node_size * x + set_size ≤ length w'.nodes
  turn_inside = now-inside now

  next-is : (o : Option Exist) (q : ℕ) → NextExist (table_of ws) (set_of w'.nodes q) k o → q ≡ node_size * x → NextExist (table_of ws) s k o
  next-is o q E eq = subst (λ (r : RowSet). NextExist (table_of ws) r k o) (ap (set_of w'.nodes) eq ∙ turn-set) E

  -- what is found in the set at place q, where it stands
  module _ {o : Option Exist} (q : ℕ) (E : NextExist (table_of ws) (set_of w'.nodes q) k o) (eq : q ≡ node_size * x) where
    pub turn_end : o ≡ None → SuccessorsGives ws w c x (Ok d) w'
    unfolding NextExist
    turn_end eo =
        let none : exists_from (table_of ws) s k ≡ [] = subst (λ (o : Option Exist). NextExist (table_of ws) s k o) eo (next-is o q E eq) in
        let all : Course (step ws x s) (existentials (table_of ws) s) w c [] w' d = rw none at T.course in
        refines-as (course-end all) whole

    pub turn-next : {v : Exist} → o ≡ Some v → SuccessorFound v.row v.role v.argument
    unfolding NextExist
    turn-next eo =
        let F = subst (λ (o : Option Exist). NextExist (table_of ws) s k o) eo (next-is o q E eq) in
        record { from = F.reached; below = omega (arith, F.inside, length-table_of ws); here = F.rest }

-- ---- the next row

module _ {ws : List ℕ} {w : Work} {c : Counts} {x : ℕ} {w' : Work} {d : Counts} {k : ℕ} {T : SuccessorsPut ws w c x w' d k}
    {row role argument : ℕ} (C : SuccessorFound T row role argument) where
  pub turn-row : row + 1 ≤ width
  turn-row = omega (arith, C.below, (A T).decoded.rows.few)

  pub turn-less : count_of ws - (row + 1) < count_of ws - k
  turn-less = omega (arith, C.from, C.below)

  one_of : Memᴰ (role, argument) (existentials (table_of ws) (s T))
  one_of = T.some (role, argument) (subst (λ (l : List (ℕ × ℕ)). Memᴰ (role, argument) l) (sym C.here) (Memᴰ.head refl))

  pub turn-argument : argument < width
  turn-argument = row_fits (A T) argument (existentials-lt (table_of ws) (s T) (A T).decoded.rows.ordered (role, argument) one_of)

  -- ---- its put: the set σ is the successor's

  may : MayPut (A T) (h T) x role (successor (problem_of ws) (s T) (role, argument))
  may =
      let B = A T in
      successor-puts B.expands T.asks.disj.no_conj T.asks.no_disj T.other (h T) T.growing
      (role, argument) one_of

  pub record Made (σ : RowSet) : Type 0 where
    pub is : σ ≡ successor (problem_of ws) (s T) (role, argument)

  -- of the set where it stands
  pub turn-successor : (q : ℕ) {σ : RowSet} → σ ≡ successor (problem_of ws) (set_of w'.nodes q) (role, argument) → q ≡ node_size * x → Made σ
  turn-successor q eσ eq = record {
    is = eσ ∙ ap (λ (r : RowSet). successor (problem_of ws) r (role, argument))
        (ap (set_of w'.nodes) eq ∙ turn-set T);
  }

  module _ {σ : RowSet} (made : Made σ) where
    pub turn-asks : PutAsks ws w' d x x role σ
    turn-asks = subst (λ (r : RowSet). PutAsks ws w' d x x role r) (sym made.is) (now-asks (now T) may)

    module _ {z : Step} {w'' : Work} (G : PutGives ws w' d x x role σ z w'') where
      given : PutGives ws w' d x x role (successor (problem_of ws) (s T) (role, argument)) z w''
      given = subst (λ (r : RowSet). PutGives ws w' d x x role r z w'') made.is G

      did : {y : Step} → z ≡ y → Refines w' d y w'' (λ q u. step ws x (s T) q (role, argument) u)
      did er = now-gives (now T) may given er

      course-here : Course (step ws x (s T)) (existentials (table_of ws) (s T)) w c ((role, argument) ∷ exists_from (table_of ws) (s T) (row + 1)) w' d
      course-here = rw C.here at T.course

      pub turn-short : {p : Area} → z ≡ Err p → SuccessorsGives ws w c x (Err p) w''
      turn-short er = refines-as (course-short course-here (did er)) (whole T)

      pub turn-put : {d₂ : Counts} → z ≡ Ok d₂ → SuccessorsPut ws w c x w'' d₂ (row + 1)
      turn-put er = record {
        asks = T.asks;
        other = T.other;
        growing = (now-put (now T) may given er).growing;
        some = λ u m. T.some u (subst (λ (l : List (ℕ × ℕ)). Memᴰ u l) (sym C.here) (Memᴰ.tail m));
        course = course-next course-here (did er);
      }
