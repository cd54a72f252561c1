-- The rounds of a run: a turn of the loop, on plain values.
--
-- In order: the root, loaded; the loop's invariant (`RoundsDone`); its start; the end, by the root's status or for want of a node without status;
-- the node to expand (`NextToExpand`), and its expansion.
use Rattle.std.specs.Prelude.{◌≡◌, refl, Bool, true, not, List, ℕ, zero, suc, ◌+◌, ◌-◌, ◌≤◌, ◌<◌, Some, Option, None, Ok, Err}
use Rattle.std.proofs.Common.{sym, ◌∙◌, subst, arith}
use Rattle.std.proofs.Math.Path.{ap}
use Rattle.std.proofs.Math.Bool.{false}
use Rattle.concepts.specs.Lists.{Bytes, NoneBelow}
use Rattle.procedure.specs.Status.{unset, is_unset, is_live}
use Rattle.procedure.proofs.StatusLaws.{is-unset}
use Rattle.procedure.specs.Problem.{Problem}
use Rattle.procedure.specs.Graph.{Node, Graph, Capacity, Result, reached, ◌>>=◌, node_count, node_at, lowest_unset}
use Rattle.procedure.specs.GraphLaws.{lowest_unset-some}
use Rattle.procedure.specs.Tableau.{expand, loop_within}
use Rattle.procedure.specs.TableauLaws.{bind-reached, short-bind, short-as, loop-settled, loop-done, loop-round}
use Rattle.procedure.proofs.Measure.{count-le, with_a_status}
use Rattle.procedure.proofs.ExpandFit.{Still, Expands, still_after, status-stays}
use Rattle.words.specs.Sizes.{node_size}
use Rattle.problem.specs.Decoded.{problem_of}
use Rattle.records.specs.Areas.{room_of, Fits}
use Rattle.records.specs.Codes.{status_of}
use Rattle.records.specs.Records.{node_in, IsStatus, is_unset_at}
use Rattle.graph.specs.Graphs.{Work, work, graph_of, capacity_of, Held, CountsGrown, Sized, Step, WithNodes, PassedOver}
use Rattle.graph.specs.GraphLaws.{grown-refl, grown-trans, sized-refl, sized-trans, sized-places, count-nodes, graph-node, held-node}
use Rattle.graph.specs.RefineLaws.{refines-answer}
use Rattle.graph.specs.declared.Counts.{Counts}
use Rattle.records.specs.declared.Status.{Status}
use Rattle.graph.specs.declared.Area.{Area}
use Rattle.expansion.specs.Clauses.{ExpandAsks, ExpandGives}
use Rattle.rounds.specs.Clauses.{RoundsAsks, all_rounds, RoundsGives}

-- there are no more nodes with a status than places
statuses-fit : (P : Problem) (c : Capacity) (g : Graph) → Still P c g → with_a_status g ≤ c.node_room
statuses-fit P c g A = omega (arith, A.inv.fits, count-le (λ n. not (is_unset n.status)) g.nodes)

-- the root, as it was loaded, is live or not
pub record RootLive (n : Bytes) (b : Bool) : Type 0 where
  pub status : is_live (node_in n 0).status ≡ b

pub root_live : {n : Bytes} {b v : Bool} (s : Status) → IsStatus n 0 s → b ≡ is_live (status_of s) → b ≡ v → RootLive n v
root_live s hs hb hv = record { status = ap is_live (sym hs) ∙ sym hb ∙ hv }

-- ---- the loop's invariant

-- the rounds from here on give the whole, and every node below `from` has a status
pub record RoundsDone (ws : List ℕ) (w : Work) (c : Counts) (w' : Work) (d : Counts) (from : ℕ) : Type 0 where
  pub asks : RoundsAsks ws w c
  pub held : Held w' d
  pub grown : CountsGrown c d
  pub sized : Sized w w'
  pub place : from ≤ d.nodes
  pub passed : NoneBelow (is_unset_at w'.nodes) from
  pub still : Still (problem_of ws) (capacity_of w) (graph_of w' d)
  pub rest : (f : ℕ) × (room_of node_size w.nodes < with_a_status (graph_of w' d) + f)
      × (loop_within (problem_of ws) (capacity_of w) f (graph_of w' d) ≡ all_rounds ws (capacity_of w) (graph_of w c))

pub turn-start : {ws : List ℕ} {w : Work} {c : Counts} → RoundsAsks ws w c → RoundsDone ws w c w c 0
turn-start {w = w} A = record {
  asks = A;
  held = A.held;
  grown = grown-refl;
  sized = sized-refl;
  place = omega arith;
  passed = λ k l. absurd (omega arith);
  still = A.still;
  rest = (suc (room_of node_size w.nodes), omega arith, refl);
}

-- ---- a turn

module _ {ws : List ℕ} {w : Work} {c : Counts} {n' e' a' : Bytes} {d : Counts} {from : ℕ} (T : RoundsDone ws w c (work n' e' a') d from) where
  abbrev P : Problem
  P = problem_of ws

  abbrev cap : Capacity
  cap = capacity_of w

  abbrev loop : ℕ → Graph → Result
  loop f u = loop_within P cap f u

  -- the graph of the call, and as it is now
  abbrev g : Graph
  g = graph_of w c

  abbrev h : Graph
  h = graph_of (work n' e' a') d

  -- the root is live, and x is the lowest node without status
  pub record NextToExpand (x : ℕ) : Type 0 where
    pub live : is_live (node_at h 0).status ≡ true
    pub found : lowest_unset h ≡ Some x
    pub passed : NoneBelow (is_unset_at n') x

  root : 0 < d.nodes
  root = omega (arith, T.still.inv.root.0, count-nodes (work n' e' a') d)

  pub turn-fits : Fits node_size n' 0
  turn-fits = held-node T.held root

  -- what the search for the next node asks
  pub turn-seeks : (d.nodes ≤ room_of node_size n') × (from ≤ d.nodes) × NoneBelow (is_unset_at n') from
  turn-seeks = (T.held.nodes, T.place, T.passed)

  -- fuel is left
  fueled : (f : ℕ) × (cap.node_room < with_a_status h + suc f) × (loop (suc f) h ≡ all_rounds ws cap g)
  fueled = go T.rest.0 T.rest.1 T.rest.2
    where
      go : (f : ℕ) → cap.node_room < with_a_status h + f → loop f h ≡ all_rounds ws cap g
          → (f : ℕ) × (cap.node_room < with_a_status h + suc f) × (loop (suc f) h ≡ all_rounds ws cap g)
      go zero few q = absurd (omega (arith, few, statuses-fit P cap h T.still))
      go (suc f) few q = (f, few, q)

  live : {b : Bool} → RootLive n' b → is_live (node_at h 0).status ≡ b
  live L = ap (λ (u : Node). is_live u.status) (graph-node (work n' e' a') d 0 root) ∙ L.status

  ended : loop (suc fueled.0) h ≡ reached h → RoundsGives ws w c (Ok d) (work n' e' a')
  ended q = record { meets = sym q ∙ fueled.2; held = (T.held, T.grown); sized = T.sized }

  pub turn-settled : RootLive n' false → RoundsGives ws w c (Ok d) (work n' e' a')
  turn-settled L = ended (loop-settled P cap fueled.0 h (live L))

  module _ (L : RootLive n' true) {v : Option ℕ} (W : WithNodes n' d (λ u. v ≡ lowest_unset u) × PassedOver v (is_unset_at n')) where
    pub turn-done : v ≡ None → RoundsGives ws w c (Ok d) (work n' e' a')
    turn-done ev = ended (loop-done P cap fueled.0 h (live L) (sym (W.0 e' a' T.held) ∙ ev))

    pub turn-fresh : {x : ℕ} → v ≡ Some x → NextToExpand x
    turn-fresh ev =
        record {
          live = live L;
          found = sym (W.0 e' a' T.held) ∙ ev;
          passed = subst (λ (v : Option ℕ). PassedOver v (is_unset_at n')) ev
              W.1;
        }

-- ---- an expansion

module _ {ws : List ℕ} {w : Work} {c : Counts} {n' e' a' : Bytes} {d : Counts} {from : ℕ} {T : RoundsDone ws w c
    (work n' e' a') d from} {x : ℕ}
    (F : NextToExpand T x) where
  there : x < node_count (h T)
  there = (lowest_unset-some (h T) x F.found).0

  fresh : (node_at (h T) x).status ≡ unset
  fresh = is-unset (node_at (h T) x).status (lowest_unset-some (h T) x F.found).1

  expands : Expands (P T) (cap T) (h T) x
  expands = record { still = T.still; there = there; fresh = fresh }

  places : capacity_of (work n' e' a') ≡ cap T
  places = sized-places T.sized

  pub turn-asks : ExpandAsks ws (work n' e' a') d x
  turn-asks = record {
    decoded = T.asks.decoded;
    held = T.held;
    expands = subst (λ (q : Capacity). Expands (P T) q (h T) x) (sym places) expands;
  }

  module _ {w'' : Work} {r : Step} (G : ExpandGives ws (work n' e' a') d x r w'') where
    -- the expansion, in the places of the start
    same-places : expand (P T) (capacity_of (work n' e' a')) x (h T) ≡ expand (P T) (cap T) x (h T)
    same-places = ap (λ (q : Capacity). expand (P T) q x (h T)) places

    -- the expansion, and then the rounds that are left
    round : (expand (P T) (cap T) x (h T) >>= loop T (fueled T).0) ≡ all_rounds ws (cap T) (g T)
    round = sym (loop-round (P T) (cap T) (fueled T).0 (h T) F.live x F.found) ∙ (fueled T).2

    pub turn-short : {p : Area} → r ≡ Err p → RoundsGives ws w c (Err p) w''
    turn-short {p} er = record {
      meets = short-as (short-bind (short-as (refines-answer G er).meets same-places) (loop T (fueled T).0)) round;
      held = tt;
      sized = sized-trans T.sized G.sized;
    }

    module _ {d₂ : Counts} (er : r ≡ Ok d₂) where
      expanded : reached (graph_of w'' d₂) ≡ expand (P T) (cap T) x (h T)
      expanded = (refines-answer G er).meets ∙ same-places

      after : Still (P T) (cap T) (graph_of w'' d₂) × (with_a_status (h T) < with_a_status (graph_of w'' d₂))
      after = still_after expands (graph_of w'' d₂) (sym expanded)

      -- one node more has a status
      pub turn-less : room_of node_size w.nodes - with_a_status (graph_of w'' d₂) < room_of node_size w.nodes - with_a_status (graph_of (work n' e' a') d)
      turn-less = omega (arith, after.1, statuses-fit (P T) (cap T) (graph_of w'' d₂) after.0)

      -- nodes never lose a status, so those below x have one still
      set_after : (k : ℕ) → k < d.nodes → is_unset_at n' k ≡ false → is_unset_at w''.nodes k ≡ false
      unfolding is_unset_at
      set_after k l u =
          let was : is_unset (node_at (h T) k).status ≡ false = ap (λ (v : Node). is_unset v.status) (graph-node (work n' e' a') d k l) ∙ u in
          ap (λ (v : Node). is_unset v.status) (sym (graph-node w'' d₂ k (omega (arith, l, (refines-answer G er).held.1.nodes))))
          ∙ status-stays expands (graph_of w'' d₂) (sym expanded) k
          (omega (arith, l, count-nodes (work n' e' a') d)) was

      left : loop T (fueled T).0 (graph_of w'' d₂) ≡ all_rounds ws (cap T) (g T)
      left =
          sym (bind-reached (graph_of w'' d₂) (loop T (fueled T).0)) ∙ ap (λ (q : Result). q >>= loop T (fueled T).0) expanded ∙ round

      pub turn-expanded : RoundsDone ws w c w'' d₂ x
      turn-expanded = let R = refines-answer G er in record {
        asks = T.asks;
        held = R.held.0;
        grown = grown-trans T.grown R.held.1;
        sized = sized-trans T.sized R.sized;
        place = omega (arith, there, count-nodes (work n' e' a') d, R.held.1.nodes);
        passed = λ k l. set_after k (omega (arith, l, there, count-nodes (work n' e' a') d)) (F.passed k l);
        still = after.0;
        rest = ((fueled T).0, omega (arith, (fueled T).1, after.1), left);
      }
