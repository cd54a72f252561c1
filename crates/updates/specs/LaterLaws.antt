-- Laws of areas some steps later (`Later`): one time after another; what stays as it was; an update that is done leads to such areas.
use Rattle.std.specs.Prelude.{◌≡◌, List, ℕ, ◌+◌, ◌≤◌, ◌<◌, Ok}
use Rattle.std.proofs.Common.{sym, ap, subst, arith}
use Rattle.procedure.specs.Graph.{Capacity, Result}
use Rattle.procedure.proofs.Sure.{Sure}
use Rattle.procedure.proofs.Grows.{grows-refl, grows-trans}
use Rattle.procedure.proofs.Measure.{settled, settled-grows}
use Rattle.procedure.proofs.Fit.{Fit, UpdateDone, update-done}
use Rattle.words.specs.Sizes.{edge_size}
use Rattle.problem.specs.Decoded.{problem_of}
use Rattle.graph.specs.Graphs.{Work, graph_of, capacity_of, Held, Refines, Walks}
use Rattle.graph.specs.GraphLaws.{grown-refl, grown-trans, sized-refl, sized-trans, sized-places}
use Rattle.graph.specs.SearchLaws.{edges-kept}
use Rattle.graph.specs.declared.Counts.{Counts}
use Rattle.updates.specs.Clauses.{UpdateAsks, Enough, unsettled, updates, UpdateGives, Later}

-- ---- one time after another

pub later_refl : {w : Work} {c : Counts} → Held w c → Later w c w c
later_refl {w} {c} h = record { held = h; grown = grown-refl; sized = sized-refl; grows = grows-refl (graph_of w c) }

module _ {w : Work} {c : Counts} {w' : Work} {d : Counts} (l : Later w c w' d) where
  pub later_trans : {w'' : Work} {b : Counts} → Later w' d w'' b → Later w c w'' b
  later_trans m = record {
    held = m.held;
    grown = grown-trans l.grown m.grown;
    sized = sized-trans l.sized m.sized;
    grows = grows-trans l.grows
        m.grows;
  }

  -- ---- what stays as it was

  pub later-places : capacity_of w' ≡ capacity_of w
  later-places = sized-places l.sized

  -- the edges that were there stand where they stood
  pub later-edges : (graph_of w' c).edges ≡ (graph_of w c).edges
  later-edges = let (more, q) = l.grows.edges in edges-kept w w' l.grown more q

  -- a step along the chain of a node that was there
  pub later-walks : {x i : ℕ} → x < c.nodes → i ≤ c.edges → Walks edge_size w'.nodes w'.edges c.nodes c.edges x i
  later-walks h p = record {
    node = h;
    nodes = omega (arith, l.held.nodes, l.grown.nodes);
    place = p;
    records = omega
        (arith, l.held.edges, l.grown.edges);
  }

  -- settled nodes stay settled
  pub later-settled : settled (graph_of w c) ≤ settled (graph_of w' d)
  later-settled = settled-grows (graph_of w c) (graph_of w' d) l.grows

  pub later-unsettled : unsettled w' d ≤ unsettled w c
  later-unsettled = omega (arith, later-settled, ap (λ (q : Capacity). q.node_room) later-places)

  pub later-enough : (f : ℕ) → Enough w c f → Enough w' d f
  later-enough f few = omega (arith, few, later-settled, ap (λ (q : Capacity). q.node_room) later-places)

-- ---- an update that is done

module _ {ws : List ℕ} {w : Work} {c : Counts} {x : ℕ} {w' : Work} {d : Counts} (A : UpdateAsks ws w c x) (G : UpdateGives ws w c x (Ok d) w') where
  -- fuel that is enough, however many nodes are settled
  abbrev most : ℕ
  most = (capacity_of w).node_room + 1

  meant : Refines w c (Ok d) w' (λ k g. updates ws most k x g)
  meant = G most (omega arith)

  done : UpdateDone (problem_of ws) (capacity_of w) (graph_of w c) (graph_of w' d)
  done = subst (λ (r : Result). Sure (problem_of ws) (UpdateDone (problem_of ws) (capacity_of w) (graph_of w c)) r) (sym meant.meets)
      (update-done (problem_of ws) (capacity_of w) (graph_of w c) A.fit most x (omega arith))

  pub update-later : Later w c w' d
  update-later = record { held = meant.held.0; grown = meant.held.1; sized = meant.sized; grows = done.grows }

  pub update-fit : Fit (problem_of ws) (capacity_of w') (graph_of w' d)
  update-fit = subst (λ (q : Capacity). Fit (problem_of ws) q (graph_of w' d)) (sym (later-places update-later)) done.fit
