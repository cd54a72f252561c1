-- Laws of the steps: each is a few of the graph's own steps, one after another.
--
-- In order: a node that is added first, and what follows it; a node with the edge to it; a special node that is linked; one that is lapsed.
use Rattle.std.specs.Prelude.{◌≡◌, refl, true, false, ℕ, ◌+◌, ◌≤◌, ◌<◌, Option, None, Some, Ok, Err}
use Rattle.std.proofs.Common.{sym, ap, subst, ◌∙◌, arith}
use Rattle.concepts.specs.Lists.{Bytes}
use Rattle.concepts.specs.RowSet.{RowSet}
use Rattle.procedure.specs.Status.{unset, toosmall, is_live}
use Rattle.procedure.specs.Graph as G
use Rattle.procedure.specs.GraphLaws.{find-state}
use Rattle.procedure.specs.Tableau.{below, state, join_alternatives, link_to, link_found, link_special}
use Rattle.records.specs.Codes.{status_of}
use Rattle.records.specs.Records.{node_in, IsStatus}
use Rattle.graph.specs.Graphs.{Work, work, graph_of, capacity_of, Held, Step, Operation, Refines, WithNodes, AddsNode, AddsEdge, AddsAlternative, ChangesNodes}
use Rattle.graph.specs.GraphLaws.{sized-refl, count-nodes, graph-node}
use Rattle.graph.specs.AddLaws.{added-count}
use Rattle.graph.specs.RefineLaws.{refines-answer, refines-as, refines-held, refines-then, refines-short, refines-none, changes-then}
use Rattle.graph.specs.declared.Counts.{Counts}
use Rattle.records.specs.declared.Status.{Status}
use Rattle.graph.specs.declared.Area.{Area}
use Rattle.steps.specs.Steps.{AddsBelow, add_child, add_lapsed}

-- ---- a node that is added first

module _ {n n' : Bytes} {c : Counts} {first : Step} (v : G.Node) (adds : AddsNode n n' c first (λ k g. G.add_node k v g)) where
  -- the areas hold one node more
  pub node-held : {d : Counts} → first ≡ Ok d → {e a : Bytes} → Held (work n e a) c → Held (work n' e a) d × (d.nodes ≡ c.nodes + 1)
  node-held {d} w {e} {a} h =
      let R = refines-answer (adds e a h) w in
      (refines-held R, added-count (work n e a) c v (capacity_of (work n e a)) (work n' e a) d R.meets)

  -- what follows it may use its number, which is the count of the nodes before
  pub node-then : {d : Counts} → first ≡ Ok d → (next : ℕ → Operation) {e a : Bytes} {s : Step} {w' : Work} → Held (work n e a) c
      → (Held (work n' e a) d → Refines (work n' e a) d s w' (next c.nodes))
      → Refines (work n e a) c s w' (λ k g. G.◌>>=◌ (G.add_node k v g) (next (G.node_count g) k))
  node-then {d} w next {e} {a} {s} {w'} h after =
      let R = refines-answer (adds e a h) w in
      refines-then R (λ g. next (G.node_count g))
      (subst (λ (m : ℕ). Refines (work n' e a) d s w' (next m)) (sym (count-nodes (work n e a) c)) (after (refines-held R)))

  -- without a place for it nothing follows
  pub node-short : {p : Area} → first ≡ Err p → (next : ℕ → Operation) {e a : Bytes} → Held (work n e a) c
      → Refines (work n e a) c (Err p) (work n' e a) (λ k g. G.◌>>=◌ (G.add_node k v g) (next (G.node_count g) k))
  node-short w next {e} {a} h = refines-short (refines-answer (adds e a h) w) (λ g. next (G.node_count g)) sized-refl

-- ---- a node with the edge to it

module _ {n n' e : Bytes} {c : Counts} {first : Step} (x : ℕ) (v : G.Node) (adds : AddsNode n n' c first (λ k g. G.add_node k v g)) where
  pub child-done : {n'' e' : Bytes} {d : Counts} {s : Step} → first ≡ Ok d → AddsEdge n' n'' e e' d s (λ k g. G.add_edge k x c.nodes g)
      → AddsBelow n n'' e e' c s (add_child x v)
  child-done w edge a h = node-then v adds w (λ m k g. G.add_edge k x m g) h (λ held. edge a held)

  pub child-full : {p : Area} → first ≡ Err p → AddsBelow n n' e e c (Err p) (add_child x v)
  child-full w a h = node-short v adds w (λ m k g. G.add_edge k x m g) h

-- ---- a special node that is linked

pub link-done : {n n₁ n' e e' : Bytes} {c : Counts} {s : Step} (z y : ℕ) → ChangesNodes n n₁ c (G.set_link z (G.to_state y))
    → AddsEdge n₁ n' e e' c s (λ k g. G.add_edge k z y g)
    → AddsBelow n n' e e' c s (λ k g. link_to k z y g)
unfolding link_to
link-done {e = e} z y changes edge a h = let C = changes e a h in changes-then C (λ g k u. G.add_edge k z y u) (edge a C.held)

-- the state that was looked for
module _ {n : Bytes} {c : Counts} (z : ℕ) (rows : RowSet) {r : Option ℕ} (found : WithNodes n c (λ g. r ≡ G.find_state rows g)) where
  -- as if it was known which it is
  as-found : {e e' n' : Bytes} {s : Step} {v : Option ℕ} → r ≡ v → AddsBelow n n' e e' c s (λ k g. link_found k z rows v g)
      → AddsBelow n n' e e' c s (λ k g. link_found k z rows (G.find_state rows g) g)
  as-found {e} {v = v} w links a h =
      let g = graph_of (work n e a) c in
      refines-as (links a h) (ap (λ (o : Option ℕ). link_found (capacity_of (work n e a)) z rows o g) (sym (found e a h) ∙ w))

  -- it is a node
  pub found_below : {y : ℕ} → r ≡ Some y → {e a : Bytes} → Held (work n e a) c → y < c.nodes
  found_below {y} w {e} {a} h =
      let g = graph_of (work n e a) c in
      omega (arith, (find-state rows g y (sym (found e a h) ∙ w)).0, count-nodes (work n e a) c)

  pub found-there : {n' e e' : Bytes} {s : Step} {y : ℕ} → r ≡ Some y → AddsBelow n n' e e' c s (λ k g. link_to k z y g)
      → AddsBelow n n' e e' c s (λ k g. link_found k z rows (G.find_state rows g) g)
  unfolding link_found
  found-there {y = y} w links = as-found {v = Some y} w links

  module _ (w : r ≡ None) {n₁ e : Bytes} {first : Step} (adds : AddsNode n n₁ c first (λ k g. G.add_node k (state rows) g)) where
    -- it is made
    pub found-new : {n' e' : Bytes} {d : Counts} {s : Step} → first ≡ Ok d → AddsBelow n₁ n' e e' d s (λ k g. link_to k z c.nodes g)
        → AddsBelow n n' e e' c s (λ k g. link_found k z rows (G.find_state rows g) g)
    unfolding link_found
    found-new q links = as-found {v = None} w (λ a h. node-then (state rows) adds q (λ m k g. link_to k z m g) h (λ held. links a held))

    -- or finds no place
    pub found-full : {p : Area} → first ≡ Err p → AddsBelow n n₁ e e c (Err p) (λ k g. link_found k z rows (G.find_state rows g) g)
    unfolding link_found
    found-full q = as-found {v = None} w (λ a h. node-short (state rows) adds q (λ m k g. link_to k z m g) h)

module _ {n n₁ e : Bytes} {c : Counts} {first : Step} (p ρ : ℕ) (rows : RowSet)
    (adds : AddsNode n n₁ c first (λ k g. G.add_node k (below p ρ rows unset G.unlinked) g)) where
  pub special-done : {n' e' : Bytes} {d : Counts} {s : Step} → first ≡ Ok d
      → AddsBelow n₁ n' e e' d s (λ k g. link_found k c.nodes rows (G.find_state rows g) g)
      → AddsBelow n n' e e' c s (λ k g. link_special k p ρ rows g)
  unfolding link_special
  special-done w links a h = node-then (below p ρ rows unset G.unlinked) adds w (λ m k g. link_found k m rows (G.find_state rows g) g) h (λ held. links a held)

  pub special-full : {area : Area} → first ≡ Err area → AddsBelow n n₁ e e c (Err area) (λ k g. link_special k p ρ rows g)
  unfolding link_special
  special-full w a h = node-short (below p ρ rows unset G.unlinked) adds w (λ m k g. link_found k m rows (G.find_state rows g) g) h

-- ---- a special node that is lapsed

-- by the status of node p that was read and its test
module _ {n : Bytes} (c : Counts) (p : ℕ) (lacked : RowSet) (v : Status) (read : IsStatus n p v) (l : p < c.nodes) where
  status-read : (w : Work) → w.nodes ≡ n → is_live (status_of v) ≡ is_live (G.node_at (graph_of w c) p).status
  status-read w q = ap is_live (read ∙ ap (λ (x : G.Node). x.status) (ap (λ (b : Bytes). node_in b p) (sym q) ∙ sym (graph-node w c p l)))

  pub join-done : {n' a a' : Bytes} {s : Step} → is_live (status_of v) ≡ true
      → AddsAlternative n n' a a' c s (λ k g. G.add_alternative k p lacked g)
      → AddsAlternative n n' a a' c s (λ k g. join_alternatives k p lacked g)
  unfolding join_alternatives
  join-done {a = a} live adds e h = refines-as (adds e h) (rw (sym (status-read (work n e a) refl) ∙ live, join_alternatives))

  pub join-not : {a : Bytes} → is_live (status_of v) ≡ false → AddsAlternative n n a a c (Ok c) (λ k g. join_alternatives k p lacked g)
  unfolding join_alternatives
  join-not {a} settled e h = refines-as (refines-none h) (rw (sym (status-read (work n e a) refl) ∙ settled, join_alternatives))

module _ {n n₁ e a : Bytes} {c : Counts} {first : Step} (x p ρ : ℕ) (rows lacked : RowSet)
    (adds : AddsNode n n₁ c first (λ k g. G.add_node k (below p ρ rows toosmall G.lapsed) g))
    (h : Held (work n e a) c) where
  abbrev joining : ℕ → Operation
  joining m k g = join_alternatives k p lacked g

  abbrev last : G.Graph → Operation
  last g k u = G.add_edge k x (G.node_count g) u

  module _ {n₂ a' : Bytes} {d : Counts} {second : Step} (w : first ≡ Ok d)
      (joins : AddsAlternative n₁ n₂ a a' d second (λ k g. join_alternatives k p lacked g)) where
    joined : Refines (work n e a) c second (work n₂ e a')
        (λ k g. G.◌>>=◌ (G.add_node k (below p ρ rows toosmall G.lapsed) g) (join_alternatives k p lacked))
    joined = node-then (below p ρ rows toosmall G.lapsed) adds w joining h (λ held. joins e held)

    -- the areas hold the node, and there are as many nodes as then
    pub joined-held : {b : Counts} → second ≡ Ok b → Held (work n₂ e a') b × (d.nodes ≤ b.nodes)
    joined-held u = let R = refines-answer (joins e (node-held (below p ρ rows toosmall G.lapsed) adds w h).0) u in (refines-held R, R.held.1.nodes)

    pub lapsed-done : {n₃ e' : Bytes} {b : Counts} {s : Step} → second ≡ Ok b → AddsEdge n₂ n₃ e e' b s (λ k g. G.add_edge k x c.nodes g)
        → Refines (work n e a) c s (work n₃ e' a') (add_lapsed x p ρ rows lacked)
    lapsed-done {n₃} {e'} {b} {s} u edge =
        let R = refines-answer joined u in
        refines-then R last (subst (λ (m : ℕ). Refines (work n₂ e a') b s (work n₃ e' a') (λ k g. G.add_edge k x m g))
        (sym (count-nodes (work n e a) c)) (edge a' (refines-held R)))

    pub lapsed-full : {area : Area} → second ≡ Err area → Refines (work n e a) c (Err area) (work n₂ e a') (add_lapsed x p ρ rows lacked)
    lapsed-full u = refines-short (refines-answer joined u) last sized-refl

  pub lapsed-none : {area : Area} → first ≡ Err area → Refines (work n e a) c (Err area) (work n₁ e a) (add_lapsed x p ρ rows lacked)
  lapsed-none w = refines-short (node-short (below p ρ rows toosmall G.lapsed) adds w joining h) last sized-refl
