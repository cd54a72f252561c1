-- Laws of Graphs: what a search through an area finds in the graph that it holds.
--
-- In order: searches for a node; the records of a node, from a place on; a step along a chain; a search through the alternatives of a state.
use Rattle.std.specs.Prelude.{◌≡◌, refl, Bool, true, false, ◌&&◌, ◌||◌, ℕ, suc, ◌+◌, ◌*◌, ◌≤◌, ◌<◌, get_or, Option, None, Some}
use Rattle.std.proofs.Common.{sym, ◌∙◌, arith}
use Rattle.std.proofs.Math.Path.{ap, subst}
use mathlib.Core.List.{List, [], ◌∷◌, ◌++◌}
use Rattle.std.proofs.Math.Dec.{eqb, ltb}
use Rattle.concepts.specs.Tests.{and-nothing, and-all, picks_first, picks_second}
use Rattle.concepts.specs.Lists.{Bytes, range, NoneBelow, any, select}
use Rattle.concepts.specs.ListLaws.{get_or-range, length-range}
use Rattle.concepts.specs.FirstLaws.{first-at, first-nowhere}
use Rattle.concepts.specs.RowSet.{RowSet}
use Rattle.procedure.specs.Status.{is_unset}
use Rattle.procedure.specs.Graph as G
use Rattle.words.specs.Sizes.{node_size, edge_size, alternative_size}
use Rattle.records.specs.Areas.{Fits, records_in, chosen_from}
use Rattle.records.specs.AreaLaws.{get_or-records, records-kept, chosen-found, chosen-end, room_fits}
use Rattle.rowset.specs.SetOf.{set_of}
use Rattle.records.specs.Records.{node_in, is_unset_at, edge_in, alternative_in}
use Rattle.records.specs.RecordLaws.{node-rows}
use Rattle.chains.specs.Chain.{First, Behind, following}
use Rattle.chains.specs.ChainLaws.{chain-follows, first_found, first-end, behind-same}
use Rattle.chains.specs.Places.{key_in, next_in, first_in, ChainIn}
use Rattle.chains.specs.declared.Places.{Places}
use Rattle.graph.specs.Chains.{child_places, parent_places, alternative_places}
use Rattle.graph.specs.Graphs.{Work, work, graph_of, Held, CountsGrown, is_state_with, children_from, parents_from, alternatives_from}
use Rattle.graph.specs.Graphs.{no_edge, no_alternative, AmongChildren, AmongParents, AmongAlternatives, Walks, IsRecord, IsNext, IsNextAlternative}
use Rattle.graph.specs.Graphs.{WithAlternatives, Owns}
use Rattle.graph.specs.GraphLaws.{grown-refl, count-nodes, count-edges, count-alternatives, graph-node}
use Rattle.graph.specs.declared.Counts.{Counts}

-- ---- searches for a node

-- the test of a node by its set, and then by its flag
module _ (n : Bytes) (x : ℕ) (s : RowSet) where
  by-set : {b : Bool} → eqb (set_of n (node_size * x)) s ≡ b → is_state_with n s x ≡ (ltb 0 x && ((node_in n x).is_state && b))
  unfolding is_state_with
  by-set e = ap (λ (b : Bool). ltb 0 x && ((node_in n x).is_state && b)) (ap (λ (r : RowSet). eqb r s) (node-rows n x) ∙ e)

  pub other-set : eqb (set_of n (node_size * x)) s ≡ false → false ≡ is_state_with n s x
  other-set e = sym (by-set e ∙ ap (λ (b : Bool). ltb 0 x && b) (and-nothing (node_in n x).is_state) ∙ and-nothing (ltb 0 x))

  pub same_set : eqb (set_of n (node_size * x)) s ≡ true → {a : Bool} → a ≡ (node_in n x).is_state → (ltb 0 x && a) ≡ is_state_with n s x
  same_set e flag = ap (λ (b : Bool). ltb 0 x && b) (flag ∙ sym (and-all (node_in n x).is_state)) ∙ sym (by-set e)

-- what `lowest` asks of a node
abbrev answer : (ℕ → Bool) → ℕ → Option ℕ
answer f x = elim (f x) as (λ _. Option ℕ) [ true ↦ Some x | false ↦ None ]

answer-some : (f : ℕ → Bool) (x : ℕ) → f x ≡ true → answer f x ≡ Some x
answer-some f x e = picks_first (Some x) None (f x) e

answer-none : (f : ℕ → Bool) (x : ℕ) → f x ≡ false → answer f x ≡ None
answer-none f x e = picks_second (Some x) None (f x) e

-- a search over the nodes of a graph by a test that agrees with f on them
module _ (f test : ℕ → Bool) (g : G.Graph) (agree : (x : ℕ) → x < G.node_count g → f x ≡ test x) where
  number : (j : ℕ) → j < G.node_count g → get_or (range 0 (G.node_count g)) j 0 ≡ j
  number j h = get_or-range 0 (G.node_count g) j 0 h ∙ omega arith

  lowest-found : (x : ℕ) → x < G.node_count g → NoneBelow test x → test x ≡ true → G.lowest f g ≡ Some x
  unfolding G.lowest
  lowest-found x h all t =
      first-at (answer f) (range 0 (G.node_count g)) 0 x x (omega (arith, length-range 0 (G.node_count g)))
      (λ j l. ap (answer f) (number j (omega arith)) ∙ answer-none f j (agree j (omega arith) ∙ all j l))
      (ap (answer f) (number x h) ∙ answer-some f x (agree x h ∙ t))

  lowest-nowhere : NoneBelow test (G.node_count g) → G.lowest f g ≡ None
  unfolding G.lowest
  lowest-nowhere all =
      first-nowhere (answer f) (range 0 (G.node_count g)) 0
      (λ j l. let h : j < G.node_count g = omega (arith, length-range 0 (G.node_count g)) in ap (answer f) (number j h)
      ∙ answer-none f j (agree j h ∙ all j h))

module _ (w : Work) (c : Counts) where
  module _ (s : RowSet) where
    states-agree : (x : ℕ) → x < G.node_count (graph_of w c)
        → (ltb 0 x && ((G.node_at (graph_of w c) x).is_state && eqb (G.node_at (graph_of w c) x).rows s)) ≡ is_state_with w.nodes s x
    unfolding is_state_with
    states-agree x h = ap (λ (v : G.Node). ltb 0 x && (v.is_state && eqb v.rows s)) (graph-node w c x (omega (arith, count-nodes w c)))

    pub state-found : (x : ℕ) → x < c.nodes → NoneBelow (is_state_with w.nodes s) x → is_state_with w.nodes s x ≡ true
        → G.find_state s (graph_of w c) ≡ Some x
    unfolding G.find_state
    state-found x h all t = lowest-found _ (is_state_with w.nodes s) (graph_of w c) states-agree x (omega (arith, count-nodes w c)) all t

    pub state-nowhere : NoneBelow (is_state_with w.nodes s) c.nodes → G.find_state s (graph_of w c) ≡ None
    unfolding G.find_state
    state-nowhere all = lowest-nowhere _ (is_state_with w.nodes s) (graph_of w c) states-agree (λ k l. all k (omega (arith, count-nodes w c)))

  unset-agree : (x : ℕ) → x < G.node_count (graph_of w c) → is_unset (G.node_at (graph_of w c) x).status ≡ is_unset_at w.nodes x
  unfolding is_unset_at
  unset-agree x h = ap (λ (v : G.Node). is_unset v.status) (graph-node w c x (omega (arith, count-nodes w c)))

  pub unset-found : (x : ℕ) → x < c.nodes → NoneBelow (is_unset_at w.nodes) x → is_unset_at w.nodes x ≡ true
      → G.lowest_unset (graph_of w c) ≡ Some x
  unfolding G.lowest_unset
  unset-found x h all t = lowest-found _ (is_unset_at w.nodes) (graph_of w c) unset-agree x (omega (arith, count-nodes w c)) all t

  pub unset-nowhere : NoneBelow (is_unset_at w.nodes) c.nodes → G.lowest_unset (graph_of w c) ≡ None
  unfolding G.lowest_unset
  unset-nowhere all = lowest-nowhere _ (is_unset_at w.nodes) (graph_of w c) unset-agree (λ k l. all k (omega (arith, count-nodes w c)))

-- ---- the records of a node

pub children-all : (g : G.Graph) (x : ℕ) → children_from g x 0 ≡ G.children g x
unfolding children_from chosen_from G.children
children-all g x = refl

pub parents-all : (g : G.Graph) (x : ℕ) → parents_from g x 0 ≡ G.parents g x
unfolding parents_from chosen_from G.parents
parents-all g x = refl

pub alternatives-all : (g : G.Graph) (x : ℕ) → alternatives_from g x 0 ≡ G.alternatives_of g x
unfolding alternatives_from chosen_from G.alternatives_of
alternatives-all g x = refl

-- records that were there stay where they are: the areas w' with counts d hold what those of w with counts c held, and more
module _ (w w' : Work) {c d : Counts} (grown : CountsGrown c d) where
  pub edges-kept : (more : List G.Edge) → (graph_of w' d).edges ≡ (graph_of w c).edges ++ more → (graph_of w' c).edges ≡ (graph_of w c).edges
  unfolding graph_of
  edges-kept more q = records-kept edge_in w'.edges c.edges d.edges (graph_of w c).edges more (count-edges w c) grown.edges q

  pub alternatives-kept : (more : List G.Alternative) → (graph_of w' d).alternatives ≡ (graph_of w c).alternatives ++ more
      → (graph_of w' c).alternatives ≡ (graph_of w c).alternatives
  unfolding graph_of
  alternatives-kept more q =
      records-kept alternative_in w'.alternatives c.alternatives d.alternatives (graph_of w c).alternatives more
      (count-alternatives w c) grown.alternatives q

-- the parents of a node are by the edges alone, and the alternatives of a state by the alternatives
module _ (g h : G.Graph) (x i : ℕ) where
  pub parents-same : h.edges ≡ g.edges → parents_from h x i ≡ parents_from g x i
  unfolding parents_from
  parents-same e = ap (λ (l : List G.Edge). chosen_from (λ (u : G.Edge). eqb u.to x) (λ (u : G.Edge). u.from) l i) e

  pub among-parents-same : h.edges ≡ g.edges → AmongParents h x i → AmongParents g x i
  among-parents-same e = subst (λ (l : List G.Edge). Behind (λ j. (get_or l j no_edge).to) x i) e

  pub alternatives-same : h.alternatives ≡ g.alternatives → alternatives_from h x i ≡ alternatives_from g x i
  unfolding alternatives_from
  alternatives-same e = ap (λ (l : List G.Alternative). chosen_from (λ (u : G.Alternative). eqb u.owner x) (λ (u : G.Alternative). u.rows) l i) e

  pub among-alternatives-same : h.alternatives ≡ g.alternatives → AmongAlternatives h x i → AmongAlternatives g x i
  among-alternatives-same e = subst (λ (l : List G.Alternative). Behind (λ j. (get_or l j no_alternative).owner) x i) e

-- so what a step along a chain gives now, it gives of the graph of then
module _ (g h : G.Graph) (x i count : ℕ) where
  pub next-parent-same : h.edges ≡ g.edges → (v : Option (ℕ × ℕ)) → IsNext v i count (parents_from h x) (AmongParents h x)
      → IsNext v i count (parents_from g x) (AmongParents g x)
  next-parent-same e (Some (j, y)) (l, m, q, o) = (
    l,
    m,
    sym (parents-same g h x i e) ∙ q ∙ ap (λ (z : List ℕ). y ∷ z) (parents-same g h x (j + 1) e),
    among-parents-same g h x (j + 1) e o,
  )
  next-parent-same e None q = sym (parents-same g h x i e) ∙ q

  pub next-alternative-same : (a : Bytes) → h.alternatives ≡ g.alternatives → (v : Option ℕ)
      → IsNextAlternative a v i count (alternatives_from h x) (AmongAlternatives h x)
      → IsNextAlternative a v i count (alternatives_from g x) (AmongAlternatives g x)
  next-alternative-same a e (Some j) (l, m, q, o) = (
    l,
    m,
    sym (alternatives-same g h x i e) ∙ q ∙ ap (λ (z : List RowSet). set_of a (alternative_size * j) ∷ z) (alternatives-same g h x (j + 1) e),
    among-alternatives-same g h x (j + 1) e o,
  )
  next-alternative-same a e None q = sym (alternatives-same g h x i e) ∙ q

-- ---- a step along a chain is what a search finds

-- for any kind of record: they are read by `read`, belong to a node by `key_of`, which stands at the key's place, and are worth `worth`
module _ {A B : Type 0} (p : Places) (read : Bytes → ℕ → A) (key_of : A → ℕ) (worth : A → B) (missing : A)
    (keyed : (b : Bytes) (j : ℕ) → key_of (read b j) ≡ key_in p b j) where
  -- the key of record j, and what the records of x are worth, among the first `count` records
  abbrev key_at : Bytes → ℕ → ℕ → ℕ
  key_at b count j = key_of (get_or (records_in read b count) j missing)

  abbrev rest_from : Bytes → ℕ → ℕ → ℕ → List B
  rest_from b count x = chosen_from (λ d. eqb (key_of d) x) worth (records_in read b count)

  -- from place `from` of the chain of x on, the chain gives record i
  module _ (n b : Bytes) {m k count x from i : ℕ} (C : ChainIn p n b m k) (h : x < m) (few : count ≤ k) (l : from ≤ count)
      (o : Behind (key_at b count) x from) (s : i ≡ following (next_in p b) (first_in p n) x from) where
    key_here : (j : ℕ) → j < count → key_at b count j ≡ key_in p b j
    key_here j q = ap key_of (get_or-records read b count j missing q) ∙ keyed b j

    along : First (key_in p b) x from k i
    along = rw s (chain-follows C h from (omega arith) (behind-same (λ j q. sym (key_here j q)) x from l o))

    tests : (j : ℕ) → eqb (key_in p b j) x ≡ eqb (key_of (read b j)) x
    tests j = ap (λ (v : ℕ). eqb v x) (sym (keyed b j))

    along-next : i < count → (from ≤ i) × (i < count) × (rest_from b count x from ≡ worth (read b i) ∷ rest_from b count x (i + 1))
        × Behind (key_at b count) x (i + 1)
    along-next q =
        let f = first_found along C.few count few q in
        let e : suc i ≡ i + 1 = omega arith in (
          f.start,
          q,
          chosen-found (λ d. eqb (key_of d) x) worth read b count from i (λ j. eqb (key_in p b j) x) tests f q,
          subst (λ (v : ℕ). Behind (key_at b count) x v) e (key_here i q ∙ (along.found (omega (arith, C.few))).2),
        )

    along-end : count ≤ i → rest_from b count x from ≡ []
    along-end q =
        chosen-end (λ d. eqb (key_of d) x) worth read b count from count (λ j. eqb (key_in p b j) x) tests (first-end along C.few count few l q)
        (omega arith)

module _ {n e a : Bytes} {c d : Counts} (H : Held (work n e a) d) (grown : CountsGrown c d) where
  -- the graph with counts c
  abbrev g : G.Graph
  g = graph_of (work n e a) c

  module _ {x from : ℕ} (walks : Walks edge_size n e c.nodes c.edges x from) where
    there : x < d.nodes
    there = omega (arith, walks.node, grown.nodes)

    module _ {i : ℕ} (o : AmongChildren g x from) (s : i ≡ following (next_in child_places e) (first_in child_places n) x from) where
      pub child-next : (y : ℕ) → y ≡ (edge_in e i).to → i < c.edges → IsNext (Some (i, y)) from c.edges (children_from g x) (AmongChildren g x)
      unfolding children_from graph_of edge_in
      child-next y q h =
          rw q (along-next child_places edge_in (λ (d : G.Edge). d.from) (λ (d : G.Edge). d.to) no_edge (λ b j. refl) n e
          H.chains.children there grown.edges walks.place o s h)

      pub child-end : c.edges ≤ i → IsNext None from c.edges (children_from g x) (AmongChildren g x)
      unfolding children_from graph_of edge_in
      child-end h =
          along-end child_places edge_in (λ (d : G.Edge). d.from) (λ (d : G.Edge). d.to) no_edge (λ b j. refl) n e
          H.chains.children there grown.edges walks.place o s h

    module _ {i : ℕ} (o : AmongParents g x from) (s : i ≡ following (next_in parent_places e) (first_in parent_places n) x from) where
      pub parent-next : (y : ℕ) → y ≡ (edge_in e i).from → i < c.edges → IsNext (Some (i, y)) from c.edges (parents_from g x) (AmongParents g x)
      unfolding parents_from graph_of edge_in
      parent-next y q h =
          rw q (along-next parent_places edge_in (λ (d : G.Edge). d.to) (λ (d : G.Edge). d.from) no_edge (λ b j. refl) n e
          H.chains.parents there grown.edges walks.place o s h)

      pub parent-end : c.edges ≤ i → IsNext None from c.edges (parents_from g x) (AmongParents g x)
      unfolding parents_from graph_of edge_in
      parent-end h =
          along-end parent_places edge_in (λ (d : G.Edge). d.to) (λ (d : G.Edge). d.from) no_edge (λ b j. refl) n e
          H.chains.parents there grown.edges walks.place o s h

  module _ {x from i : ℕ} (walks : Walks alternative_size n a c.nodes c.alternatives x from) (o : AmongAlternatives g x from)
      (s : i ≡ following (next_in alternative_places a) (first_in alternative_places n) x from) where
    state-there : x < d.nodes
    state-there = omega (arith, walks.node, grown.nodes)

    pub alternative-next : i < c.alternatives → IsNextAlternative a (Some i) from c.alternatives (alternatives_from g x) (AmongAlternatives g x)
    unfolding alternatives_from graph_of alternative_in
    alternative-next h =
        along-next alternative_places alternative_in (λ (d : G.Alternative). d.owner) (λ (d : G.Alternative). d.rows) no_alternative (λ b j. refl) n a
        H.chains.alternatives state-there grown.alternatives walks.place o s h

    pub alternative-end : c.alternatives ≤ i → IsNextAlternative a None from c.alternatives (alternatives_from g x) (AmongAlternatives g x)
    unfolding alternatives_from graph_of alternative_in
    alternative-end h =
        along-end alternative_places alternative_in (λ (d : G.Alternative). d.owner) (λ (d : G.Alternative). d.rows) no_alternative (λ b j. refl) n a
        H.chains.alternatives state-there grown.alternatives walks.place o s h

  pub alternative-step : {x from : ℕ} → Walks alternative_size n a c.nodes c.alternatives x from → AmongAlternatives g x from
      → (r : Option ℕ) → IsRecord r c.alternatives (following (next_in alternative_places a) (first_in alternative_places n) x from)
      → IsNextAlternative a r from c.alternatives (alternatives_from g x) (AmongAlternatives g x)
  alternative-step walks o (Some i) p = alternative-next walks o p.0 p.1
  alternative-step walks o None p = alternative-end walks o refl p

-- ---- a search through the alternatives of a state

any-chosen : {A B : Type 0} (pass : A → Bool) (worth : A → B) (test : B → Bool) (xs : List A)
    → any (λ d. pass d && test (worth d)) xs ≡ any test (chosen_from pass worth xs 0)
unfolding any chosen_from select
any-chosen pass worth test [] = refl
any-chosen pass worth test (d ∷ xs) = by (pass d) refl (any-chosen pass worth test xs)
  where
    by : (b : Bool) → pass d ≡ b → any (λ d. pass d && test (worth d)) xs ≡ any test (chosen_from pass worth xs 0)
        → any (λ d. pass d && test (worth d)) (d ∷ xs) ≡ any test (chosen_from pass worth (d ∷ xs) 0)
    by true e rest = rw e (ap (λ (t : Bool). test (worth d) || t) rest)
    by false e rest = rw e rest

has-among : (x : ℕ) (s : RowSet) (g : G.Graph) → G.has_alternative x s g ≡ any (λ v. eqb v s) (alternatives_from g x 0)
unfolding G.has_alternative alternatives_from
has-among x s g = any-chosen (λ (d : G.Alternative). eqb d.owner x) (λ (d : G.Alternative). d.rows) (λ v. eqb v s) g.alternatives

-- a search through the alternatives of x: those from place i on have the set exactly if all have. Which edges there are is nothing to them
pub record Sought (n a : Bytes) (c : Counts) (x : ℕ) (s : RowSet) (i : ℕ) : Type 0 where
  pub place : i ≤ c.alternatives
  pub among : AmongAlternatives (graph_of (work n [] a) c) x i
  pub left : (e : Bytes) → any (λ v. eqb v s) (alternatives_from (graph_of (work n e a) c) x i) ≡ G.has_alternative x s (graph_of (work n e a) c)

-- what the search from place i on learns at alternative j, the next one, by a test b of its set, which is at place k
pub record SoughtAt (n a : Bytes) (c : Counts) (x : ℕ) (s : RowSet) (i j : ℕ) : Type 0 where
  pub from : i ≤ j
  pub below : j < c.alternatives
  pub inside : Fits alternative_size a j
  pub here : {k : ℕ} {b : Bool} → k ≡ alternative_size * j → b ≡ eqb (set_of a k) s → b ≡ true
      → (e : Bytes) → true ≡ G.has_alternative x s (graph_of (work n e a) c)
  pub more : {k : ℕ} {b : Bool} → k ≡ alternative_size * j → b ≡ eqb (set_of a k) s → b ≡ false → Sought n a c x s (j + 1)

pub sought-start : (n a : Bytes) (c : Counts) (x : ℕ) (s : RowSet) → Sought n a c x s 0
sought-start n a c x s = record { place = omega arith; among = tt; left = λ e. sym (has-among x s (graph_of (work n e a) c)) }

module _ {n a : Bytes} {c : Counts} {x : ℕ} {s : RowSet} {i : ℕ} (O : Owns n a c x) (S : Sought n a c x s i) where
  pub sought-walks : Walks alternative_size n a c.nodes c.alternatives x i
  sought-walks = record { node = O.node; nodes = O.held.nodes; place = S.place; records = O.held.alternatives }

  -- the answer of the step from place i on, whatever the edges
  answered : (v : Option ℕ)
      → WithAlternatives n a c (λ g. AmongAlternatives g x i → IsNextAlternative a v i c.alternatives (alternatives_from g x) (AmongAlternatives g x))
      → (e : Bytes) → let g = graph_of (work n e a) c in IsNextAlternative a v i c.alternatives (alternatives_from g x) (AmongAlternatives g x)
  unfolding graph_of alternatives_from
  answered v N e = N O.edges c O.held grown-refl S.among

  pub sought-end : WithAlternatives n a c (λ g. AmongAlternatives g x i
      → IsNextAlternative a None i c.alternatives (alternatives_from g x) (AmongAlternatives g x))
      → (e : Bytes) → false ≡ G.has_alternative x s (graph_of (work n e a) c)
  unfolding any
  sought-end N e = ap (λ (l : List RowSet). any (λ v. eqb v s) l) (sym (answered None N e)) ∙ S.left e

  module _ {j : ℕ}
      (N : WithAlternatives n a c (λ g. AmongAlternatives g x i
      → IsNextAlternative a (Some j) i c.alternatives (alternatives_from g x) (AmongAlternatives g x))) where
    -- by whether the set of alternative j is s
    by_first : (b : Bool) → eqb (set_of a (alternative_size * j)) s ≡ b → (e : Bytes)
        → (b || any (λ v. eqb v s) (alternatives_from (graph_of (work n e a) c) x (j + 1))) ≡ G.has_alternative x s (graph_of (work n e a) c)
    unfolding any
    by_first b t e =
        ap (λ (b : Bool). b || any (λ v. eqb v s) (alternatives_from (graph_of (work n e a) c) x (j + 1))) (sym t)
        ∙ ap (λ (l : List RowSet). any (λ v. eqb v s) l) (sym (answered (Some j) N e).2) ∙ S.left e

    pub sought-at : SoughtAt n a c x s i j
    sought-at =
        let (from, below, _, among) = answered (Some j) N [] in
        record {
          from = from;
          below = below;
          inside = room_fits alternative_size a O.held.alternatives below;
          here = λ e t h. by_first true (sym (t ∙ ap (λ (k : ℕ). eqb (set_of a k) s) e) ∙ h);
          more = λ e t h. record {
            place = omega (arith, below);
            among = among;
            left = by_first false (sym (t ∙ ap (λ (k : ℕ). eqb (set_of a k) s) e) ∙ h);
          };
        }
