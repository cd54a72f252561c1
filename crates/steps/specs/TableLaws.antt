-- Laws of Tables.
--
-- In order: an entry of a table; a fold over the children; the graph's children.
use Rattle.std.specs.Prelude.{◌≡◌, refl, ℕ, zero, suc, ◌+◌, ◌≤◌, ◌<◌, get_or, Option, None, Some}
use Rattle.std.proofs.Common.{sym, ◌∙◌, arith}
use Rattle.std.proofs.Math.Path.{ap, subst}
use mathlib.Core.List.{List, [], ◌∷◌, map, Memᴰ}
use Rattle.concepts.specs.Lists.{Bytes}
use Rattle.procedure.specs.Status as P
use Rattle.procedure.specs.Graph as G
use Rattle.procedure.specs.Tableau.{fold_children}
use Rattle.words.specs.Sizes.{node_size, edge_size, most_records}
use Rattle.records.specs.Areas.{Fits}
use Rattle.records.specs.Codes.{status_of}
use Rattle.records.specs.Records.{node_in}
use Rattle.graph.specs.Graphs.{work, graph_of, WithEdges, ChangesNodes, children_from, AmongChildren, Walks, IsNext}
use Rattle.graph.specs.GraphLaws.{grown-refl, held-most, held-node, graph-node}
use Rattle.graph.specs.SearchLaws.{children-all}
use Rattle.graph.specs.declared.Counts.{Counts}
use Rattle.records.specs.declared.Status.{Status}
use Rattle.records.specs.declared.Status.TheVariants.{Unset}
use Rattle.steps.specs.Tables.{Judges, JudgesAs, ends_from, statuses_from}

-- ---- an entry of a table

get_or-worth : {A B : Type 0} (f : A → B) (d : A) (xs : List A) (i : ℕ) → f (get_or xs i d) ≡ get_or (map f xs) i (f d)
get_or-worth f d [] i = refl
get_or-worth f d (x ∷ xs) zero = refl
get_or-worth f d (x ∷ xs) (suc i) = get_or-worth f d xs i

-- rows that mean the table have the table's entries
pub entry_at : (rows : List (List Status)) (table : P.StatusTable) → map (map status_of) rows ≡ table → (a b : P.Status) (i j : ℕ) → i ≡ P.rank a
    → j ≡ P.rank b
    → status_of (get_or (get_or rows i []) j Unset) ≡ P.entry table a b
unfolding P.entry
entry_at rows table e a b i j p q =
    get_or-worth status_of Unset (get_or rows i []) j ∙ ap (λ (ws : List P.Status). get_or ws j P.unset) (get_or-worth (map status_of) [] rows i)
    ∙ ap (λ (t : P.StatusTable). get_or (get_or t i []) j P.unset) e ∙ ap (λ (k : ℕ). get_or (get_or table k []) j P.unset) p
    ∙ ap (λ (k : ℕ). get_or (get_or table (P.rank a) []) k P.unset) q

-- ---- a fold over the children

-- the children are by the edges alone
ends_of : (n e a : Bytes) (c : Counts) (x i : ℕ) → children_from (graph_of (work n e a) c) x i ≡ ends_from e c x i
unfolding graph_of children_from ends_from
ends_of n e a c x i = refl

-- place i is one among the ends of the edges from x
unfoldable pub AmongEnds : Bytes → Counts → ℕ → ℕ → Type 0
AmongEnds e c x i = AmongChildren (graph_of (work [] e []) c) x i

-- from place i on, the children are nodes, and folding them from v gives what folding all from the start gives
pub record Folds (table : P.StatusTable) (n e : Bytes) (c : Counts) (x : ℕ) (start : P.Status) (i : ℕ) (v : P.Status) : Type 0 where
  pub place : i ≤ c.edges
  pub among : AmongEnds e c x i
  pub inside : (y : ℕ) → Memᴰ y (ends_from e c x i) → y < c.nodes
  pub rest : P.fold_status table v (statuses_from n e c x i) ≡ P.fold_status table start (statuses_from n e c x 0)

ends-all : (n e a : Bytes) (c : Counts) (x : ℕ) → ends_from e c x 0 ≡ G.children (graph_of (work n e a) c) x
ends-all n e a c x = sym (ends_of n e a c x 0) ∙ children-all (graph_of (work n e a) c) x

-- every child is a node
judges-inside : {n e : Bytes} {c : Counts} {x : ℕ} → Judges n e c x → (y : ℕ) → Memᴰ y (ends_from e c x 0) → y < c.nodes
judges-inside {n} {e} {c} {x} j y m = j.inside y (subst (λ (ys : List ℕ). Memᴰ y ys) (ends-all n e j.alternatives c x) m)

pub folds-start : {n e : Bytes} {c : Counts} {x : ℕ} → Judges n e c x → (table : P.StatusTable) (v : P.Status) → Folds table n e c x v 0 v
unfolding AmongEnds
folds-start j table v = record { place = omega arith; among = tt; inside = judges-inside j; rest = refl }

-- what the step to the next child asks
pub folds-walks : {n e : Bytes} {c : Counts} {x i : ℕ} → Judges n e c x → i ≤ c.edges → Walks edge_size n e c.nodes c.edges x i
folds-walks j l = record { node = j.node; nodes = j.held.nodes; place = l; records = j.held.edges }

-- of the ends from edge i on the first is y, of edge k
pub record NextEnd (e : Bytes) (c : Counts) (x i k y : ℕ) : Type 0 where
  pub from : i ≤ k
  pub below : k < c.edges
  pub more : ends_from e c x i ≡ y ∷ ends_from e c x (k + 1)
  pub among : AmongEnds e c x (k + 1)

-- what the search for the next child says of the ends
module _ {n e : Bytes} {c : Counts} {x : ℕ} (j : Judges n e c x) (i : ℕ) (o : AmongEnds e c x i) {r : Option (ℕ × ℕ)}
    (all : WithEdges n e c (λ g. AmongChildren g x i → IsNext r i c.edges (children_from g x) (AmongChildren g x))) where
  as-next : (s : Option (ℕ × ℕ)) → r ≡ s → IsNext s i c.edges (ends_from e c x) (AmongEnds e c x)
  unfolding graph_of children_from ends_from AmongEnds
  as-next s w =
      let g : G.Graph = graph_of (work n e j.alternatives) c in
      subst (λ (t : Option (ℕ × ℕ)). IsNext t i c.edges (children_from g x) (AmongChildren g x)) w (all j.alternatives c j.held grown-refl o)

  pub next-at : {k y : ℕ} → r ≡ Some (k, y) → NextEnd e c x i k y
  next-at {k} {y} w = let (from, below, more, among) = as-next (Some (k, y)) w in record { from = from; below = below; more = more; among = among }

  pub next-end : r ≡ None → ends_from e c x i ≡ []
  next-end w = as-next None w

module _ {table : P.StatusTable} {n e : Bytes} {c : Counts} {x : ℕ} {start : P.Status} {i : ℕ} {v : P.Status} (f : Folds table n e c x start i v) where
  module _ {k y : ℕ} (next : NextEnd e c x i k y) where
    pub folds-node : y < c.nodes
    folds-node = f.inside y (rw next.more (Memᴰ.head refl))

    pub folds-more : (w : P.Status) → w ≡ P.entry table v (node_in n y).status → Folds table n e c x start (k + 1) w
    unfolding statuses_from P.fold_status
    folds-more w p =
        record {
          place = omega (arith, next.below);
          among = next.among;
          inside = λ z m. f.inside z (rw next.more (Memᴰ.tail m));
          rest =
              ap (λ (u : P.Status). P.fold_status table u (map (λ d. (node_in n d).status) (ends_from e c x (k + 1)))) p
              ∙ ap (λ (ys : List ℕ). P.fold_status table v (map (λ d. (node_in n d).status) ys)) (sym next.more) ∙ f.rest;
        }

  pub folds-end : ends_from e c x i ≡ [] → v ≡ P.fold_status table start (statuses_from n e c x 0)
  unfolding statuses_from P.fold_status
  folds-end p = ap (λ (ys : List ℕ). P.fold_status table v (map (λ d. (node_in n d).status) ys)) (sym p) ∙ f.rest

-- what the fold from edge i on learns at edge k, the next one, whose end is y
pub record FoldsAt (table : P.StatusTable) (n e : Bytes) (c : Counts) (x : ℕ) (start : P.Status) (i : ℕ) (v : P.Status) (k y : ℕ) : Type 0 where
  pub node : Fits node_size n y
  pub from : i ≤ k
  pub below : k < c.edges
  pub few : c.edges ≤ most_records
  pub more : {u w : P.Status} → u ≡ (node_in n y).status → w ≡ P.entry table v u → Folds table n e c x start (k + 1) w

pub folds-at : {table : P.StatusTable} {n e : Bytes} {c : Counts} {x : ℕ} {start : P.Status} {i : ℕ} {v : P.Status} {k y : ℕ} → Judges n e c x
    → Folds table n e c x start i v
    → WithEdges n e c (λ g. AmongChildren g x i → IsNext (Some (k, y)) i c.edges (children_from g x) (AmongChildren g x))
    → FoldsAt table n e c x start i v k y
folds-at {table} {i = i} {v} j f all =
    let next = next-at j i f.among all refl in
    record {
      node = held-node j.held (folds-node f next);
      from = next.from;
      below = next.below;
      few = (held-most j.held).1;
      more = λ {u} {w} p q. folds-more f next w (q ∙ ap (P.entry table v) p);
    }

-- ---- the graph's children

map_same : {A B : Type 0} (f g : A → B) (xs : List A) → ((x : A) → Memᴰ x xs → f x ≡ g x) → map f xs ≡ map g xs
map_same f g [] all = refl
map_same f g (x ∷ xs) all = let p = all x (Memᴰ.head refl) in let q = map_same f g xs (λ y m. all y (Memᴰ.tail m)) in cc

module _ {n e : Bytes} {c : Counts} {x : ℕ} (j : Judges n e c x) where
  statuses-graph : (a : Bytes) → statuses_from n e c x 0 ≡ map (λ y. (G.node_at (graph_of (work n e a) c) y).status) (G.children (graph_of (work n e a) c) x)
  unfolding statuses_from
  statuses-graph a =
      map_same (λ y. (node_in n y).status) (λ y. (G.node_at (graph_of (work n e a) c) y).status) (ends_from e c x 0)
      (λ y m. ap (λ (v : G.Node). v.status) (sym (graph-node (work n e a) c y (judges-inside j y m))))
      ∙ ap (λ (ys : List ℕ). map (λ y. (G.node_at (graph_of (work n e a) c) y).status) ys) (ends-all n e a c x)

  -- a node that took what the fold gave is judged
  pub judged : {n' : Bytes} (table : P.StatusTable) (v u : P.Status) → u ≡ P.fold_status table v (statuses_from n e c x 0)
      → ChangesNodes n n' c (G.set_status x u)
      → JudgesAs n n' e c (fold_children table v x)
  unfolding fold_children
  judged {n'} table v u p changes a h =
      let C = changes e a h in
      record {
        meets = C.meets ∙ ap (λ (w : P.Status). G.set_status x w (graph_of (work n e a) c))
            (p ∙ ap (λ (ws : List P.Status). P.fold_status table v ws) (statuses-graph a));
        held = C.held;
        sized = C.sized;
      }
