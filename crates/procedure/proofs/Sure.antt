-- What holds of a step's result, and how to reason about it.
--
-- In order: `Sure`; one step after another, and a loop; adding a record.
use mathlib.Core.List.{List, [], ◌∷◌}
use Prim.Native.Nat.{ℕ, ◌<◌}
use lib.Dec.{T, ltb, ltb→lt}
use lib.ListN.{length}
use Rattle.concepts.specs.Tests.{by-test}
use Rattle.concepts.specs.RowSet.{RowSet}
use Rattle.procedure.specs.Problem.{Problem}
use Rattle.procedure.specs.Graph.{Node, Graph, Capacity, Result, reached, no_place, out_of_fuel}
use Rattle.procedure.specs.Graph.{◌>>=◌, for_each, append_node, append_edge, append_alternative, add_node, add_edge, has_alternative}
use Rattle.procedure.specs.Graph.{add_alternative, node_count}
use Rattle.procedure.proofs.States.{States}

module _ (P : Problem) where
  -- the graph reached has the property; where a record found no place the sets are as at every moment; fuel did not run out
  abbrev pub Sure : (Graph → Type 0) → Result → Type 0
  Sure X (reached g) = X g
  Sure X (no_place a g) = States P g
  Sure X out_of_fuel = ⊥

  -- ---- one step after another

  pub sure-map : (X Y : Graph → Type 0) (r : Result) → Sure X r → ((g : Graph) → X g → Y g) → Sure Y r
  sure-map X Y (reached g) h f = f g h
  sure-map X Y (no_place a g) h f = h
  sure-map X Y out_of_fuel h f = h

  pub sure-bind : (X Y : Graph → Type 0) (r : Result) (f : Graph → Result) → Sure X r → ((g : Graph) → X g → Sure Y (f g)) → Sure Y (r >>= f)
  unfolding ◌>>=◌
  sure-bind X Y (reached g) f h k = k g h
  sure-bind X Y (no_place a g) f h k = h
  sure-bind X Y out_of_fuel f h k = h

  -- a loop's invariant speaks of the elements still to come
  pub sure-for_each : {A : Type 0} (I : List A → Graph → Type 0) (f : A → Graph → Result)
      → ((x : A) (xs : List A) (g : Graph) → I (x ∷ xs) g → Sure (I xs) (f x g))
      → (xs : List A) (g : Graph) → I xs g → Sure (I []) (for_each f xs g)
  unfolding for_each
  sure-for_each I f step [] g h = h
  sure-for_each I f step (x ∷ xs) g h =
      sure-bind (I xs) (I []) (f x g) (λ k. for_each f xs k) (step x xs g h) (λ k i. sure-for_each I f step xs k i)

  -- ---- adding a record

  module _ (X : Graph → Type 0) (c : Capacity) where
    pub sure-add_node : (n : Node) (g : Graph) → States P g → (node_count g < c.node_room → X (append_node n g)) → Sure X (add_node c n g)
    unfolding add_node
    sure-add_node n g A h =
        by-test (Sure X) (ltb (length g.nodes) c.node_room) _ _ (λ b. h (ltb→lt (length g.nodes) c.node_room b)) (λ _. A)

    pub sure-add_edge : (x y : ℕ) (g : Graph) → States P g → X (append_edge x y g) → Sure X (add_edge c x y g)
    unfolding add_edge
    sure-add_edge x y g A h =
        by-test (Sure X) (ltb (length g.edges) c.edge_room) _ _ (λ _. h) (λ _. A)

    pub sure-add_alternative : (x : ℕ) (s : RowSet) (g : Graph) → States P g → (T (has_alternative x s g) → X g) → X (append_alternative x s g)
        → Sure X (add_alternative c x s g)
    unfolding add_alternative
    sure-add_alternative x s g A old new =
        by-test (Sure X) (has_alternative x s g) _ _ old
        (λ _. by-test (Sure X) (ltb (length g.alternatives) c.alternative_room) _ _ (λ _. new) (λ _. A))
