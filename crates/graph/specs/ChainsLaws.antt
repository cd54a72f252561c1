-- Laws of Chains: the three chains under what is written in the areas.
--
-- In order: their places; areas with no records; bytes beside them; a node more; an edge more; an alternative more.
use Rattle.std.specs.Prelude.{◌≡◌, ℕ, ◌+◌, ◌≤◌, ◌<◌}
use Rattle.std.proofs.Common.{◌∙◌, inl, inr, arith}
use Rattle.concepts.specs.Lists.{Bytes}
use Rattle.words.specs.Sizes.{node_size, edge_size, alternative_size, most_records}
use Rattle.records.specs.Areas.{Within, Beside}
use Rattle.records.specs.AreaLaws.{within-beside, within_wider, within-then, beside-refl, beside-wider, beside-then}
use Rattle.records.specs.Layout.{node_extent, node_chains, children_at, parents_at, alternatives_at, node_free}
use Rattle.records.specs.Layout.{edge_extent, to_at, edge_chains, alternative_extent}
use Rattle.chains.specs.ChainLaws.{chain-empty}
use Rattle.chains.specs.Places.{key_in, ChainIn, Sits, Appended, Begun}
use Rattle.chains.specs.PlaceLaws.{chain-beside, chain-past, chain-appended, chain-blank}
use Rattle.graph.specs.Chains.{child_places, parent_places, alternative_places, Chained}
use Rattle.graph.specs.Chains.{more_nodes, more_edges, more_alternatives, no_records}
use Rattle.graph.specs.declared.Counts.{Counts}

-- ---- their places

pub child-sits : Sits child_places
child-sits = record { in-node = omega arith; in-key = omega arith; in-next = omega arith; apart = inl (omega arith) }

pub parent-sits : Sits parent_places
parent-sits = record { in-node = omega arith; in-key = omega arith; in-next = omega arith; apart = inl (omega arith) }

pub alternative-sits : Sits alternative_places
alternative-sits = record { in-node = omega arith; in-key = omega arith; in-next = omega arith; apart = inl (omega arith) }

-- an area in which nothing was written
unchanged : {size : ℕ} {b : Bytes} → Beside size 0 0 b b
unchanged = beside-refl

-- ---- areas with no records

pub chained-none : (n e a : Bytes) → Chained n e a no_records
chained-none n e a = record { children = chain-empty _ _ _ _; parents = chain-empty _ _ _ _; alternatives = chain-empty _ _ _ _ }

module _ {n e a : Bytes} {c : Counts} (C : Chained n e a c) where
  -- ---- bytes beside them: in nodes, and in edges

  pub chained-nodes : {n' : Bytes} {lo hi : ℕ} → Beside node_size lo hi n n' → hi ≤ node_chains → Chained n' e a c
  chained-nodes B s = record {
    children = chain-beside child-sits B unchanged (inr (omega arith)) (inr (omega arith)) (inr (omega arith)) C.children;
    parents = chain-beside parent-sits B unchanged (inr (omega arith)) (inr (omega arith)) (inr (omega arith)) C.parents;
    alternatives = chain-beside alternative-sits B unchanged (inr (omega arith)) (inr (omega arith)) (inr (omega arith)) C.alternatives;
  }

  pub chained-edges : {e' : Bytes} {lo hi : ℕ} → Beside edge_size lo hi e e' → edge_extent ≤ lo → hi ≤ edge_chains → Chained n e' a c
  chained-edges B s t = record {
    children = chain-beside child-sits unchanged B (inr (omega arith)) (inl (omega arith)) (inr (omega arith)) C.children;
    parents = chain-beside parent-sits unchanged B (inr (omega arith)) (inl (omega arith)) (inr (omega arith)) C.parents;
    alternatives = C.alternatives;
  }

  -- ---- a node more: its record, then that it has no children, no parents, no alternatives

  pub chained-node : {n₁ n₂ n₃ n₄ : Bytes} → Within node_size c.nodes 0 node_extent n n₁
      → Begun child_places n₁ n₂ c.nodes → Begun parent_places n₂ n₃ c.nodes → Begun alternative_places n₃ n₄ c.nodes
      → Chained n₄ e a (more_nodes c)
  chained-node {n₁} {n₂} {n₃} {n₄} W X Y Z =
      let all : Within node_size c.nodes 0 node_free n n₄ =
      within-then (within_wider 0 node_free (omega arith) (omega arith) W) (within-then (within_wider 0 node_free (omega arith) (omega arith) X.within)
      (within-then (within_wider 0 node_free (omega arith) (omega arith) Y.within) (within_wider 0 node_free (omega arith) (omega arith) Z.within))) in
      record {
        children = chain-blank child-sits e all (
          Z.within.beside children_at 2 (inl (omega arith)) (omega arith)
              ∙ Y.within.beside children_at 2 (inl (omega arith)) (omega arith) ∙ X.unused.0,
          Z.within.beside (children_at + 2) 2 (inl (omega arith)) (omega arith)
              ∙ Y.within.beside (children_at + 2) 2 (inl (omega arith)) (omega arith) ∙ X.unused.1,
        ) C.children;
        parents = chain-blank parent-sits e all (
          Z.within.beside parents_at 2 (inl (omega arith)) (omega arith) ∙ Y.unused.0,
          Z.within.beside (parents_at + 2) 2 (inl (omega arith)) (omega arith) ∙ Y.unused.1,
        ) C.parents;
        alternatives = chain-blank alternative-sits a all Z.unused C.alternatives;
      }

  -- ---- an edge more: its record, then its place in the chain of its start, then in that of its end

  pub chained-edge : {n₁ n₂ e₁ e₂ e₃ : Bytes} {x y : ℕ} → x < c.nodes → y < c.nodes → c.edges < most_records
      → Within edge_size c.edges 0 edge_extent e e₁ → key_in child_places e₁ c.edges ≡ x → key_in parent_places e₁ c.edges ≡ y
      → Appended child_places n n₁ e₁ e₂ c.edges x → Appended parent_places n₁ n₂ e₂ e₃ c.edges y → Chained n₂ e₃ a (more_edges c)
  chained-edge {n₁} {n₂} {e₁} {e₂} {e₃} {x} {y} hx hy l W ex ey J K =
      let from : ChainIn child_places n₁ e₂ c.nodes (c.edges + 1) = chain-appended child-sits (chain-past child-sits n W C.children) ex hx l J in
      let to : ChainIn parent_places n₁ e₂ c.nodes c.edges =
      chain-beside parent-sits (within-beside J.nodes) J.area (inr (omega arith)) (inl (omega arith)) (inr (omega arith))
      (chain-past parent-sits n W C.parents) in
      let both : Beside node_size children_at alternatives_at n n₂ =
      beside-then (beside-wider children_at alternatives_at (omega arith) (omega arith) (within-beside J.nodes))
      (beside-wider children_at alternatives_at (omega arith) (omega arith) (within-beside K.nodes)) in
      record {
        children = chain-beside child-sits (within-beside K.nodes) K.area (inl (omega arith)) (inl (omega arith)) (inl (omega arith)) from;
        parents = chain-appended parent-sits to (J.area.kept c.edges to_at 2 (inl (omega arith)) (omega arith) ∙ ey) hy l K;
        alternatives = chain-beside alternative-sits both unchanged (inr (omega arith)) (inr (omega arith)) (inr (omega arith)) C.alternatives;
      }

  -- ---- an alternative more

  pub chained-alternative : {n₁ a₁ a₂ : Bytes} {x : ℕ} → x < c.nodes → c.alternatives < most_records
      → Within alternative_size c.alternatives 0 alternative_extent a a₁ → key_in alternative_places a₁ c.alternatives ≡ x
      → Appended alternative_places n n₁ a₁ a₂ c.alternatives x → Chained n₁ e a₂ (more_alternatives c)
  chained-alternative {n₁} {a₁} {a₂} hx l W ex J = record {
    children = chain-beside child-sits (within-beside J.nodes) unchanged (inl (omega arith)) (inr (omega arith)) (inr (omega arith)) C.children;
    parents = chain-beside parent-sits (within-beside J.nodes) unchanged (inl (omega arith)) (inr (omega arith)) (inr (omega arith)) C.parents;
    alternatives = chain-appended alternative-sits (chain-past alternative-sits n W C.alternatives) ex hx l J;
  }
