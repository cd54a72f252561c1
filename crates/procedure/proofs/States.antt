-- The sets of a graph at every moment of a run: between its steps, inside a put, and where a record finds no place.
--
-- In order: the set of a node (`SetAt`); states other than the root; the sets of a graph (`States`); a graph whose nodes keep their sets;
-- a node more.
use mathlib.Core.Path.{◌≡◌, sym, ap, ◌∙◌}
use mathlib.Core.Bool.{true, not}
use mathlib.Core.Logic.{◌⊎◌, inl, inr, ◌≢◌}
use Prim.Native.Nat.{ℕ, ◌<◌}
use native.Mathlib.Omega.{arith}
use lib.Dec.{T}
use Rattle.concepts.specs.RowSet.{Subset}
use Rattle.procedure.specs.Problem.{Problem}
use Rattle.procedure.specs.SetTests.{clash, unfinished}
use Rattle.procedure.specs.Graph.{Node, Graph, append_node, node_at, node_count}
use Rattle.procedure.specs.GraphLaws.{node-old, node-new, node-cases}
use Rattle.procedure.proofs.Standing.{Standing}
use Rattle.procedure.proofs.Grows.{Follows, Grows}

-- the set of node x: rows of the table, none of them an inclusion; all rules, but at the root; of a state nothing unfinished and,
-- but at the root, no clash
pub record SetAt (P : Problem) (x : ℕ) (n : Node) : Type 0 where
  pub standing : Standing P n.rows
  pub rules : x ≢ 0 → Subset P.rules n.rows
  pub finished : n.is_state ≡ true → T (not (unfinished P.table n.rows))
  pub clash_free : n.is_state ≡ true → x ≢ 0 → T (not (clash P n.rows))

-- a state other than the root
pub record OtherState (g : Graph) (x : ℕ) : Type 0 where
  pub there : x < node_count g
  pub not_root : x ≢ 0
  pub is_state : (node_at g x).is_state ≡ true

pub record States (P : Problem) (g : Graph) : Type 0 where
  pub set : (x : ℕ) → x < node_count g → SetAt P x (node_at g x)
  -- no two have one set
  pub apart : (x y : ℕ) → OtherState g x → OtherState g y → (node_at g x).rows ≡ (node_at g y).rows → x ≡ y

-- ---- the same nodes, with the same sets

pub set-follows : {P : Problem} {x : ℕ} {m n : Node} → Follows m n → SetAt P x m → SetAt P x n
set-follows {P} {x} {m} {n} F A = record {
  standing = rw F.rows A.standing;
  rules = λ d. rw F.rows (A.rules d);
  finished = λ st. rw F.rows (A.finished (sym F.is_state ∙ st));
  clash_free = λ st d. rw F.rows (A.clash_free (sym F.is_state ∙ st) d);
}

module _ {g h : Graph} (G : Grows g h) (same : node_count h ≡ node_count g) where
  was-other : {x : ℕ} → OtherState h x → OtherState g x
  was-other {x} O =
      let there : x < node_count g = omega (arith, O.there, same) in
      record { there = there; not_root = O.not_root; is_state = sym (G.node x there).is_state ∙ O.is_state }

  pub states-grown : {P : Problem} → States P g → States P h
  states-grown {P} A = record {
    set = λ x hx. let there : x < node_count g = omega (arith, same) in set-follows (G.node x there) (A.set x there);
    apart = λ x y X Y e.
        A.apart x y (was-other X) (was-other Y) (sym (G.node x (was-other X).there).rows ∙ e ∙ (G.node y (was-other Y).there).rows);
  }

-- ---- a node more: a state, if its set is new

module _ {P : Problem} {g : Graph} (A : States P g) (n : Node) where
  abbrev new : ℕ
  new = node_count g

  abbrev h : Graph
  h = append_node n g

  older : {x : ℕ} → x < new → OtherState h x → OtherState g x
  older {x} there O =
      record { there = there; not_root = O.not_root; is_state = ap (λ (a : Node). a.is_state) (sym (node-old n g x there)) ∙ O.is_state }

  pub states-node : SetAt P new n → (n.is_state ≡ true → (x : ℕ) → OtherState g x → (node_at g x).rows ≢ n.rows) → States P h
  states-node N fresh = record {
    set = λ x hx. elim (node-cases n g x hx) [
      | inl q ↦ rw (node-old n g x q) (A.set x q)
      | inr e ↦ rw (e, node-new n g) N
    ];
    apart = λ x y X Y e. by x y X Y e (node-cases n g x X.there) (node-cases n g y Y.there);
  }
    where
      rows-old : {x : ℕ} → x < new → (node_at h x).rows ≡ (node_at g x).rows
      rows-old {x} q = ap (λ (a : Node). a.rows) (node-old n g x q)

      rows_new : {x : ℕ} → x ≡ new → (node_at h x).rows ≡ n.rows
      rows_new e = ap (λ (y : ℕ). (node_at h y).rows) e ∙ ap (λ (a : Node). a.rows) (node-new n g)

      state-new : {x : ℕ} → x ≡ new → OtherState h x → n.is_state ≡ true
      state-new e O =
          sym (ap (λ (a : Node). a.is_state) (node-new n g)) ∙ ap (λ (y : ℕ). (node_at h y).is_state) (sym e) ∙ O.is_state

      by : (x y : ℕ) → OtherState h x → OtherState h y → (node_at h x).rows ≡ (node_at h y).rows
          → (x < new) ⊎ (x ≡ new) → (y < new) ⊎ (y ≡ new) → x ≡ y
      by x y X Y e (inl p) (inl q) = A.apart x y (older p X) (older q Y) (sym (rows-old p) ∙ e ∙ rows-old q)
      by x y X Y e (inl p) (inr q) = absurd (fresh (state-new q Y) x (older p X) (sym (rows-old p) ∙ e ∙ rows_new q))
      by x y X Y e (inr p) (inl q) = absurd (fresh (state-new p X) y (older q Y) (sym (rows-old q) ∙ sym e ∙ rows_new p))
      by x y X Y e (inr p) (inr q) = p ∙ sym q
