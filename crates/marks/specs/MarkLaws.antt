-- Laws of Marks: writing a mark stores it, and keeps all else.
--
-- In order: two bytes of a node; a state's number, an element's state; a link; numbers cleared one after another.
use Rattle.std.specs.Prelude.{◌≡◌, refl, List, [], ◌∷◌, ℕ, ◌+◌, ◌*◌, ◌≤◌, ◌<◌}
use Rattle.std.proofs.Common.{sym, ap, ◌∙◌, subst, inl, inr, arith}
use Rattle.std.proofs.Math.Decide.{ℕ_discrete}
use Rattle.concepts.specs.Lists.{Bytes}
use Rattle.words.specs.Words.{put_le}
use Rattle.words.specs.Fields.{Field, Apart}
use Rattle.words.specs.Sizes.{node_size, edge_size}
use Rattle.records.specs.Areas.{room_of, Fits, field, Stored, Within}
use Rattle.records.specs.Layout.{node_extent, number_at, placed_at, node_chains, edge_extent, mark_from_at, mark_role_at, mark_to_at, edge_chains}
use Rattle.records.specs.AreaLaws.{within-put, within-fields, field_put, holds-put, within-beside, beside-refl, beside-wider, beside-then}
use Rattle.marks.specs.Marks.{number_in, state_in, role_link_in}
use Rattle.marks.specs.Marked.{NumberStored, StateStored, LinkStored, NumbersCleared}

-- ---- two bytes of a node, at place p

module _ (b : Bytes) {c : Bytes} (x p v : ℕ) (inside : p + 2 ≤ node_size) (e : c ≡ put_le b (node_size * x + p) 2 v) where
  mark-within : Within node_size x p (p + 2) b c
  mark-within = subst (Within node_size x p (p + 2) b) (sym e) (within-put node_size b x p 2 v inside)

  mark-stored : Fits node_size b x → v < 65536 → Stored (λ k y. field node_size k y p 2) b c x v
  mark-stored fits small = record {
    size = mark-within.long;
    here = ap (λ (k : Bytes). field node_size k x p 2) e ∙ field_put node_size b x p 2 v fits.1 inside small;
    others = λ y d. mark-within.elsewhere y p 2 d inside;
  }

-- ---- a state's number, an element's state

module _ {b c : Bytes} {x v : ℕ} (fits : Fits node_size b x) (small : v < 65536) where
  pub number-stored : c ≡ put_le b (node_size * x + number_at) 2 v → NumberStored b c x v
  unfolding number_in state_in
  number-stored e =
      let W = mark-within b x number_at v (omega arith) e in
      record {
        stored = mark-stored b x number_at v (omega arith) e fits small;
        states = λ d. (within-beside W).kept d placed_at 2 (inr (omega arith)) (omega arith);
        beside = beside-wider node_extent node_chains (omega arith) (omega arith) (within-beside W);
      }

  pub state-stored : c ≡ put_le b (node_size * x + placed_at) 2 v → StateStored b c x v
  unfolding number_in state_in
  state-stored e =
      let W = mark-within b x placed_at v (omega arith) e in
      record {
        stored = mark-stored b x placed_at v (omega arith) e fits small;
        numbers = λ y. (within-beside W).kept y number_at 2 (inl (omega arith)) (omega arith);
        beside = beside-wider node_extent node_chains (omega arith) (omega arith) (within-beside W);
      }

-- ---- a link

pub link-stored : {b c : Bytes} {k from role to : ℕ} → Fits edge_size b k → (from < 65536) × (role < 65536) × (to < 65536)
    → c ≡ put_le (put_le (put_le b (edge_size * k + mark_from_at) 2 from) (edge_size * k + mark_role_at) 2 role) (edge_size * k + mark_to_at) 2 to
    → LinkStored b c k (record { from = from; role = role; to = to })
unfolding role_link_in
link-stored {b} {c} {k} {from} {role} {to} fits (p, q, r) e =
    let fs : List Field = (mark_from_at, 2, from) ∷ (mark_role_at, 2, role) ∷ (mark_to_at, 2, to) ∷ [] in
    let s : Apart edge_extent edge_chains fs = (omega arith, omega arith, (omega arith, omega arith, (omega arith, omega arith, omega arith))) in
    let w = holds-put edge_size b c k edge_extent edge_chains fs (omega arith) e s fits.1 in
    let W : Within edge_size k edge_extent edge_chains b c = within-fields edge_size b c k fs (omega arith) e s in
    record {
      stored = record {
        size = W.long;
        here = cc (w.0, w.1.0, w.1.1.0);
        others = λ i d. let f : (o : ℕ) → o + 2 ≤ edge_size → field edge_size c i o 2 ≡ field edge_size b i o 2 = λ o h. W.elsewhere i o 2 d h in
            cc (f mark_from_at (omega arith), f mark_role_at (omega arith), f mark_to_at (omega arith));
      };
      beside = within-beside W;
    }

-- ---- numbers cleared one after another

pub cleared-none : {n : Bytes} → NumbersCleared n n 0
cleared-none = record { none_has = λ y h. absurd (omega arith); states = λ d. refl; beside = beside-refl }

module _ {n b : Bytes} {y : ℕ} (C : NumbersCleared n b y) where
  -- the next node is in the area
  pub cleared-fits : {count : ℕ} → count ≤ room_of node_size n → y < count → Fits node_size b y
  cleared-fits room h = (omega arith, omega (arith, C.beside.long))

  pub cleared_more : {c : Bytes} → NumberStored b c y 0 → NumbersCleared n c (y + 1)
  cleared_more {c} S = record {
    none_has = λ z h. elim (ℕ_discrete z y) [
      | yes p ↦ ap (number_in c) p ∙ S.stored.here
      | no d ↦ S.stored.others z d
          ∙ C.none_has z (omega arith)
    ];
    states = λ d. S.states d ∙ C.states d;
    beside = beside-then C.beside S.beside;
  }

  pub cleared-all : {count : ℕ} → y ≤ count → count ≤ y → NumbersCleared n b count
  cleared-all h l = record { none_has = λ z k. C.none_has z (omega arith); states = C.states; beside = C.beside }
