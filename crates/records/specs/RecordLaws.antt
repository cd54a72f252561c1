-- Laws of Records: the set of a record, a record is made of the bytes of its extent, is kept where others are written, and storing its fields stores it.
use Rattle.std.specs.Prelude.{◌≡◌, refl, ◌⊎◌, List, [], ◌∷◌, ℕ, ◌+◌, ◌*◌, ◌^◌, ◌≤◌, ◌<◌}
use Rattle.std.proofs.Common.{ap, ◌∙◌, inl, inr, arith, rules}
use Rattle.concepts.specs.Lists.{Bytes}
use Rattle.concepts.specs.RowSet.{RowSet}
use Rattle.procedure.specs.Graph as G
use Rattle.words.specs.Words.{le_at, put_le}
use Rattle.words.specs.Fields.{Field, put_fields, Apart}
use Rattle.words.specs.Sizes.{node_size, edge_size, alternative_size, set_size}
use Rattle.rowset.specs.SetOf.{set_of}
use Rattle.records.specs.Codes.{status_of, status_code, status-back, status_code-small, flag-back, flag_code-small}
use Rattle.records.specs.Codes.{link_of, link_kind, link_number, link-back, link_kind-small}
use Rattle.records.specs.Areas.{Fits, field, Beside}
use Rattle.records.specs.AreaLaws.{Same, field-same, field-other, written-put, holds-put}
use Rattle.records.specs.Layout.{status_at, is_state_at, pst_at, prl_at, link_kind_at, link_number_at, node_extent}
use Rattle.records.specs.Layout.{from_at, to_at, edge_extent, owner_at, alternative_extent}
use Rattle.records.specs.Records.{node_of, node_in, node_fields, NodeWritten, edge_of, edge_in, edge_fields, EdgeWritten}
use Rattle.records.specs.Records.{alternative_of, alternative_in, alternative_fields, AlternativeWritten}
use Rattle.records.specs.declared.Status.{Status}
use Rattle.records.specs.declared.Link.{Link}
use Rattle.records.specs.declared.Node.{Node}
use Rattle.records.specs.declared.Edge.{Edge}

-- ---- the set of a record

pub node-rows : (b : Bytes) (x : ℕ) → (node_in b x).rows ≡ set_of b (node_size * x)
unfolding node_in
node-rows b x = refl

-- ---- a record is made of the bytes of its extent

-- the set is before all
set_first : (size : ℕ) (b : Bytes) (x : ℕ) → set_of b (size * x) ≡ field size b x 0 set_size
set_first size b x = ap (λ (k : ℕ). le_at b k set_size) (omega arith)

-- what stands in the bytes of the extents is the same in both areas
abbrev SameTo : ℕ → ℕ → Bytes → Bytes → ℕ → Type 0
SameTo size extent b c x = (o n : ℕ) → o + n ≤ extent → field size b x o n ≡ field size c x o n

node_made : (b c : Bytes) (x : ℕ) → SameTo node_size node_extent b c x → node_in b x ≡ node_in c x
unfolding node_in
node_made b c x f =
    cc (
      set_first node_size b x,
      set_first node_size c x,
      f 0 set_size (omega arith),
      f status_at 1 (omega arith),
      f is_state_at 1 (omega arith),
      f pst_at 2 (omega arith),
      f prl_at 1 (omega arith),
      f link_kind_at 1 (omega arith),
      f link_number_at 2 (omega arith),
    )

edge-made : (b c : Bytes) (i : ℕ) → SameTo edge_size edge_extent b c i → edge_in b i ≡ edge_in c i
unfolding edge_in
edge-made b c i f = cc (f from_at 2 (omega arith), f to_at 2 (omega arith))

alternative-made : (b c : Bytes) (i : ℕ) → SameTo alternative_size alternative_extent b c i → alternative_in b i ≡ alternative_in c i
unfolding alternative_in
alternative-made b c i f = cc (set_first alternative_size b i, set_first alternative_size c i, f 0 set_size (omega arith), f owner_at 2 (omega arith))

pub node-local : (b c : Bytes) (x : ℕ) → Same node_size b c x → node_in b x ≡ node_in c x
node-local b c x same = node_made b c x (λ o n h. field-same node_size b c x same o n (omega arith))

pub edge-local : (b c : Bytes) (i : ℕ) → Same edge_size b c i → edge_in b i ≡ edge_in c i
edge-local b c i same = edge-made b c i (λ o n h. field-same edge_size b c i same o n (omega arith))

pub alternative-local : (b c : Bytes) (i : ℕ) → Same alternative_size b c i → alternative_in b i ≡ alternative_in c i
alternative-local b c i same = alternative-made b c i (λ o n h. field-same alternative_size b c i same o n (omega arith))

-- ---- it is kept where bytes behind its extent are written

pub node-beside : {lo hi : ℕ} {b c : Bytes} → node_extent ≤ lo → Beside node_size lo hi b c → (x : ℕ) → node_in c x ≡ node_in b x
node-beside {b = b} {c = c} l B x = node_made c b x (λ o n h. B.kept x o n (inl (omega arith)) (omega arith))

pub edge_beside : {lo hi : ℕ} {b c : Bytes} → edge_extent ≤ lo → Beside edge_size lo hi b c → (i : ℕ) → edge_in c i ≡ edge_in b i
edge_beside {b = b} {c = c} l B i = edge-made c b i (λ o n h. B.kept i o n (inl (omega arith)) (omega arith))

pub alternative-beside : {lo hi : ℕ} {b c : Bytes} → alternative_extent ≤ lo → Beside alternative_size lo hi b c → (i : ℕ)
    → alternative_in c i ≡ alternative_in b i
alternative-beside {b = b} {c = c} l B i = alternative-made c b i (λ o n h. B.kept i o n (inl (omega arith)) (omega arith))

-- ---- its fields stored

pub node-apart : (s : RowSet) (n : Node) → s < 256 ^ set_size → n.pst < 65536 → n.prl < 256 → link_number n.link < 65536
    → Apart 0 node_extent (node_fields s n)
node-apart s n rows pst prl number =
    search (rows, status_code-small n.status, flag_code-small n.is_state, pst, prl, link_kind-small n.link, number, rules)

pub node-stored : (b c : Bytes) (x : ℕ) (s : RowSet) (n : Node) → Fits node_size b x → Apart 0 node_extent (node_fields s n)
    → c ≡ put_fields b (node_size * x) (node_fields s n) → NodeWritten b c x (node_of s n)
unfolding node_in
node-stored b c x s n h a e =
    let w = holds-put node_size b c x 0 node_extent (node_fields s n) (omega arith) e a h.1 in
    written-put node_size node_in node-local b c x node_extent (node_fields s n) (node_of s n) (omega arith) e a
    (cc (
      set_first node_size c x,
      w.0,
      w.1.0,
      w.1.1.0,
      w.1.1.1.0,
      w.1.1.1.1.0,
      w.1.1.1.1.1.0,
      w.1.1.1.1.1.1.0,
      status-back n.status,
      flag-back n.is_state,
      link-back n.link,
    ))

-- one field of a node, or two, and the others kept
pub status-stored : (b c : Bytes) (x : ℕ) (v : Status) → Fits node_size b x → c ≡ put_le b (node_size * x + status_at) 1 (status_code v)
    → NodeWritten b c x (G.with_status (status_of v) (node_in b x))
unfolding node_in
status-stored b c x v h e =
    let fs : List Field = (status_at, 1, status_code v) ∷ [] in
    let s : Apart 0 node_extent fs = (omega arith, status_code-small v, omega arith) in
    let kept : (o n : ℕ) → (o + n ≤ status_at) ⊎ (is_state_at ≤ o) → field node_size c x o n ≡ field node_size b x o n =
    λ o n side. ap (λ (k : Bytes). field node_size k x o n) e ∙ field-other node_size b x o n status_at 1 (status_code v) side in
    let f : (o n : ℕ) → is_state_at ≤ o → field node_size c x o n ≡ field node_size b x o n = λ o n side. kept o n (inr side) in
    written-put node_size node_in node-local b c x node_extent fs (G.with_status (status_of v) (node_in b x)) (omega arith) e s
    (cc (
      (holds-put node_size b c x 0 node_extent fs (omega arith) e s h.1).0,
      status-back v,
      set_first node_size b x,
      set_first node_size c x,
      kept 0 set_size (inl (omega arith)),
      f is_state_at 1 (omega arith),
      f pst_at 2 (omega arith),
      f prl_at 1 (omega arith),
      f link_kind_at 1 (omega arith),
      f link_number_at 2 (omega arith),
    ))

pub link-stored : (b c : Bytes) (x : ℕ) (l : Link) → Fits node_size b x → link_number l < 65536
    → c ≡ put_le (put_le b (node_size * x + link_kind_at) 1 (link_kind l)) (node_size * x + link_number_at) 2 (link_number l)
    → NodeWritten b c x (G.with_link (link_of l) (node_in b x))
unfolding node_in
link-stored b c x l h small e =
    let fs : List Field = (link_kind_at, 1, link_kind l) ∷ (link_number_at, 2, link_number l) ∷ [] in
    let s : Apart 0 node_extent fs = (omega arith, link_kind-small l, (omega arith, omega arith, omega arith)) in
    let w = holds-put node_size b c x 0 node_extent fs (omega arith) e s h.1 in
    let kept : (o n : ℕ) → o + n ≤ link_kind_at → field node_size c x o n ≡ field node_size b x o n =
    λ o n side. ap (λ (k : Bytes). field node_size k x o n) e
    ∙ field-other node_size (put_le b (node_size * x + link_kind_at) 1 (link_kind l)) x o n link_number_at 2 (link_number l) (inl (omega arith))
    ∙ field-other node_size b x o n link_kind_at 1 (link_kind l) (inl (omega arith)) in
    written-put node_size node_in node-local b c x node_extent fs (G.with_link (link_of l) (node_in b x)) (omega arith) e s
    (cc (
      w.0,
      w.1.0,
      link-back l,
      set_first node_size b x,
      set_first node_size c x,
      kept 0 set_size (omega arith),
      kept status_at 1 (omega arith),
      kept is_state_at 1 (omega arith),
      kept pst_at 2 (omega arith),
      kept prl_at 1 (omega arith),
    ))

pub edge-stored : (b c : Bytes) (i : ℕ) (d : Edge) → Fits edge_size b i → Apart 0 edge_extent (edge_fields d)
    → c ≡ put_fields b (edge_size * i) (edge_fields d)
    → EdgeWritten b c i (edge_of d)
unfolding edge_in
edge-stored b c i d h s e =
    let w = holds-put edge_size b c i 0 edge_extent (edge_fields d) (omega arith) e s h.1 in
    written-put edge_size edge_in edge-local b c i edge_extent (edge_fields d) (edge_of d) (omega arith) e s (cc (w.0, w.1.0))

pub alternative-stored : (b c : Bytes) (i : ℕ) (s : RowSet) (owner : ℕ) → Fits alternative_size b i
    → Apart 0 alternative_extent (alternative_fields s owner)
    → c ≡ put_fields b (alternative_size * i) (alternative_fields s owner)
    → AlternativeWritten b c i (alternative_of s owner)
unfolding alternative_in
alternative-stored b c i s owner h a e =
    let fs = alternative_fields s owner in
    let w = holds-put alternative_size b c i 0 alternative_extent fs (omega arith) e a h.1 in
    written-put alternative_size alternative_in alternative-local b c i alternative_extent fs (alternative_of s owner) (omega arith) e a
    (cc (set_first alternative_size c i, w.0, w.1.0))
