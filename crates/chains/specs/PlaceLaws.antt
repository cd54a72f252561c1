-- Laws of Places: what code writes, and that a chain stays one.
--
-- In order: a record appended, as the code writes it; a node with no records; a chain where other bytes change; a record more; a node more.
use Rattle.std.specs.Prelude.{◌≡◌, refl, ◌⊎◌, ℕ, ◌+◌, ◌*◌, ◌^◌, ◌≤◌, ◌<◌}
use Rattle.std.proofs.Common.{sym, subst, ◌∙◌, inl, inr, arith}
use Rattle.concepts.specs.Lists.{Bytes}
use Rattle.words.specs.Words.{put_le}
use Rattle.words.specs.Sizes.{node_size, most_records}
use Rattle.records.specs.Areas.{Fits, Within, Beside}
use Rattle.records.specs.AreaLaws.{fits-before, within-put, within-beside, within_wider, within-then, beside-then, field_put}
use Rattle.chains.specs.ChainLaws.{chain_same, chain-key, chain-joined}
use Rattle.chains.specs.Places.{key_in, next_in, last_in, ChainIn, Sits, Appended, Unused, Begun, Has}
use Rattle.chains.specs.declared.Places.{Places}

-- ---- a record appended, as the code writes it

module _ {p : Places} {n b : Bytes} {x i : ℕ} (H : Has p n b x i) where
  -- the last of x so far
  abbrev last : ℕ
  last = last_in p n x

  -- the last of x is i now, and nothing comes after i
  abbrev n₁ : Bytes
  n₁ = put_le n (node_size * x + (p.first + 2)) 2 i

  abbrev b₁ : Bytes
  b₁ = put_le b (p.size * i + p.next) 2 most_records

  in-node : p.first + 2 + 2 ≤ node_size
  in-node = omega (arith, H.sits.in-node)

  in-first : p.first + 2 ≤ node_size
  in-first = omega (arith, H.sits.in-node)

  small : i < 256 ^ 2
  small = omega (arith, H.here.0)

  W : Within node_size x (p.first + 2) (p.first + 4) n n₁
  W = within_wider (p.first + 2) (p.first + 4) (omega arith) (omega arith) (within-put node_size n x (p.first + 2) 2 i in-node)

  Q : Within p.size i p.next (p.next + 2) b b₁
  Q = within-put p.size b i p.next 2 most_records H.sits.in-next

  -- the records before it are there
  pub last_fits : {v : ℕ} → v < i → Fits p.size b v
  last_fits l = fits-before p.size b H.here l

  -- in the chain there is a last record already
  after-some : last < i → Appended p n n₁ b (put_le b₁ (p.size * last + p.next) 2 i) i x
  after-some l =
      let b₂ : Bytes = put_le b₁ (p.size * last + p.next) 2 i in
      let U : Within p.size last p.next (p.next + 2) b₁ b₂ = within-put p.size b₁ last p.next 2 i H.sits.in-next in
      record {
        joined = record {
          ends =
              let e : next_in p b₂ i ≡ most_records = U.elsewhere i p.next 2 (omega arith) H.sits.in-next
              ∙ field_put p.size b i p.next 2 most_records H.here.1 H.sits.in-next (omega arith) in
              omega arith;
          after = λ _. field_put p.size b₁ last p.next 2 i (omega (arith, Q.long, (last_fits l).1)) H.sits.in-next small;
          nexts = λ z h d. U.elsewhere z p.next 2 d H.sits.in-next ∙ Q.elsewhere z p.next 2 (omega arith) H.sits.in-next;
          begins = λ h. absurd (omega arith);
          goes_on = λ _. W.beside p.first 2 (inl (omega arith)) in-first;
          firsts = λ y d. W.elsewhere y p.first 2 d in-first;
          lastly = field_put node_size n x (p.first + 2) 2 i H.node.1 in-node small;
          lasts = λ y d. W.elsewhere y (p.first + 2) 2 d in-node;
        };
        nodes = within_wider p.first (p.first + 4) (omega arith) (omega arith) W;
        area = beside-then (within-beside Q) (within-beside U);
      }

  -- or there is none
  after_none : i ≤ last → Appended p n (put_le n₁ (node_size * x + p.first) 2 i) b b₁ i x
  after_none l =
      let n₂ : Bytes = put_le n₁ (node_size * x + p.first) 2 i in
      let U : Within node_size x p.first (p.first + 2) n₁ n₂ = within-put node_size n₁ x p.first 2 i in-first in
      record {
        joined = record {
          ends = let e : next_in p b₁ i ≡ most_records = field_put p.size b i p.next 2 most_records H.here.1 H.sits.in-next
              (omega arith) in omega arith;
          after = λ h. absurd (omega arith);
          nexts = λ z h d. Q.elsewhere z p.next 2 (omega arith) H.sits.in-next;
          begins = λ _. field_put node_size n₁ x p.first 2 i (omega (arith, W.long, H.node.1)) in-first small;
          goes_on = λ h. absurd (omega arith);
          firsts = λ y d. U.elsewhere y p.first 2 d in-first ∙ W.elsewhere y p.first 2 d in-first;
          lastly = U.beside (p.first + 2) 2 (inr (omega arith)) in-node ∙ field_put node_size n x (p.first + 2) 2 i H.node.1 in-node small;
          lasts = λ y d. U.elsewhere y (p.first + 2) 2 d in-node ∙ W.elsewhere y (p.first + 2) 2 d in-node;
        };
        nodes = within-then (within_wider p.first (p.first + 4) (omega arith) (omega arith) W)
            (within_wider p.first (p.first + 4) (omega arith) (omega arith) U);
        area = within-beside Q;
      }

  -- the same of the number v that the code read, and of what it left
  pub appended-some : {v : ℕ} {n' b' : Bytes} → v ≡ last → v < i → n' ≡ n₁ → b' ≡ put_le b₁ (p.size * v + p.next) 2 i
      → Appended p n n' b b' i x
  appended-some {v} {n'} {b'} ev l en eb =
      let e : b' ≡ put_le b₁ (p.size * last + p.next) 2 i = cc in
      subst (λ (k : Bytes). Appended p n n' b k i x) (sym e)
      (subst (λ (k : Bytes). Appended p n k b (put_le b₁ (p.size * last + p.next) 2 i) i x) (sym en) (after-some (omega arith)))

  pub appended-none : {v : ℕ} {n' b' : Bytes} → v ≡ last → i ≤ v → n' ≡ put_le n₁ (node_size * x + p.first) 2 i → b' ≡ b₁
      → Appended p n n' b b' i x
  appended-none {v} {n'} ev l en eb =
      subst (λ (k : Bytes). Appended p n n' b k i x) (sym eb) (subst (λ (k : Bytes). Appended p n k b b₁ i x) (sym en) (after_none (omega arith)))

-- ---- a node with no records, as the code writes it

pub begun : {p : Places} {n : Bytes} {x : ℕ} → Sits p → Fits node_size n x
    → Begun p n (put_le (put_le n (node_size * x + p.first) 2 most_records) (node_size * x + (p.first + 2)) 2 most_records) x
begun {p} {n} {x} S fits =
    let n₁ : Bytes = put_le n (node_size * x + p.first) 2 most_records in
    let in-first : p.first + 2 ≤ node_size = omega (arith, S.in-node) in
    let in-last : p.first + 2 + 2 ≤ node_size = omega (arith, S.in-node) in
    let W : Within node_size x p.first (p.first + 2) n n₁ = within-put node_size n x p.first 2 most_records in-first in
    let U : Within node_size x (p.first + 2) (p.first + 2 + 2) n₁ (put_le n₁ (node_size * x + (p.first + 2)) 2 most_records) =
    within-put node_size n₁ x (p.first + 2) 2 most_records in-last in
    record {
      within = within-then (within_wider p.first (p.first + 4) (omega arith) (omega arith) W)
          (within_wider p.first (p.first + 4) (omega arith) (omega arith) U);
      unused = (
        U.beside p.first 2 (inl (omega arith)) in-first ∙ field_put node_size n x p.first 2 most_records fits.1 in-first (omega arith),
        field_put node_size n₁ x (p.first + 2) 2 most_records (omega (arith, W.long, fits.1)) in-last (omega arith),
      );
    }

-- ---- a chain where other bytes change

module _ {p : Places} (S : Sits p) {n n' b b' : Bytes} {m k : ℕ} where
  pub chain-beside : {lo hi lo' hi' : ℕ} → Beside node_size lo hi n n' → Beside p.size lo' hi' b b'
      → (p.first + 4 ≤ lo) ⊎ (hi ≤ p.first) → (p.key + 2 ≤ lo') ⊎ (hi' ≤ p.key) → (p.next + 2 ≤ lo') ⊎ (hi' ≤ p.next)
      → ChainIn p n b m k → ChainIn p n' b' m k
  chain-beside N B f i j C =
      chain_same
      (λ z _. B.kept z p.key 2 i S.in-key)
      (λ z _. B.kept z p.next 2 j S.in-next)
      (λ z _. N.kept z p.first 2 (elim f [ inl l ↦ inl (omega arith) | inr l ↦ inr l ]) (omega (arith, S.in-node)))
      (λ z _. N.kept z (p.first + 2) 2 (elim f [ inl l ↦ inl (omega arith) | inr l ↦ inr (omega arith) ]) (omega (arith, S.in-node)))
      C

  -- a record more
  pub chain-appended : {x : ℕ} → ChainIn p n b m k → key_in p b k ≡ x → x < m → k < most_records → Appended p n n' b b' k x
      → ChainIn p n' b' m (k + 1)
  chain-appended C e h l J =
      chain_same
      (λ z _. J.area.kept z p.key 2 S.apart S.in-key)
      (λ _ _. refl)
      (λ _ _. refl)
      (λ _ _. refl)
      (chain-joined C e h l J.joined)

-- a record past the last of all changes
pub chain-past : {p : Places} → Sits p → (n : Bytes) {b b' : Bytes} {m k lo hi : ℕ} → Within p.size k lo hi b b' → ChainIn p n b m k
    → ChainIn p n b' m k
chain-past {p} S n B C =
    chain_same
    (λ z l. B.elsewhere z p.key 2 (omega arith) S.in-key)
    (λ z l. B.elsewhere z p.next 2 (omega arith) S.in-next)
    (λ _ _. refl)
    (λ _ _. refl)
    C

-- a node more, which has no record
pub chain-blank : {p : Places} → Sits p → (b : Bytes) {n n' : Bytes} {m k lo hi : ℕ} → Within node_size m lo hi n n' → Unused p n' m
    → ChainIn p n b m k → ChainIn p n' b (m + 1) k
chain-blank {p} S b new (f, l) C =
    chain-key
    (chain_same
    (λ _ _. refl)
    (λ _ _. refl)
    (λ z h. new.elsewhere z p.first 2 (omega arith) (omega (arith, S.in-node)))
    (λ z h. new.elsewhere z (p.first + 2) 2 (omega arith) (omega (arith, S.in-node)))
    C)
    (omega arith)
    (omega arith)
