-- Laws of Chain, for every kind of record.
--
-- In order: one record more; a chain that starts; what a chain depends on; a key more; a record more; walking along a chain.
-- Assumes nothing.
use Rattle.std.specs.Prelude.{◌≡◌, ◌≢◌, ℕ, zero, suc, ◌+◌, ◌≤◌, ◌<◌, eqb}
use Rattle.std.proofs.Common.{sym, ap, ◌∙◌, subst, arith, eq-eqb, ne_eqb}
use Rattle.std.proofs.Math.Decide.{ℕ_discrete, dec_lt}
use Rattle.words.specs.Sizes.{most_records}
use Rattle.records.specs.Areas.{FirstAt}
use Rattle.chains.specs.Chain.{First, Last, Chain, Joined, Behind, following}

-- ---- one record more

module _ {key : ℕ → ℕ} {x n : ℕ} where
  first_more : {from i : ℕ} → First key x from n i → (key n ≡ x → i ≤ n) → First key x from (n + 1) i
  first_more {from} {i} F h = record {
    found = λ l. let (a, b, e) = F.found l in (a, omega arith, e);
    least = λ k a b e. elim (ℕ_discrete k n) [ yes p ↦ let q : i ≤ n = h (ap key (sym p) ∙ e) in omega arith | no d ↦ F.least k a (omega arith) e ];
  }

  first-here : {from : ℕ} → from ≤ n → key n ≡ x → ((k : ℕ) → from ≤ k → k < n → key k ≢ x) → First key x from (n + 1) n
  first-here h here none_before = record {
    found = λ l. (h, omega arith, here);
    least = λ k a b e. elim (dec_lt k n) [ yes l ↦ absurd (none_before k a l e) | no l ↦ omega arith ];
  }

  first-nowhere : {from i : ℕ} → most_records ≤ i → ((k : ℕ) → from ≤ k → k < n → key k ≢ x) → First key x from n i
  first-nowhere h none-there = record { found = λ l. absurd (omega arith); least = λ k a b e. absurd (none-there k a b e) }

  last_more : {i : ℕ} → Last key x n i → key n ≢ x → Last key x (n + 1) i
  last_more L h = record {
    found = λ l. let (b, e) = L.found l in (omega arith, e);
    greatest = λ k b e. elim (ℕ_discrete k n) [ yes p ↦ absurd (h (ap key (sym p) ∙ e)) | no d ↦ L.greatest k (omega arith) e ];
  }

  last-here : n < most_records → key n ≡ x → Last key x (n + 1) n
  last-here h here = record { found = λ l. (omega arith, here); greatest = λ k b e. (omega arith, h) }

  last-nowhere : {i : ℕ} → most_records ≤ i → ((k : ℕ) → k < n → key k ≢ x) → Last key x n i
  last-nowhere h none-there = record { found = λ l. absurd (omega arith); greatest = λ k b e. absurd (none-there k b e) }

-- ---- a chain that starts

pub chain-empty : (key next first last : ℕ → ℕ) → Chain key next first last 0 0
chain-empty key next first last = record {
  few = omega arith;
  keys = λ i h. absurd (omega arith);
  nexts = λ i h. absurd (omega arith);
  firsts = λ x h. absurd (omega arith);
  lasts = λ x h. absurd (omega arith);
}

-- ---- what a chain depends on

module _ {key key' : ℕ → ℕ} {x n : ℕ} (same : (i : ℕ) → i < n → key' i ≡ key i) where
  first-same : {from i : ℕ} → First key x from n i → First key' x from n i
  first-same {from} {i} F = record {
    found = λ l. let (a, b, e) = F.found l in (a, b, same i b ∙ e);
    least = λ k a b e. F.least k a b (sym (same k b) ∙ e);
  }

  last-same : {i : ℕ} → Last key x n i → Last key' x n i
  last-same {i} L = record {
    found = λ l. let (b, e) = L.found l in (b, same i b ∙ e);
    greatest = λ k b e. L.greatest k b (sym (same k b) ∙ e);
  }

-- the numbers of the n records and of the m keys, no others
pub chain_same : {key next first last key' next' first' last' : ℕ → ℕ} {m n : ℕ}
    → ((i : ℕ) → i < n → key' i ≡ key i)
    → ((i : ℕ) → i < n → next' i ≡ next i)
    → ((x : ℕ) → x < m → first' x ≡ first x)
    → ((x : ℕ) → x < m → last' x ≡ last x)
    → Chain key next first last m n → Chain key' next' first' last' m n
chain_same {key} {next} {first} {last} {key'} {next'} {first'} {last'} {m} {n} k p f l C = record {
  few = C.few;
  keys = λ i h. subst (λ (v : ℕ). v < m) (sym (k i h)) (C.keys i h);
  nexts = λ i h.
      subst (λ (v : ℕ). First key' v (i + 1) n (next' i)) (sym (k i h))
      (subst (λ (v : ℕ). First key' (key i) (i + 1) n v) (sym (p i h)) (first-same k (C.nexts i h)));
  firsts = λ x h. subst (λ (v : ℕ). First key' x 0 n v) (sym (f x h)) (first-same k (C.firsts x h));
  lasts = λ x h. subst (λ (v : ℕ). Last key' x n v) (sym (l x h)) (last-same k (C.lasts x h));
}

-- ---- a key more, which no record has

pub chain-key : {key next first last : ℕ → ℕ} {m n : ℕ} → Chain key next first last m n → most_records ≤ first m → most_records ≤ last m → Chain key next first last (m + 1) n
chain-key {key} {next} {first} {last} {m} {n} C f l = record {
  few = C.few;
  keys = λ i h. let q : key i < m = C.keys i h in omega arith;
  nexts = C.nexts;
  firsts = λ x h. elim (ℕ_discrete x m) [
    | yes p ↦ subst (λ (y : ℕ). First key y 0 n (first y)) (sym p) (first-nowhere f (λ k _ b e. let q : key k < m = C.keys k b in absurd (omega arith)))
    | no d ↦ C.firsts x (omega arith)
  ];
  lasts = λ x h. elim (ℕ_discrete x m) [
    | yes p ↦ subst (λ (y : ℕ). Last key y n (last y)) (sym p) (last-nowhere l (λ k b e. let q : key k < m = C.keys k b in absurd (omega arith)))
    | no d ↦ C.lasts x (omega arith)
  ];
}

-- ---- a record more, at the end of its key's chain

module _ {key next first last next' first' last' : ℕ → ℕ} {m n x : ℕ} (C : Chain key next first last m n) (here : key n ≡ x) (h : x < m) (room : n < most_records)
    (J : Joined next first last next' first' last' x n) where
  L : Last key x n (last x)
  L = C.lasts x h

  -- no record has the key, or the last that has it is below n
  last_none : n ≤ last x → (k : ℕ) → k < n → key k ≢ x
  last_none l k b e = let (p, q) = L.greatest k b e in let (r, _) = L.found q in omega arith

  next-joined : (i : ℕ) → i < n + 1 → Dec (i ≡ n) → Dec (i ≡ last x) → First key (key i) (i + 1) (n + 1) (next' i)
  next-joined i b (yes p) s = first-nowhere (subst (λ (k : ℕ). most_records ≤ next' k) (sym p) J.ends) (λ k u v _. omega arith)
  next-joined i b (no d) (yes p) =
      let c : last x < n = omega arith in
      let e : key i ≡ x = ap key p ∙ (L.found (omega arith)).1 in
      subst (λ (v : ℕ). First key (key i) (i + 1) (n + 1) v) (sym (ap next' p ∙ J.after c))
      (first-here (omega arith) (here ∙ sym e) (λ k u v q. let (w, _) = L.greatest k v (q ∙ e) in omega arith))
  next-joined i b (no d) (no s) =
      let c : i < n = omega arith in
      subst (λ (v : ℕ). First key (key i) (i + 1) (n + 1) v) (sym (J.nexts i c s))
      (first_more (C.nexts i c) (λ e.
      let (p, q) = L.greatest i c (sym e ∙ here) in
      let (r, t) = L.found q in
      let z : next i ≤ last x = (C.nexts i c).least (last x) (omega arith) r (t ∙ sym here ∙ e) in
      omega arith))

  first-joined : (y : ℕ) → y < m → Dec (y ≡ x) → Dec (last x < n) → First key y 0 (n + 1) (first' y)
  first-joined y b (yes p) (yes l) =
      let (_, t) = L.found (omega arith) in
      let z : first x ≤ last x = (C.firsts x h).least (last x) (omega arith) l t in
      subst (λ (v : ℕ). First key v 0 (n + 1) (first' v)) (sym p)
      (subst (λ (v : ℕ). First key x 0 (n + 1) v) (sym (J.goes_on l)) (first_more (C.firsts x h) (λ _. omega arith)))
  first-joined y b (yes p) (no l) =
      subst (λ (v : ℕ). First key v 0 (n + 1) (first' v)) (sym p)
      (subst (λ (v : ℕ). First key x 0 (n + 1) v) (sym (J.begins (omega arith))) (first-here (omega arith) here (λ k _ v. last_none (omega arith) k v)))
  first-joined y b (no d) s =
      subst (λ (v : ℕ). First key y 0 (n + 1) v) (sym (J.firsts y d)) (first_more (C.firsts y b) (λ e. absurd (d (sym e ∙ here))))

  last-joined : (y : ℕ) → y < m → Dec (y ≡ x) → Last key y (n + 1) (last' y)
  last-joined y b (yes p) = subst (λ (v : ℕ). Last key v (n + 1) (last' v)) (sym p) (subst (λ (v : ℕ). Last key x (n + 1) v) (sym J.lastly) (last-here room here))
  last-joined y b (no d) = subst (λ (v : ℕ). Last key y (n + 1) v) (sym (J.lasts y d)) (last_more (C.lasts y b) (λ e. d (sym e ∙ here)))

  pub chain-joined : Chain key next' first' last' m (n + 1)
  chain-joined = record {
    few = omega arith;
    keys = λ i b. elim (ℕ_discrete i n) [ yes p ↦ let e : key i ≡ x = ap key p ∙ here in omega arith | no d ↦ C.keys i (omega arith) ];
    nexts = λ i b. next-joined i b (ℕ_discrete i n) (ℕ_discrete i (last x));
    firsts = λ y b. first-joined y b (ℕ_discrete y x) (dec_lt (last x) n);
    lasts = λ y b. last-joined y b (ℕ_discrete y x);
  }

-- ---- walking along a chain

module _ {key next first last : ℕ → ℕ} {m n x : ℕ} (C : Chain key next first last m n) (h : x < m) where
  -- the record from a place of the chain on
  pub chain-follows : (from : ℕ) → from ≤ n → Behind key x from → First key x from n (following next first x from)
  chain-follows zero l o = C.firsts x h
  chain-follows (suc j) l o =
      let e : j + 1 ≡ suc j = omega arith in
      subst (λ (v : ℕ). First key v (suc j) n (next j)) o (subst (λ (v : ℕ). First key (key j) v n (next j)) e (C.nexts j (omega arith)))

-- the same as a search among fewer records finds it
module _ {key : ℕ → ℕ} {x from n i : ℕ} (F : First key x from n i) (few : n ≤ most_records) (m : ℕ) (below : m ≤ n) where
  pub first_found : i < m → FirstAt (λ k. eqb (key k) x) from m i
  first_found l =
      let (a, _, e) = F.found (omega arith) in
      record { start = a; before = λ k p q. ne_eqb _ _ (λ t. let z : i ≤ k = F.least k p (omega arith) t in omega arith); found = λ _. eq-eqb _ _ e }

  pub first-end : from ≤ m → m ≤ i → FirstAt (λ k. eqb (key k) x) from m m
  first-end s l = record { start = s; before = λ k p q. ne_eqb _ _ (λ t. let z : i ≤ k = F.least k p (omega arith) t in omega arith); found = λ b. absurd (omega arith) }

-- ---- a place by other keys, which are the same where records are

pub behind-same : {key key' : ℕ → ℕ} {n : ℕ} → ((i : ℕ) → i < n → key' i ≡ key i) → (x from : ℕ) → from ≤ n → Behind key x from → Behind key' x from
behind-same same x zero l o = tt
behind-same same x (suc j) l o = same j l ∙ o
