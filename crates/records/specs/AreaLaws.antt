-- Laws of Areas, for every kind of record.
--
-- In order: the room of an area; the list of an area's records; a record stored; fields; what is kept beside bytes that are written; a record written by its
-- fields; the elements that pass, from a place on.
use Rattle.std.specs.Prelude.{◌≡◌, Bool, true, false, ◌≢◌, ◌⊎◌, length, get_or, set, take, drop}
use Rattle.std.proofs.Math.Path.{refl, ap}
use Rattle.std.proofs.Common.{sym, ◌∙◌, subst, inl, inr, mul-le-mul_left, mul-suc, le_trans, not-suc-le-zero, le_of_suc-le-suc, length-set, length-append, take_all, get_or-set_same, get_or-set_other, ext_get_or, drop-cons}
use mathlib.Core.List.{List, [], ◌∷◌, ◌++◌, map}
use Prim.Native.Nat.{ℕ, zero, suc, ◌+◌, ◌*◌, ◌^◌, ◌/◌, ◌-◌, ◌≤◌, ◌<◌}
use Rattle.std.proofs.Math.Nat.{mul-div-le}
use Rattle.std.proofs.Math.Decide.{ℕ_discrete, dec_lt}
use native.Mathlib.Omega.{arith}
use Rattle.std.proofs.Math.ListN.{get_or-append}
use Rattle.std.proofs.lemmas.List.{take-append-le, get_or_at}
use Rattle.concepts.specs.Lists.{Bytes, select}
use Rattle.concepts.specs.ListLaws.{length-map-range, get_or-map-range, take-map-range}
use Rattle.words.specs.Words.{put_le}
use Rattle.words.specs.WordLaws.{length-put_le, le_at-same, le_at-put_le, below-put_le, above-put_le}
use Rattle.words.specs.Fields.{Field, put_fields, HoldsFields, Apart}
use Rattle.words.specs.FieldLaws.{length-put_fields, below-put_fields, above-put_fields, holds-put_fields}
use Rattle.records.specs.Areas.{room_of, Fits, field, records_in, Stored, Within, Beside, Written, FirstAt, chosen_from}

-- ---- the room of an area

pub room_fits : (size : ℕ) (b : Bytes) {count i : ℕ} → count ≤ room_of size b → i < count → Fits size b i
room_fits size b {count} {i} h l =
    let m : suc i ≤ length b / size = omega arith in
    (omega arith, omega (arith, le_trans (mul-le-mul_left size m) (mul-div-le (length b) size), mul-suc size i))

mul-step : (size x y : ℕ) → x < y → size * x + size ≤ size * y
mul-step size x y h = omega (arith, mul-le-mul_left size h, mul-suc size x)

-- an area that has a record has those before it
pub fits-before : (size : ℕ) (b : Bytes) {i j : ℕ} → Fits size b i → j < i → Fits size b j
fits-before size b {i} {j} (p, q) h = (omega arith, omega (arith, mul-step size j i h))

module _ {A : Type 0} (read : Bytes → ℕ → A) where
  -- ---- the list of an area's records

  pub length-records : (b : Bytes) (n : ℕ) → length (records_in read b n) ≡ n
  length-records b n = length-map-range (read b) 0 n

  pub get_or-records : (b : Bytes) (n x : ℕ) (d : A) → x < n → get_or (records_in read b n) x d ≡ read b x
  get_or-records b n x d h = get_or-map-range (read b) 0 n x d h ∙ ap (read b) (omega arith)

  -- an area whose records begin with xs: so many of them are xs
  pub records-kept : (b : Bytes) (n m : ℕ) (xs more : List A) → length xs ≡ n → n ≤ m → records_in read b m ≡ xs ++ more
      → records_in read b n ≡ xs
  records-kept b n m xs more l h q = sym (take-map-range (read b) 0 m n h) ∙ ap (take n) q ∙ take-append-le n xs more (omega arith)
      ∙ take_all n xs (omega arith)

  -- records that all read as before
  pub records-same : {b b' : Bytes} → ((z : ℕ) → read b' z ≡ read b z) → (n : ℕ) → records_in read b' n ≡ records_in read b n
  records-same {b} {b'} same n =
      ext_get_or (read b 0) (records_in read b' n) (records_in read b n) (length-records b' n ∙ sym (length-records b n)) (λ i p.
      let q : i < n = omega (arith, length-records b' n) in
      get_or-records b' n i (read b 0) q ∙ same i ∙ sym (get_or-records b n i (read b 0) q))

  -- ---- a record stored

  pub stored-then : {b b' b'' : Bytes} {x : ℕ} {v : A} → Stored read b b' x v → length b'' ≡ length b'
      → ((z : ℕ) → read b'' z ≡ read b' z) → Stored read b b'' x v
  stored-then {x = x} s l same = record { size = l ∙ s.size; here = same x ∙ s.here; others = λ y d. same y ∙ s.others y d }

  pub records-set : {b b' : Bytes} {x : ℕ} {v : A} → Stored read b b' x v → (n : ℕ) → x < n
      → records_in read b' n ≡ set (records_in read b n) x v
  records-set {b} {b'} {x} {v} s n h =
      ext_get_or v (records_in read b' n) (set (records_in read b n) x v)
      (length-records b' n ∙ sym (length-set (records_in read b n) x v ∙ length-records b n))
      (λ i p. at i (omega (arith, length-records b' n)) (ℕ_discrete i x))
    where
      at : (i : ℕ) → i < n → Dec (i ≡ x) → get_or (records_in read b' n) i v ≡ get_or (set (records_in read b n) x v) i v
      at i p (yes e) =
          get_or-records b' n i v p ∙ ap (read b') e ∙ s.here
          ∙ sym (ap (λ (k : ℕ). get_or (set (records_in read b n) x v) k v) e
          ∙ get_or-set_same (records_in read b n) x v v (omega (arith, length-records b n)))
      at i p (no d) =
          get_or-records b' n i v p ∙ s.others i d
          ∙ sym (get_or-set_other (records_in read b n) x i v v d ∙ get_or-records b n i v p)

  pub records-append : {b b' : Bytes} {n : ℕ} {v : A} → Stored read b b' n v → records_in read b' (n + 1) ≡ records_in read b n ++ v ∷ []
  records-append {b} {b'} {n} {v} s =
      ext_get_or v (records_in read b' (n + 1)) (records_in read b n ++ v ∷ [])
      (length-records b' (n + 1) ∙ sym (length-append (records_in read b n) (v ∷ []) ∙ ap (λ (k : ℕ). k + 1) (length-records b n)))
      (λ i p. at i (omega (arith, length-records b' (n + 1))) (ℕ_discrete i n))
    where
      at : (i : ℕ) → i < n + 1 → Dec (i ≡ n) → get_or (records_in read b' (n + 1)) i v ≡ get_or (records_in read b n ++ v ∷ []) i v
      at i p (yes e) =
          get_or-records b' (n + 1) i v p ∙ ap (read b') e ∙ s.here
          ∙ sym (ap (λ (k : ℕ). get_or (records_in read b n ++ v ∷ []) k v) e ∙ get_or_at (records_in read b n) v [] v n (length-records b n))
      at i p (no d) =
          get_or-records b' (n + 1) i v p ∙ s.others i d
          ∙ sym (get_or-append (records_in read b n) (v ∷ []) v i (omega (arith, length-records b n)) ∙ get_or-records b n i v (omega arith))

-- ---- fields

-- the bytes of record x are the same in both areas
abbrev pub Same : ℕ → Bytes → Bytes → ℕ → Type 0
Same size b c x = (j : ℕ) → size * x ≤ j → j < size * x + size → get_or b j 0 ≡ get_or c j 0

pub field-same : (size : ℕ) (b c : Bytes) (x : ℕ) → Same size b c x → (o n : ℕ) → o + n ≤ size → field size b x o n ≡ field size c x o n
field-same size b c x same o n h = le_at-same b c (size * x + o) n (λ j p q. same j (omega arith) (omega arith))

-- a field beside the one that was written
pub field-other : (size : ℕ) (b : Bytes) (x o n p m v : ℕ) → (o + n ≤ p) ⊎ (p + m ≤ o)
    → field size (put_le b (size * x + p) m v) x o n ≡ field size b x o n
field-other size b x o n p m v (inl h) = le_at-same _ b (size * x + o) n (λ j l u. below-put_le b (size * x + p) m v j (omega arith))
field-other size b x o n p m v (inr h) = le_at-same _ b (size * x + o) n (λ j l u. above-put_le b (size * x + p) m v j (omega arith))

-- ---- what is kept beside bytes that are written

-- where every byte but those from lo to hi of record x is as it was
within-bytes : (size x lo hi : ℕ) (b b' : Bytes) → hi ≤ size → length b' ≡ length b
    → ((j : ℕ) → (j < size * x + lo) ⊎ (size * x + hi ≤ j) → get_or b' j 0 ≡ get_or b j 0) → Within size x lo hi b b'
within-bytes size x lo hi b b' h l same = record {
  long = l;
  elsewhere = λ y o w d f. le_at-same b' b (size * y + o) w (λ j p q. same j (side y o w d f j p q (dec_lt y x)));
  beside = λ o w d f. le_at-same b' b (size * x + o) w (λ j p q. same j (elim d [ inl k ↦ inl (omega arith) | inr k ↦ inr (omega arith) ]));
}
  where
    side : (y o w : ℕ) → y ≢ x → o + w ≤ size → (j : ℕ) → size * y + o ≤ j → j < size * y + o + w → Dec (y < x) → (j < size * x + lo)
        ⊎ (size * x + hi ≤ j)
    side y o w d f j p q (yes k) = inl (omega (arith, mul-step size y x k))
    side y o w d f j p q (no k) = inr (omega (arith, mul-step size x y (omega arith)))

pub within-put : (size : ℕ) (b : Bytes) (x p u v : ℕ) → p + u ≤ size → Within size x p (p + u) b (put_le b (size * x + p) u v)
within-put size b x p u v h = within-bytes size x p (p + u) b (put_le b (size * x + p) u v) h (length-put_le b (size * x + p) u v) (λ j s. elim s [
  | inl k ↦ below-put_le b (size * x + p) u v j k
  | inr k ↦ above-put_le b (size * x + p) u v j (omega arith)
])

pub within-fields : (size : ℕ) (b c : Bytes) (x : ℕ) {lo hi : ℕ} (fs : List Field) → hi ≤ size → c ≡ put_fields b (size * x) fs → Apart lo hi fs
    → Within size x lo hi b c
within-fields size b c x {lo} {hi} fs h e s = rw e (within-bytes size x lo hi b (put_fields b (size * x) fs) h (length-put_fields b (size * x) fs)
    (λ j t. elim t [
      | inl k ↦ below-put_fields b (size * x) lo hi fs j s k
      | inr k ↦ above-put_fields b (size * x) lo hi fs j s k
    ]))

-- what was written stands there
pub field_put : (size : ℕ) (b : Bytes) (x p u v : ℕ) → size * x + size ≤ length b → p + u ≤ size → v < 256 ^ u
    → field size (put_le b (size * x + p) u v) x p u ≡ v
field_put size b x p u v h f small = le_at-put_le b (size * x + p) u v (omega arith) small

module _ {size x lo hi : ℕ} {b b' : Bytes} where
  pub within-beside : Within size x lo hi b b' → Beside size lo hi b b'
  within-beside W = record {
    long = W.long;
    kept = λ y o w s f. elim (ℕ_discrete y x) [
      | yes p ↦ ap (λ (k : ℕ). field size b' k o w) p ∙ W.beside o w s f ∙ sym (ap (λ (k : ℕ). field size b k o w) p)
      | no d ↦ W.elsewhere y o w d f
    ];
  }

  pub within_wider : (lo' hi' : ℕ) → lo' ≤ lo → hi ≤ hi' → Within size x lo hi b b' → Within size x lo' hi' b b'
  within_wider lo' hi' p q W = record {
    long = W.long;
    elsewhere = W.elsewhere;
    beside = λ o w s f. W.beside o w (elim s [ inl k ↦ inl (omega arith) | inr k ↦ inr (omega arith) ]) f;
  }

  pub within-then : {b'' : Bytes} → Within size x lo hi b b' → Within size x lo hi b' b'' → Within size x lo hi b b''
  within-then A W = record {
    long = W.long ∙ A.long;
    elsewhere = λ y o w d f. W.elsewhere y o w d f ∙ A.elsewhere y o w d f;
    beside = λ o w s f. W.beside o w s f ∙ A.beside o w s f;
  }

pub beside-refl : {size lo hi : ℕ} {b : Bytes} → Beside size lo hi b b
beside-refl = record { long = refl; kept = λ _ _ _ _ _. refl }

module _ {size lo hi : ℕ} {b b' : Bytes} where
  pub beside-wider : (lo' hi' : ℕ) → lo' ≤ lo → hi ≤ hi' → Beside size lo hi b b' → Beside size lo' hi' b b'
  beside-wider lo' hi' p q B = record {
    long = B.long;
    kept = λ y o w s f. B.kept y o w
        (elim s [ inl k ↦ inl (omega arith) | inr k ↦ inr (omega arith) ]) f;
  }

  pub beside-then : {b'' : Bytes} → Beside size lo hi b b' → Beside size lo hi b' b'' → Beside size lo hi b b''
  beside-then A B = record { long = B.long ∙ A.long; kept = λ y o w s f. B.kept y o w s f ∙ A.kept y o w s f }

-- ---- a record written by its fields

-- where a kind's records are made of their own bytes alone, writing fields into record x stores what is then read there
module _ {A : Type 0} (size : ℕ) (read : Bytes → ℕ → A) (local : (b c : Bytes) (x : ℕ) → Same size b c x → read b x ≡ read c x) where
  pub stored-put : (b c : Bytes) (x lo hi : ℕ) (fs : List Field) (v : A) → hi ≤ size → c ≡ put_fields b (size * x) fs → Apart lo hi fs
      → read c x ≡ v → Stored read b c x v
  stored-put b c x lo hi fs v m e s here =
      record {
        size = ap length e ∙ length-put_fields b (size * x) fs;
        here = here;
        others = λ y d. local c b y (λ j l u. ap (λ (k : Bytes). get_or k j 0) e ∙ side y d j l u (dec_lt y x));
      }
    where
      side : (y : ℕ) → y ≢ x → (j : ℕ) → size * y ≤ j → j < size * y + size → Dec (y < x)
          → get_or (put_fields b (size * x) fs) j 0 ≡ get_or b j 0
      side y d j l u (yes h) = below-put_fields b (size * x) lo hi fs j s (omega (arith, mul-step size y x h))
      side y d j l u (no h) = above-put_fields b (size * x) lo hi fs j s (omega (arith, mul-step size x y (omega arith)))

  pub written-put : (b c : Bytes) (x extent : ℕ) (fs : List Field) (v : A) → extent ≤ size → c ≡ put_fields b (size * x) fs → Apart 0 extent fs
      → read c x ≡ v
      → Written read size extent b c x v
  written-put b c x extent fs v m e s here = record { stored = stored-put b c x 0 extent fs v m e s here; within = within-fields size b c x fs m e s }

-- what is written in the fields of a record stands there
pub holds-put : (size : ℕ) (b c : Bytes) (x lo hi : ℕ) (fs : List Field) → hi ≤ size → c ≡ put_fields b (size * x) fs → Apart lo hi fs
    → size * x + size ≤ length b
    → HoldsFields c (size * x) fs
holds-put size b c x lo hi fs m e s h = subst (λ (k : Bytes). HoldsFields k (size * x) fs) (sym e) (holds-put_fields b (size * x) lo hi fs s (omega arith))

-- ---- the elements that pass, from a place on

module _ {A B : Type 0} (pass : A → Bool) (worth : A → B) where
  chosen-past : (xs : List A) (i : ℕ) → length xs ≤ i → chosen_from pass worth xs i ≡ []
  unfolding chosen_from select
  chosen-past [] zero h = refl
  chosen-past [] (suc i) h = refl
  chosen-past (x ∷ xs) zero h = absurd (not-suc-le-zero h)
  chosen-past (x ∷ xs) (suc i) h = chosen-past xs i (le_of_suc-le-suc h)

  select-head : (x : A) (xs : List A) → pass x ≡ true → select pass (x ∷ xs) ≡ x ∷ select pass xs
  unfolding select
  select-head x xs e = rw (e, select)

  select-over : (x : A) (xs : List A) → pass x ≡ false → select pass (x ∷ xs) ≡ select pass xs
  unfolding select
  select-over x xs e = rw (e, select)

  chosen-here : (xs : List A) (d : A) (i : ℕ) → i < length xs → pass (get_or xs i d) ≡ true
      → chosen_from pass worth xs i ≡ worth (get_or xs i d) ∷ chosen_from pass worth xs (i + 1)
  unfolding chosen_from
  chosen-here xs d i h e =
      let s : i + 1 ≡ suc i = omega arith in
      rw s (ap (λ l. map worth (select pass l)) (drop-cons xs i d h) ∙ ap (map worth) (select-head (get_or xs i d) (drop (suc i) xs) e))

  chosen-over : (xs : List A) (d : A) (i : ℕ) → i < length xs → pass (get_or xs i d) ≡ false
      → chosen_from pass worth xs i ≡ chosen_from pass worth xs (suc i)
  unfolding chosen_from
  chosen-over xs d i h e = ap (λ l. map worth (select pass l)) (drop-cons xs i d h) ∙ ap (map worth) (select-over (get_or xs i d) (drop (suc i) xs) e)

  chosen-skip : (xs : List A) (d : A) (k i : ℕ) → i + k ≤ length xs → ((j : ℕ) → i ≤ j → j < i + k → pass (get_or xs j d) ≡ false)
      → chosen_from pass worth xs i ≡ chosen_from pass worth xs (i + k)
  chosen-skip xs d zero i h none_pass = ap (chosen_from pass worth xs) (omega arith)
  chosen-skip xs d (suc k) i h none_pass =
      chosen-over xs d i (omega arith) (none_pass i (omega arith) (omega arith))
      ∙ chosen-skip xs d k (suc i) (omega arith) (λ j p q. none_pass j (omega arith) (omega arith))
      ∙ ap (chosen_from pass worth xs) (omega arith)

  -- over the records of an area, where a test on record numbers says which pass
  module _ (read : Bytes → ℕ → A) (b : Bytes) (n from i : ℕ) (test : ℕ → Bool) (same : (k : ℕ) → test k ≡ pass (read b k))
      (f : FirstAt test from n i) where
    skipped : (d : A) → i ≤ n → chosen_from pass worth (records_in read b n) from ≡ chosen_from pass worth (records_in read b n) i
    skipped d h =
        let p : from + (i - from) ≡ i = omega (arith, f.start) in
        chosen-skip (records_in read b n) d (i - from) from (omega (arith, length-records read b n))
        (λ j l u. ap pass (get_or-records read b n j d (omega arith)) ∙ sym (same j) ∙ f.before j l (omega arith))
        ∙ ap (chosen_from pass worth (records_in read b n)) p

    pub chosen-found : i < n → chosen_from pass worth (records_in read b n) from ≡ worth (read b i) ∷ chosen_from pass worth (records_in read b n) (i + 1)
    chosen-found h =
        let d : A = read b i in
        let e : get_or (records_in read b n) i d ≡ read b i = get_or-records read b n i d h in
        skipped d (omega arith)
        ∙ chosen-here (records_in read b n) d i (omega (arith, length-records read b n)) (ap pass e ∙ sym (same i) ∙ f.found h)
        ∙ ap (λ x. worth x ∷ chosen_from pass worth (records_in read b n) (i + 1)) e

    pub chosen-end : n ≤ i → chosen_from pass worth (records_in read b n) from ≡ []
    chosen-end h = end (dec_lt from n)
      where
        end : Dec (from < n) → chosen_from pass worth (records_in read b n) from ≡ []
        end (no l) = chosen-past (records_in read b n) from (omega (arith, length-records read b n))
        end (yes l) =
            let d : A = read b from in
            let p : from + (n - from) ≡ n = omega arith in
            chosen-skip (records_in read b n) d (n - from) from (omega (arith, length-records read b n))
            (λ j q u. ap pass (get_or-records read b n j d (omega arith)) ∙ sym (same j) ∙ f.before j q (omega arith))
            ∙ chosen-past (records_in read b n) (from + (n - from)) (omega (arith, length-records read b n))
