-- Laws of Joined, for any number of words of any width.
use Rattle.std.specs.Prelude.{◌≡◌, refl, Bool, true, false, not, ◌&&◌, ◌||◌, ℕ, zero, suc, ◌+◌, ◌-◌, ◌*◌, ◌/◌, ◌^◌, ◌≤◌, ◌<◌, eqb, length, MatchBool, HoldsAt}
use Rattle.std.specs.List.{AllWithin, range_with_len}
use Rattle.std.proofs.lemmas.List.FromFn.{length-range_with_len, get_or-range_with_len}
use Rattle.std.proofs.Common.{zero-add, subst, sym, ap, ap₂, ◌∙◌, pow-suc, arith, pow_pos, eq-eqb, ne_eqb}
use Rattle.std.proofs.Math.Decide.{ℕ_discrete}
use Rattle.std.proofs.Math.Dec.{not_T}
use Rattle.std.specs.Int.Bits.{block_half, block_odd}
use Rattle.concepts.specs.RowSet.{mem, union, common, minus, insert, single}
use Rattle.concepts.specs.RowSetLaws.{mem-empty, mem-suc, mem-zero, mem-union, mem-common, mem-minus, mem-insert, mem-single, mem-lt, insert-lt, set-ext}
use Rattle.concepts.specs.Tests.{as-false}
use Rattle.concepts.specs.Lists.{NoneBelow}
use Rattle.concepts.specs.Lowest.{Lowest}
use Rattle.rowset.specs.Joined.{joined, Fit, place}

-- ---- a low and a high part

-- a row below p is one of the low part
pub mem-low : (p k hi lo : ℕ) → k < p → mem k (hi * 2 ^ p + lo) ≡ mem k lo
mem-low zero k hi lo h = absurd (omega arith)
mem-low (suc p) zero hi lo h = mem-zero (hi * 2 ^ suc p + lo) ∙ ap (λ (x : ℕ). eqb x 1) (block_odd hi p lo) ∙ sym (mem-zero lo)
mem-low (suc p) (suc k) hi lo h =
    mem-suc k (hi * 2 ^ suc p + lo) ∙ ap (mem k) (block_half hi p lo) ∙ mem-low p k hi (lo / 2) (omega arith) ∙ sym (mem-suc k lo)

-- any other is one of the high part
pub mem-high : (p k hi lo : ℕ) → lo < 2 ^ p → mem (p + k) (hi * 2 ^ p + lo) ≡ mem k hi
mem-high zero k hi lo h =
    let e : 0 + k ≡ k = omega arith in
    let d : hi * 2 ^ 0 + lo ≡ hi = omega arith in
    ap₂ mem e d
mem-high (suc p) k hi lo h =
    let e : suc p + k ≡ suc (p + k) = omega arith in
    ap (λ (x : ℕ). mem x (hi * 2 ^ suc p + lo)) e ∙ mem-suc (p + k) (hi * 2 ^ suc p + lo) ∙ ap (mem (p + k)) (block_half hi p lo)
    ∙ mem-high p k hi (lo / 2) (omega (arith, pow-suc 2 p))

-- what holds of a row, by the part that has it
pub by_part : (P : ℕ → Type 0) (p : ℕ) → ((k : ℕ) → k < p → P k) → ((k : ℕ) → P (p + k)) → (k : ℕ) → P k
by_part P p lo hi k = elim (ℕ_discrete (suc k - p) 0) [
  | yes e ↦ lo k (omega arith)
  | no d ↦ let e : p + (k - p) ≡ k = omega arith in rw e at (hi (k - p))
]

-- ---- the rows of the words

next : (p : ℕ) (f : ℕ → ℕ) → Fit p f → Fit p (λ (j : ℕ). f (suc j))
next p f h j = h (suc j)

pub place-row : (p j i : ℕ) → place p j i ≡ p * j + i
unfolding place
place-row p zero i = omega arith
place-row p (suc j) i = ap (λ (x : ℕ). p + x) (place-row p j i) ∙ omega arith

-- row i of word j is the row at that place
pub mem-joined : (p : ℕ) (f : ℕ → ℕ) → Fit p f → (n j i : ℕ) → j < n → i < p → mem (place p j i) (joined p f n) ≡ mem i (f j)
unfolding joined place
mem-joined p f h zero j i l b = absurd (omega arith)
mem-joined p f h (suc n) zero i l b = mem-low p i (joined p (λ (j : ℕ). f (suc j)) n) (f 0) b
mem-joined p f h (suc n) (suc j) i l b =
    mem-high p (place p j i) (joined p (λ (j : ℕ). f (suc j)) n) (f 0) (h 0)
    ∙ mem-joined p (λ (j : ℕ). f (suc j)) (next p f h) n j i (omega arith) b

-- a test of rows that is false where both are: word by word it is that of the whole
pub joined_by : (op : Bool → Bool → Bool) → op false false ≡ false → (p : ℕ) (f g h : ℕ → ℕ) → Fit p f → Fit p g → Fit p h
    → ((j i : ℕ) → mem i (h j) ≡ op (mem i (f j)) (mem i (g j))) → (n k : ℕ)
    → mem k (joined p h n) ≡ op (mem k (joined p f n)) (mem k (joined p g n))
unfolding joined
joined_by op e p f g h ff gf hf same zero k = mem-empty k ∙ sym (ap₂ op (mem-empty k) (mem-empty k) ∙ e)
joined_by op e p f g h ff gf hf same (suc n) k =
    let fs : ℕ = joined p (λ (j : ℕ). f (suc j)) n in
    let gs : ℕ = joined p (λ (j : ℕ). g (suc j)) n in
    let hs : ℕ = joined p (λ (j : ℕ). h (suc j)) n in
    by_part (λ (k : ℕ). mem k (hs * 2 ^ p + h 0) ≡ op (mem k (fs * 2 ^ p + f 0)) (mem k (gs * 2 ^ p + g 0))) p
    (λ k l. mem-low p k hs (h 0) l ∙ same 0 k ∙ sym (ap₂ op (mem-low p k fs (f 0) l) (mem-low p k gs (g 0) l)))
    (λ k.
    mem-high p k hs (h 0) (hf 0)
    ∙ joined_by op e p (λ (j : ℕ). f (suc j)) (λ (j : ℕ). g (suc j)) (λ (j : ℕ). h (suc j))
    (next p f ff) (next p g gf) (next p h hf) (λ j i. same (suc j) i) n k
    ∙ sym (ap₂ op (mem-high p k fs (f 0) (ff 0)) (mem-high p k gs (g 0) (gf 0))))
    k

pub joined-union : (p : ℕ) (f g h : ℕ → ℕ) → Fit p f → Fit p g → Fit p h → ((j : ℕ) → h j ≡ union (f j) (g j)) → (n : ℕ)
    → joined p h n ≡ union (joined p f n) (joined p g n)
joined-union p f g h ff gf hf e n =
    set-ext (joined p h n) (union (joined p f n) (joined p g n)) (λ k.
    joined_by (λ x y. x || y) refl p f g h ff gf hf (λ j i. ap (mem i) (e j) ∙ mem-union i (f j) (g j)) n k
    ∙ sym (mem-union k (joined p f n) (joined p g n)))

pub joined-common : (p : ℕ) (f g h : ℕ → ℕ) → Fit p f → Fit p g → Fit p h → ((j : ℕ) → h j ≡ common (f j) (g j)) → (n : ℕ)
    → joined p h n ≡ common (joined p f n) (joined p g n)
joined-common p f g h ff gf hf e n =
    set-ext (joined p h n) (common (joined p f n) (joined p g n)) (λ k.
    joined_by (λ x y. x && y) refl p f g h ff gf hf (λ j i. ap (mem i) (e j) ∙ mem-common i (f j) (g j)) n k
    ∙ sym (mem-common k (joined p f n) (joined p g n)))

pub joined-minus : (p : ℕ) (f g h : ℕ → ℕ) → Fit p f → Fit p g → Fit p h → ((j : ℕ) → h j ≡ minus (f j) (g j)) → (n : ℕ)
    → joined p h n ≡ minus (joined p f n) (joined p g n)
joined-minus p f g h ff gf hf e n =
    set-ext (joined p h n) (minus (joined p f n) (joined p g n)) (λ k.
    joined_by (λ x y. x && not y) refl p f g h ff gf hf (λ j i. ap (mem i) (e j) ∙ mem-minus i (f j) (g j)) n k
    ∙ sym (mem-minus k (joined p f n) (joined p g n)))

-- ---- words are the same where the numbers are

pub joined_same : (p : ℕ) (f g : ℕ → ℕ) (n : ℕ) → ((j : ℕ) → j < n → f j ≡ g j) → joined p f n ≡ joined p g n
unfolding joined
joined_same p f g zero e = refl
joined_same p f g (suc n) e =
    ap₂ (λ (x y : ℕ). x * 2 ^ p + y) (joined_same p (λ (j : ℕ). f (suc j)) (λ (j : ℕ). g (suc j)) n (λ j l. e (suc j) (omega arith))) (e 0 (omega arith))

pub joined-apart : (p : ℕ) (f g : ℕ → ℕ) → Fit p f → Fit p g → (n : ℕ) → joined p f n ≡ joined p g n → (j : ℕ) → j < n → f j ≡ g j
joined-apart p f g ff gf n e j l =
    set-ext (f j) (g j) (λ i. elim (ℕ_discrete (suc i - p) 0) [
      | yes b ↦
          sym (mem-joined p f ff n j i l (omega arith)) ∙ ap (mem (place p j i)) e ∙ mem-joined p g gf n j i l (omega arith)
      | no b ↦ high p (f j) i (ff j) (omega arith) ∙ sym (high p (g j) i (gf j) (omega arith))
    ])
  where
    high : (p x i : ℕ) → x < 2 ^ p → p ≤ i → mem i x ≡ false
    high p x i h b = as-false (mem i x) (not_T (mem i x) (λ t. absurd (omega (arith, mem-lt p i x h t))))

-- ---- a row more

same-shift : (p k q : ℕ) → eqb (p + k) (p + q) ≡ eqb k q
same-shift p k q = elim (ℕ_discrete k q) [
  | yes e ↦ eq-eqb (p + k) (p + q) (omega arith) ∙ sym (eq-eqb k q e)
  | no d ↦ ne_eqb (p + k) (p + q) (λ e. d (omega arith)) ∙ sym (ne_eqb k q d)
]

pub insert-low : (p i hi lo : ℕ) → i < p → lo < 2 ^ p → hi * 2 ^ p + insert i lo ≡ insert i (hi * 2 ^ p + lo)
insert-low p i hi lo h l =
    set-ext (hi * 2 ^ p + insert i lo) (insert i (hi * 2 ^ p + lo)) (by_part
    (λ (k : ℕ). mem k (hi * 2 ^ p + insert i lo) ≡ mem k (insert i (hi * 2 ^ p + lo))) p
    (λ k b.
    mem-low p k hi (insert i lo) b ∙ mem-insert k i lo ∙ ap (λ x. eqb k i || x) (sym (mem-low p k hi lo b))
    ∙ sym (mem-insert k i (hi * 2 ^ p + lo)))
    (λ k.
    mem-high p k hi (insert i lo) (insert-lt p i lo h l) ∙ sym (mem-high p k hi lo l)
    ∙ ap (λ x. x || mem (p + k) (hi * 2 ^ p + lo)) (sym (ne_eqb (p + k) i (λ e. omega arith)))
    ∙ sym (mem-insert (p + k) i (hi * 2 ^ p + lo))))

pub insert-high : (p q hi lo : ℕ) → lo < 2 ^ p → insert q hi * 2 ^ p + lo ≡ insert (p + q) (hi * 2 ^ p + lo)
insert-high p q hi lo l =
    set-ext (insert q hi * 2 ^ p + lo) (insert (p + q) (hi * 2 ^ p + lo)) (by_part
    (λ (k : ℕ). mem k (insert q hi * 2 ^ p + lo) ≡ mem k (insert (p + q) (hi * 2 ^ p + lo))) p
    (λ k b.
    mem-low p k (insert q hi) lo b ∙ sym (mem-low p k hi lo b)
    ∙ ap (λ x. x || mem k (hi * 2 ^ p + lo)) (sym (ne_eqb k (p + q) (λ e. omega arith)))
    ∙ sym (mem-insert k (p + q) (hi * 2 ^ p + lo)))
    (λ k.
    mem-high p k (insert q hi) lo l ∙ mem-insert k q hi
    ∙ ap₂ (λ x y. x || y) (sym (same-shift p k q)) (sym (mem-high p k hi lo l))
    ∙ sym (mem-insert (p + k) (p + q) (hi * 2 ^ p + lo))))

-- a row joins word j
pub joined-insert : (p : ℕ) (f g : ℕ → ℕ) → Fit p f → (n j i : ℕ) → j < n → i < p → g j ≡ insert i (f j) → ((m : ℕ) → (m ≡ j → ⊥) → g m ≡ f m)
    → joined p g n ≡ insert (place p j i) (joined p f n)
unfolding joined place
joined-insert p f g ff zero j i l b e o = absurd (omega arith)
joined-insert p f g ff (suc n) zero i l b e o =
    ap₂ (λ (x y : ℕ). x * 2 ^ p + y)
    (joined_same p (λ (j : ℕ). g (suc j)) (λ (j : ℕ). f (suc j)) n (λ j _. o (suc j) (λ z. omega arith))) e
    ∙ insert-low p i (joined p (λ (j : ℕ). f (suc j)) n) (f 0) b (ff 0)
joined-insert p f g ff (suc n) (suc j) i l b e o =
    ap₂ (λ (x y : ℕ). x * 2 ^ p + y)
    (joined-insert p (λ (j : ℕ). f (suc j)) (λ (j : ℕ). g (suc j)) (next p f ff) n j i (omega arith) b e (λ m d. o (suc m) (λ z. d (omega arith))))
    (o 0 (λ z. omega arith))
    ∙ insert-high p (place p j i) (joined p (λ (j : ℕ). f (suc j)) n) (f 0) (ff 0)

-- ---- no rows

pub joined-zero : (p n : ℕ) → joined p (λ (j : ℕ). 0) n ≡ 0
unfolding joined
joined-zero p zero = refl
joined-zero p (suc n) = ap (λ (x : ℕ). x * 2 ^ p + 0) (joined-zero p n) ∙ omega arith

pub joined-none : (p : ℕ) (f : ℕ → ℕ) (n : ℕ) → ((j : ℕ) → j < n → f j ≡ 0) → joined p f n ≡ 0
joined-none p f n e = joined_same p f (λ (j : ℕ). 0) n e ∙ joined-zero p n

-- the words from m on are zero, so that m words are all
pub joined-in-use : (p : ℕ) (f : ℕ → ℕ) (m n : ℕ) → m ≤ n → ((j : ℕ) → m ≤ j → j < n → f j ≡ 0) → joined p f n ≡ joined p f m
unfolding joined
joined-in-use p f zero n l z = joined-none p f n (λ j h. z j (omega arith) h)
joined-in-use p f (suc m) zero l z = absurd (omega arith)
joined-in-use p f (suc m) (suc n) l z =
    ap (λ (x : ℕ). x * 2 ^ p + f 0) (joined-in-use p (λ (j : ℕ). f (suc j)) m n (omega arith) (λ j h b. z (suc j) (omega arith) (omega arith)))

-- ---- the lowest row

-- the lowest row of the first word that has one
pub joined-lowest : (p : ℕ) (f : ℕ → ℕ) → Fit p f → (n j i : ℕ) → j < n → i < p → ((m : ℕ) → m < j → f m ≡ 0) → Lowest (f j) i
    → Lowest (joined p f n) (place p j i)
unfolding joined place
joined-lowest p f ff n j i l b z low = record { member = mem-joined p f ff n j i l b ∙ low.member; least = below f ff n j l z low.least }
  where
    below : (f : ℕ → ℕ) → Fit p f → (n j : ℕ) → j < n → ((m : ℕ) → m < j → f m ≡ 0) → NoneBelow (λ k. mem k (f j)) i → (k : ℕ) → k < place p j i
        → mem k (joined p f n) ≡ false
    below f ff zero j l z low k h = absurd (omega arith)
    below f ff (suc n) zero l z low k h = mem-low p k (joined p (λ (j : ℕ). f (suc j)) n) (f 0) (omega arith) ∙ low k h
    below f ff (suc n) (suc j) l z low k h =
        by_part (λ (k : ℕ). k < p + place p j i → mem k (joined p (λ (j : ℕ). f (suc j)) n * 2 ^ p + f 0) ≡ false) p
        (λ k c h. mem-low p k (joined p (λ (j : ℕ). f (suc j)) n) (f 0) c ∙ ap (mem k) (z 0 (omega arith)) ∙ mem-empty k)
        (λ k h.
        mem-high p k (joined p (λ (j : ℕ). f (suc j)) n) (f 0) (ff 0)
        ∙ below (λ (j : ℕ). f (suc j)) (next p f ff) n j (omega arith) (λ m c. z (suc m) (omega arith)) low k (omega arith)) k h

-- ---- tests that go from word to word

pub joined-true : (p : ℕ) (f : ℕ → ℕ) (n : ℕ) → ((j : ℕ) → j < n → f j ≡ 0) → eqb (joined p f n) 0 ≡ true
joined-true p f n e = eq-eqb (joined p f n) 0 (joined-none p f n e)

pub joined-false : (p : ℕ) (f : ℕ → ℕ) → Fit p f → (n j : ℕ) → j < n → (f j ≡ 0 → ⊥) → eqb (joined p f n) 0 ≡ false
joined-false p f ff n j l d = ne_eqb (joined p f n) 0 (λ e. d (joined-apart p f (λ (j : ℕ). 0) ff (λ j. pow_pos p) n (e ∙ sym (joined-zero p n)) j l))

-- ---- the set without a row

-- word j without a row
pub joined-without : (p : ℕ) (f g : ℕ → ℕ) → Fit p f → Fit p g → (n j i : ℕ) → j < n → i < p → g j ≡ minus (f j) (single i)
    → ((m : ℕ) → (m ≡ j → ⊥) → g m ≡ f m)
    → joined p g n ≡ minus (joined p f n) (single (place p j i))
unfolding joined place
joined-without p f g ff gf n j i l b e o =
    set-ext (joined p g n) (minus (joined p f n) (single (place p j i))) (λ k. rows f g ff gf n j l e o k
    ∙ sym (mem-minus k (joined p f n) (single (place p j i)) ∙ ap (λ x. mem k (joined p f n) && not x) (mem-single k (place p j i))))
  where
    keep : (x : Bool) → x ≡ (x && not false)
    keep true = refl
    keep false = refl

    rows : (f g : ℕ → ℕ) → Fit p f → Fit p g → (n j : ℕ) → j < n → g j ≡ minus (f j) (single i) → ((m : ℕ) → (m ≡ j → ⊥) → g m ≡ f m) → (k : ℕ)
        → mem k (joined p g n) ≡ (mem k (joined p f n) && not (eqb k (place p j i)))
    rows f g ff gf zero j l e o k = absurd (omega arith)
    rows f g ff gf (suc n) zero l e o k =
        let fs : ℕ = joined p (λ (j : ℕ). f (suc j)) n in
        let gs : ℕ = joined p (λ (j : ℕ). g (suc j)) n in
        let s : gs ≡ fs = joined_same p (λ (j : ℕ). g (suc j)) (λ (j : ℕ). f (suc j)) n (λ j _. o (suc j) (λ z. omega arith)) in
        by_part (λ (k : ℕ). mem k (gs * 2 ^ p + g 0) ≡ (mem k (fs * 2 ^ p + f 0) && not (eqb k i))) p
        (λ k c.
        mem-low p k gs (g 0) c ∙ ap (mem k) e ∙ mem-minus k (f 0) (single i) ∙ ap (λ x. mem k (f 0) && not x) (mem-single k i)
        ∙ ap (λ x. x && not (eqb k i)) (sym (mem-low p k fs (f 0) c)))
        (λ k.
        mem-high p k gs (g 0) (gf 0) ∙ ap (mem k) s ∙ sym (mem-high p k fs (f 0) (ff 0)) ∙ keep (mem (p + k) (fs * 2 ^ p + f 0))
        ∙ ap (λ x. mem (p + k) (fs * 2 ^ p + f 0) && not x) (sym (ne_eqb (p + k) i (λ z. omega arith))))
        k
    rows f g ff gf (suc n) (suc j) l e o k =
        let fs : ℕ = joined p (λ (j : ℕ). f (suc j)) n in
        let gs : ℕ = joined p (λ (j : ℕ). g (suc j)) n in
        let q : ℕ = place p j i in
        by_part (λ (k : ℕ). mem k (gs * 2 ^ p + g 0) ≡ (mem k (fs * 2 ^ p + f 0) && not (eqb k (p + q)))) p
        (λ k c.
        mem-low p k gs (g 0) c ∙ ap (mem k) (o 0 (λ z. omega arith)) ∙ sym (mem-low p k fs (f 0) c) ∙ keep (mem k (fs * 2 ^ p + f 0))
        ∙ ap (λ x. mem k (fs * 2 ^ p + f 0) && not x) (sym (ne_eqb k (p + q) (λ z. omega arith))))
        (λ k.
        mem-high p k gs (g 0) (gf 0)
        ∙ rows (λ (j : ℕ). f (suc j)) (λ (j : ℕ). g (suc j)) (next p f ff) (next p g gf) n j (omega arith) e (λ m d. o (suc m) (λ z. d (omega arith))) k
        ∙ ap₂ (λ x y. x && not y) (sym (mem-high p k fs (f 0) (ff 0))) (sym (same-shift p k q)))
        k

-- what holds of each word passed, with one word more
pub one_more : (P : ℕ → Type 0) (j : ℕ) → ((m : ℕ) → m < j → P m) → P j → (m : ℕ) → m < j + 1 → P m
one_more P j h e m l = elim (ℕ_discrete m j) [
  | yes s ↦ rw s e
  | no d ↦ h m (omega arith)
]

-- ---- a test of each word, as the chain `(0..n).all(..)` goes through them

pub all_words : {n : ℕ} {Yes No : ℕ → Type 0} (r x : Bool)
    → MatchBool r (AllWithin Yes (range_with_len 0 n) 0 (length (range_with_len 0 n))) ((k : ℕ) × (k < length (range_with_len 0 n)) × HoldsAt No (range_with_len 0 n) k)
    → (((j : ℕ) → j < n → Yes j) → x ≡ true) → ((j : ℕ) → j < n → No j → x ≡ false) → r ≡ x
all_words {n} {Yes} {No} true x h all one =
    sym (all (λ j l. subst Yes (get_or-range_with_len 0 n j 0 l ∙ zero-add j) (h j 0 (omega arith) (omega (arith, length-range_with_len 0 n)))))
all_words {n} {Yes} {No} false x h all one =
    let k = h.0 in
    let l : k < n = omega (arith, length-range_with_len 0 n, h.1) in
    sym (one k l (subst No (get_or-range_with_len 0 n k 0 l ∙ zero-add k) (h.2 0)))
