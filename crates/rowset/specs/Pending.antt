-- What is left of a set while its rows are gone through, word by word and from the lowest row of a word up: nothing of the words before word j, m of
-- word j, and the words after.
--
-- A loop over the rows of n words, one of words around one of rows, keeps `left f j m n` as the set that is left: so it is a loop by `Lowest` and
-- `Rest` of one set, as over one word.
-- In order: it begins with the whole set; from one word to the next nothing changes; the lowest row; the rest; the end.
use Rattle.std.specs.Prelude.{◌≡◌, refl, Bool, ℕ, suc, ◌+◌, ◌-◌, ◌^◌, ◌≤◌, ◌<◌, eqb, ltb}
use Rattle.std.proofs.Common.{sym, ◌∙◌, arith, pow_pos, eq-eqb, ne_eqb, lt-ltb, le-ltb}
use Rattle.std.proofs.Math.Path.{ap}
use Rattle.std.proofs.Math.Bool.{cond}
use Rattle.std.proofs.Math.Decide.{ℕ_discrete}
use Rattle.concepts.specs.RowSet.{minus, single}
use Rattle.concepts.specs.Lowest.{Lowest, Rest}
use Rattle.rowset.specs.Joined.{joined, Fit, place}
use Rattle.rowset.specs.JoinedLaws.{joined_same, joined-none, joined-lowest, joined-without}

unfoldable pub pending : (ℕ → ℕ) → ℕ → ℕ → ℕ → ℕ
pending f j m i = cond (ltb i j) 0 (cond (eqb i j) m (f i))

abbrev pub left : ℕ → (ℕ → ℕ) → ℕ → ℕ → ℕ → ℕ
left p f j m n = joined p (pending f j m) n

module _ (f : ℕ → ℕ) (j m : ℕ) where
  pub before-none : (i : ℕ) → i < j → pending f j m i ≡ 0
  unfolding pending
  before-none i h = ap (λ (x : Bool). cond x 0 (cond (eqb i j) m (f i))) (lt-ltb i j h)

  pub here-left : (i : ℕ) → i ≡ j → pending f j m i ≡ m
  unfolding pending
  here-left i e =
      ap (λ (x : Bool). cond x 0 (cond (eqb i j) m (f i))) (le-ltb i j (omega arith)) ∙ ap (λ (x : Bool). cond x m (f i)) (eq-eqb i j e)

  pub after-all : (i : ℕ) → j < i → pending f j m i ≡ f i
  unfolding pending
  after-all i h =
      ap (λ (x : Bool). cond x 0 (cond (eqb i j) m (f i))) (le-ltb i j (omega arith)) ∙ ap (λ (x : Bool). cond x m (f i)) (ne_eqb i j (λ e. omega arith))

  -- by where a word stands
  pub by_word : (P : ℕ → Type 0) → ((i : ℕ) → i < j → P i) → P j → ((i : ℕ) → j < i → P i) → (i : ℕ) → P i
  by_word P lo at hi i = elim (ℕ_discrete i j) [
    | yes e ↦ rw e at
    | no d ↦ elim (ℕ_discrete (suc i - j) 0) [
      | yes e ↦ lo i (omega arith)
      | no b ↦ hi i (later i d b)
    ]
  ]
    where
      later : (i : ℕ) → (i ≡ j → ⊥) → (suc i - j ≡ 0 → ⊥) → j < i
      later i d b = elim (ℕ_discrete (j - i) 0) [
        | yes e ↦ elim (ℕ_discrete (i - j) 0) [ yes s ↦ absurd (d (omega arith)) | no n ↦ omega arith ]
        | no n ↦ absurd (b (omega arith))
      ]

module _ (p : ℕ) (f : ℕ → ℕ) (fits : Fit p f) (n : ℕ) where
  pub pending-fits : (j m : ℕ) → m < 2 ^ p → Fit p (pending f j m)
  pending-fits j m h =
      by_word f j m (λ (i : ℕ). pending f j m i < 2 ^ p)
      (λ i b. rw (before-none f j m i b) (pow_pos p)) (rw (here-left f j m j refl) h) (λ i b. rw (after-all f j m i b) (fits i))

  -- the whole set at first
  pub left-whole : left p f 0 (f 0) n ≡ joined p f n
  left-whole = joined_same p (pending f 0 (f 0)) f n (λ i _.
      by_word f 0 (f 0) (λ (i : ℕ). pending f 0 (f 0) i ≡ f i) (λ i b. absurd (omega arith)) (here-left f 0 (f 0) 0 refl) (λ i b. after-all f 0 (f 0) i b) i)

  -- a word of which nothing is left is passed
  pub left-next : (j m : ℕ) → m ≡ 0 → left p f j m n ≡ left p f (j + 1) (f (j + 1)) n
  left-next j m z = joined_same p (pending f j m) (pending f (j + 1) (f (j + 1))) n (λ i _.
      by_word f j m (λ (i : ℕ). pending f j m i ≡ pending f (j + 1) (f (j + 1)) i)
      (λ i b. before-none f j m i b ∙ sym (before-none f (j + 1) (f (j + 1)) i (omega arith)))
      (here-left f j m j refl ∙ z ∙ sym (before-none f (j + 1) (f (j + 1)) j (omega arith)))
      (λ i b. after-all f j m i b ∙ sym (elim (ℕ_discrete i (j + 1)) [
        | yes e ↦ here-left f (j + 1) (f (j + 1)) i e ∙ ap f (sym e)
        | no d ↦ after-all f (j + 1) (f (j + 1)) i (beyond i b d)
      ])) i)
    where
      beyond : (i : ℕ) → j < i → (i ≡ j + 1 → ⊥) → j + 1 < i
      beyond i b d = elim (ℕ_discrete (i - (j + 1)) 0) [ yes e ↦ absurd (d (omega arith)) | no n ↦ omega arith ]

  -- no word is left
  pub left-none : (j m : ℕ) → n ≤ j → left p f j m n ≡ 0
  left-none j m l = joined-none p (pending f j m) n (λ i b. before-none f j m i (omega arith))

  -- the lowest row of word j is the lowest row that is left
  pub left-lowest : (j m t : ℕ) → j < n → m < 2 ^ p → t < p → Lowest m t → Lowest (left p f j m n) (place p j t)
  left-lowest j m t l h b low =
      joined-lowest p (pending f j m) (pending-fits j m h) n j t l b (λ i c. before-none f j m i c) (rw (here-left f j m j refl) low)

  -- the rest of word j leaves the rest of what is left
  pub left-rest : (j m r t : ℕ) → j < n → m < 2 ^ p → r < 2 ^ p → t < p → Lowest m t → Rest m r → left p f j r n ≡ minus (left p f j m n) (single (place p j t))
  left-rest j m r t l hm hr b low rest =
      joined-without p (pending f j m) (pending f j r) (pending-fits j m hm) (pending-fits j r hr) n j t l b
      (here-left f j r j refl ∙ rest t low ∙ ap (λ (x : ℕ). minus x (single t)) (sym (here-left f j m j refl)))
      (by_word f j m (λ (i : ℕ). (i ≡ j → ⊥) → pending f j r i ≡ pending f j m i)
      (λ i c _. before-none f j r i c ∙ sym (before-none f j m i c)) (λ d. absurd (d refl)) (λ i c _. after-all f j r i c ∙ sym (after-all f j m i c)))
