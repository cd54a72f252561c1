-- Laws of n words written one after the other: they are one number written.
use Rattle.std.specs.Prelude.{◌≡◌, Bool, cond, eqb, List, ℕ, zero, suc, ◌+◌, ◌*◌, ◌/◌, ◌%◌, ◌^◌, ◌≤◌, ◌<◌, length, set}
use Rattle.std.proofs.Math.Path.{refl, ap, ap₂}
use Rattle.std.proofs.Common.{sym, ◌∙◌, pow-add, pow-suc, mul_comm, mul_assoc, arith, eq-eqb, ne_eqb}
use Rattle.std.proofs.Math.Decide.{ℕ_discrete}
use Rattle.std.proofs.Math.Nat.{div-div-eq-div-mul}
use Rattle.std.proofs.Math.Arith.{digits_div}
use Rattle.std.proofs.Math.ListN.{get_or}
use Rattle.concepts.specs.RowSet.{union, minus}
use Rattle.concepts.specs.RowSetLaws.{union-lt}
use Rattle.words.specs.Words.{put_le}
use Rattle.words.specs.WordLaws.{length-put_le, le_at-put_le}
use Rattle.rowset.specs.Joined.{joined, Fit, low_word, word_at, set_at, put_words, WordsPut, WordsMade, WordsMaking, mask_at}
use Rattle.rowset.specs.JoinedLaws.{joined-union, joined-minus, joined-none}
use Rattle.rowset.specs.ByteLaws.{AreBytes, le_at-lt, set_words_lem, word_fits, word_kept}

-- the low m bytes and the n above them
pub put_le-add : (b : List ℕ) (at m n v : ℕ) → put_le b at (m + n) v ≡ put_le (put_le b at m v) (at + m) n (v / 256 ^ m)
unfolding put_le
put_le-add b at zero n v =
    let d : 0 + n ≡ n = omega arith in
    let e : at + 0 ≡ at = omega arith in
    let f : v / 256 ^ 0 ≡ v = omega arith in
    rw (d, e, f)
put_le-add b at (suc m) n v =
    let d : suc m + n ≡ suc (m + n) = omega arith in
    let e : at + suc m ≡ suc at + m = omega arith in
    let f : v / 256 ^ suc m ≡ v / 256 / 256 ^ m = ap (λ p. v / p) (pow-suc 256 m ∙ mul_comm (256 ^ m) 256) ∙ sym (div-div-eq-div-mul v 256 (256 ^ m)) in
    rw (d, e, f) (put_le-add (set b at (v % 256)) (suc at) m n (v / 256))

-- only the low bytes of a number are written
pub put_le-part : (b : List ℕ) (at m x y : ℕ) → put_le b at m (x * 256 ^ m + y) ≡ put_le b at m y
unfolding put_le
put_le-part b at zero x y = refl
put_le-part b at (suc m) x y =
    let z : ℕ = x * 256 ^ m in
    let e : x * 256 ^ suc m ≡ z * 256 = ap (λ (q : ℕ). x * q) (pow-suc 256 m) ∙ sym (mul_assoc x (256 ^ m) 256) in
    let low : (x * 256 ^ suc m + y) % 256 ≡ y % 256 = omega (arith, e) in
    let high : (x * 256 ^ suc m + y) / 256 ≡ z + y / 256 = omega (arith, e) in
    ap₂ (λ (u v : ℕ). put_le (set b at u) (suc at) m v) low high ∙ put_le-part (set b at (y % 256)) (suc at) m x (y / 256)

-- n words are one number
pub put-words : (n : ℕ) (b : List ℕ) (at : ℕ) (f : ℕ → ℕ) → Fit 64 f → put_words b at f n ≡ put_le b at (8 * n) (joined 64 f n)
unfolding put_words joined put_le
put-words zero b at f h = refl
put-words (suc n) b at f h =
    let hi : ℕ = joined 64 (λ (j : ℕ). f (suc j)) n in
    let e : 8 * suc n ≡ 8 + 8 * n = omega arith in
    let d : (hi * 2 ^ 64 + f 0) / 256 ^ 8 ≡ hi = digits_div hi (h 0) in
    put-words n (put_le b at 8 (f 0)) (at + 8) (λ (j : ℕ). f (suc j)) (λ j. h (suc j))
    ∙ ap₂ (λ (c : List ℕ) (v : ℕ). put_le c (at + 8) (8 * n) v) (sym (put_le-part b at 8 hi (f 0))) (sym d)
    ∙ sym (ap (λ (m : ℕ). put_le b at m (hi * 2 ^ 64 + f 0)) e ∙ put_le-add b at 8 (8 * n) (hi * 2 ^ 64 + f 0))

-- one word more
pub put-words-more : (n : ℕ) (b : List ℕ) (at : ℕ) (f : ℕ → ℕ) → put_words b at f (n + 1) ≡ put_le (put_words b at f n) (at + 8 * n) 8 (f n)
unfolding put_words
put-words-more zero b at f = let e : at + 8 * 0 ≡ at = omega arith in rw e
put-words-more (suc n) b at f =
    let e : at + 8 * suc n ≡ at + 8 + 8 * n = omega arith in
    let d : suc n + 1 ≡ suc (n + 1) = omega arith in
    rw (e, d) (put-words-more n (put_le b at 8 (f 0)) (at + 8) (λ (j : ℕ). f (suc j)))

pub words-length : (n : ℕ) (b : List ℕ) (at : ℕ) (f : ℕ → ℕ) → length (put_words b at f n) ≡ length b
unfolding put_words
words-length zero b at f = refl
words-length (suc n) b at f = words-length n (put_le b at 8 (f 0)) (at + 8) (λ (j : ℕ). f (suc j)) ∙ length-put_le b at 8 (f 0)

-- words that are not written yet
pub words-kept : (n : ℕ) (b : List ℕ) (at : ℕ) (f : ℕ → ℕ) (j : ℕ) → n ≤ j → at + 8 * n ≤ length b
    → word_at (put_words b at f n) at j ≡ word_at b at j
unfolding put_words
words-kept zero b at f j l room = refl
words-kept (suc n) b at f j l room =
    let e : suc n ≡ n + 1 = omega arith in
    ap (λ (m : ℕ). word_at (put_words b at f m) at j) e
    ∙ ap (λ (c : List ℕ). word_at c at j) (put-words-more n b at f)
    ∙ word_kept (put_words b at f n) at n (f n) (omega (arith, words-length n b at f)) j (λ q. omega arith)
    ∙ words-kept n b at f j (omega arith) (omega arith)

-- ---- a loop that writes n words

module _ {f : ℕ → ℕ} {b : List ℕ} {at n : ℕ} where
  pub put-begins : WordsPut f b at n b 0
  unfolding put_words
  put-begins = record { few = omega arith; size = refl; is = refl }

  -- the next word is still what it was
  pub put-unread : {c : List ℕ} {j : ℕ} → WordsPut f b at n c j → at + 8 * n ≤ length b → word_at c at j ≡ word_at b at j
  put-unread {c} {j} W room = ap (λ (x : List ℕ). word_at x at j) W.is ∙ words-kept j b at f j (omega arith) (omega (arith, W.few))

  pub put-again : {c d : List ℕ} {j v : ℕ} → WordsPut f b at n c j → j < n → d ≡ put_le c (at + 8 * j) 8 v → v ≡ f j
      → WordsPut f b at n d (j + 1)
  put-again {c} {d} {j} {v} W l e q = record {
    few = omega arith;
    size = ap length e ∙ length-put_le c (at + 8 * j) 8 v ∙ W.size;
    is = e ∙ ap₂ (λ (x : List ℕ) (u : ℕ). put_le x (at + 8 * j) 8 u) W.is q ∙ sym (put-words-more j b at f);
  }

  pub put-ends : {c : List ℕ} {j : ℕ} → WordsPut f b at n c j → n ≤ j → c ≡ put_words b at f n
  put-ends {c} {j} W l = W.is ∙ ap (put_words b at f) (omega (arith, W.few))

-- ---- a loop that makes n words

-- what is written is made of the words alone
pub words_same : (n : ℕ) (b : List ℕ) (at : ℕ) (f g : ℕ → ℕ) → ((j : ℕ) → j < n → f j ≡ g j) → put_words b at f n ≡ put_words b at g n
unfolding put_words
words_same zero b at f g h = refl
words_same (suc n) b at f g h =
    ap (λ (v : ℕ). put_words (put_le b at 8 v) (at + 8) (λ (j : ℕ). f (suc j)) n) (h 0 (omega arith))
    ∙ words_same n (put_le b at 8 (g 0)) (at + 8) (λ (j : ℕ). f (suc j)) (λ (j : ℕ). g (suc j)) (λ j l. h (suc j) (omega arith))

module _ {R : ℕ → ℕ → ℕ → Type 0} {b : List ℕ} {at n : ℕ} where
  pub making-begins : WordsMaking R b at n b 0
  making-begins = record { made = λ j. 0; each = λ i l. absurd (omega arith); put = put-begins }

  pub making-again : {c d : List ℕ} {j w v : ℕ} → WordsMaking R b at n c j → j < n → at + 8 * n ≤ length b → w ≡ word_at c at j → R j w v
      → d ≡ put_le c (at + 8 * j) 8 v → WordsMaking R b at n d (j + 1)
  making-again {c} {d} {j} {w} {v} M l room e r written =
      let made : ℕ → ℕ = λ i. cond (eqb i j) v (M.made i) in
      let here : (i : ℕ) → i ≡ j → made i ≡ v = λ i q. ap (λ (x : Bool). cond x v (M.made i)) (eq-eqb i j q) in
      let before : (i : ℕ) → i < j → made i ≡ M.made i = λ i h. ap (λ (x : Bool). cond x v (M.made i)) (ne_eqb i j (λ q. omega arith)) in
      let old : w ≡ word_at b at j = e ∙ put-unread M.put room in
      let put : WordsPut made b at n c j = record {
        few = M.put.few;
        size = M.put.size;
        is = M.put.is ∙ words_same j b at M.made made (λ i h. sym (before i h));
      } in
      record {
        made = made;
        each = λ i h. elim (ℕ_discrete i j) [
          | yes q ↦ rw (q, here j refl, ← old) r
          | no q ↦ rw (before i (omega arith)) (M.each i (omega arith))
        ];
        put = put-again put l written (sym (here j refl));
      }

  pub making-ends : {c : List ℕ} {j : ℕ} → WordsMaking R b at n c j → n ≤ j → WordsMade R b at n c
  making-ends {c} {j} M l = record { made = M.made; each = λ i h. M.each i (omega arith); is = put-ends M.put l }

  -- where R leaves one word at each place, those are written
  pub made-words : {c : List ℕ} {f : ℕ → ℕ} → WordsMade R b at n c → ((j v : ℕ) → j < n → R j (word_at b at j) v → v ≡ f j) → c ≡ put_words b at f n
  made-words {c} {f} M h = M.is ∙ words_same n b at M.made f (λ j l. h j (M.made j) l (M.each j l))

pub joined-lt : (n : ℕ) (f : ℕ → ℕ) → Fit 64 f → joined 64 f n < 256 ^ (8 * n)
unfolding joined
joined-lt zero f h = omega arith
joined-lt (suc n) f h =
    let e : 8 * suc n ≡ 8 * n + 8 = omega arith in
    rw (e, pow-add 256 (8 * n) 8) (omega (arith, h 0, joined-lt n (λ (j : ℕ). f (suc j)) (λ j. h (suc j))))

-- a set that was written is there
pub set-put : (b : List ℕ) (at n v : ℕ) → at + 8 * n ≤ length b → v < 256 ^ (8 * n) → set_at (put_le b at (8 * n) v) at n ≡ v
set-put b at n v room fits = le_at-put_le b at (8 * n) v room fits

-- and a set fits
pub set-fits : (b : List ℕ) → AreBytes b → (at n : ℕ) → set_at b at n < 256 ^ (8 * n)
set-fits b h at n = le_at-lt b h at (8 * n)

-- ---- two sets, word by word

module _ (b c : List ℕ) (hb : AreBytes b) (hc : AreBytes c) (at there n : ℕ) where
  both : ℕ → ℕ
  both m = union (word_at b at m) (word_at c there m)

  both-fits : Fit 64 both
  unfolding both
  both-fits m = union-lt 64 (word_at b at m) (word_at c there m) (word_fits b hb at m) (word_fits c hc there m)

  both-all : joined 64 both n ≡ union (set_at b at n) (set_at c there n)
  unfolding both
  both-all =
      joined-union 64 (word_at b at) (word_at c there) both (word_fits b hb at) (word_fits c hc there) both-fits (λ j. refl) n
      ∙ ap₂ union (sym (set_words_lem b n at)) (sym (set_words_lem c n there))

  pub put-union : put_words b at (λ (m : ℕ). union (word_at b at m) (word_at c there m)) n ≡ put_le b at (8 * n) (union (set_at b at n) (set_at c there n))
  unfolding both
  put-union = put-words n b at both both-fits ∙ ap (put_le b at (8 * n)) both-all

  pub set-union : at + 8 * n ≤ length b
      → set_at (put_le b at (8 * n) (union (set_at b at n) (set_at c there n))) at n ≡ union (set_at b at n) (set_at c there n)
  set-union room = set-put b at n (union (set_at b at n) (set_at c there n)) room (rw (← both-all) (joined-lt n both both-fits))

  pub put_copy : put_words b at (word_at c there) n ≡ put_le b at (8 * n) (set_at c there n)
  put_copy = put-words n b at (word_at c there) (word_fits c hc there) ∙ ap (put_le b at (8 * n)) (sym (set_words_lem c n there))

  lacked : ℕ → ℕ
  unfolding minus
  lacked m = minus (word_at b at m) (word_at c there m)

  lacked-fits : Fit 64 lacked
  unfolding lacked minus
  lacked-fits m = omega (arith, word_fits b hb at m)

  lacked-all : joined 64 lacked n ≡ minus (set_at b at n) (set_at c there n)
  unfolding lacked minus
  lacked-all =
      joined-minus 64 (word_at b at) (word_at c there) lacked (word_fits b hb at) (word_fits c hc there) lacked-fits (λ j. refl) n
      ∙ ap₂ minus (sym (set_words_lem b n at)) (sym (set_words_lem c n there))

  pub put-minus : put_words b at (λ (m : ℕ). minus (word_at b at m) (word_at c there m)) n ≡ put_le b at (8 * n) (minus (set_at b at n) (set_at c there n))
  unfolding lacked minus
  put-minus = put-words n b at lacked lacked-fits ∙ ap (put_le b at (8 * n)) lacked-all

  pub set-minus : at + 8 * n ≤ length b
      → set_at (put_le b at (8 * n) (minus (set_at b at n) (set_at c there n))) at n ≡ minus (set_at b at n) (set_at c there n)
  unfolding minus
  set-minus room = set-put b at n (minus (set_at b at n) (set_at c there n)) room (omega (arith, set-fits b hb at n))

-- ---- a set and a mask

module _ (b ws : List ℕ) (hb : AreBytes b) (hw : (i : ℕ) → get_or ws i 0 < 2 ^ 64) (at mask n : ℕ) where
  with-mask : ℕ → ℕ
  with-mask m = union (word_at b at m) (get_or ws (mask + m) 0)

  with-mask-fits : Fit 64 with-mask
  unfolding with-mask
  with-mask-fits m = union-lt 64 (word_at b at m) (get_or ws (mask + m) 0) (word_fits b hb at m) (hw (mask + m))

  with-mask-all : joined 64 with-mask n ≡ union (set_at b at n) (mask_at ws mask n)
  unfolding mask_at with-mask
  with-mask-all =
      joined-union 64 (word_at b at) (λ (j : ℕ). get_or ws (mask + j) 0) with-mask (word_fits b hb at) (λ j. hw (mask + j)) with-mask-fits (λ j. refl) n
      ∙ ap (λ (x : ℕ). union x (mask_at ws mask n)) (sym (set_words_lem b n at))

  pub put-mask : put_words b at (λ (m : ℕ). union (word_at b at m) (get_or ws (mask + m) 0)) n ≡ put_le b at (8 * n) (union (set_at b at n) (mask_at ws mask n))
  unfolding with-mask
  put-mask = put-words n b at with-mask with-mask-fits ∙ ap (put_le b at (8 * n)) with-mask-all

  pub set-mask : at + 8 * n ≤ length b
      → set_at (put_le b at (8 * n) (union (set_at b at n) (mask_at ws mask n))) at n ≡ union (set_at b at n) (mask_at ws mask n)
  set-mask room = set-put b at n (union (set_at b at n) (mask_at ws mask n)) room (rw (← with-mask-all) (joined-lt n with-mask with-mask-fits))

-- ---- a set of which only the lowest word has rows

low_fits : (w : ℕ) → w < 2 ^ 64 → Fit 64 (low_word w)
low_fits w h zero = h
low_fits w h (suc j) = omega arith

pub put_low : (b : List ℕ) (at w n : ℕ) → w < 2 ^ 64 → 0 < n → put_words b at (low_word w) n ≡ put_le b at (8 * n) w
unfolding joined
put_low b at w zero h some = absurd (omega arith)
put_low b at w (suc n) h some =
    put-words (suc n) b at (low_word w) (low_fits w h)
    ∙ ap (put_le b at (8 * suc n)) (omega (arith, joined-none 64 (λ (j : ℕ). low_word w (suc j)) n (λ j l. refl)))
