-- Laws of Words.
--
-- In order: a row as a word, and back (`row_in-packed`), by its kind (`literal-row`, `modal-row`, `pair_row`, `inclusion-row`), and its bytes
-- (`own-parts`); equal words are equal rows (`own_same`); the rows in words (`concept_at-rows_in`, `rows_in-more`, `held_more`); the first equal word is
-- the first equal row (`found-place`, `found-nowhere`).
use Rattle.std.specs.Prelude.{◌≡◌, ◌==◌, Bool, true, false, cond, List, [], ◌∷◌, ◌++◌, ℕ, ◌+◌, ◌*◌, ◌/◌, ◌%◌, ◌<◌, ◌≤◌, eqb, ltb, length, get_or, set, take}
use Rattle.std.specs.Prelude.{position, None, Some}
use Rattle.std.specs.List.{position_or_len}
use Rattle.std.proofs.Math.Path.{refl}
use Rattle.std.proofs.Common.{sym, ap, ◌∙◌, inl, inr, arith, length-set, get_or-set_same, get_or-set_other, ltb-false, eqb-true, length-take-le}
use Rattle.std.proofs.lemmas.Bool.{eqb-false}
use Rattle.std.proofs.lemmas.List.{get_or-take}
use Rattle.std.proofs.lemmas.List.Sums.{fails_before_first}
use Rattle.std.proofs.lemmas.List.Quantifiers.{position-Some}
use Rattle.std.proofs.Math.Decide.{ℕ_discrete}
use Rattle.std.proofs.Math.Dec.{not_T}
use Rattle.concepts.specs.Tests.{as-true, as-false}
use Rattle.concepts.specs.Lists.{range, NoneBelow}
use Rattle.concepts.specs.ListLaws.{length-map-range, get_or-map-range, range-mem, range-more, map_same}
use Rattle.concepts.specs.Concept.{Concept, atomic, negated, conj, disj, univ, exist, inclusion, neg, impl, Table, concept_at, role_of}
use Rattle.decoding.specs.RowParts.{kind_of, left_of, right_of, of_parts}
use Rattle.decoding.specs.RowPartLaws.{kind_of-lt}
use Rattle.rulefile.specs.Format.{most_rows}
use Rattle.drafts.specs.Normalize.{same_row, place_of}
use Rattle.drafts.specs.ShareLaws.{equal_at}
use Rattle.drafts.proofs.ShareLaws.{same_row-path, same_row-refl, place_of-at, place_of-nowhere}
use Rattle.normalize.specs.Words.{word_of, row_in, Own, rows_in, Held}
use Rattle.normalize.specs.Shapes.{IsLiteral, IsModal, IsPair}

-- ---- a row

module _ (kind role left right : ℕ) (a : kind < 256) (b : role < 256) (c : left < 256) (d : right < 256) where
  abbrev packed : ℕ
  packed = kind + 256 * role + 65536 * left + 16777216 * right

  parts-packed : (packed % 256 ≡ kind) × (packed / 256 % 256 ≡ role) × (packed / 65536 % 256 ≡ left) × (packed / 16777216 % 256 ≡ right)
  parts-packed = (omega arith, omega arith, omega arith, omega arith)

  -- four bytes, put together and taken apart
  pub row_in-packed : row_in (kind + 256 * role + 65536 * left + 16777216 * right) ≡ of_parts kind role left right
  unfolding row_in
  row_in-packed = let (k, o, l, r) = parts-packed in rw (k, o, l, r)

-- such a word is that of the row, if the kind uses just these parts
own-packed : (kind role left right w : ℕ) → w ≡ kind + 256 * role + 65536 * left + 16777216 * right → row_in w ≡ of_parts kind role left right
    → word_of (of_parts kind role left right) ≡ kind + 256 * role + 65536 * left + 16777216 * right → Own w
own-packed kind role left right w e r p = ap word_of r ∙ p ∙ sym e

-- ---- words that are written

pub record IsRow (w : ℕ) (c : Concept) : Type 0 where
  pub own : Own w
  pub row : row_in w ≡ c

module _ {w : ℕ} where
  is_row : (kind role left right : ℕ) → kind < 256 → role < 256 → left < 256 → right < 256 → w ≡ kind + 256 * role + 65536 * left + 16777216 * right
      → word_of (of_parts kind role left right) ≡ kind + 256 * role + 65536 * left + 16777216 * right → IsRow w (of_parts kind role left right)
  is_row kind role left right a b c d e p =
      let r : row_in w ≡ of_parts kind role left right = ap row_in e ∙ row_in-packed kind role left right a b c d in
      record { own = own-packed kind role left right w e r p; row = r }

  pub literal-row : {kind name : ℕ} → IsLiteral kind → name < 256 → w ≡ kind + 256 * 0 + 65536 * name + 16777216 * 0 → IsRow w (of_parts kind 0 name 0)
  unfolding of_parts kind_of role_of left_of right_of
  literal-row {kind} {name} (inl k) h e = is_row kind 0 name 0 (omega arith) (omega arith) h (omega arith) e (rw k)
  literal-row {kind} {name} (inr k) h e = is_row kind 0 name 0 (omega arith) (omega arith) h (omega arith) e (rw k)

  pub modal-row : {kind role i : ℕ} → IsModal kind → role < 256 → i < 256 → w ≡ kind + 256 * role + 65536 * i + 16777216 * 0 → IsRow w (of_parts kind role i 0)
  unfolding of_parts kind_of role_of left_of right_of
  modal-row {kind} {role} {i} (inl k) a h e = is_row kind role i 0 (omega arith) a h (omega arith) e (rw k)
  modal-row {kind} {role} {i} (inr k) a h e = is_row kind role i 0 (omega arith) a h (omega arith) e (rw k)

  pub pair_row : {kind i j : ℕ} → IsPair kind → i < 256 → j < 256 → w ≡ kind + 256 * 0 + 65536 * i + 16777216 * j → IsRow w (of_parts kind 0 i j)
  unfolding of_parts kind_of role_of left_of right_of
  pair_row {kind} {i} {j} (inl k) h l e = is_row kind 0 i j (omega arith) (omega arith) h l e (rw k)
  pair_row {kind} {i} {j} (inr k) h l e = is_row kind 0 i j (omega arith) (omega arith) h l e (rw k)

  pub inclusion-row : {role left : ℕ} → role < 256 → left < 256 → w ≡ 7 + 256 * role + 65536 * left + 16777216 * 0 → IsRow w (inclusion role left)
  unfolding of_parts kind_of role_of left_of right_of
  inclusion-row {role} {left} a h e = is_row 7 role left 0 (omega arith) a h (omega arith) e refl

-- ---- the bytes of a word

either_way : (P : Concept → Type 0) (b : Bool) {c d : Concept} → P c → P d → P (cond b c d)
either_way P true p q = p
either_way P false p q = q

-- a concept of these parts is one of nine
of_parts-cases : (P : Concept → Type 0) (kind role left right : ℕ) → P (atomic left) → P (negated left) → P (conj left right) → P (disj left right)
    → P (univ role left)
    → P (exist role left) → P (inclusion role left) → P (neg left) → P (impl left right) → P (of_parts kind role left right)
unfolding of_parts
of_parts-cases P kind role left right a b c d e f g h i =
    either_way P (eqb kind 1) a (either_way P (eqb kind 2) b (either_way P (eqb kind 3) c (either_way P (eqb kind 4) d
    (either_way P (eqb kind 5) e (either_way P (eqb kind 6) f (either_way P (eqb kind 7) g (either_way P (eqb kind 8) h i)))))))

-- its role, left and right part are among them
abbrev Small : Concept → Type 0
Small c = (role_of c < 256) × (left_of c < 256) × (right_of c < 256)

small-parts : (kind role left right : ℕ) → role < 256 → left < 256 → right < 256 → Small (of_parts kind role left right)
unfolding role_of left_of right_of
small-parts kind role left right o l r =
    of_parts-cases Small kind role left right (omega arith, l, omega arith) (omega arith, l, omega arith) (omega arith, l, r) (omega arith, l, r)
    (o, l, omega arith) (o, l, omega arith) (o, l, omega arith) (omega arith, l, omega arith) (omega arith, l, r)

-- the word of a row has the row's four bytes
pub own-parts : {w : ℕ} → Own w
    → (w % 256 ≡ kind_of (row_in w)) × (w / 256 % 256 ≡ role_of (row_in w)) × (w / 65536 % 256 ≡ left_of (row_in w))
    × (w / 16777216 % 256 ≡ right_of (row_in w))
own-parts {w} o =
    let c = row_in w in
    let (ρ, l, r) : Small c =
    unfold row_in in small-parts (w % 256) (w / 256 % 256) (w / 65536 % 256) (w / 16777216 % 256) (omega arith) (omega arith) (omega arith) in
    rw o at (parts-packed (kind_of c) (role_of c) (left_of c) (right_of c) (omega (arith, kind_of-lt c)) ρ l r)

-- ---- equal words

-- equal words are equal rows
pub own_same : {v w : ℕ} → Own v → Own w → row_in v ≡ row_in w → v ≡ w
own_same p q e = sym p ∙ ap word_of e ∙ q

-- ---- rows

pub length-rows_in : (ws : List ℕ) (n : ℕ) → length (rows_in ws n) ≡ n
unfolding rows_in
length-rows_in ws n = length-map-range (λ (i : ℕ). row_in (get_or ws i 0)) 0 n

pub concept_at-rows_in : (ws : List ℕ) (n k : ℕ) → k < n → concept_at (rows_in ws n) k ≡ row_in (get_or ws k 0)
unfolding rows_in
concept_at-rows_in ws n k h =
    get_or-map-range (λ (i : ℕ). row_in (get_or ws i 0)) 0 n k (atomic 0) h ∙ ap (λ (i : ℕ). row_in (get_or ws i 0)) (omega arith)

-- one row more
pub rows_in-more : (ws : List ℕ) (n w : ℕ) → n < length ws → rows_in (set ws n w) (n + 1) ≡ rows_in ws n ++ row_in w ∷ []
unfolding rows_in
rows_in-more ws n w h =
    range-more (λ (i : ℕ). row_in (get_or (set ws n w) i 0)) n
    ∙ rw (get_or-set_same ws n w 0 h)
    (ap (λ (t : Table). t ++ row_in w ∷ [])
    (map_same (λ (i : ℕ). row_in (get_or (set ws n w) i 0)) (λ (i : ℕ). row_in (get_or ws i 0)) (range 0 n)
    (λ i m. ap row_in (get_or-set_other ws n i w 0 (λ e. omega (arith, (range-mem 0 n i m).1))))))

pub held_more : (ws : List ℕ) (n w : ℕ) → Held ws n → n < most_rows → Own w → Held (set ws n w) (n + 1)
held_more ws n w H h o = record {
  size = length-set ws n w ∙ H.size;
  few = omega arith;
  own = λ i l. elim (ℕ_discrete i n) [
    | yes e ↦ rw (e, get_or-set_same ws n w 0 (omega (arith, H.size))) o
    | no d ↦ rw (get_or-set_other ws n i w 0 d) (H.own i (omega arith))
  ];
}

-- ---- the first equal word is the first equal row

-- where a search finds nothing, every element fails
position-None : (p : ℕ → Bool) (xs : List ℕ) → position p xs ≡ None → (k : ℕ) → k < length xs → p (get_or xs k 0) ≡ false
position-None p xs e k h = go (ltb (position_or_len p xs) (length xs)) refl
  where
    go : (b : Bool) → ltb (position_or_len p xs) (length xs) ≡ b → p (get_or xs k 0) ≡ false
    go true q = let s : Some (position_or_len p xs) ≡ None = rw q at e in absurd (cc)
    go false q = fails_before_first p xs k 0 (omega (arith, ltb-false (position_or_len p xs) (length xs) q))

module _ {ws : List ℕ} {n w : ℕ} (H : Held ws n) (o : Own w) where
  -- so are the words
  abbrev equal_word : ℕ → Bool
  equal_word v = v == w

  none-equal : (r : ℕ) → r ≤ n → ((j : ℕ) → j < r → equal_word (get_or (take n ws) j 0) ≡ false) → NoneBelow (equal_at (row_in w) (rows_in ws n)) r
  none-equal r h fails j below =
      let inside : j < n = omega arith in
      as-false (equal_at (row_in w) (rows_in ws n) j) (not_T (equal_at (row_in w) (rows_in ws n) j) (λ t.
      let same : row_in w ≡ row_in (get_or ws j 0) = same_row-path (row_in w) (concept_at (rows_in ws n) j) (as-true _ t) ∙ concept_at-rows_in ws n j inside in
      let other : eqb (get_or ws j 0) w ≡ false = rw (get_or-take n ws j 0 inside) at (fails j below) in
      eqb-false (get_or ws j 0) w other (own_same (H.own j inside) o (sym same))))

  taken : length (take n ws) ≡ n
  taken = length-take-le n ws (omega (arith, H.few, H.size))

  pub found-place : (r : ℕ) → position (λ v. v == w) (take n ws) ≡ Some r → (r < n) × (place_of (row_in w) (rows_in ws n) ≡ Some r)
  found-place r e =
      let (inside, here, before) = position-Some equal_word (take n ws) r 0 e in
      let h : r < n = omega (arith, taken) in
      let there : get_or ws r 0 ≡ w = sym (get_or-take n ws r 0 h) ∙ eqb-true (get_or (take n ws) r 0) w here in (
        h,
        place_of-at (row_in w) (rows_in ws n) r (omega (arith, length-rows_in ws n)) (none-equal r (omega arith) before)
            (ap (same_row (row_in w)) (concept_at-rows_in ws n r h ∙ ap row_in there) ∙ same_row-refl (row_in w)),
      )

  pub found-nowhere : position (λ v. v == w) (take n ws) ≡ None → place_of (row_in w) (rows_in ws n) ≡ None
  found-nowhere e =
      let fails = position-None equal_word (take n ws) e in
      place_of-nowhere (row_in w) (rows_in ws n)
      (none-equal (length (rows_in ws n)) (omega (arith, length-rows_in ws n)) (λ j l. fails j (omega (arith, taken, length-rows_in ws n))))
