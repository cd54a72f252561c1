-- Laws of Writing: after all rows, the counts, the rules and the wanted rows, the words hold the file but for its inclusions (`rows-placed`).
--
-- In order: empty words; where a row is marked; a row more (`row_put`, `partly_more`); the masks after all rows (`partly-kinds`, `partly-universals`);
-- the counts, the rules and the wanted rows; all.
use Rattle.std.specs.Prelude.{◌≡◌, refl, ◌&&◌, ◌||◌, ℕ, ◌+◌, ◌*◌, ◌/◌, ◌%◌, ◌^◌, ◌≤◌, ◌<◌, ltb, length, get_or, set, replicate}
use Rattle.std.proofs.Common.{sym, ◌∙◌, subst, inl, inr, arith, length-set, get_or-set_same, get_or-set_other, eq-eqb, ne_eqb, le-ltb, ltb-true}
use Rattle.std.proofs.Math.Path.{ap, ap₂}
use Rattle.std.proofs.Math.Bool.{Bool, true, false, cond}
use mathlib.Core.List.{List, map}
use Rattle.std.proofs.Math.Decide.{ℕ_discrete}
use Rattle.std.proofs.Math.Dec.{eqb}
use Rattle.std.proofs.lemmas.List.{length-replicate, get_or-replicate}
use Rattle.concepts.specs.Lists.{range}
use Rattle.concepts.specs.ListLaws.{map_same, range-mem}
use Rattle.concepts.specs.Tests.{or-and-shared, below_more}
use Rattle.concepts.specs.Concept.{Concept, concept_at, Ordered}
use Rattle.concepts.specs.RowSet.{mem, from_list}
use Rattle.concepts.specs.RowSetLaws.{mem-empty}
use Rattle.decoding.specs.Decoding.{rule_kinds, concept_of, malformed}
use Rattle.words.specs.Sizes.{set_words, width}
use Rattle.rowset.specs.Joined.{mask_at}
use Rattle.rowset.specs.JoinedLaws.{joined-none}
use Rattle.rowset.specs.NextLaws.{Words, words-set}
use Rattle.rowset.specs.InUse.{mask-in-use}
use Rattle.problem.specs.Rows.{row_byte, row_count, concept_in, table_in, Rows, ListsRows}
use Rattle.decoder.specs.RowLaws.{length-table_in, byte-parts, byte-role, byte-kind, listed-inside}
use Rattle.problem.specs.Layout.{count_at, used_at, rules_at, wanted_at, kinds_at, rows_at, room, kind_place, role_place}
use Rattle.problem.specs.Decoded.{count_of, used_of, part_of, mask_of, row_of, table_of, rules_of, wanted_of, Picked, of_kind, universal}
use Rattle.decoder.specs.Remade.{Beside}
use Rattle.decoder.specs.RemadeLaws.{beside-then, beside-wider, beside-set, mask-beside}
use Rattle.decoder.specs.Marking.{masks, kind_mask, role_mask, mask_place, mark, PutsList}
use Rattle.decoder.specs.MarkingLaws.{kind-place, role-place, mark-beside, mark-words, mark-mem}
use Rattle.decoder.specs.Writing.{pack, packed, along, marked, put_row, words_for, put_counts, EmptyWords, Partly, Placed}

-- ---- empty words

pub fresh-zeros : (w : List ℕ) → w ≡ replicate room 0 → EmptyWords w
fresh-zeros w e = rw e (record {
  enough = omega (arith, length-replicate {A = ℕ} room 0);
  cleared = λ i h. get_or-replicate {A = ℕ} room i 0 0 (omega arith);
})

pub partly_none : (b : List ℕ) {w : List ℕ} → EmptyWords w → Partly b 0 w
unfolding mask_at
partly_none b {w} F = record {
  enough = F.enough;
  unwritten = λ i l. F.cleared i (omega arith);
  rows = λ k l. absurd (omega arith);
  marks = λ i l k.
      ap (mem k) (joined-none 64 (λ (j : ℕ). get_or w (mask_place i + j) 0) set_words (λ j h. F.cleared (mask_place i + j) (omega arith))) ∙ mem-empty k
      ∙ sym (ap (λ (x : Bool). x && marked (row_byte b k 0) (row_byte b k 1) i) (le-ltb k 0 (omega arith)));
}

-- ---- where a row is marked

-- in no mask before the kinds
along-some : (kind role : ℕ) → kind_mask 0 ≤ along kind role
unfolding along
along-some kind role = by_kind (eqb kind 5)
  where
    by_kind : (x : Bool) → kind_mask 0 ≤ cond x (role_mask role) (kind_mask kind)
    by_kind true = omega arith
    by_kind false = omega arith

module _ {b : List ℕ} (ok : Rows b) {k : ℕ} (h : k < row_count b) where
  pub row-kind-lt : row_byte b k 0 < 8
  row-kind-lt = omega (arith, byte-kind ok k h, (byte-parts ok k h).kind-is)

  row-role-lt : row_byte b k 1 < 32
  row-role-lt = omega (arith, byte-role ok k h, (byte-parts ok k h).role-is)

  pub row-along-lt : along (row_byte b k 0) (row_byte b k 1) < masks
  unfolding along
  row-along-lt = by_kind (eqb (row_byte b k 0) 5)
    where
      by_kind : (x : Bool) → cond x (role_mask (row_byte b k 1)) (kind_mask (row_byte b k 0)) < masks
      by_kind true = omega (arith, row-role-lt)
      by_kind false = omega (arith, row-kind-lt)

-- ---- a row more

-- the word and the two marks, from the row's parts
pub row_put : (b w : List ℕ) (k : ℕ) {w₁ w₂ w₃ : List ℕ} {kind role left right at : ℕ}
    → kind ≡ row_byte b k 0 → role ≡ row_byte b k 1 → left ≡ row_byte b k 2 → right ≡ row_byte b k 3
    → w₁ ≡ set w (rows_at + k) (pack kind role left right)
    → w₂ ≡ mark w₁ (kind_place kind) k → at ≡ mask_place (along kind role) → w₃ ≡ mark w₂ at k → w₃ ≡ put_row b k w
unfolding put_row
row_put b w k k₀ k₁ k₂ k₃ e₁ e₂ place e₃ = rw (e₃, e₂, e₁, place, k₀, k₁, k₂, k₃)

module _ {b : List ℕ} (ok : Rows b) (bytes : (i : ℕ) → get_or b i 0 < 256) {n : ℕ} (h : n < row_count b) (w : List ℕ) (words : Words w)
    (p : Partly b n w) where
  abbrev first : ℕ
  first = kind_mask (row_byte b n 0)

  abbrev second : ℕ
  second = along (row_byte b n 0) (row_byte b n 1)

  first-lt : first < masks
  first-lt = omega (arith, row-kind-lt ok h)

  second_lt : second < masks
  second_lt = row-along-lt ok h

  second-some : kind_mask 0 ≤ second
  second-some = along-some (row_byte b n 0) (row_byte b n 1)

  row_lt : n < width
  row_lt = omega (arith, ok.few)

  abbrev w₁ : List ℕ
  w₁ = set w (rows_at + n) (packed b n)

  abbrev w₂ : List ℕ
  w₂ = mark w₁ (mask_place first) n

  abbrev w₃ : List ℕ
  w₃ = mark w₂ (mask_place second) n

  put₁ : Beside (rows_at + n) 1 w w₁
  put₁ = beside-set w (rows_at + n) (packed b n) (omega arith) (omega arith)

  marked₂ : Beside (mask_place first) set_words w₁ w₂
  marked₂ = mark-beside w₁ (mask_place first) n row_lt

  marked₃ : Beside (mask_place second) set_words w₂ w₃
  marked₃ = mark-beside w₂ (mask_place second) n row_lt

  words₁ : Words w₁
  words₁ =
      let byte : (j : ℕ) → row_byte b n j < 256 = λ j. bytes (4 * n + j) in
      words-set w words (rows_at + n) (packed b n) (omega (arith, p.enough, row_lt)) (omega (arith, byte 0, byte 1, byte 2, byte 3))

  words₂ : Words w₂
  words₂ = mark-words w₁ (mask_place first) n row_lt words₁ (omega (arith, put₁.longs, p.enough, first-lt))

  enough₂ : room ≤ length w₂
  enough₂ = omega (arith, marked₂.longs, put₁.longs, p.enough)

  -- the words before the kinds are not marked
  unwritten-there : (i : ℕ) → i < kinds_at → get_or w₃ i 0 ≡ 0
  unwritten-there i l =
      marked₃.others i (inl (omega (arith, second-some))) ∙ marked₂.others i (inl (omega arith)) ∙ put₁.others i (inl (omega arith))
      ∙ p.unwritten i l

  -- nor are the words of rows
  row_kept : (k : ℕ) → get_or w₃ (rows_at + k) 0 ≡ get_or w₁ (rows_at + k) 0
  row_kept k = marked₃.others (rows_at + k) (inr (omega (arith, second_lt))) ∙ marked₂.others (rows_at + k) (inr (omega (arith, first-lt)))

  row-there : (k : ℕ) → k < n + 1 → get_or w₃ (rows_at + k) 0 ≡ packed b k
  row-there k l = row_kept k ∙ elim (ℕ_discrete k n) [
    | yes e ↦
        ap (λ (x : ℕ). get_or w₁ (rows_at + x) 0) e ∙ get_or-set_same w (rows_at + n) (packed b n) 0 (omega (arith, p.enough, row_lt))
        ∙ ap (packed b) (sym e)
    | no d ↦ put₁.others (rows_at + k) (inl (omega arith)) ∙ p.rows k (omega arith)
  ]

  mark-there : (i : ℕ) → i < masks → (k : ℕ) → mem k (mask_of w₃ (mask_place i)) ≡ (ltb k (n + 1) && marked (row_byte b k 0) (row_byte b k 1) i)
  unfolding marked
  mark-there i l k =
      let here : Bool = eqb k n && marked (row_byte b n 0) (row_byte b n 1) i in
      mark-mem w₂ words₂ enough₂ second i n k second_lt l row_lt
      ∙ ap (λ (x : Bool). (eqb i second && eqb k n) || x) (mark-mem w₁ words₁ (omega (arith, put₁.longs, p.enough)) first i n k first-lt l row_lt)
      ∙ or-and-shared (eqb i first) (eqb i second) (eqb k n) (mem k (mask_of w₁ (mask_place i)))
      ∙ ap (λ (x : ℕ). here || mem k x) (mask-beside put₁ (mask_place i) (inl (omega arith)))
      ∙ ap (λ (x : Bool). here || x) (p.marks i l k)
      ∙ below_more (λ j. marked (row_byte b j 0) (row_byte b j 1) i) n k

  pub partly_more : Partly b (n + 1) (put_row b n w)
  unfolding put_row
  partly_more =
      let place : kind_place (row_byte b n 0) ≡ mask_place first = kind-place (row_byte b n 0) in
      rw place (record { enough = omega (arith, marked₃.longs, enough₂); unwritten = unwritten-there; rows = row-there; marks = mark-there })

-- ---- the masks after all rows

marked-kind : (kind role x : ℕ) → x < 8 → marked kind role (kind_mask x) ≡ eqb kind x
unfolding marked along
marked-kind kind role x h = elim (ℕ_discrete kind x) [
  | yes e ↦ ap (λ (y : Bool). y || eqb (kind_mask x) (along kind role)) (eq-eqb (kind_mask x) (kind_mask kind) (omega arith)) ∙ sym (eq-eqb kind x e)
  | no d ↦
      ap (λ (y : Bool). y || eqb (kind_mask x) (along kind role)) (ne_eqb (kind_mask x) (kind_mask kind) (λ e. d (omega arith)))
      ∙ ne_eqb (kind_mask x) (along kind role) (apart d (eqb kind 5)) ∙ sym (ne_eqb kind x d)
]
  where
    apart : (kind ≡ x → ⊥) → (y : Bool) → kind_mask x ≡ cond y (role_mask role) (kind_mask kind) → ⊥
    apart d true e = omega arith
    apart d false e = d (omega arith)

marked-role : (kind role ρ : ℕ) → kind < 8 → marked kind role (role_mask ρ) ≡ (eqb kind 5 && eqb ρ role)
unfolding marked along
marked-role kind role ρ h =
    ap (λ (y : Bool). y || eqb (role_mask ρ) (along kind role)) (ne_eqb (role_mask ρ) (kind_mask kind) (λ e. omega arith)) ∙ by_kind (eqb kind 5)
  where
    shift : eqb (role_mask ρ) (role_mask role) ≡ eqb ρ role
    shift = elim (ℕ_discrete ρ role) [
      | yes e ↦ eq-eqb (role_mask ρ) (role_mask role) (omega arith) ∙ sym (eq-eqb ρ role e)
      | no d ↦ ne_eqb (role_mask ρ) (role_mask role) (λ e. d (omega arith)) ∙ sym (ne_eqb ρ role d)
    ]

    by_kind : (y : Bool) → eqb (role_mask ρ) (cond y (role_mask role) (kind_mask kind)) ≡ (y && eqb ρ role)
    by_kind true = shift
    by_kind false = ne_eqb (role_mask ρ) (kind_mask kind) (λ e. omega arith)

module _ {b : List ℕ} (ok : Rows b) {w : List ℕ} (p : Partly b (row_count b) w) where
  -- a mask that has a row just where it is marked
  picks : (test : Concept → Bool) (i : ℕ) → i < masks →
      ((k : ℕ) → k < row_count b → marked (row_byte b k 0) (row_byte b k 1) i ≡ test (concept_at (table_in b) k))
      → Picked (table_in b) test (mask_of w (mask_place i))
  picks test i h same = record {
    rows = λ k.
        p.marks i h k ∙ inside k (ltb k (row_count b)) refl ∙ ap (λ (n : ℕ). ltb k n && test (concept_at (table_in b) k)) (sym (length-table_in b));
  }
    where
      inside : (k : ℕ) (x : Bool) → ltb k (row_count b) ≡ x → (x && marked (row_byte b k 0) (row_byte b k 1) i) ≡ (x && test (concept_at (table_in b) k))
      inside k true e = same k (ltb-true k (row_count b) e)
      inside k false e = refl

  pub partly-kinds : (kind : ℕ) → kind < 8 → Picked (table_in b) (of_kind kind) (mask_of w (kind_place kind))
  unfolding of_kind
  partly-kinds kind h =
      rw (kind-place kind) (picks (of_kind kind) (kind_mask kind) (omega arith) (λ k l.
      marked-kind (row_byte b k 0) (row_byte b k 1) kind h ∙ ap (λ (x : ℕ). eqb x kind) (sym (byte-parts ok k l).kind-is)))

  pub partly-universals : (ρ : ℕ) → ρ < 32 → Picked (table_in b) (universal eqb ρ) (mask_of w (role_place ρ))
  unfolding universal
  partly-universals ρ h =
      rw (role-place ρ) (picks (universal eqb ρ) (role_mask ρ) (omega arith) (λ k l.
      marked-role (row_byte b k 0) (row_byte b k 1) ρ (row-kind-lt ok l)
      ∙ ap₂ (λ (x y : ℕ). eqb x 5 && eqb ρ y) (sym (byte-parts ok k l).kind-is) (sym (byte-parts ok k l).role-is)))

-- ---- the counts, the rules and the wanted rows

module _ (w : List ℕ) (enough : room ≤ length w) (n : ℕ) where
  counts-beside : Beside count_at 2 w (put_counts n w)
  counts-beside =
      beside-then (beside-set w count_at n (omega arith) (omega arith)) (beside-set (set w count_at n) used_at (words_for n) (omega arith) (omega arith))

  count-there : count_of (put_counts n w) ≡ n
  count-there = get_or-set_other (set w count_at n) used_at count_at (words_for n) 0 (λ e. omega arith) ∙ get_or-set_same w count_at n 0 (omega arith)

  used-there : used_of (put_counts n w) ≡ words_for n
  used-there = get_or-set_same (set w count_at n) used_at (words_for n) 0 (omega (arith, length-set w count_at n))

-- a list of rows, written as the words in use of an empty mask
list-there : {at n : ℕ} {list w v : List ℕ} → n ≤ set_words → ((i : ℕ) → at ≤ i → i < at + set_words → get_or w i 0 ≡ 0)
    → PutsList at n list w v
    → mask_of v at ≡ from_list list
list-there {at} {n} {list} {w} {v} few none L =
    mask-in-use v at n set_words few (λ j l h. L.beside.others (at + j) (inr (omega arith)) ∙ none (at + j) (omega arith) (omega arith)) ∙ L.rows

-- ---- all

-- the parts of a word are the bytes that it was made of
part-packed : (p q r s : ℕ) → p < 256 → q < 256 → r < 256 → s < 256
    → (pack p q r s / 256 ^ 0 % 256 ≡ p) × (pack p q r s / 256 ^ 1 % 256 ≡ q) × (pack p q r s / 256 ^ 2 % 256 ≡ r)
    × (pack p q r s / 256 ^ 3 % 256 ≡ s)
part-packed p q r s hp hq hr hs = (omega arith, omega arith, omega arith, omega arith)

module _ {b tbox wanted : List ℕ} (ok : Rows b) (bytes : (i : ℕ) → get_or b i 0 < 256) (rules-listed : ListsRows b tbox)
    (wanted-listed : ListsRows b wanted)
    {w : List ℕ} (p : Partly b (row_count b) w) {v u x : List ℕ} {used : ℕ} (C : v ≡ put_counts (row_count b) w) (U : used ≡ words_for (row_count b))
    (R : PutsList rules_at used tbox v u) (W : PutsList wanted_at used wanted u x) where
  abbrev n : ℕ
  n = row_count b

  used-few : used ≤ set_words
  used-few = omega (arith, ok.few)

  -- what is written after the rows
  counted : Beside count_at 2 w v
  counted = rw C (counts-beside w p.enough n)

  rules-beside : Beside rules_at set_words v u
  rules-beside = beside-wider (omega arith) (omega (arith, used-few)) R.beside

  wanted-beside : Beside wanted_at set_words u x
  wanted-beside = beside-wider (omega arith) (omega (arith, used-few)) W.beside

  written : Beside count_at kinds_at w x
  written =
      beside-then (beside-wider (omega arith) (omega arith) counted)
      (beside-then (beside-wider (omega arith) (omega arith) rules-beside) (beside-wider (omega arith) (omega arith) wanted-beside))

  count-is : count_of x ≡ n
  count-is = wanted-beside.others count_at (inl (omega arith)) ∙ rules-beside.others count_at (inl (omega arith)) ∙ ap count_of C
      ∙ count-there w p.enough n

  used-is : used_of x ≡ words_for n
  used-is = wanted-beside.others used_at (inl (omega arith)) ∙ rules-beside.others used_at (inl (omega arith)) ∙ ap used_of C ∙ used-there w p.enough n

  rules-is : rules_of x ≡ from_list tbox
  rules-is =
      mask-beside wanted-beside rules_at (inl (omega arith))
      ∙ list-there used-few (λ i lo hi. counted.others i (inr (omega arith)) ∙ p.unwritten i (omega arith)) R

  wanted-is : wanted_of x ≡ from_list wanted
  wanted-is =
      list-there used-few (λ i lo hi. rules-beside.others i (inr (omega arith)) ∙ counted.others i (inr (omega arith)) ∙ p.unwritten i (omega arith)) W

  -- what holds of the bytes of row k holds of the parts of its word
  four-parts : (P : ℕ → ℕ → ℕ → ℕ → Type 0) (k : ℕ) → k < n → P (row_byte b k 0) (row_byte b k 1) (row_byte b k 2) (row_byte b k 3)
      → P (part_of x k 0) (part_of x k 1) (part_of x k 2) (part_of x k 3)
  four-parts P k h holds =
      let byte : (j : ℕ) → row_byte b k j < 256 = λ j. bytes (4 * k + j) in
      let (p₀, p₁, p₂, p₃) = part-packed (row_byte b k 0) (row_byte b k 1) (row_byte b k 2) (row_byte b k 3) (byte 0) (byte 1) (byte 2) (byte 3) in
      let word : get_or x (rows_at + k) 0 ≡ packed b k = written.others (rows_at + k) (inr (omega arith)) ∙ p.rows k h in
      rw (word, p₀, p₁, p₂, p₃) holds

  table-there : table_of x ≡ table_in b
  unfolding table_of table_in
  table-there =
      ap (λ (m : ℕ). map (row_of x) (range 0 m)) count-is
      ∙ map_same (row_of x) (concept_in b) (range 0 n) (λ k m.
      let h : k < n = omega (arith, (range-mem 0 n k m).1) in
      four-parts (λ kind role left right. concept_of rule_kinds kind role left right ≡ concept_in b k) k h refl)

  -- what holds of the table and of a mask holds of them at the end
  carried : (test : Concept → Bool) (at : ℕ) → kinds_at ≤ at → Picked (table_in b) test (mask_of w at) → Picked (table_of x) test (mask_of x at)
  carried test at h picked = rw (table-there, mask-beside written at (inr (omega arith))) picked

  pub rows-placed : Placed b tbox wanted x
  rows-placed = record {
    rows = record {
      enough = omega (arith, written.longs, p.enough);
      few = omega (arith, count-is, ok.few);
      used = (omega (arith, used-is, ok.few), omega (arith, used-is, count-is));
      formed = λ k h.
          let l : k < n = omega (arith, count-is) in
          four-parts (λ kind role left right. malformed rule_kinds kind role left right ≡ false) k l (ok.formed k l);
      ordered = subst Ordered (sym table-there) ok.ordered;
      kinds = λ kind h. carried (of_kind kind) (kind_place kind) (omega arith) (partly-kinds ok p kind h);
      rule_rows = λ k m. rw table-there (listed-inside b rules-listed k (rw rules-is at m));
      wanted_rows = λ k m. rw table-there (listed-inside b wanted-listed k (rw wanted-is at m));
      argument_rows = rw table-there ok.arguments;
    };
    universals = λ ρ h. carried (universal eqb ρ) (role_place ρ) (omega arith) (partly-universals ok p ρ h);
    table_is = table-there;
    rules-are = rules-is;
    wanted-are = wanted-is;
  }
