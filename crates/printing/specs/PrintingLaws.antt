-- Laws of Printing: the ways through the functions that print.
--
-- In order: pieces; the whole; a whole that has room; numbers; a loop over pieces; lines; the line of an element and of a link; the lines of an
-- answer; which lines are printed.
use Rattle.std.specs.Prelude.{◌≡◌, refl, Bool, true, false, ◌≢◌, List, [], ◌∷◌, ◌++◌, ℕ, suc, ◌+◌, ◌-◌, ◌*◌, ◌/◌, ◌%◌, ◌^◌, ◌≤◌, ◌<◌}
use Rattle.std.specs.Prelude.{eqb, length, get_or, set, take, drop}
use Rattle.std.proofs.Math.Path.{sym}
use Rattle.std.proofs.Common.{ap, ap₂, subst, ◌∙◌, append-nil, append_assoc, add-one, mul-suc, arith, take-suc}
use Rattle.std.proofs.Common.{length-append, length-drop, length-take-le, take_all, take_at, drop_at, eqb-true, eq-eqb, ne_eqb}
use Rattle.std.proofs.lemmas.List.Edits.{sets}
use Rattle.std.proofs.Math.Seq.{length-sets, set_out, take-length}
use Rattle.std.proofs.lemmas.Bool.{eqb-false}
use Rattle.concepts.specs.Lists.{Bytes}
use Rattle.words.specs.Words.{le_at, overwrite}
use Rattle.words.specs.Sizes.{set_size}
use Rattle.listing.specs.Layout.{link_at}
use Rattle.run.specs.Run.{Lengths, Numbers}
use Rattle.run.specs.RunLaws.{Room}
use Rattle.run.specs.Printed.{ascii, digit, hexadecimal, decimal, spaced, line, element_line, link_line, element_lines}
use Rattle.run.specs.Printed.{link_lines, used_line, refusal_counts, refused_line}
use Rattle.run.specs.Printed.{can_lines, cannot_lines, printed}
use Rattle.run.specs.PrintedLaws.{decimal-last, decimal-more, length-decimal-word, hexadecimal-byte, hexadecimal-bytes}
use Rattle.printing.specs.declared.Text.{Text}
use Rattle.printing.specs.Printing.{element_most, line_most, Wrote, Writes, Pieces, Prints}

-- ---- pieces

sets-append : (out : Bytes) (at : ℕ) (xs ys : Bytes) → sets out at (xs ++ ys) ≡ sets (sets out at xs) (at + length xs) ys
sets-append out at [] ys = ap (λ (k : ℕ). sets out k ys) (omega arith)
sets-append out at (x ∷ xs) ys = sets-append (set out at x) (suc at) xs ys ∙ ap (λ (k : ℕ). sets (sets (set out at x) (suc at) xs) k ys) (omega arith)

-- nothing written yet
pub wrote_nothing : (out : Bytes) (at : ℕ) → Wrote 0 [] out at out at
wrote_nothing out at = record { stored = refl; after = omega arith; bounded = omega arith }

module _ {most : ℕ} {text out : Bytes} {at : ℕ} {out' : Bytes} {next : ℕ} (w : Wrote most text out at out' next) where
  -- one piece right after another
  pub wrote_then : {more : ℕ} {text' out'' : Bytes} {next' : ℕ} → Wrote more text' out' next out'' next'
      → Wrote (most + more) (text ++ text') out at out'' next'
  wrote_then {more} {text'} {out''} {next'} v = record {
    stored =
        v.stored ∙ ap (λ (b : Bytes). sets b next text') w.stored
        ∙ ap (λ (k : ℕ). sets (sets out at text) k text') w.after
        ∙ sym (sets-append out at text text');
    after = simp length-append (omega (arith, w.after, v.after));
    bounded = simp length-append (omega (arith, w.bounded, v.bounded));
  }

  pub wrote-size : length out' ≡ length out
  wrote-size = ap length w.stored ∙ length-sets out at text

  -- the same text by another name
  pub wrote_as : {text' : Bytes} {most' : ℕ} → text ≡ text' → most ≤ most' → Wrote most' text' out at out' next
  wrote_as e h = record {
    stored = w.stored ∙ ap (sets out at) e;
    after = w.after ∙ ap (λ (b : Bytes). at + length b) e;
    bounded = omega (arith, w.bounded, ap length e);
  }

-- the same of a text
pub writes_nothing : (t : Text) → Writes 0 [] t t
writes_nothing t = record { wrote = wrote_nothing t.out.now t.at; same_reference = refl }

module _ {most : ℕ} {text : Bytes} {t t₁ : Text} (w : Writes most text t t₁) where
  pub writes_then : {more : ℕ} {text' : Bytes} {t₂ : Text} → Writes more text' t₁ t₂ → Writes (most + more) (text ++ text') t t₂
  writes_then v = record { wrote = wrote_then w.wrote v.wrote; same_reference = v.same_reference ∙ w.same_reference }

  pub writes_as : {text' : Bytes} {most' : ℕ} → text ≡ text' → most ≤ most' → Writes most' text' t t₁
  writes_as e h = record { wrote = wrote_as w.wrote e h; same_reference = w.same_reference }

-- ---- the whole

-- stores past the end change nothing
sets-past : (out : Bytes) (at : ℕ) (text : Bytes) → length out ≤ at → sets out at text ≡ out
sets-past out at [] h = refl
sets-past out at (b ∷ text) h = ap (λ (o : Bytes). sets o (suc at) text) (set_out out at b h) ∙ sets-past out (suc at) text (omega arith)

sets-cons : (x : ℕ) (out : Bytes) (at : ℕ) (text : Bytes) → sets (x ∷ out) (suc at) text ≡ x ∷ sets out at text
sets-cons x out at [] = refl
sets-cons x out at (b ∷ text) = sets-cons x (set out at b) (suc at) text

sets-cut : (text out : Bytes) → sets out 0 text ≡ take (length out) (overwrite text out)
sets-cut text [] = sets-past [] 0 text (omega arith)
sets-cut [] (x ∷ out) = sym (take-length (x ∷ out))
sets-cut (b ∷ text) (x ∷ out) = sets-cons b out 0 text ∙ ap (λ (o : Bytes). b ∷ o) (sets-cut text out)

-- a text that has room stands at the start of the area
pub wrote-start : {most : ℕ} {text out out' : Bytes} {next : ℕ} → Wrote most text out 0 out' next → next ≤ length out
    → take next out' ≡ text
wrote-start {text = text} {out = out} {next = next} w h =
    ap (take next) (w.stored ∙ sets-cut text out
    ∙ take_all (length out) (overwrite text out) (simp (length-append, length-drop) (omega (arith, w.after))))
    ∙ take_at text (drop (length text) out) next (omega (arith, w.after))

-- the area by another name
pub wrote_in : {most : ℕ} {text out out' out'' : Bytes} {at next : ℕ} → Wrote most text out at out' next → out' ≡ out'' → Wrote most text out at out'' next
wrote_in {most} {text} {out} {at = at} {next = next} w e = subst (λ (b : Bytes). Wrote most text out at b next) e w

pub wrote-whole : {n : Numbers} {elements links text out out' : Bytes} {most next : ℕ} → Wrote most text out 0 out' next
    → text ≡ printed n elements links
    → most ≤ 64 + element_most * n.elements + 35 * n.links → (n.verdict ≢ 1 → most ≤ 64) → Prints n elements links out out' next
wrote-whole {n} {elements} {links} {out = out} {most = most} w e h brief =
    let v = wrote_as w {most' = most} e (omega arith) in
    record {
      counted = omega (arith, v.after);
      shown = v.stored ∙ sets-cut (printed n elements links) out;
      bounded = omega (arith, v.after, v.bounded);
      brief = λ c. omega (arith, v.after, v.bounded, brief c);
    }

-- ---- a whole that has room

module _ {n : Numbers} {elements links out out' : Bytes} {count : ℕ} (p : Prints n elements links out out' count) where
  -- what is printed is bounded by the lengths of the areas, if with "can" they hold the example
  pub prints-within : (l : Lengths) → (n.verdict ≡ 1 → Room l n) → count ≤ 64 + element_most * (l.elements / set_size) + 35 * (l.links / 6)
  prints-within l room = go (eqb n.verdict 1) refl
    where
      go : (b : Bool) → eqb n.verdict 1 ≡ b → count ≤ 64 + element_most * (l.elements / set_size) + 35 * (l.links / 6)
      go true e = let r = room (eqb-true n.verdict 1 e) in omega (arith, p.bounded, r.elements, r.links)
      go false e = omega (arith, p.brief (eqb-false n.verdict 1 e))

  pub prints-size : length out' ≡ length out
  prints-size =
      ap length p.shown ∙ length-take-le (length out) (overwrite (printed n elements links) out) (simp (length-append, length-drop) (omega arith))

  module _ (h : count ≤ length out) where
    prints-uncut : out' ≡ overwrite (printed n elements links) out
    prints-uncut =
        p.shown
        ∙ take_all (length out) (overwrite (printed n elements links) out) (simp (length-append, length-drop) (omega (arith, p.counted)))

    -- the text, and behind it what the area held before
    pub prints-text : take count out' ≡ printed n elements links
    prints-text = ap (take count) prints-uncut ∙ take_at (printed n elements links) (drop (length (printed n elements links)) out) count (sym p.counted)

    pub prints-rest : drop count out' ≡ drop count out
    prints-rest =
        ap (drop count) prints-uncut
        ∙ drop_at (printed n elements links) (drop (length (printed n elements links)) out) count (sym p.counted)
        ∙ ap (λ (k : ℕ). drop k out) (sym p.counted)

-- ---- numbers

pub writes-digit : {t t' : Text} {n b : ℕ} → n < 10 → b ≡ digit n → Writes 1 (b ∷ []) t t' → Writes 10 (decimal n) t t'
writes-digit {n = n} h e w = writes_as w (ap (λ (x : ℕ). x ∷ []) e ∙ sym (decimal-last n h)) (omega arith)

pub writes-digits : {t t₁ t₂ : Text} {n b : ℕ} → 10 ≤ n → n < 2 ^ 32 → Writes 10 (decimal (n / 10)) t t₁ → b ≡ digit (n % 10)
    → Writes 1 (b ∷ []) t₁ t₂ → Writes 10 (decimal n) t t₂
writes-digits {n = n} h fits w e v =
    let x = writes_as (writes_then w v) {most' = 11} (ap (λ (x : ℕ). decimal (n / 10) ++ x ∷ []) e ∙ sym (decimal-more n h)) (omega arith) in
    record {
      wrote = record { stored = x.wrote.stored; after = x.wrote.after; bounded = length-decimal-word n fits };
      same_reference = x.same_reference;
    }

pub writes-byte : (x : ℕ) → x < 256 → {t t₁ t₂ : Text} {high low : ℕ} → high ≡ digit (x / 16) → Writes 1 (high ∷ []) t t₁
    → low ≡ digit (x % 16) → Writes 1 (low ∷ []) t₁ t₂ → Writes 2 (hexadecimal 2 x) t t₂
writes-byte x h eh w el v = writes_as (writes_then w v) (ap₂ (λ (p q : ℕ). p ∷ q ∷ []) eh el ∙ sym (hexadecimal-byte x h)) (omega arith)

-- the digits of the i highest of n bytes
abbrev pub highest : Bytes → ℕ → ℕ → ℕ → Bytes
highest area from n i = hexadecimal (2 * i) (le_at area (from + (n - i)) i)

pub highest-more : (area : Bytes) (from n i : ℕ) → i < n → get_or area (from + (n - (i + 1))) 0 < 256
    → highest area from n (i + 1) ≡ highest area from n i ++ hexadecimal 2 (get_or area (from + (n - (i + 1))) 0)
highest-more area from n i h small =
    let e : from + (n - (i + 1)) + 1 ≡ from + (n - i) = omega arith in
    hexadecimal-bytes area (from + (n - (i + 1))) i small
    ∙ ap (λ (p : ℕ). hexadecimal (2 * i) (le_at area p i) ++ hexadecimal 2 (get_or area (from + (n - (i + 1))) 0)) e

-- ---- a loop over pieces

module _ {up_to : ℕ → Bytes} {each count : ℕ} where
  pub pieces_none : (t : Text) → up_to 0 ≡ [] → Pieces up_to each count t t 0
  pieces_none t e = record { within = omega arith; writes = writes_as (writes_nothing t) (sym e) (omega arith) }

  pub pieces_more : {t t₁ t₂ : Text} {piece : Bytes} {i : ℕ} → Pieces up_to each count t t₁ i → i < count
      → up_to (i + 1) ≡ up_to i ++ piece → Writes each piece t₁ t₂ → Pieces up_to each count t t₂ (i + 1)
  pieces_more {i = i} s h e w =
      let s' : i + 1 ≡ suc i = omega arith in
      let m : each * (i + 1) ≡ each * i + each = ap (λ (k : ℕ). each * k) s' ∙ mul-suc each i in
      record { within = omega arith; writes = writes_as (writes_then s.writes w) (sym e) (omega arith) }

  pub pieces-all : {t t' : Text} {i : ℕ} → Pieces up_to each count t t' i → count ≤ i → Writes (each * count) (up_to count) t t'
  pieces-all {t} {t'} {i} s h =
      let e : i ≡ count = omega (arith, s.within) in
      subst (λ (k : ℕ). Writes (each * k) (up_to k) t t') e s.writes

-- a word, byte by byte
pub writes-word : (word : Bytes) {t t' : Text} → Writes (1 * length word) (take (length word) word) t t' → Writes (length word) word t t'
writes-word word w = writes_as w (take-length word) (omega arith)

-- ---- lines

spaced-snoc : (ns : List ℕ) (n : ℕ) → spaced (ns ++ n ∷ []) ≡ spaced ns ++ (32 ∷ decimal n)
unfolding spaced
spaced-snoc [] n = append-nil (32 ∷ decimal n)
spaced-snoc (m ∷ ns) n =
    ap (λ (b : Bytes). (32 ∷ decimal m) ++ b) (spaced-snoc ns n) ∙ sym (append_assoc (32 ∷ decimal m) (spaced ns) (32 ∷ decimal n))

-- the first numbers
abbrev pub spaced_to : List ℕ → ℕ → Bytes
spaced_to ns i = spaced (take i ns)

pub spaced_to-none : (ns : List ℕ) → spaced_to ns 0 ≡ []
unfolding spaced
spaced_to-none ns = refl

pub spaced_to-more : (ns : List ℕ) (i : ℕ) → i < length ns → spaced_to ns (i + 1) ≡ spaced_to ns i ++ (32 ∷ decimal (get_or ns i 0))
spaced_to-more ns i h = rw add-one (ap spaced (take-suc ns i 0 h) ∙ spaced-snoc (take i ns) (get_or ns i 0))

pub writes-spaced : (ns : List ℕ) {t t' : Text} → Writes (11 * length ns) (spaced_to ns (length ns)) t t' → Writes (11 * length ns) (spaced ns) t t'
writes-spaced ns w = writes_as w (ap spaced (take-length ns)) (omega arith)

-- a word is written, then numbers and a line feed, one after another
pub writes-line : {w : Bytes} (ns : List ℕ) {t t₁ t₂ t₃ : Text} → Writes (length w) w t t₁ → Writes (11 * length ns) (spaced ns) t₁ t₂
    → Writes 1 (10 ∷ []) t₂ t₃ → Writes (line_most w ns) (line w ns) t t₃
unfolding line
writes-line ns word numbers end = writes_then (writes_then word numbers) end

-- ---- the line of an element and of a link

element-joined : (d s : ℕ) → ascii "E" ++ (32 ∷ decimal d) ++ 32 ∷ [] ++ hexadecimal (2 * set_size) s ++ 10 ∷ [] ≡ element_line d s
unfolding element_line spaced
element-joined d s = ap (λ (b : Bytes). ascii "E" ++ b ++ 32 ∷ [] ++ hexadecimal (2 * set_size) s ++ 10 ∷ []) (sym (append-nil (32 ∷ decimal d)))

pub writes-element : (d s : ℕ) {t t₁ t₂ t₃ t₄ t₅ : Text} → Writes 1 (ascii "E") t t₁ → Writes 11 (32 ∷ decimal d) t₁ t₂
    → Writes 1 (32 ∷ []) t₂ t₃
    → Writes (2 * set_size) (hexadecimal (2 * set_size) s) t₃ t₄ → Writes 1 (10 ∷ []) t₄ t₅ → Writes element_most (element_line d s) t t₅
writes-element d s x number space set end =
    writes_as (writes_then (writes_then (writes_then (writes_then x number) space) set) end) (element-joined d s) (omega arith)

pub writes-link : (links : Bytes) (i : ℕ) {from role to : ℕ} {t t' : Text} → from ≡ (link_at links i).from → role ≡ (link_at links i).role
    → to ≡ (link_at links i).to → Writes 35 (line (ascii "L") (from ∷ role ∷ to ∷ [])) t t' → Writes 35 (link_line (link_at links i)) t t'
unfolding link_line
writes-link links i f r e w = writes_as w (cc) (omega arith)

-- ---- the lines of an answer

pub writes-used : (n : Numbers) {t t' : Text} → Writes 38 (line (ascii "USED") (n.nodes ∷ n.edges ∷ n.alternatives ∷ [])) t t'
    → Writes 38 (used_line n) t t'
unfolding used_line
writes-used n w = w

pub writes-can : (n : Numbers) (elements links : Bytes) {t t₁ t₂ t₃ t₄ : Text}
    → Writes 26 (line (ascii "CAN") (n.elements ∷ n.links ∷ [])) t t₁ → Writes 38 (used_line n) t₁ t₂
    → Writes (element_most * n.elements) (element_lines elements n.elements) t₂ t₃
    → Writes (35 * n.links) (link_lines links n.links) t₃ t₄
    → Writes (64 + element_most * n.elements + 35 * n.links) (can_lines n elements links) t t₄
unfolding can_lines
writes-can n elements links head used es ls = writes_then (writes_then (writes_then head used) es) ls

pub writes-cannot : (n : Numbers) {t t₁ t₂ : Text} → Writes 7 (line (ascii "CANNOT") []) t t₁ → Writes 38 (used_line n) t₁ t₂
    → Writes 64 (cannot_lines n) t t₂
unfolding cannot_lines
writes-cannot n head used = writes_as (writes_then head used) refl (omega arith)

-- with whatever counts stand after the number
pub writes-refused : (n : Numbers) {counts : List ℕ} {most : ℕ} {t t' : Text} → refusal_counts n ≡ counts → most ≤ 64
    → Writes most (line (ascii "REFUSED") (n.refusal ∷ counts)) t t' → Writes 64 (refused_line n) t t'
unfolding refused_line
writes-refused n e few w = writes_as w (ap (λ (k : List ℕ). line (ascii "REFUSED") (n.refusal ∷ k)) (sym e)) (omega (arith, few))

-- ---- which lines are printed

module _ (n : Numbers) (elements links : Bytes) where
  abbrev printed_by : Bool → Bool → Bytes
  printed_by can' cannot' =
      elim can' [ true ↦ can_lines n elements links | false ↦ elim cannot' [ true ↦ cannot_lines n | false ↦ refused_line n ] ]

  pub printed-can : n.verdict ≡ 1 → can_lines n elements links ≡ printed n elements links
  unfolding printed
  printed-can e = sym (ap (λ (b : Bool). printed_by b (eqb n.verdict 2)) (eq-eqb n.verdict 1 e))

  pub printed-cannot : n.verdict ≡ 2 → cannot_lines n ≡ printed n elements links
  unfolding printed
  printed-cannot e = sym (ap₂ printed_by (ne_eqb n.verdict 1 (λ f. omega arith)) (eq-eqb n.verdict 2 e))

  pub printed-refused : (n.verdict ≡ 1 → ⊥) → (n.verdict ≡ 2 → ⊥) → refused_line n ≡ printed n elements links
  unfolding printed
  printed-refused e f = sym (ap₂ printed_by (ne_eqb n.verdict 1 e) (ne_eqb n.verdict 2 f))
