-- The parts of an accepted file.
--
-- In order: what the reader answered; the layout; what the checks found; a file with its layout; its rows, rules and wanted row stand where the layout
-- says; its text.
use Rattle.std.specs.Prelude.{◌≡◌, refl, List, [], ◌∷◌, map, ℕ, ◌+◌, ◌-◌, ◌*◌, ◌≤◌, length, get_or, take, drop, None, Some, Ok, Err}
use Rattle.std.proofs.Common.{sym, ap, ◌∙◌, arith, length-take-le}
use Rattle.concepts.specs.Tests.{impossible}
use Rattle.concepts.specs.Lists.{Bytes, range}
use Rattle.concepts.specs.ListLaws.{map-get_or-range, length-map-range}
use Rattle.rulefile.specs.Format.{first_row, row_count, rule_count, wanted_rows, concept_in, rule, rules, rows_part, contents_for, Reading, refused, accepted}
use Rattle.rulefile.specs.Format.{refusal_for, reading_for, text_for}
use Rattle.decoding.specs.Decoding.{Kinds}
use Rattle.rulefile.specs.Checks.{Parted}
use Rattle.rulefile.specs.CheckLaws.{none_passed, reading-accepted, parted, accepted-contents, accepted-parted}
use Rattle.reader.specs.Read.{layout_of, trailer_layout, read_of, Placed, LaidFor}
use Rattle.rulefile.specs.ReadingLaws.{text-accepted, take-text_for}
use Rattle.reader.specs.declared.Layout.{Layout}

-- ---- what the reader answered

pub reads-refused : (kinds : Kinds) (wanted : List ℕ) (b : Bytes) (n : ℕ) → Err n ≡ read_of (reading_for kinds wanted b)
    → reading_for kinds wanted b ≡ refused n
unfolding read_of
reads-refused kinds wanted b n = of (reading_for kinds wanted b)
  where
    of : (r : Reading) → Err n ≡ read_of r → r ≡ refused n
    of (refused m) q = cc
    of (accepted f) q = impossible cc

pub reads-accepted : (kinds : Kinds) (wanted : List ℕ) (b : Bytes) (l : Layout) → Ok l ≡ read_of (reading_for kinds wanted b)
    → LaidFor kinds wanted b l
unfolding read_of
reads-accepted kinds wanted b l q = of (reading_for kinds wanted b) refl q
  where
    of : (r : Reading) → reading_for kinds wanted b ≡ r → Ok l ≡ read_of r → LaidFor kinds wanted b l
    of (refused m) e h = impossible cc
    of (accepted f) e h = record { file = f; reads = e; layout = cc }

-- ---- the layout

module _ (kinds : Kinds) (wanted : List ℕ) (b : Bytes) where
  pub layout-trailer : Parted b → layout_of (contents_for kinds wanted b) ≡ trailer_layout b
  layout-trailer p =
      let text : length (take (first_row b) b) ≡ first_row b = length-take-le (first_row b) b (omega (arith, p.parts)) in
      let rows : length (map (concept_in kinds b) (range 0 (row_count b))) ≡ row_count b = length-map-range (concept_in kinds b) 0 (row_count b) in
      let rules : length (map (rule b) (range 0 (rule_count b))) ≡ rule_count b = length-map-range (rule b) 0 (rule_count b) in
      rw (text, rows, rules)

-- ---- what the checks found

module _ (kinds : Kinds) (wanted : List ℕ) (b : Bytes) where
  pub read-refused : {n : ℕ} → refusal_for kinds wanted b ≡ Some n → read_of (reading_for kinds wanted b) ≡ Err n
  unfolding read_of reading_for
  read-refused e = rw (e, reading_for)

  pub checked-parted : refusal_for kinds wanted b ≡ None → Parted b
  checked-parted e = parted kinds wanted b (none_passed kinds wanted b e) (omega arith)

  pub read-accepted : refusal_for kinds wanted b ≡ None → read_of (reading_for kinds wanted b) ≡ Ok (trailer_layout b)
  unfolding read_of
  read-accepted e =
      ap read_of (reading-accepted kinds wanted b (none_passed kinds wanted b e)) ∙ ap Ok (layout-trailer kinds wanted b (checked-parted e))

-- ---- an accepted file

pub laid-placed : {kinds : Kinds} {wanted : List ℕ} {b : Bytes} {l : Layout} → LaidFor kinds wanted b l → Placed b l
laid-placed {kinds} {wanted} {b} L =
    let p = accepted-parted kinds wanted b L.file L.reads in
    record { parts = p; layout = L.layout ∙ ap layout_of (accepted-contents kinds wanted b L.file L.reads) ∙ layout-trailer kinds wanted b p }

-- ---- the parts

module _ {b : Bytes} {l : Layout} (P : Placed b l) where
  -- text, rows, rules and trailer fill the file
  pub whole : (l.text + 4 * l.rows + l.rules + 8 ≡ length b) × (length b ≤ 4096)
  whole = rw P.layout (P.parts.parts, P.parts.most)

  pub rows-part : take (4 * l.rows) (drop l.text b) ≡ rows_part b
  rows-part = rw P.layout

  pub rules-part : take l.rules (drop (l.text + 4 * l.rows) b) ≡ rules b
  rules-part = rw P.layout (sym (map-get_or-range b (first_row b + 4 * row_count b) (rule_count b) 0 (omega (arith, P.parts.parts))))

-- the file's own wanted row stands four bytes before the end
pub wanted-part : (b : Bytes) → 8 ≤ length b → take 1 (drop (length b - 4) b) ≡ wanted_rows b
unfolding range
wanted-part b least =
    let p : length b - 4 + 0 ≡ length b - 8 + 4 = omega (arith, least) in
    sym (map-get_or-range b (length b - 4) 1 0 (omega (arith, least))) ∙ ap (λ (k : ℕ). get_or b k 0 ∷ []) p

-- ---- the text

-- a leading part, as long as the layout says
module _ {kinds : Kinds} {wanted : List ℕ} {b : Bytes} {l : Layout} (L : LaidFor kinds wanted b l) where
  pub laid-text : take l.text (drop 0 b) ≡ text_for kinds wanted b
  laid-text =
      let t = text-accepted kinds wanted b L.file L.reads in
      let n : l.text ≡ length (text_for kinds wanted b) = ap (λ (k : Layout). k.text) L.layout ∙ ap length (sym t) in
      rw n (take-text_for kinds wanted b)

  pub laid-inside : 0 + l.text ≤ length b
  laid-inside = omega (arith, whole (laid-placed L))
