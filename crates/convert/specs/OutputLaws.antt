-- Laws of Output.
--
-- In order: what is known of every conversion; a file is written; a refusal is written; how much of a draft is read.
use Rattle.std.specs.Prelude.{◌≡◌, refl, Bool, true, false, ◌||◌, [], ◌∷◌, ℕ, ◌≤◌, ◌<◌, ltb, take, drop}
use Rattle.std.proofs.Common.{sym, ◌∙◌, arith, ltb-false}
use Rattle.std.proofs.Math.Path.{ap}
use Rattle.std.proofs.Math.ListN.{length, length-append}
use Rattle.std.proofs.Math.Seq.{take_at}
use Rattle.concepts.specs.Lists.{Bytes}
use Rattle.concepts.specs.Tests.{or-neither}
use Rattle.decoding.specs.Decoding.{draft_kinds}
use Rattle.rulefile.specs.Format.{wanted_rows, most_rows, RuleFile, Reading, refused, accepted}
use Rattle.rulefile.specs.CheckLaws.{refused-positive}
use Rattle.run.specs.Printed.{ascii, line}
use Rattle.run.proofs.ProgramLaws.{reading-take}
use Rattle.drafts.specs.Normalize.{normalized}
use Rattle.drafts.specs.Encoding.{file_bytes}
use Rattle.drafts.specs.Conversion.{draft_reading, Conversion, refused_with, written, too_large, written_or, conversion_of, conversion}
use Rattle.drafts.specs.Conversion.{ConversionNumbers, numbers, area_after}
use Rattle.drafts.specs.Promise.{ConversionPromise}
use Rattle.printing.specs.Printing.{Wrote}
use Rattle.printing.specs.PrintingLaws.{wrote-size, wrote-start}
use Rattle.convert.specs.Output.{output_of, output, Outputs}

-- ---- what is known of every conversion

-- a refusal has a number, and a file has room
abbrev Sound : ℕ → Conversion → Type 0
Sound room (refused_with n) = 0 < n
Sound room (written b) = length b ≤ room

conversion-sound : (draft : Bytes) (room : ℕ) → Sound room (conversion draft room)
unfolding conversion conversion_of too_large written_or
conversion-sound draft room = go (draft_reading draft) refl
  where
    fits : (f : RuleFile) (large : Bool) → too_large room f ≡ large → Sound room (written_or large f)
    fits f true e = omega arith
    fits f false e =
        let bytes = length (file_bytes f) in
        let (few, fit) = or-neither (ltb most_rows (length f.table)) (ltb 4096 bytes || ltb room bytes) e in
        ltb-false room bytes (or-neither (ltb 4096 bytes) (ltb room bytes) fit).1

    go : (r : Reading) → draft_reading draft ≡ r → Sound room (conversion_of room r)
    go (refused n) e = refused-positive draft_kinds (wanted_rows draft) draft n e
    go (accepted d) e = fits (normalized d) (too_large room (normalized d)) refl

-- ---- a file is written

module _ {draft before : Bytes} {r : ConversionNumbers} {after : Bytes} (P : ConversionPromise draft before r after) (room : length before ≡ 4096) where
  pub outputs-file : r.refusal ≡ 0 → Outputs draft after r.length
  unfolding output output_of numbers area_after
  outputs-file none =
      let (within, output_is) = go (conversion draft (length before)) (conversion-sound draft (length before)) P.numbers_are P.area_is in
      record { within = within; output_is = output_is ∙ ap (λ (m : ℕ). output_of (conversion draft m)) room }
    where
      go : (k : Conversion) → Sound (length before) k → r ≡ numbers k → after ≡ area_after k before
          → (r.length ≤ length after) × (take r.length after ≡ output_of k)
      go (refused_with n) s e a = let z : r.refusal ≡ n = ap (λ (x : ConversionNumbers). x.refusal) e in absurd (omega arith)
      go (written b) s e a =
          let l : r.length ≡ length b = ap (λ (x : ConversionNumbers). x.length) e in (
            omega (arith, ap length a ∙ length-append b (drop (length b) before)),
            ap (take r.length) a ∙ take_at b (drop (length b) before) r.length (sym l),
          )

  -- ---- a refusal is written

  pub outputs-refused : {area : Bytes} {count : ℕ} → (r.refusal ≡ 0 → ⊥) → length after ≡ 4096
      → Wrote 19 (line (ascii "REFUSED") (r.refusal ∷ [])) after 0 area count → Outputs draft area count
  unfolding output output_of numbers
  outputs-refused {area} {count} some length-after w =
      let within : count ≤ length after = omega (arith, w.after, w.bounded) in
      record {
        within = omega (arith, wrote-size w);
        output_is = wrote-start w within ∙ go (conversion draft (length before)) P.numbers_are ∙ ap (λ (m : ℕ). output_of (conversion draft m)) room;
      }
    where
      go : (k : Conversion) → r ≡ numbers k → line (ascii "REFUSED") (r.refusal ∷ []) ≡ output_of k
      go (refused_with n) e = ap (λ (x : ConversionNumbers). line (ascii "REFUSED") (x.refusal ∷ [])) e
      go (written b) e = absurd (some (ap (λ (x : ConversionNumbers). x.refusal) e))

-- ---- how much of a draft is read

-- a draft longer than 4,096 bytes is refused by its length, whatever comes after 4,097 of them
pub output-take : (b : Bytes) → output (take 4097 b) ≡ output b
unfolding output conversion
output-take b = ap (λ (r : Reading). output_of (conversion_of 4096 r)) (reading-take draft_kinds b)
