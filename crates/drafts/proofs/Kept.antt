-- The converter's promise is kept by whoever answers what the definition answers and leaves the area as the definition leaves it.
--
-- In order: what comes of a draft, by its reading; the numbers of refusals; the promise.
use mathlib.Core.Path.{◌≡◌, refl, sym, ap, ◌∙◌, subst}
use mathlib.Core.Bool.{Bool, true, false}
use mathlib.Core.Logic.{◌⊎◌, inl, inr}
use Prim.Native.Nat.{ℕ}
use native.Mathlib.Omega.{arith}
use lib.ListN.{length, drop}
use lib.Seq.{take_at}
use Rattle.concepts.specs.Lists.{Bytes}
use Rattle.rulefile.specs.Format.{wanted_rows, RuleFile, Reading, refused, accepted, reading}
use Rattle.rulefile.specs.Checks.{FileRefusal}
use Rattle.rulefile.specs.CheckLaws.{refused-number, accepted-contents}
use Rattle.rulefile.proofs.FormatLaws.{accepted-admitted}
use Rattle.decoding.specs.Decoding.{draft_kinds}
use Rattle.drafts.specs.Normalize.{normalized}
use Rattle.drafts.specs.Encoding.{file_bytes}
use Rattle.drafts.proofs.EncodingLaws.{written_back}
use Rattle.drafts.specs.Conversion.{draft_reading, Conversion, refused_with, too_large, written_or, conversion_of, conversion, numbers, area_after}
use Rattle.drafts.specs.Promise.{ConversionRight, ConversionPromise}
use Rattle.drafts.proofs.Normalized.{normalized-writable, normalized-keeps}

-- ---- what comes of a draft, by its reading

pub conversion-refused : (draft : Bytes) (room n : ℕ) → draft_reading draft ≡ refused n → conversion draft room ≡ refused_with n
unfolding conversion conversion_of
conversion-refused draft room n e = ap (conversion_of room) e

pub conversion-accepted : (draft : Bytes) (room : ℕ) (d : RuleFile) → draft_reading draft ≡ accepted d
    → conversion draft room ≡ written_or (too_large room (normalized d)) (normalized d)
unfolding conversion conversion_of
conversion-accepted draft room d e = ap (conversion_of room) e

-- ---- the numbers of refusals

-- 1 to 8 or 16 by a check of the draft, and 12; 0 with a file. 9 is not used again (02, [3])
abbrev pub ConversionRefusal : ℕ → Type 0
ConversionRefusal n = (n ≡ 0) ⊎ (FileRefusal n ⊎ (n ≡ 12))

pub conversion-refusal : (draft : Bytes) (room : ℕ) → ConversionRefusal (numbers (conversion draft room)).refusal
unfolding conversion conversion_of written_or numbers
conversion-refusal draft room = go (draft_reading draft) refl
  where
    by_size : (large : Bool) (f : RuleFile) → ConversionRefusal (numbers (written_or large f)).refusal
    by_size true f = inr (inr refl)
    by_size false f = inl refl

    go : (r : Reading) → draft_reading draft ≡ r → ConversionRefusal (numbers (conversion_of room r)).refusal
    go (refused n) e = inr (inl (refused-number draft_kinds (wanted_rows draft) draft n e))
    go (accepted d) e = by_size (too_large room (normalized d)) (normalized d)

-- ---- the promise

refused-kept : (draft before : Bytes) (n : ℕ) → draft_reading draft ≡ refused n
    → (numbers (conversion draft (length before)) ≡ record { refusal = n; length = 0 }) × (area_after (conversion draft (length before)) before ≡ before)
unfolding numbers area_after
refused-kept draft before n e =
    let q = conversion-refused draft (length before) n e in
    (ap numbers q, ap (λ (c : Conversion). area_after c before) q)

module _ (d : RuleFile) (draft before : Bytes) (e : draft_reading draft ≡ accepted d) where
  by_size : (large : Bool) → too_large (length before) (normalized d) ≡ large
      → ConversionRight d before (numbers (written_or large (normalized d))) (area_after (written_or large (normalized d)) before)
  unfolding numbers area_after written_or
  by_size true q = record {
    too_large = (λ x. rw q tt, λ x. refl);
    no_other = λ n. absurd (n refl);
    result = λ x. absurd (omega (arith, x));
  }
  by_size false q =
      let A = accepted-admitted draft_kinds (wanted_rows draft) draft d e in
      let one = ap (λ (k : RuleFile). length k.wanted) (accepted-contents draft_kinds (wanted_rows draft) draft d e) in
      let f = normalized d in
      let bytes = file_bytes f in
      record {
        too_large = (λ x. absurd (omega (arith, x)), λ x. absurd (rw q at x));
        no_other = λ n. refl;
        result = λ x. (
          f,
          ap reading (take_at bytes (drop (length bytes) before) (length bytes) refl)
              ∙ written_back f (normalized-writable d A one (length before) q),
          normalized-keeps d A,
        );
      }

  right_kept : ConversionRight d before (numbers (conversion draft (length before))) (area_after (conversion draft (length before)) before)
  right_kept =
      subst (λ (c : Conversion). ConversionRight d before (numbers c) (area_after c before)) (sym (conversion-accepted draft (length before) d e))
      (by_size (too_large (length before) (normalized d)) refl)

pub promise-kept : (draft before : Bytes) → ConversionPromise draft before (numbers (conversion draft (length before)))
    (area_after (conversion draft (length before)) before)
promise-kept draft before = record {
  numbers_are = refl;
  area_is = refl;
  refusal = refused-kept draft before;
  right = λ d e. right_kept d draft before e;
}
