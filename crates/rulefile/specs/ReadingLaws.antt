-- Laws of a reading: the text as a leading part of the file; a file that is too short; files without an inclusion.
use Rattle.std.specs.Prelude.{◌≡◌, refl, Bool, false, eqb, ltb, length, take, Option, None, Some}
use Rattle.std.proofs.Common.{sym, ap, ◌∙◌, arith, lt→ltb, lt-ltb}
use Rattle.std.proofs.Math.Path.{ap₂}
use Rattle.std.proofs.Math.Bool.{◌||◌}
use mathlib.Core.List.{List, []}
use Prim.Native.Nat.{ℕ, ◌≤◌, ◌<◌}
use Rattle.std.proofs.Math.Decide.{dec_lt}
use Rattle.std.proofs.Math.Dec.{ltb→lt, not_T}
use Rattle.concepts.specs.Tests.{as-true, as-false}
use Rattle.concepts.specs.Lists.{Bytes, range}
use Rattle.concepts.specs.ListLaws.{take-length-take, any_none, none-any-range}
use Rattle.concepts.specs.Concept.{arguments}
use Rattle.rulefile.specs.Format.{first_row, row_count, rule_count, wanted_rows, row_byte, concept_in, rule}
use Rattle.rulefile.specs.Format.{inclusion_at, inclusion_named, some_inclusion, inclusion_serves}
use Rattle.rulefile.specs.Format.{bad_length, checks, refusal_for, RuleFile, contents_for, Reading, refused, accepted}
use Rattle.rulefile.specs.Format.{reading_for, reading_of, text_for, text_of}
use Rattle.decoding.specs.Decoding.{Kinds}
use Rattle.rulefile.specs.CheckLaws.{reading-refused}

module _ (kinds : Kinds) (wanted : List ℕ) (b : Bytes) where
  -- ---- the text

  pub text-refused : (n : ℕ) → reading_for kinds wanted b ≡ refused n → text_for kinds wanted b ≡ []
  unfolding text_for
  text-refused n e = rw (e, text_for)

  pub text-accepted : (f : RuleFile) → reading_for kinds wanted b ≡ accepted f → text_for kinds wanted b ≡ f.text
  unfolding text_for
  text-accepted f e = rw (e, text_for)

  -- the text is a leading part of the file
  pub take-text_for : take (length (text_for kinds wanted b)) b ≡ text_for kinds wanted b
  unfolding text_for reading_for
  take-text_for = of (refusal_for kinds wanted b)
    where
      text : Option ℕ → Bytes
      text o = elim (elim o as (λ x. Reading) [
        | Some n ↦ refused n
        | None ↦ accepted
            (contents_for kinds wanted b)
      ]) [ refused n ↦ [] | accepted f ↦ f.text ]

      of : (o : Option ℕ) → take (length (text o)) b ≡ text o
      of (Some n) = refl
      of None = take-length-take (first_row b) b

-- ---- a file that is too short

-- it is refused, whichever rows are wanted
pub reading-short : (kinds : Kinds) (wanted : List ℕ) (b : Bytes) → length b < 8 → reading_for kinds wanted b ≡ refused 1
unfolding checks bad_length
reading-short kinds wanted b h =
    reading-refused kinds wanted b 0 (omega arith) (λ k l. absurd (omega arith))
    (ap (λ (x : Bool). x || ltb 4096 (length b)) (lt-ltb (length b) 8 h))

-- the rows that are lent to `read_for` are the file's own, or the file has none
pub reading-own : (kinds : Kinds) {wanted : List ℕ} (b : Bytes) → (8 ≤ length b → wanted ≡ wanted_rows b)
    → reading_for kinds wanted b ≡ reading_of kinds b
reading-own kinds {wanted} b own = elim (dec_lt (length b) 8) [
  | yes h ↦ reading-short kinds wanted b h ∙ sym (reading-short kinds (wanted_rows b) b h)
  | no n ↦ ap (λ (v : List ℕ). reading_for kinds v b) (own (omega arith))
]

-- and so has the same text
pub text-own : (kinds : Kinds) {wanted : List ℕ} (b : Bytes) → (8 ≤ length b → wanted ≡ wanted_rows b) → text_for kinds wanted b ≡ text_of kinds b
unfolding text_for
text-own kinds b own = ap (λ (r : Reading). elim r as (λ _. Bytes) [ refused n ↦ [] | accepted f ↦ f.text ]) (reading-own kinds b own)

-- ---- inclusions

module _ (b : Bytes) where
  -- by the kind of a row; past the rows there is none
  pub inclusion-row : (k : ℕ) → k < row_count b → inclusion_at b k ≡ eqb (row_byte b k 0) 7
  unfolding inclusion_at
  inclusion-row k h = rw (as-true (ltb k (row_count b)) (lt→ltb k (row_count b) h))

  pub inclusion-past : (k : ℕ) → row_count b ≤ k → inclusion_at b k ≡ false
  unfolding inclusion_at
  inclusion-past k h = rw (as-false (ltb k (row_count b)) (not_T (ltb k (row_count b)) (λ t. omega (arith, ltb→lt k (row_count b) t))))

  -- where no row is of kind 7, none serves
  no-inclusion : some_inclusion b ≡ false → (k : ℕ) → inclusion_at b k ≡ false
  no-inclusion e k = elim (dec_lt k (row_count b)) [
    | yes h ↦ none-any-range (inclusion_at b) (row_count b) e k h
    | no n ↦ inclusion-past k (omega arith)
  ]

  pub none-serves : (kinds : Kinds) (wanted : List ℕ) → some_inclusion b ≡ false → inclusion_serves kinds wanted b ≡ false
  unfolding inclusion_serves inclusion_named
  none-serves kinds wanted e =
      ap₂ ◌||◌ (any_none (inclusion_named kinds b) (range 0 (row_count b)) (λ k _. any_none (inclusion_at b) (arguments (concept_in kinds b k))
      (λ l _. no-inclusion e l)))
      (ap₂ ◌||◌ (any_none (λ i. inclusion_at b (rule b i)) (range 0 (rule_count b)) (λ i _. no-inclusion e (rule b i)))
      (any_none (inclusion_at b) wanted (λ k _. no-inclusion e k)))
