-- The first four checks, and those behind them.
--
-- In order: what a file is like that passed the first checks, long enough to have a trailer, and filled by its parts; the refusal goes by the first four
-- checks, and where these pass by the others.
use Rattle.std.specs.Prelude.{◌≡◌, false, List, [], ◌∷◌, ℕ, zero, suc, ◌≤◌, length, take, drop, Option, None, Some}
use Rattle.std.proofs.Common.{refl, ◌∙◌, arith, not-suc-le-zero}
use Rattle.concepts.specs.Lists.{Bytes, first}
use Rattle.concepts.specs.ListLaws.{NoneBelow-suc}
use Rattle.decoding.specs.Decoding.{Kinds, rule_kinds}
use Rattle.rulefile.specs.Format.{bad_length, bad_mark, bad_counts, bad_place, checks, answer_of, refusal_by, refusal_for}
use Rattle.rulefile.specs.Checks.{Parted, Passed, refuses_at}
use Rattle.rulefile.specs.CheckLaws.{long, parted}

module _ (b : Bytes) where
  first_passed : bad_length b ≡ false → Passed rule_kinds [] b 1
  unfolding checks
  first_passed e = NoneBelow-suc (refuses_at rule_kinds [] b) 0 (λ k h. absurd (not-suc-le-zero h)) e

  pub long_passed : bad_length b ≡ false → 8 ≤ length b
  long_passed e = long rule_kinds [] b (first_passed e) (omega arith)

  pub parted_passed : bad_length b ≡ false → bad_mark b ≡ false → bad_counts b ≡ false → bad_place b ≡ false → Parted b
  unfolding checks
  parted_passed e₁ e₂ e₃ e₄ =
      let next = NoneBelow-suc (refuses_at rule_kinds [] b) in
      parted rule_kinds [] b (next 3 (next 2 (next 1 (first_passed e₁) e₂) e₃) e₄) (omega arith)

-- for the tactics
pub ruleset passed = (long_passed, parted_passed)

abbrev else : {B : Type 0} → Option B → Option B → Option B
else o p = elim o [ None ↦ p | Some y ↦ Some y ]

first_split : {A B : Type 0} (f : A → Option B) (n : ℕ) (xs : List A) → first f xs ≡ else (first f (take n xs)) (first f (drop n xs))
unfolding first
first_split f zero xs = refl
first_split f (suc n) [] = refl
first_split f (suc n) (x ∷ xs) = of _ _ (f x) (first_split f n xs)
  where
    of : {B : Type 0} {p : Option B} (q r : Option B) (o : Option B) → p ≡ else q r → else o p ≡ else (else o q) r
    of q r None e = e
    of q r (Some y) e = refl

module _ (kinds : Kinds) (wanted : List ℕ) (b : Bytes) where
  refusal_split : refusal_for kinds wanted b ≡ else (refusal_by (take 4 (checks kinds wanted)) b) (refusal_by (drop 4 (checks kinds wanted)) b)
  unfolding refusal_for
  refusal_split = first_split (answer_of b) 4 (checks kinds wanted)

  pub refused_early : {n : ℕ} → refusal_by (take 4 (checks kinds wanted)) b ≡ Some n → refusal_for kinds wanted b ≡ Some n
  refused_early e = refusal_split ∙ rw e

  pub refused_late : refusal_by (take 4 (checks kinds wanted)) b ≡ None → refusal_for kinds wanted b ≡ refusal_by (drop 4 (checks kinds wanted)) b
  refused_late e = refusal_split ∙ rw e
