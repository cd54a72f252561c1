-- What an `any` of std answers in the words of Lists: over the numbers below n (`any-range`) and over a list (`any-slice`).
use Rattle.std.specs.Prelude.{◌≡◌, Bool, true, false, List, [], ◌∷◌, ℕ, zero, suc, ◌||◌, ◌+◌, Option}
use Rattle.std.specs.List.{list_any, range_with_len, FoldsTo}
use Rattle.std.specs.Fn.{Called}
use Rattle.std.specs.Iterator.{YieldsThen}
use Rattle.std.specs.Option.{MatchOption}
use Rattle.std.specs.Slice.Iter.{iter_rest}
use Rattle.std.specs.declared.ops.Range.{Range}
use Rattle.std.specs.declared.slice.Iter.{Iter}
use denote.Param.Members.{Mut}
use denote.Ref.{Bor}
use Rattle.std.proofs.iter.Yields.{fronts, nat_range_steps}
use Rattle.std.proofs.Common.{refl, ap, ◌∙◌, add-one, arith}
use Rattle.std.proofs.lemmas.Iterator.{YieldsList-from_range, YieldsList-from_slice}
use Rattle.std.proofs.lemmas.Iterator.Search.{any_from_yields_List}
use Rattle.concepts.specs.Lists.{any, range}

list_any-is : (f : ℕ → Bool) (xs : List ℕ) → list_any f xs ≡ any f xs
unfolding any
list_any-is f [] = refl
list_any-is f (x ∷ xs) = ap (λ (b : Bool). f x || b) (list_any-is f xs)

range-is : (i n : ℕ) → range_with_len i n ≡ range i n
unfolding range
range-is i zero = refl
range-is i (suc n) = ap (λ (xs : List ℕ). i ∷ xs) (range-is (i + 1) n ∙ ap (λ (j : ℕ). range j n) (add-one i))

-- what `any` says of its calls of a test f that answers r: f was false at each item before the one that it ended at
abbrev Ran : {S A F : Type 0} → (S → Option A → S → Type 0) → Mut F (A × Unit {0}) Bool → S → F → Bool → S → Type 0
Ran {S} {A} {F} steps g s f r u =
    (xs : List A) × (o : Option A) × (j : F) × YieldsThen steps s xs o u × FoldsTo (λ p x q. Called g p (x, tt) false q) f xs j
    × MatchOption o (r ≡ false) (λ x. (r ≡ true) × ((h : F) × Called g j (x, tt) true h))

module _ {F : Type 0} {f : F} {r : Bool} (test : ℕ → Bool) where
  pub any-range : {g : Mut F (ℕ × Unit {0}) Bool} {u : Range ℕ} {m : ℕ} (n : ℕ) → m ≡ n
      → Ran nat_range_steps g (record { start = 0; end = m }) f r u
      → ((x : ℕ) (b : Bool) (q : F) → Called g f (x, tt) b q → (q ≡ f) × (b ≡ test x)) → r ≡ any test (range 0 n)
  any-range {u = u} {m = m} n e ran each =
      any_from_yields_List test u f r ran (YieldsList-from_range 0 m n refl (omega arith)) each
      ∙ list_any-is test (range_with_len 0 n) ∙ ap (any test) (range-is 0 n)

  pub any-slice : {g : Mut F (Bor ℕ × Unit {0}) Bool} {s u : Iter ℕ} (ys : List ℕ) → iter_rest s ≡ ys → Ran fronts g s f r u
      → ((x : Bor ℕ) (b : Bool) (q : F) → Called g f (x, tt) b q → (q ≡ f) × (b ≡ test x.now)) → r ≡ any test ys
  any-slice {u = u} ys e ran each = any_from_yields_List test u f r ran (YieldsList-from_slice ys e) each ∙ list_any-is test ys
