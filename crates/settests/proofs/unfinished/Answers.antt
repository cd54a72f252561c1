-- `settests::unfinished` meets its contract, by those of the two searches.
use Rattle.std.proofs.Common.{◌≡◌, ℕ, Option, Some, None, Bool, true, false, ◌||◌, refl, sym, ap, ◌∙◌}
use Rattle.std.specs.Option.{is_some}
use Rattle.procedure.specs.SetTests as SetTests
use Rattle.procedure.specs.SetTests.{unfinished}
use Rattle.settests.proofs.unfinished.Goals as goal

same : (o : Option (ℕ × ℕ)) → is_some o ≡ SetTests.is_some o
same None = refl
same (Some x) = refl

early : (a b : Bool) → a ≡ true → true ≡ (a || b)
early a b e = rw e

late : (a b : Bool) → a ≡ false → b ≡ (a || b)
late a b e = rw e

pub returns-then-is_some : goal.returns-then-is_some
unfolding unfinished
returns-then-is_some c =
    c.if-is_some.true
    ∙ early _ _ (sym (ap SetTests.is_some c.lowest_conj.ensures) ∙ sym (same c.lowest_conj.result) ∙ sym c.is_some.ensures ∙ c.if-is_some.true)

pub returns-else-is_some : goal.returns-else-is_some
unfolding unfinished
returns-else-is_some c =
    c.is_some-else-is_some.ensures ∙ same c.lowest_disj.result ∙ ap SetTests.is_some c.lowest_disj.ensures
    ∙ late _ _ (sym (ap SetTests.is_some c.lowest_conj.ensures) ∙ sym (same c.lowest_conj.result) ∙ sym c.is_some.ensures ∙ c.if-is_some.false)
