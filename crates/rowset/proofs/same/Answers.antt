-- `rowset::same` meets its contract: the sets are the same if each word is.
use Rattle.std.proofs.Common.{◌≡◌, ℕ, rules, refl, arith}
use Rattle.std.proofs.lemmas.Iterator.{cases_from_all, YieldsList-from_range}
use borrow.Author.Tests.{tests}
use Rattle.rowset.specs.Joined.{word_at}
use Rattle.rowset.specs.JoinedLaws.{all_words}
use Rattle.rowset.specs.ByteLaws.{sets_same, sets-differ}
use Rattle.rowset.proofs.same.Goals as goal

pub returns : goal.returns
returns c =
    let a = c.args in
    let Same : ℕ → Type 0 = λ j. word_at a.b.now a.at j ≡ word_at a.c.now a.there j in
    all_words c.all.result _
    (cases_from_all _ _ _ Same (λ j. ¬ Same j) c.all.ensures.ran (YieldsList-from_range 0 a.n a.n refl (omega arith))
    (λ j q k. search (rules, tests)) (λ j q k. search (rules, tests)))
    (sets_same a.b.now a.c.now a.at a.there a.n)
    (λ j l d. sets-differ a.b.now a.c.now (λ i. omega (arith, c.type_inv.b i)) (λ i. omega (arith, c.type_inv.c i)) a.at a.there a.n j l d)
