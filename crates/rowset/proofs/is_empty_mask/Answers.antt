-- `rowset::is_empty_mask` meets its contract: the mask is empty if each word is.
use Rattle.std.proofs.Common.{◌≡◌, ◌+◌, ℕ, rules, refl, get_or, arith}
use Rattle.std.proofs.lemmas.Iterator.{cases_from_all, YieldsList-from_range}
use borrow.Author.Tests.{tests}
use Rattle.rowset.specs.JoinedLaws.{all_words}
use Rattle.rowset.specs.NextLaws.{mask-none, mask-some}
use Rattle.rowset.proofs.is_empty_mask.Goals as goal

pub returns : goal.returns
returns c =
    let a = c.args in
    let Empty : ℕ → Type 0 = λ j. get_or a.ws.now (a.at + j) 0 ≡ 0 in
    all_words c.all.result _
    (cases_from_all _ _ _ Empty (λ j. ¬ Empty j) c.all.ensures.ran (YieldsList-from_range 0 a.n a.n refl (omega arith))
    (λ j q k. search (rules, tests)) (λ j q k. search (rules, tests)))
    (mask-none a.ws.now a.at a.n)
    (λ j l d. mask-some a.ws.now (λ i. omega (arith, c.type_inv.ws i)) a.at a.n j l d)
