-- `rowset::cut` meets its contract: each word is one without the rows of the other.
use Rattle.std.proofs.Common.{ap, ◌∙◌, ℕ, List, rules, arith}
use Rattle.std.proofs.lemmas.Nat.{and_le_l}
use Rattle.std.proofs.iter.Serving.{serving}
use Rattle.concepts.specs.RowSet.{minus}
use Rattle.rowset.specs.Joined.{set_at}
use Rattle.rowset.specs.ByteLaws.{AreBytes}
use Rattle.rowset.specs.WriteLaws.{made-words, put-minus, set-minus}
use Rattle.rowset.proofs.cut.Goals as goal

pub returns : goal.returns
unfolding minus
returns c =
    let a = c.args in
    let hb : AreBytes a.b.now = λ i. omega (arith, c.slice_known-1.given i) in
    let hc : AreBytes a.c.now = λ i. omega (arith, c.type_inv.c i) in
    let put = made-words c.put_words.ensures (λ j v l e. search rules) ∙ put-minus a.b.now a.c.now hb hc a.at a.there a.n in
    (put, ap (λ (x : List ℕ). set_at x a.at a.n) put ∙ set-minus a.b.now a.c.now hb hc a.at a.there a.n (omega arith))

pub put_words-requires-clause-made : goal.put_words-requires-clause-made
put_words-requires-clause-made c j w l = grind (serving, and_le_l)
