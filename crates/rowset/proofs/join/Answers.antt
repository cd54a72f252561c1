-- `rowset::join` meets its contract: each word is the union of two.
use Rattle.std.proofs.Common.{ap, ◌∙◌, ℕ, List, rules, arith}
use Rattle.concepts.specs.RowSet.{union}
use Rattle.rowset.specs.Joined.{set_at}
use Rattle.rowset.specs.ByteLaws.{AreBytes}
use Rattle.rowset.specs.WriteLaws.{made-words, put-union, set-union}
use Rattle.rowset.proofs.join.Goals as goal

pub returns : goal.returns
unfolding union
returns c =
    let a = c.args in
    let hb : AreBytes a.b.now = λ i. omega (arith, c.slice_known-1.given i) in
    let hc : AreBytes a.c.now = λ i. omega (arith, c.type_inv.c i) in
    let put = made-words c.put_words.ensures (λ j v l e. search rules) ∙ put-union a.b.now a.c.now hb hc a.at a.there a.n in
    (put, ap (λ (x : List ℕ). set_at x a.at a.n) put ∙ set-union a.b.now a.c.now hb hc a.at a.there a.n (omega arith))
