-- `rowset::copy` meets its contract: each word is that of the other set.
use Rattle.std.proofs.Common.{ap, ◌∙◌, ℕ, List, rules, arith}
use Rattle.rowset.specs.Joined.{set_at}
use Rattle.rowset.specs.ByteLaws.{AreBytes}
use Rattle.rowset.specs.WriteLaws.{made-words, set-put, set-fits, put_copy}
use Rattle.rowset.proofs.copy.Goals as goal

pub returns : goal.returns
returns c =
    let a = c.args in
    let hb : AreBytes a.b.now = λ i. omega (arith, c.slice_known-1.given i) in
    let hc : AreBytes a.c.now = λ i. omega (arith, c.type_inv.c i) in
    let put = made-words c.put_words.ensures (λ j v l e. search rules) ∙ put_copy a.b.now a.c.now hb hc a.at a.there a.n in (
      put,
      ap (λ (x : List ℕ). set_at x a.at a.n) put
          ∙ set-put a.b.now a.at a.n (set_at a.c.now a.there a.n) (omega arith) (set-fits a.c.now hc a.there a.n),
    )
