-- `rowset::put_low` meets its contract: all words but the lowest are empty.
use Rattle.std.proofs.Common.{◌∙◌, rules, arith}
use Rattle.rowset.specs.WriteLaws.{made-words, put_low}
use Rattle.rowset.proofs.put_low.Goals as goal

pub returns : goal.returns
returns c =
    let a = c.args in
    made-words c.put_words.ensures (λ j v l e. search rules) ∙ put_low a.b.now a.at a.w a.n (omega arith) c.requires.0
