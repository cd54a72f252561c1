-- `evaluation::begin_at` meets its contract: each word is that of the rows of kinds 1 and 2.
use Rattle.std.proofs.Common.{◌∙◌, rules, arith}
use Rattle.rowset.specs.ByteLaws.{AreBytes}
use Rattle.rowset.specs.WriteLaws.{made-words}
use Rattle.evaluation.specs.LiteralCases.{literals-written}
use Rattle.evaluation.proofs.begin_at.Goals as goal

pub returns : goal.returns
returns c =
    let a = c.args in
    let bytes : AreBytes a.elements.now = λ i. omega (arith, c.slice_known-1.given i) in
    made-words c.put_words.ensures (λ j v l e. search rules) ∙ literals-written c.requires.0 a.elements.now bytes a.at c.word-names.ensures
