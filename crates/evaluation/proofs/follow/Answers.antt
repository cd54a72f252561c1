-- `evaluation::follow` meets its contract: the row is put in or taken out where the argument tells more than is known.
use native.Mathlib.Omega.{arith}
use Rattle.words.specs.Sizes.{set_words}
use Rattle.evaluation.specs.LinkCases.{There, follow-changed, follow-same}
use Rattle.evaluation.proofs.follow.Goals as goal

pub mem-there-requires : goal.mem-there-requires
mem-there-requires c = omega (arith, c.requires.to, c.requires.argument)

pub put_row-requires : goal.put_row-requires
put_row-requires c = (c.requires.from, c.requires.row)

pub returns-then-there-all : goal.returns-then-there-all
returns-then-there-all c =
    let there : There c.args.elements.now c.args.e c.args.left c.mem-there.result = record { is = c.mem-there.ensures set_words c.requires.argument } in
    follow-changed c.args.d there c.if-there-all.true c.requires.row c.put_row.ensures

pub returns-else-there-all : goal.returns-else-there-all
returns-else-there-all c =
    let there : There c.args.elements.now c.args.e c.args.left c.mem-there.result = record { is = c.mem-there.ensures set_words c.requires.argument } in
    follow-same c.args.d there c.if-there-all.false
