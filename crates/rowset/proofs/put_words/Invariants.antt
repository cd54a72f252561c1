-- `rowset::put_words` meets its contract: the invariant is that the words passed are made and written.
use Rattle.rowset.specs.Joined.{WordsMaking}
use Rattle.rowset.proofs.put_words.Given as goal

abbrev pub invariant-loop-j : goal.invariant-loop-j
invariant-loop-j g l = WordsMaking (goal.F-post g l.f) l.initial.b l.at l.n l.b l.j
