-- `decoder::word_of` meets its contract: the invariant is that the word so far and that of what is left of the list make the whole word.
use Rattle.std.proofs.Common.{◌≡◌, drop}
use Rattle.concepts.specs.RowSet.{union, from_list}
use Rattle.rowset.specs.WordOf.{word_of}
use Rattle.decoder.proofs.word_of.Given as goal

abbrev pub invariant-loop-row : goal.invariant-loop-row
invariant-loop-row l = union l.word (word_of (from_list (drop l.row-index l.list)) l.j) ≡ word_of (from_list l.list) l.j
