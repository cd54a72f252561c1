-- `decoder::put_list` meets its contract: the invariant is that the words so far are those of the list's set (`list_put`).
use Prim.Native.Nat.{◌+◌, ◌≤◌}
use Rattle.concepts.specs.RowSet.{from_list}
use Rattle.rowset.specs.WordOf.{word_of}
use Rattle.decoder.specs.Remade.{Remade}
use Rattle.decoder.proofs.put_list.Given as goal

abbrev pub invariant-loop-j : goal.invariant-loop-j
invariant-loop-j l = (l.j ≤ l.n) × Remade (λ i. l.at + i) l.j (λ i _. word_of (from_list l.list) i) l.initial.out l.out
