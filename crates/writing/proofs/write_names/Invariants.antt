-- `writing::write_names` meets its contract: the invariant is that the names of the elements below `d` are written over the area.
use Rattle.writing.specs.WritingLaws.{Naming}
use Rattle.writing.proofs.write_names.Given as goal

abbrev pub invariant-loop-d : goal.invariant-loop-d
invariant-loop-d l = Naming l.problem l.nodes l.count l.initial.elements l.d l.elements
