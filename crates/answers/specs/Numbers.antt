-- The engine's answer as the numbers of the whole run (Run: "the answer's numbers").
-- Assumes nothing.
use Rattle.run.specs.Run.{Numbers}
use Rattle.answers.specs.declared.Answer.{Answer}

abbrev pub numbers_of : Answer → Numbers
numbers_of a = record {
  verdict = a.verdict;
  refusal = a.refusal;
  nodes = a.nodes;
  edges = a.edges;
  alternatives = a.alternatives;
  elements = a.elements;
  links = a.links;
  lent = a.lent;
}
