-- What the functions of the engine's call ask and give; what the call itself promises is in run's Promise.
--
-- In order: the numbers of a decision; the answer to an accepted file and the rows that are wanted of it.
use Rattle.std.specs.Prelude.{◌≡◌, List, ℕ, Ok, Err}
use Rattle.concepts.specs.Lists.{Bytes}
use Rattle.run.specs.Run.{Areas, lengths, Numbers, verdict_with, short_with, too_long_with, numbers, answer_for, areas_after}
use Rattle.graph.specs.Graphs.{area_of}
use Rattle.conclusion.specs.Clauses.{used_of, Outcome}
use Rattle.conclusion.specs.declared.Decision.TheVariants.{Cannot, Can}
use Rattle.conclusion.specs.declared.Shortage.TheVariants.{NoPlace, TooLong}

-- ---- numbers

abbrev pub decided_numbers : Outcome → Numbers
decided_numbers (Err (NoPlace p n)) = short_with (area_of p) n
decided_numbers (Ok (Cannot c)) = verdict_with 2 (used_of c) 0 0
decided_numbers (Ok (Can c s)) = verdict_with 1 (used_of c) s.elements s.links
decided_numbers (Err (TooLong s)) = too_long_with s.elements s.links

-- ---- the answer

-- demands 1 and 2: the numbers and the areas are those of the definition
pub record Answered (wanted : List ℕ) (file : Bytes) (before : Areas) (r : Numbers) (after : Areas) : Type 0 where
  pub numbers_are : r ≡ numbers (answer_for wanted file (lengths before))
  pub areas_are : after ≡ areas_after (answer_for wanted file (lengths before)) before
