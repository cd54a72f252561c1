-- Other wanted rows, or other rules, in the words of a problem (02, [7] and [11]). Laws are in WantLaws.
--
-- In order: the rows that may serve; a problem with other wanted rows, and with other rules; words that stand for a problem; words of the same rows.
use Rattle.std.specs.Prelude.{◌≡◌, ℕ, ◌<◌, length}
use mathlib.Core.List.{List, Memᴰ}
use Rattle.concepts.specs.Concept.{Table, NoInclusion}
use Rattle.concepts.specs.RowSet.{RowSet}
use Rattle.procedure.specs.Problem.{Problem}
use Rattle.problem.specs.Decoded.{table_of, problem_of, Decoded}

-- row k of the table may be wanted, and be a rule: it is a row and no inclusion
abbrev pub MayServe : Table → ℕ → Type 0
MayServe t k = (k < length t) × NoInclusion t k

-- each row of the list may be
abbrev pub AllServe : Table → List ℕ → Type 0
AllServe t list = (k : ℕ) → Memᴰ k list → MayServe t k

-- these rows are wanted, and no others
abbrev pub with_wanted : RowSet → Problem → Problem
with_wanted rows P = record { table = P.table; rules = P.rules; wanted = rows; opposed = P.opposed; narrower = P.narrower }

-- these rows are the rules, and no others
abbrev pub with_rules : RowSet → Problem → Problem
with_rules rows P = record { table = P.table; rules = rows; wanted = P.wanted; opposed = P.opposed; narrower = P.narrower }

-- the words stand for the problem
pub record Poses (P : Problem) (v : List ℕ) : Type 0 where
  pub decoded : Decoded v
  pub problem-is : problem_of v ≡ P

-- the words v stand for the same rows as w, and for the same problem where these are given other wanted rows, or other rules: `other` is one of the two above
pub record SameRows (other : RowSet → Problem → Problem) (w v : List ℕ) : Type 0 where
  pub decoded : Decoded v
  pub table_is : table_of v ≡ table_of w
  pub problem-is : (rows : RowSet) → other rows (problem_of v) ≡ other rows (problem_of w)
