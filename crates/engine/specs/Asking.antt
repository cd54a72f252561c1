-- Runs with no example on a decoded file: what the functions of `asking` give, and answers that are written piece by piece.
--
-- In order: what is said; a run with other wanted rows, or with other rules; how far a loop of such runs has come. Laws are in AskingLaws, the ways through the
-- functions in AskingCases.
use Rattle.std.specs.Prelude.{◌≡◌, List, ℕ, ◌≤◌, length}
use Rattle.concepts.specs.RowSet.{RowSet, from_list}
use Rattle.procedure.specs.Problem.{Problem}
use Rattle.procedure.specs.Graph.{Capacity}
use Rattle.procedure.specs.Tableau.{run}
use Rattle.words.specs.Words.{overwrite}
use Rattle.run.specs.Said as Run
use Rattle.run.specs.Said.{says_short, says_cannot, says_can, said}
use Rattle.problem.specs.Decoded.{problem_of}
use Rattle.decoder.specs.Want.{Poses, SameRows}
use Rattle.graph.specs.Graphs.{Work, Sized}
use Rattle.engine.specs.declared.asking.Said.{Said}
use Rattle.engine.specs.declared.asking.Said.TheVariants.{Short, Cannot, Can}

abbrev pub said_of : Said → Run.Said
said_of Short = says_short
said_of Cannot = says_cannot
said_of Can = says_can

-- a run said r, with these rows as the wanted ones or as the rules (`other`: with_wanted or with_rules, in problem's Want), and the words stand for that problem
pub record Asked (other : RowSet → Problem → Problem) (ws rows : List ℕ) (c : Capacity) (r : Said) (ws' : List ℕ) : Type 0 where
  pub says : said_of r ≡ said (run (other (from_list rows) (problem_of ws)) c)
  pub poses : Poses (other (from_list rows) (problem_of ws)) ws'

-- i of so many pieces are written, where `up_to i` is what the first i are; the words are those of the same rows, and the work areas as long as before
pub record PiecesWritten (other : RowSet → Problem → Problem) (up_to : ℕ → List ℕ) (count : ℕ) (ws : List ℕ) (w : Work) (area : List ℕ)
    (i : ℕ) (ws' : List ℕ) (w' : Work) (area' : List ℕ) : Type 0 where
  pub within : i ≤ count
  pub words : length ws' ≡ length ws
  pub sized : Sized w w'
  pub same : SameRows other ws ws'
  pub here : area' ≡ overwrite (up_to i) area
