-- What is decided at the end of a run, and what each function gives. Words, areas and counts as in the tableau's contracts.
--
-- In order: a decision, or what there is in its place, and the answer that it stands for; what is left in the example areas; the verdict of a run; the example; the decision.
use Rattle.std.specs.Prelude.{◌≡◌, Bool, true, false, List, ℕ, ◌≤◌, length, Result, Ok, Err}
use Rattle.concepts.specs.Lists.{Bytes}
use Rattle.procedure.specs.Graph.{reached, FindsNoPlace, node_at}
use Rattle.procedure.specs.Tableau.{run}
use Rattle.procedure.specs.Example.{Example}
use Rattle.words.specs.Sizes.{most_records}
use Rattle.run.specs.Run.{Areas, lengths, shown, Used, used, Answer, short, cannot, can, too_long, answer_can, answer_result, areas_after}
use Rattle.run.specs.Said.{good_root}
use Rattle.graph.specs.Graphs.{Work, work, graph_of, capacity_of, area_of, Held}
use Rattle.graph.specs.declared.Counts.{Counts}
use Rattle.graph.specs.declared.Area.{Area}
use Rattle.marks.specs.declared.Sizes.{Sizes}
use Rattle.problem.specs.Decoded.{table_of, problem_of}
use Rattle.conclusion.specs.declared.Verdict.{Verdict}
use Rattle.conclusion.specs.declared.Verdict.TheVariants as Is
use Rattle.conclusion.specs.declared.Decision.{Decision}
use Rattle.conclusion.specs.declared.Decision.TheVariants.{Cannot, Can}
use Rattle.conclusion.specs.declared.Shortage.{Shortage}
use Rattle.conclusion.specs.declared.Shortage.TheVariants.{NoPlace, TooLong}

-- ---- a decision

-- the numbers of records
abbrev pub used_of : Counts → Used
used_of c = record { nodes = c.nodes; edges = c.edges; alternatives = c.alternatives }

-- an example of these sizes
abbrev pub HasSizes : Sizes → Example → Type 0
HasSizes s x = (length x.elements ≡ s.elements) × (length x.links ≡ s.links)

-- a decision, or why there is none
abbrev pub Outcome : Type 0
Outcome = Result Decision Shortage

-- it stands for the answer
abbrev pub Decides : Outcome → Answer → Type 0
Decides (Err (NoPlace p n)) a = a ≡ short (area_of p) n
Decides (Ok (Cannot c)) a = a ≡ cannot (used_of c)
Decides (Ok (Can c s)) a = (x : Example) × (a ≡ can (used_of c) x) × HasSizes s x
Decides (Err (TooLong s)) a = (x : Example) × (a ≡ too_long x) × HasSizes s x

-- "at most 4,096 of each"
abbrev pub SmallCounts : Counts → Type 0
SmallCounts c = (c.nodes ≤ most_records) × (c.edges ≤ most_records) × (c.alternatives ≤ most_records)

abbrev pub SmallSizes : Sizes → Type 0
SmallSizes s = (s.elements ≤ most_records) × (s.links ≤ most_records)

abbrev pub Small : Outcome → Type 0
Small (Err (NoPlace p n)) = n ≤ most_records
Small (Ok (Cannot c)) = SmallCounts c
Small (Ok (Can c s)) = SmallCounts c × SmallSizes s
Small (Err (TooLong s)) = SmallSizes s

-- it does, and the example areas of `before` are left as the answer leaves them
pub record Decided (a : Answer) (before : Areas) (r : Outcome) (elements links : Bytes) : Type 0 where
  pub decides : Decides r a
  pub small : Small r
  pub elements_are : elements ≡ (areas_after a before).elements
  pub links_are : links ≡ (areas_after a before).links

-- ---- the verdict of a run

-- the run ended with this graph, and its root says "can" or does not
pub record EndsWith (ws : List ℕ) (w : Work) (c : Counts) (w' : Work) (b : Bool) : Type 0 where
  pub ran : run (problem_of ws) (capacity_of w) ≡ reached (graph_of w' c)
  pub held : Held w' c
  pub says : good_root (node_at (graph_of w' c) 0).status ≡ b

-- the run found no place in this area
pub record ShortOf (ws : List ℕ) (w : Work) (p : Area) : Type 0 where
  pub ran : FindsNoPlace (area_of p) (run (problem_of ws) (capacity_of w))

abbrev pub VerdictCase : List ℕ → Work → Result Verdict Area → Work → Type 0
VerdictCase ws w (Err p) w' = ShortOf ws w p
VerdictCase ws w (Ok (Is.Cannot c)) w' = EndsWith ws w c w' false
VerdictCase ws w (Ok (Is.Can c)) w' = EndsWith ws w c w' true

pub record VerdictGives (ws : List ℕ) (w : Work) (r : Result Verdict Area) (w' : Work) : Type 0 where
  pub case : VerdictCase ws w r w'

-- ---- the example

-- whatever the alternatives, and the work areas of `before`
abbrev pub ShowGives : List ℕ → (n e : Bytes) → Counts → (elements links : Bytes) → Outcome → (elements' links' : Bytes) → Type 0
ShowGives ws n e c elements links r elements' links' =
    (a : Bytes) (before : Areas) → before.elements ≡ elements → before.links ≡ links
    → Decided (answer_can (lengths before) (used (graph_of (work n e a) c)) (shown (table_of ws) (graph_of (work n e a) c))) before r elements' links'

-- ---- the decision

abbrev pub DecideGives : List ℕ → Areas → Outcome → (elements' links' : Bytes) → Type 0
DecideGives ws before r elements' links' =
    Decided (answer_result (lengths before) (table_of ws)
    (run (problem_of ws) (capacity_of (work before.nodes before.edges before.alternatives)))) before r elements' links'
