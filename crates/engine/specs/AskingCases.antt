-- The ways from a verdict to what is said, on plain values.
--
-- In order: by the verdict of a run; after the words were given other wanted rows, or other rules.
use Rattle.std.specs.Prelude.{◌≡◌, Bool, List, ℕ, Ok, Err}
use Rattle.std.proofs.Math.Path.{sym, ap}
use Rattle.std.proofs.Common.{◌∙◌}
use Rattle.std.proofs.Math.Bool.{cond}
use Rattle.concepts.specs.RowSet.{RowSet, from_list}
use Rattle.procedure.specs.Problem.{Problem}
use Rattle.procedure.specs.Graph.{Capacity}
use Rattle.procedure.specs.Tableau.{run}
use Rattle.run.specs.Said.{says_short, says_cannot, says_can, said}
use Rattle.problem.specs.Decoded.{problem_of}
use Rattle.decoder.specs.Want.{Poses}
use Rattle.graph.specs.Graphs.{Work, capacity_of}
use Rattle.graph.specs.declared.Counts.{Counts}
use Rattle.graph.specs.declared.Area.{Area}
use Rattle.conclusion.specs.Clauses.{VerdictGives}
use Rattle.conclusion.specs.declared.Verdict.TheVariants as Is
use Rattle.engine.specs.Asking.{said_of, Asked}
use Rattle.engine.specs.declared.asking.Said.{Said}

module _ {ws : List ℕ} {w : Work} {w' : Work} where
  pub say-short : {a : Area} → VerdictGives ws w (Err a) w' → says_short ≡ said (run (problem_of ws) (capacity_of w))
  unfolding said
  say-short G = sym (ap said G.case.ran.1)

  pub say-cannot : {c : Counts} → VerdictGives ws w (Ok (Is.Cannot c)) w' → says_cannot ≡ said (run (problem_of ws) (capacity_of w))
  unfolding said
  say-cannot G = sym (ap said G.case.ran ∙ ap (λ (b : Bool). cond b says_can says_cannot) G.case.says)

  pub say-can : {c : Counts} → VerdictGives ws w (Ok (Is.Can c)) w' → says_can ≡ said (run (problem_of ws) (capacity_of w))
  unfolding said
  say-can G = sym (ap said G.case.ran ∙ ap (λ (b : Bool). cond b says_can says_cannot) G.case.says)

pub asked : {other : RowSet → Problem → Problem} {ws rows : List ℕ} {c : Capacity} {r : Said} {v : List ℕ}
    → Poses (other (from_list rows) (problem_of ws)) v → said_of r ≡ said (run (problem_of v) c) → Asked other ws rows c r v
asked {c = c} W h = record { says = h ∙ ap (λ (P : Problem). said (run P c)) W.problem-is; poses = W }
