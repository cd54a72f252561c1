-- The cases from a run to its verdict, on plain values.
--
-- In order: no place; the root, loaded at the end, and what it says.
use Rattle.std.specs.Prelude.{◌≡◌, Bool, true, false, List, ℕ, ◌<◌, Ok, Err}
use Rattle.std.proofs.Common.{sym, ap, ◌∙◌, subst, arith}
use Rattle.concepts.specs.Lists.{Bytes}
use Rattle.procedure.specs.Graph.{Node, Result}
use Rattle.procedure.proofs.Sure.{Sure}
use Rattle.procedure.proofs.Bare.{bare}
use Rattle.procedure.proofs.Whole.{Ended, run_ends}
use Rattle.words.specs.Sizes.{node_size}
use Rattle.run.specs.Said.{good_root}
use Rattle.problem.specs.Decoded.{problem_of, Decoded}
use Rattle.problem.specs.DecodedLaws.{decoded-posed}
use Rattle.records.specs.Areas.{Fits}
use Rattle.records.specs.Codes.{status_of}
use Rattle.records.specs.Records.{IsStatus}
use Rattle.records.specs.declared.Status.{Status}
use Rattle.graph.specs.Graphs.{Work, work, graph_of, capacity_of}
use Rattle.graph.specs.GraphLaws.{held-node, count-nodes, graph-node}
use Rattle.graph.specs.RefineLaws.{refines-held}
use Rattle.graph.specs.declared.Counts.{Counts}
use Rattle.graph.specs.declared.Area.{Area}
use Rattle.rounds.specs.Clauses.{RunGives}
use Rattle.conclusion.specs.Clauses.{EndsWith, VerdictGives}
use Rattle.conclusion.specs.declared.Verdict.TheVariants as Is

module _ {ws : List ℕ} {w : Work} {n e a : Bytes} where
  pub verdict-short : {p : Area} → RunGives ws w (Err p) (work n e a) → VerdictGives ws w (Err p) (work n e a)
  verdict-short R = record { case = record { ran = R.meets } }

module _ {ws : List ℕ} {w : Work} {c : Counts} {n e a : Bytes} (R : RunGives ws w (Ok c) (work n e a)) (ok : Decoded ws) where
  root-there : 0 < c.nodes
  root-there =
      let S = bare (problem_of ws) (capacity_of w) (decoded-posed ok) in
      let E : Ended S (graph_of (work n e a) c) = subst (λ (r : Result). Sure (problem_of ws) (Ended S) r) (sym R.meets) (run_ends S) in
      omega (arith, E.inv.root.0, count-nodes (work n e a) c)

  pub verdict-fits : Fits node_size n 0
  verdict-fits = held-node (refines-held R) root-there

  -- the root's status was loaded, and says "can" or does not
  module _ {b : Bool} (s : Status) (loaded : IsStatus n 0 s) (hb : b ≡ good_root (status_of s)) where
    says : {v : Bool} → b ≡ v → EndsWith ws w c (work n e a) v
    says hv = record {
      ran = sym R.meets;
      held = refines-held R;
      says = ap good_root (ap (λ (u : Node). u.status) (graph-node (work n e a) c 0 root-there) ∙ sym loaded) ∙ sym hb ∙ hv;
    }

    pub verdict-can : b ≡ true → VerdictGives ws w (Ok (Is.Can c)) (work n e a)
    verdict-can hv = record { case = says hv }

    pub verdict-cannot : b ≡ false → VerdictGives ws w (Ok (Is.Cannot c)) (work n e a)
    verdict-cannot hv = record { case = says hv }
