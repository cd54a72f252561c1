-- `settests::clash` meets its contract: the names in kind 1 rows meet those in kind 2 rows just where there is a clash.
use mathlib.Core.Path.{refl, sym, ap₂, ◌∙◌}
use mathlib.Core.Bool.{not}
use lib.Dec.{eqb}
use Rattle.concepts.specs.RowSet.{RowSet, common}
use Rattle.rowset.specs.SetOf.{set_of}
use Rattle.problem.specs.Decoded.{problem_of}
use Rattle.settests.specs.AnswerLaws.{clash-only, clash-none}
use Rattle.settests.proofs.clash.Goals as goal

pub returns-then-negated-eq0 : goal.returns-then-negated-eq0
returns-then-negated-eq0 c = clash-none (problem_of c.args.problem.now) (λ j k. refl) (set_of c.args.s.now c.args.at)
    (sym c.names_in-negated.ensures ∙ c.if-negated-eq0.true)

pub returns : goal.returns
unfolding common
returns c =
    ap₂ (λ (x y : RowSet). not (eqb (common x y) 0)) c.names.ensures c.names_in-negated.ensures
    ∙ clash-only (problem_of c.args.problem.now) (λ j k. refl) (set_of c.args.s.now c.args.at)
