-- What a run says with no example is what the engine's answer says (`result-said`), of an accepted file.
--
-- In order: after "can"; by the root's status; by the result of the run.
use Rattle.std.specs.Prelude.{}
use mathlib.Core.Path.{◌≡◌, refl, sym, ◌∙◌}
use mathlib.Core.Bool.{Bool, true, false}
use Rattle.std.specs.Prelude.{Option, None, Some}
use Rattle.rulefile.specs.Format.{RuleFile}
use Rattle.procedure.specs.Status.{Status, unset, «open», sat, unsat, toosmall}
use Rattle.procedure.specs.Graph.{Graph, Result, reached, no_place, out_of_fuel, node_at}
use Rattle.procedure.specs.Example.{Example}
use Rattle.run.specs.Run.{Lengths, shown, used, fits, can, too_long, answer_can, answer_root, answer_result}
use Rattle.run.specs.Said.{says_can, said, said_by}
use Rattle.run.proofs.Verdict.{Backs}

module _ (f : RuleFile) (l : Lengths) where
  can-said : (g : Graph) (o : Option Example) → Backs f l (answer_can l (used g) o) → said_by (answer_can l (used g) o) ≡ says_can
  unfolding answer_can said_by
  can-said g None B = absurd B
  can-said g (Some x) B = by (fits l x)
    where
      by : (b : Bool) → said_by (elim b [ true ↦ can (used g) x | false ↦ too_long x ]) ≡ says_can
      by true = refl
      by false = refl

  root_said : (g : Graph) (v : Status) → (node_at g 0).status ≡ v → Backs f l (answer_root v l f.table g)
      → said_by (answer_root v l f.table g) ≡ said (reached g)
  unfolding answer_root said_by said
  root_said g sat e B = can-said g (shown f.table g) B ∙ sym (rw e)
  root_said g «open» e B = can-said g (shown f.table g) B ∙ sym (rw e)
  root_said g unsat e B = sym (rw e)
  root_said g toosmall e B = sym (rw e)
  root_said g unset e B = absurd B

  pub result-said : (r : Result) → Backs f l (answer_result l f.table r) → said_by (answer_result l f.table r) ≡ said r
  unfolding answer_result said_by said
  result-said (reached g) B = root_said g (node_at g 0).status refl B
  result-said (no_place a g) B = refl
  result-said out_of_fuel B = absurd B
