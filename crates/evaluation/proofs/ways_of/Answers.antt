-- `evaluation::ways_of` meets its contract: what is narrower than the role, and what is narrower than its inverse.
use mathlib.Core.Path.{sym, subst}
use Prim.Native.Nat.{ℕ, ◌<◌}
use Rattle.concepts.specs.Role.{inverse-low}
use Rattle.concepts.specs.Inclusion.{narrower}
use Rattle.problem.specs.Decoded.{table_of, Narrows}
use Rattle.evaluation.proofs.ways_of.Goals as goal

pub narrower-requires-2 : goal.narrower-requires-2
narrower-requires-2 c = (
  c.requires.0,
  c.requires.1,
  subst (λ (ρ : ℕ). ρ < 32) (sym (c.inverse.ensures.role c.requires.2))
      (inverse-low c.args.role c.requires.2),
)

pub returns : goal.returns
returns c =
    record {
      onward = c.narrower.ensures;
      backward = subst (λ (ρ : ℕ). Narrows (narrower (table_of c.args.problem.now)) ρ c.narrower-2.result) (c.inverse.ensures.role c.requires.2)
          c.narrower-2.ensures;
    }
