-- The cases of a role turned round, for the tactic.
use Rattle.concepts.specs.Role.{turned-case}

pub ruleset turning = (turned-case)
