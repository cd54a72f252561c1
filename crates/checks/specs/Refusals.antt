-- The refusals of the checks: their numbers, and what a check answers.
use Rattle.std.specs.Prelude.{Bool, true, false, ℕ, Option, None, Some, Result, Ok, Err}
use Rattle.checks.specs.declared.Refusal.{Refusal}
use Rattle.checks.specs.declared.Refusal.TheVariants.{Length, Mark, Counts, Place, Malformed, Argument, Repeated, Rule, Inclusion}

-- "1 to 8, and 16"
abbrev pub number_of : Refusal → ℕ
number_of Length = 1
number_of Mark = 2
number_of Counts = 3
number_of Place = 4
number_of Malformed = 5
number_of Argument = 6
number_of Repeated = 7
number_of Rule = 8
number_of Inclusion = 16

-- a refusal, if a test holds
abbrev pub refused_if : Bool → Refusal → Result (Unit {0}) Refusal
refused_if true r = Err r
refused_if false r = Ok tt

-- the number of the refusal, if there is one
abbrev pub refusal_of : {A : Type 0} → Result A Refusal → Option ℕ
refusal_of (Ok _) = None
refusal_of (Err r) = Some (number_of r)
