-- `walk::meet` meets its contract: by the number of the state, which is 0 if it is met first.
use native.Mathlib.Omega.{arith}
use Rattle.walk.specs.MeetCases.{met-before, meet-new, meet-few, meet-fits, met-first}
use Rattle.walk.proofs.meet.Goals as goal

pub returns-then-met : goal.returns-then-met
returns-then-met c = met-before c.requires c.load_number-number.ensures c.if-met.true c.store_role_link.ensures

pub overflow_add-elements : goal.overflow_add-elements
overflow_add-elements c = omega (arith, meet-few (meet-new c.requires c.load_number-number.ensures c.if-met.false))

pub overflow_cast-elements : goal.overflow_cast-elements
overflow_cast-elements c = omega (arith, meet-few (meet-new c.requires c.load_number-number.ensures c.if-met.false))

pub store_state-requires : goal.store_state-requires
store_state-requires c = meet-fits (meet-new c.requires c.load_number-number.ensures c.if-met.false) c.store_number.ensures

pub overflow_cast-to : goal.overflow_cast-to
overflow_cast-to c = omega (arith, meet-few (meet-new c.requires c.load_number-number.ensures c.if-met.false))

pub overflow_add-result-2 : goal.overflow_add-result-2
overflow_add-result-2 c = omega (arith, meet-few (meet-new c.requires c.load_number-number.ensures c.if-met.false))

pub returns : goal.returns
returns c = met-first (meet-new c.requires c.load_number-number.ensures c.if-met.false) c.store_number.ensures c.store_state.ensures c.store_role_link-2.ensures
