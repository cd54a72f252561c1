-- What writing a mark changes: that mark alone. Laws are in MarkLaws.
use Rattle.std.specs.Prelude.{◌≡◌, ℕ, ◌<◌}
use Rattle.concepts.specs.Lists.{Bytes}
use Rattle.meaning.specs.Given.{RoleLink}
use Rattle.records.specs.Areas.{Stored}
use Rattle.marks.specs.Marks.{NodesMarked, EdgesMarked, number_in, state_in, role_link_in}

-- nodes n became n': state y has the number v
pub record NumberStored (n n' : Bytes) (y v : ℕ) : Type 0 where
  pub stored : Stored number_in n n' y v
  pub states : (d : ℕ) → state_in n' d ≡ state_in n d
  pub beside : NodesMarked n n'

-- nodes n became n': element d stands for state v
pub record StateStored (n n' : Bytes) (d v : ℕ) : Type 0 where
  pub stored : Stored state_in n n' d v
  pub numbers : (y : ℕ) → number_in n' y ≡ number_in n y
  pub beside : NodesMarked n n'

-- edges e became e': link k is l
pub record LinkStored (e e' : Bytes) (k : ℕ) (l : RoleLink) : Type 0 where
  pub stored : Stored role_link_in e e' k l
  pub beside : EdgesMarked e e'

-- nodes n became n': the first `count` nodes have no number
pub record NumbersCleared (n n' : Bytes) (count : ℕ) : Type 0 where
  pub none_has : (y : ℕ) → y < count → number_in n' y ≡ 0
  pub states : (d : ℕ) → state_in n' d ≡ state_in n d
  pub beside : NodesMarked n n'
