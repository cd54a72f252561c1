-- Where a chain keeps its numbers, in bytes behind the extents of the records, and what code writes there. Laws are in PlaceLaws.
--
-- In order: a chain in two areas; the end of a chain; a node with no records; what a step along a chain relies on.
use Rattle.std.specs.Prelude.{◌≡◌, ◌⊎◌, ℕ, ◌+◌, ◌≤◌}
use Rattle.concepts.specs.Lists.{Bytes}
use Rattle.words.specs.Sizes.{node_size, most_records}
use Rattle.records.specs.Areas.{Fits, field, Within, Beside}
use Rattle.chains.specs.Chain.{Chain, Joined}
use Rattle.chains.specs.declared.Places.{Places}

-- the number of 2 bytes at place o of record i
abbrev pub number : ℕ → ℕ → Bytes → ℕ → ℕ
number size o b i = field size b i o 2

-- of the records in b: their keys, and the next of each; of the nodes in n: the first and the last record of each
abbrev pub key_in : Places → Bytes → ℕ → ℕ
key_in p b = number p.size p.key b

abbrev pub next_in : Places → Bytes → ℕ → ℕ
next_in p b = number p.size p.next b

abbrev pub first_in : Places → Bytes → ℕ → ℕ
first_in p n = number node_size p.first n

abbrev pub last_in : Places → Bytes → ℕ → ℕ
last_in p n = number node_size (p.first + 2) n

-- the first k records of b are in chains, whose keys are the first m nodes of n
abbrev pub ChainIn : Places → Bytes → Bytes → ℕ → ℕ → Type 0
ChainIn p n b m k = Chain (key_in p b) (next_in p b) (first_in p n) (last_in p n) m k

-- the places are in the records, each with bytes of its own
pub record Sits (p : Places) : Type 0 where
  pub in-node : p.first + 4 ≤ node_size
  pub in-key : p.key + 2 ≤ p.size
  pub in-next : p.next + 2 ≤ p.size
  pub apart : (p.key + 2 ≤ p.next) ⊎ (p.next + 2 ≤ p.key)

-- record i was put at the end of the chain of node x
pub record Appended (p : Places) (n n' b b' : Bytes) (i x : ℕ) : Type 0 where
  pub joined : Joined (next_in p b) (first_in p n) (last_in p n) (next_in p b') (first_in p n') (last_in p n') x i
  pub nodes : Within node_size x p.first (p.first + 4) n n'
  pub area : Beside p.size p.next (p.next + 2) b b'

-- node x has no record
abbrev pub Unused : Places → Bytes → ℕ → Type 0
Unused p n x = (first_in p n x ≡ most_records) × (last_in p n x ≡ most_records)

pub record Begun (p : Places) (n n' : Bytes) (x : ℕ) : Type 0 where
  pub within : Within node_size x p.first (p.first + 4) n n'
  pub unused : Unused p n' x

-- node x and record i are there
pub record Has (p : Places) (n b : Bytes) (x i : ℕ) : Type 0 where
  pub sits : Sits p
  pub node : Fits node_size n x
  pub here : Fits p.size b i
