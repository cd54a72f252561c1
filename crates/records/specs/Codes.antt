-- Statuses, flags and links: those of the code as those of the procedure, and the numbers that stand for them.
-- Assumes nothing.
use Rattle.std.specs.Prelude.{◌≡◌, refl, Bool, true, false, ℕ, zero, suc, ◌<◌, eqb}
use Rattle.std.proofs.Common.{arith, ne_eqb}
use Rattle.procedure.specs.Status as P
use Rattle.procedure.specs.Graph as G
use Rattle.records.specs.declared.Status.{Status}
use Rattle.records.specs.declared.Status.TheVariants.{Unset, Open, Sat, Unsat, TooSmall}
use Rattle.records.specs.declared.Link.{Link}
use Rattle.records.specs.declared.Link.TheVariants.{None, State, Lapsed}

-- ---- statuses

abbrev pub status_of : Status → P.Status
status_of Unset = P.unset
status_of Open = P.«open»
status_of Sat = P.sat
status_of Unsat = P.unsat
status_of TooSmall = P.toosmall

abbrev pub status_code : Status → ℕ
status_code Unset = 0
status_code Open = 1
status_code Sat = 2
status_code Unsat = 3
status_code TooSmall = 4

abbrev pub status_in : ℕ → P.Status
status_in zero = P.unset
status_in (suc zero) = P.«open»
status_in (suc (suc zero)) = P.sat
status_in (suc (suc (suc zero))) = P.unsat
status_in (suc (suc (suc (suc n)))) = P.toosmall

pub status-back : (s : Status) → status_in (status_code s) ≡ status_of s
status-back Unset = refl
status-back Open = refl
status-back Sat = refl
status-back Unsat = refl
status-back TooSmall = refl

pub status-rest : (n : ℕ) → (n ≡ 0 → ⊥) → (n ≡ 1 → ⊥) → (n ≡ 2 → ⊥) → (n ≡ 3 → ⊥) → P.toosmall ≡ status_in n
status-rest zero a b c d = absurd (a refl)
status-rest (suc zero) a b c d = absurd (b refl)
status-rest (suc (suc zero)) a b c d = absurd (c refl)
status-rest (suc (suc (suc zero))) a b c d = absurd (d refl)
status-rest (suc (suc (suc (suc n)))) a b c d = refl

pub status_code-small : (s : Status) → status_code s < 256
status_code-small Unset = omega arith
status_code-small Open = omega arith
status_code-small Sat = omega arith
status_code-small Unsat = omega arith
status_code-small TooSmall = omega arith

pub unset-code : (n : ℕ) → eqb n 0 ≡ P.is_unset (status_in n)
unset-code zero = refl
unset-code (suc zero) = refl
unset-code (suc (suc zero)) = refl
unset-code (suc (suc (suc zero))) = refl
unset-code (suc (suc (suc (suc n)))) = ne_eqb (suc (suc (suc (suc n)))) 0 (λ (e : suc (suc (suc (suc n))) ≡ 0). omega arith)

-- ---- flags

abbrev pub flag_code : Bool → ℕ
flag_code true = 1
flag_code false = 0

abbrev pub flag_in : ℕ → Bool
flag_in n = eqb n 1

pub flag-back : (b : Bool) → flag_in (flag_code b) ≡ b
flag-back true = refl
flag-back false = refl

pub flag_code-small : (b : Bool) → flag_code b < 256
flag_code-small true = omega arith
flag_code-small false = omega arith

-- ---- links

abbrev pub link_of : Link → G.Link
link_of None = G.unlinked
link_of (State x) = G.to_state x
link_of Lapsed = G.lapsed

abbrev pub link_kind : Link → ℕ
link_kind None = 0
link_kind (State x) = 1
link_kind Lapsed = 2

abbrev pub link_number : Link → ℕ
link_number None = 0
link_number (State x) = x
link_number Lapsed = 0

abbrev pub link_in : ℕ → ℕ → G.Link
link_in zero x = G.unlinked
link_in (suc zero) x = G.to_state x
link_in (suc (suc k)) x = G.lapsed

pub link-back : (l : Link) → link_in (link_kind l) (link_number l) ≡ link_of l
link-back None = refl
link-back (State x) = refl
link-back Lapsed = refl

pub link-rest : (k x : ℕ) → (k ≡ 0 → ⊥) → (k ≡ 1 → ⊥) → G.lapsed ≡ link_in k x
link-rest zero x a b = absurd (a refl)
link-rest (suc zero) x a b = absurd (b refl)
link-rest (suc (suc k)) x a b = refl

pub link_kind-small : (l : Link) → link_kind l < 256
link_kind-small None = omega arith
link_kind-small (State x) = omega arith
link_kind-small Lapsed = omega arith
