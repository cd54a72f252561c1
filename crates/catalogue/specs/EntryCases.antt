-- The ways from two wanted rows to an entry, on plain values.
--
-- In order: the two rows, which may be wanted; the entry by what the run said.
use Rattle.std.specs.Prelude.{◌≡◌, List, [], ◌∷◌, ℕ}
use Rattle.std.proofs.Common.{sym, ap, ◌∙◌, inl, inr}
use mathlib.Core.List.Memᴰ
use Rattle.procedure.specs.Graph.{Capacity}
use Rattle.problem.specs.Decoded.{table_of}
use Rattle.decoder.specs.Want.{AllServe, with_wanted}
use Rattle.decoder.specs.WantLaws.{wanted-same}
use Rattle.engine.specs.Asking.{said_of, Asked}
use Rattle.engine.specs.declared.asking.Said.{Said}
use Rattle.catalogue.specs.Clauses.{entry_number, EntryAsks, EntryGives}

pub both-serve : {ws : List ℕ} {p q : ℕ} → EntryAsks ws p q → AllServe (table_of ws) (p ∷ q ∷ [])
both-serve {ws} {p} {q} A k i = elim (Memᴰ.cases_cons i) [
  | inl f ↦ rw f A.positive
  | inr j ↦ rw (Memᴰ.eq_of_singleton j) A.negative
]

pub entry-as : {ws : List ℕ} (p q : ℕ) {c : Capacity} {r : Said} {v : List ℕ} → Asked with_wanted ws (p ∷ q ∷ []) c r v → {s : Said} → r ≡ s
    → EntryGives ws c p q (entry_number (said_of s)) v
entry-as p q A e = record { entry-is = ap (λ (s : Said). entry_number (said_of s)) (sym e) ∙ ap entry_number A.says; same = wanted-same A.poses }
