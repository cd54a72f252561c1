-- Entries in different work areas: those that are decided agree, and what is decided stays so in larger ones. So only entries 2 are worth asking for again.
--
-- In order: two entries of the same names, by the meaning of ALCI; an entry in larger areas.
use mathlib.Core.Path.{◌≡◌, refl, sym, ap, ◌∙◌}
use mathlib.Core.List.{Memᴰ}
use mathlib.Core.Logic.{inl, inr}
use Prim.Native.Nat.{ℕ}
use native.Mathlib.Omega.{arith}
use Rattle.concepts.specs.Lists.{Bytes}
use Rattle.rulefile.specs.Format.{RuleFile, accepted, reading}
use Rattle.rulefile.specs.WantedLaws.{wanting}
use Rattle.procedure.specs.Graph.{Area}
use Rattle.run.specs.Run.{Lengths, Answer, refused_file, short, cannot, can, too_long, undefined, answer_for, numbers}
use Rattle.run.specs.Promise.{SaysShort}
use Rattle.run.proofs.ShortLaws.{short_refusal-least}
use Rattle.run.proofs.Verdict.{Backs, answer-backed}
use Rattle.run.proofs.Enlarged.{Enlarged}
use Rattle.run.proofs.Theorem.{only-the-short-area-helps}
use Rattle.subsumption.specs.Names.{names}
use Rattle.subsumption.specs.Catalogue.{entry_of, entry}
use Rattle.subsumption.specs.Promise.{Decided, EntryRight}
use Rattle.subsumption.proofs.Entry.{rows_for, reads-rows}

-- ---- two entries of the same names

pub decided-agree : {f : RuleFile} {l m : Lengths} {a b v w : ℕ} → EntryRight f l a b v → EntryRight f m a b w → Decided v → Decided w → v ≡ w
decided-agree first second d e = elim first.value [
  | inl z ↦ z ∙ sym (second.apart_only e (first.apart z))
  | inr (inl o) ↦ o ∙ sym (second.under_only e (first.under o))
  | inr (inr t) ↦ absurd (d t)
]

-- ---- an entry in larger areas

not_short : (f : RuleFile) (l : Lengths) (k : Answer) → Backs f l k → Decided (entry_of k) → (r : Area) → SaysShort r (numbers k) → ⊥
unfolding entry_of numbers
not_short f l (cannot u) B d r e = omega (arith, e, short_refusal-least r)
not_short f l (can u x) B d r e = omega (arith, e, short_refusal-least r)
not_short f l (too_long x) B d r e = omega (arith, e, short_refusal-least r)
not_short f l (short s n) B d r e = d refl
not_short f l (refused_file n) B d r e = B
not_short f l undefined B d r e = B

module _ (file : Bytes) (f : RuleFile) (e : reading file ≡ accepted f) (l m : Lengths) (E : Enlarged l m)
    (a b : ℕ) (ma : Memᴰ a (names f.table)) (mb : Memᴰ b (names f.table)) where
  pub decided-stays : Decided (entry file l f.table a b) → entry file m f.table a b ≡ entry file l f.table a b
  unfolding entry
  decided-stays d =
      let rows = rows_for f a b in
      let backs = answer-backed rows file l (wanting rows f) (reads-rows file f e l a b ma mb) in
      ap entry_of (sym (only-the-short-area-helps rows file l m E (λ r s. absurd (not_short (wanting rows f) l (answer_for rows file l) backs d r s))))
