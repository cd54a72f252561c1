-- In every finite world what is put for a row that is no inclusion holds at the same elements as the row, or as its opposite.
-- Assumes nothing.
use Rattle.std.specs.Prelude.{◌≡◌, ◌↔◌, ℕ}
use Rattle.std.proofs.Common.{sym, ap, subst}
use Rattle.std.proofs.Math.Path.{transport}
use mathlib.Core.Logic.Iff
use Rattle.concepts.specs.Begins.{Begins, begins-trans}
use Rattle.concepts.specs.Concept.{Concept, Table, concept_at, Ordered, NoInclusion}
use Rattle.meaning.specs.Meaning.{World, finite, Means, Holds}
use Rattle.meaning.proofs.MeaningLaws.{holds-clause, holds_as}
use Rattle.meaning.proofs.FiniteLaws.{holds-decided}
use Rattle.drafts.specs.Normalize.{Sign, Shape, literal, other, unary, binary, shape, Put, put}
use Rattle.drafts.specs.Sound.{Idle}
use Rattle.drafts.specs.ShareLaws.{Shared}
use Rattle.drafts.proofs.ShareLaws.{share-gives, shared-here}
use Rattle.drafts.proofs.PutLaws.{GrownStep, put-idle-induction}
use Rattle.drafts.specs.ShapeMeaning.{Signed, ShapeMeans, shape-means}

equal-types : {A B : Type 0} → A ≡ B → A ↔ B
equal-types e = (transport e, transport (sym e))

module _ (W : World) (t : Table) (ordered : Ordered t) where
  abbrev Row : ℕ → ℕ → Type 0
  Row k d = Holds (finite W) t k d

  -- row i of the table u holds where row k does, or where it does not
  abbrev pub MeansRow : Sign → ℕ → Table → ℕ → Type 0
  MeansRow s k u i = (d : ℕ) → Holds (finite W) u i d ↔ Signed s (Row k d)

  -- in every ordered table that has all that was put
  abbrev Meant : Sign → ℕ → Table → Put → Type 0
  Meant s k out p = (u : Table) → Ordered u → Begins p.rows u → MeansRow s k u p.at

  -- what is meant by the row's clause is meant by the row
  by-clause : (s : Sign) (k d : ℕ) → Signed s (Means (finite W) Row (concept_at t k) d) ↔ Signed s (Row k d)
  by-clause s k d = equal-types (ap (Signed s) (sym (holds-clause (finite W) t ordered k d)))

  -- a row that is shared means what its concept does
  shared-means : {c : Concept} {out : Table} {p : Put} → Shared c out p → (u : Table) → Ordered u → Begins p.rows u → (d : ℕ)
      → Holds (finite W) u p.at d ↔ Means (finite W) (Holds (finite W) u) c d
  shared-means {c} {out} {p} S u o b d = equal-types (holds_as (finite W) u o p.at d c (shared-here S b))

  -- a shape over rows of u means what row k does
  abbrev Says : Sign → ℕ → Table → Shape → Type 0
  Says s k u σ = ShapeMeans W Row (Holds (finite W) u) (concept_at t k) s σ

  meant-step : (s : Sign) (k : ℕ) (σ : Shape) → NoInclusion t k → shape (concept_at t k) s ≡ σ → GrownStep t ordered Meant s k σ
  meant-step s k σ n e = by_shape σ (λ u. subst (Says s k u) e (shape-means W Row (Holds (finite W) u) (holds-decided W t) (concept_at t k) s n))
    where
      by_shape : (σ : Shape) → ((u : Table) → Says s k u σ) → GrownStep t ordered Meant s k σ
      by_shape (literal c) M = λ out u o b d. Iff.trans (shared-means (share-gives c out) u o b d) (Iff.trans (M u d) (by-clause s k d))
      by_shape (other z l) M = λ out p H u o b d. Iff.trans (H u o b d) (Iff.trans (M u d) (by-clause s k d))
      by_shape (unary make z l) M = λ out p G H u o b d.
          let S = share-gives (make p.at) p.rows in
          Iff.trans (shared-means S u o b d) (Iff.trans (M u p.at (H u o (begins-trans p.rows _ u S.more b)) d) (by-clause s k d))
      by_shape (binary make z l y r) M = λ out p q G H F K u o b d.
          let S = share-gives (make p.at q.at) q.rows in
          let right : Begins q.rows u = begins-trans q.rows _ u S.more b in
          let left : Begins p.rows u = begins-trans p.rows q.rows u F.more right in
          Iff.trans (shared-means S u o b d) (Iff.trans (M u p.at q.at (H u o left) (K u o right) d) (by-clause s k d))

  pub put-means : Idle t → (s : Sign) (k : ℕ) (out : Table) → NoInclusion t k → (u : Table) → Ordered u → Begins (put t s k out).rows u
      → MeansRow s k u (put t s k out).at
  put-means idle = put-idle-induction t ordered idle Meant meant-step
