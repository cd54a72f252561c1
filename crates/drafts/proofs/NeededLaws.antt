-- Nothing is written that is not needed: each new row is reached from the row that was put.
--
-- In order: rows reached from a row; as the table grows; a row that is shared; a row with all that it needs (`put-reaches`).
use Rattle.std.specs.Prelude.{◌≡◌, refl, ℕ, ◌<◌, length}
use Rattle.std.proofs.Common.{sym, ap, subst, inl, inr, arith, length-append}
use mathlib.Core.List.Memᴰ
use mathlib.Core.List.{[], ◌∷◌, Memᴰ}
use Rattle.std.proofs.Math.Decide.{dec_lt}
use Rattle.std.proofs.Math.ListN.{get_or-eq_default}
use Rattle.concepts.specs.Begins.{Begins, begins-get_or}
use Rattle.concepts.specs.Concept.{Concept, atomic, Table, concept_at, arguments, Ordered}
use Rattle.drafts.specs.Normalize.{Sign, Shape, literal, other, unary, binary, shape, Put, put}
use Rattle.drafts.specs.ShapeLaws.{ShapeWritten, shape-written}
use Rattle.drafts.specs.ShareLaws.{Shared}
use Rattle.drafts.proofs.ShareLaws.{share-gives}
use Rattle.drafts.proofs.PutLaws.{GrownStep, put-grown-induction}
use Rattle.drafts.specs.NeededLaws.{Reaches, itself, through, NewReached}

reaches-on : {u : Table} {i j k : ℕ} → Reaches u i j → Reaches u j k → Reaches u i k
reaches-on r itself = r
reaches-on r (through s m) = through (reaches-on r s) m

-- only rows of the table name others
names-inside : (u : Table) (k l : ℕ) → Memᴰ l (arguments (concept_at u k)) → k < length u
names-inside u k l m = elim (dec_lt k (length u)) [
  | yes h ↦ h
  | no g ↦ absurd (Memᴰ.not-nil (subst (λ (c : Concept). Memᴰ l (arguments c))
      (get_or-eq_default u (atomic 0) {n = k} (omega arith)) m))
]

pub reaches-grown : {u v : Table} {j k : ℕ} → Begins u v → Reaches u j k → Reaches v j k
reaches-grown b itself = itself
reaches-grown {u} {v} b (through {k} {l} r m) =
    through (reaches-grown b r) (subst (λ (c : Concept). Memᴰ l (arguments c)) (sym (begins-get_or u v k (atomic 0) b (names-inside u k l m))) m)

module _ {c : Concept} {out : Table} {p : Put} (S : Shared c out p) where
  -- the row that is shared is the only new one
  shared-reached : NewReached (length out) p.rows p.at
  shared-reached i from b = elim S.which [
    | inl e ↦ absurd (omega (arith, ap length e))
    | inr (e, at, fresh) ↦
        let last : i ≡ p.at = omega (arith, ap length e, length-append out (c ∷ [])) in
        rw last itself
  ]

  -- what is reached from an argument of it is reached from it
  shared-onward : {l i : ℕ} → Memᴰ l (arguments c) → Reaches out l i → Reaches p.rows p.at i
  shared-onward {l} m r = reaches-on (through itself (subst (λ (d : Concept). Memᴰ l (arguments d)) (sym S.here) m)) (reaches-grown S.more r)

module _ (t : Table) (ordered : Ordered t) where
  abbrev Reached : Sign → ℕ → Table → Put → Type 0
  Reached s k out p = NewReached (length out) p.rows p.at

  reached-step : (s : Sign) (k : ℕ) (σ : Shape) → shape (concept_at t k) s ≡ σ → GrownStep t ordered Reached s k σ
  reached-step s k σ e = by_shape σ (subst (ShapeWritten (concept_at t k)) e (shape-written (concept_at t k) s))
    where
      by_shape : (σ : Shape) → ShapeWritten (concept_at t k) σ → GrownStep t ordered Reached s k σ
      by_shape (literal c) N = λ out. shared-reached (share-gives c out)
      by_shape (other z l) N = λ out p R. R
      by_shape (unary make z l) N = λ out p G R i from b. elim (dec_lt i (length p.rows)) [
        | yes h ↦ shared-onward (share-gives (make p.at) p.rows) (rw (N p.at).names (Memᴰ.head refl)) (R i from h)
        | no g ↦ shared-reached (share-gives (make p.at) p.rows) i (omega arith) b
      ]
      by_shape (binary make z l y r) N = λ out p q G R F Q i from b.
          let S = share-gives (make p.at q.at) q.rows in
          elim (dec_lt i (length p.rows)) [
            | yes h ↦ shared-onward S (rw (N p.at q.at).names (Memᴰ.head refl)) (reaches-grown F.more (R i from h))
            | no g ↦ elim (dec_lt i (length q.rows)) [
              | yes h ↦ shared-onward S (rw (N p.at q.at).names (Memᴰ.tail (Memᴰ.head refl))) (Q i (omega arith) h)
              | no f ↦ shared-reached S i (omega arith) b
            ]
          ]

  pub put-reaches : (s : Sign) (k : ℕ) (out : Table) → NewReached (length out) (put t s k out).rows (put t s k out).at
  put-reaches = put-grown-induction t ordered Reached reached-step
