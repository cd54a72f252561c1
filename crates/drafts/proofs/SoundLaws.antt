-- What is written stays sound: arguments are lower rows and no inclusions, kinds are those of a rule file, names and roles in range, no two rows equal.
--
-- In order: rows that others can name; one row more (`snoc-cases`, `share-sound`); a row with all that it needs (`put-sound`), whose place is no
-- inclusion either.
use Rattle.std.specs.Prelude.{◌≡◌, refl, false, not, ℕ, ◌<◌, T, length}
use Rattle.std.proofs.Common.{sym, ◌∙◌, subst, inl, inr, arith, length-append}
use mathlib.Core.List.Memᴰ
use mathlib.Core.List.{List, [], ◌∷◌, ◌++◌, Memᴰ}
use Rattle.std.proofs.Math.Decide.{dec_lt, ℕ_discrete}
use Rattle.std.proofs.Math.ListN.{get_or-eq_default}
use Rattle.concepts.specs.Lists.{NoneBelow}
use Rattle.concepts.specs.Begins.{Begins, begins-length, begins-get_or}
use Rattle.concepts.specs.Concept.{Concept, atomic, Table, concept_at, arguments, Ordered, is_inclusion, NoInclusion, is_normal}
use Rattle.decoding.specs.RowParts.{in_range}
use Rattle.drafts.specs.Normalize.{Sign, Shape, literal, other, unary, binary, shape, same_row, Put, share, put}
use Rattle.drafts.specs.Sound.{Idle, Sound}
use Rattle.drafts.specs.ShapeLaws.{RowLike, ShapeWritten, shape-written}
use Rattle.drafts.specs.ShareLaws.{equal_at}
use Rattle.drafts.proofs.ShareLaws.{share-gives, concept_at-last}
use Rattle.drafts.proofs.PutLaws.{GrownStep, put-idle-induction}

-- a row that others can name: it is there, and no inclusion
abbrev Nameable : Table → ℕ → Type 0
Nameable u l = (l < length u) × NoInclusion u l

nameable-grown : (u v : Table) (l : ℕ) → Begins u v → Nameable u l → Nameable v l
nameable-grown u v l b (h, i) = (omega (arith, begins-length u v b), rw (begins-get_or u v l (atomic 0) b h) i)

-- ---- one row more

module _ (c : Concept) (out : Table) where
  -- what holds of each row of a table, or of what stands for no row, and of the new row
  snoc-cases : (P : Concept → Type 0) (k : ℕ) → P (concept_at out k) → (k ≡ length out → P c) → P (concept_at (out ++ c ∷ []) k)
  snoc-cases P k old new = elim (dec_lt k (length out)) [
    | yes h ↦ subst P (sym (begins-get_or out (out ++ c ∷ []) k (atomic 0) (c ∷ [], refl) h)) old
    | no g ↦ elim (ℕ_discrete k (length out)) [
      | yes e ↦ rw e (subst P (sym (concept_at-last c out)) (new e))
      | no d ↦
          let past : concept_at (out ++ c ∷ []) k ≡ atomic 0 = get_or-eq_default (out ++ c ∷ []) (atomic 0)
          (omega (arith, length-append out (c ∷ []))) in
          let none : concept_at out k ≡ atomic 0 = get_or-eq_default out (atomic 0) (omega arith) in
          subst P (none ∙ sym past) old
    ]
  ]

  module _ {like : Concept} {named : List ℕ} (R : RowLike like named c) (plain : T (not (is_inclusion like))) where
    row_plain : T (not (is_inclusion c))
    row_plain = rw R.included plain

    share-idle : NoInclusion (share c out).rows (share c out).at
    share-idle = rw (share-gives c out).here row_plain

  module _ (S : Sound out) {like : Concept} {named : List ℕ} (R : RowLike like named c) (range : T (in_range like)) (plain : T (not (is_inclusion like)))
      (lower : (l : ℕ) → Memᴰ l named → Nameable out l) where
    snoc-distinct : NoneBelow (equal_at c out) (length out) → (j k : ℕ) → j < k → k < length (out ++ c ∷ [])
        → same_row (concept_at (out ++ c ∷ []) k) (concept_at (out ++ c ∷ []) j) ≡ false
    snoc-distinct fresh j k h b =
        let size = length-append out (c ∷ []) in
        let inside : j < length out = omega (arith, size) in
        let lower_row : concept_at (out ++ c ∷ []) j ≡ concept_at out j = begins-get_or out (out ++ c ∷ []) j (atomic 0) (c ∷ [], refl) inside in
        rw lower_row
        (elim (dec_lt k (length out)) [
          | yes l ↦ rw (begins-get_or out (out ++ c ∷ []) k (atomic 0) (c ∷ [], refl) l) (S.distinct j k h l)
          | no g ↦
              let last : k ≡ length out = omega (arith, size) in
              rw (last, concept_at-last c out) (fresh j inside)
        ])

    snoc-sound : NoneBelow (equal_at c out) (length out) → Sound (out ++ c ∷ [])
    snoc-sound fresh = record {
      ordered = λ k l.
          snoc-cases (λ d. Memᴰ l (arguments d) → l < k) k (S.ordered k l)
          (λ e m. omega (arith, (lower l (subst (Memᴰ l) R.names m)).0));
      idle = λ k l.
          let still : NoInclusion out l → NoInclusion (out ++ c ∷ []) l = λ n. snoc-cases (λ d. T (not (is_inclusion d))) l n (λ e. row_plain R plain) in
          snoc-cases (λ d. Memᴰ l (arguments d) → NoInclusion (out ++ c ∷ []) l) k (λ m. still (S.idle k l m))
          (λ e m. still (lower l (subst (Memᴰ l) R.names m)).1);
      normal = λ k. snoc-cases (λ d. T (is_normal d)) k (S.normal k) (λ e. R.normal);
      ranged = λ k. snoc-cases (λ d. T (in_range d)) k (S.ranged k) (λ e. rw R.ranged range);
      distinct = snoc-distinct fresh;
    }

    share-sound : Sound (share c out).rows
    share-sound = elim (share-gives c out).which [
      | inl e ↦ subst Sound (sym e) S
      | inr (e, at, fresh) ↦ subst Sound (sym e) (snoc-sound fresh)
    ]

-- ---- a row with all that it needs

module _ (t : Table) (ordered : Ordered t) (idle : Idle t) (ranged : (k : ℕ) → T (in_range (concept_at t k))) where
  abbrev Keeps : Sign → ℕ → Table → Put → Type 0
  Keeps s k out p = Sound out → Sound p.rows × NoInclusion p.rows p.at

  sound-step : (s : Sign) (k : ℕ) (σ : Shape) → NoInclusion t k → shape (concept_at t k) s ≡ σ → GrownStep t ordered Keeps s k σ
  sound-step s k σ n e = by_shape σ (subst (ShapeWritten (concept_at t k)) e (shape-written (concept_at t k) s))
    where
      one : (u : Table) {i j : ℕ} → Nameable u i → Memᴰ j (i ∷ []) → Nameable u j
      one u h m = subst (Nameable u) (sym (Memᴰ.eq_of_singleton m)) h

      share-keeps : (c : Concept) (out : Table) {named : List ℕ} → Sound out → RowLike (concept_at t k) named c
          → ((l : ℕ) → Memᴰ l named → Nameable out l) → Sound (share c out).rows × NoInclusion (share c out).rows (share c out).at
      share-keeps c out S R lower = (share-sound c out S R (ranged k) n lower, share-idle c out R n)

      by_shape : (σ : Shape) → ShapeWritten (concept_at t k) σ → GrownStep t ordered Keeps s k σ
      by_shape (literal c) R = λ out S. share-keeps c out S R (λ l m. absurd (Memᴰ.not-nil m))
      by_shape (other z l) R = λ out p K. K
      by_shape (unary make z l) R = λ out p G K S.
          let (S', i) = K S in
          share-keeps (make p.at) p.rows S' (R p.at) (λ j m. one p.rows (G.inside, i) m)
      by_shape (binary make z l y r) R = λ out p q G K F L S.
          let (S', i) = K S in
          let (S'', j) = L S' in
          share-keeps (make p.at q.at) q.rows S'' (R p.at q.at) (λ l m. elim (Memᴰ.cases_cons m) [
            | inl e ↦ subst (Nameable q.rows) (sym e) (nameable-grown p.rows q.rows p.at F.more (G.inside, i))
            | inr v ↦ one q.rows (F.inside, j) v
          ])

  pub put-sound : (s : Sign) (k : ℕ) (out : Table) → NoInclusion t k → Sound out → Sound (put t s k out).rows
      × NoInclusion (put t s k out).rows (put t s k out).at
  put-sound = put-idle-induction t ordered idle Keeps sound-step
