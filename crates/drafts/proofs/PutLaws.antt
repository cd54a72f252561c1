-- Laws of putting a row with all that it needs: its clause without a bound, and induction over it.
--
-- In order: the clause (`put-clause`); induction (`put-induction`); growth and settlement
-- (`RowsGrown`, `put-grown`): what is put once is found again, with all that it needs, as the table grows; induction where growth is known
-- (`put-grown-induction`), and over rows that are no inclusions (`put-idle-induction`).
use Rattle.std.specs.Prelude.{◌≡◌, refl, length}
use Rattle.std.proofs.Common.{sym, ◌∙◌, subst, not-suc-le-zero, arith}
use Rattle.std.proofs.Math.Path.{ap}
use mathlib.Core.List.{Memᴰ}
use Prim.Native.Nat.{ℕ, zero, suc, ◌<◌}
use Rattle.concepts.specs.Begins.{Begins, begins-trans}
use Rattle.concepts.specs.Concept.{Table, concept_at, arguments, Ordered, NoInclusion}
use Rattle.drafts.specs.Normalize.{Sign, Shape, literal, other, unary, binary, shape, Put, stands, share, put_shape, put_below, put}
use Rattle.drafts.specs.Sound.{Idle}
use Rattle.drafts.specs.ShapeLaws.{shape_rows, shape-rows}
use Rattle.drafts.proofs.ShareLaws.{share-gives, shared-settled}

-- ---- the clause

put_shape-same : (f g : Sign → ℕ → Table → Put) (σ : Shape) →
    ((s : Sign) (k : ℕ) (out : Table) → Memᴰ k (shape_rows σ) → f s k out ≡ g s k out)
    → (out : Table) → put_shape f σ out ≡ put_shape g σ out
unfolding put_shape
put_shape-same f g (literal c) h out = refl
put_shape-same f g (other s k) h out = h s k out (Memᴰ.head refl)
put_shape-same f g (unary make s k) h out = ap (λ (p : Put). share (make p.at) p.rows) (h s k out (Memᴰ.head refl))
put_shape-same f g (binary make s k z l) h out =
    ap (λ (p : Put). share (make p.at (f z l p.rows).at) (f z l p.rows).rows) (h s k out (Memᴰ.head refl))
    ∙ ap (λ (q : Put). share (make (g s k out).at q.at) q.rows) (h z l (g s k out).rows (Memᴰ.tail (Memᴰ.head refl)))

-- the rows of what becomes of row k are those that it names
pub rows_named : (t : Table) (s : Sign) (k l : ℕ) {σ : Shape} → shape (concept_at t k) s ≡ σ → Memᴰ l (shape_rows σ)
    → Memᴰ l (arguments (concept_at t k))
rows_named t s k l e m = subst (Memᴰ l) (ap shape_rows (sym e) ∙ shape-rows (concept_at t k) s) m

module _ (t : Table) (ordered : Ordered t) where
  -- so they are lower
  rows-lower : (s : Sign) (k l : ℕ) → Memᴰ l (shape_rows (shape (concept_at t k) s)) → l < k
  rows-lower s k l m = ordered k l (rows_named t s k l refl m)

  bound-free : (f g : ℕ) (s : Sign) (k : ℕ) (out : Table) → k < f → k < g → put_below t f s k out ≡ put_below t g s k out
  unfolding put_below
  bound-free zero g s k out hf hg = absurd (not-suc-le-zero hf)
  bound-free (suc f) zero s k out hf hg = absurd (not-suc-le-zero hg)
  bound-free (suc f) (suc g) s k out hf hg =
      put_shape-same (put_below t f) (put_below t g) (shape (concept_at t k) s)
      (λ z l o m. bound-free f g z l o (omega (arith, rows-lower s k l m)) (omega (arith, rows-lower s k l m))) out

  pub put-clause : (s : Sign) (k : ℕ) (out : Table) → put t s k out ≡ put_shape (put t) (shape (concept_at t k) s) out
  unfolding put put_below
  put-clause s k out =
      put_shape-same (put_below t k) (put t) (shape (concept_at t k) s) (λ z l o m. bound-free k (suc l) z l o (rows-lower s k l m) (omega arith)) out

  pub put_as : (s : Sign) (k : ℕ) {σ : Shape} → shape (concept_at t k) s ≡ σ → (out : Table) → put t s k out ≡ put_shape (put t) σ out
  put_as s k e out = put-clause s k out ∙ ap (λ (σ : Shape). put_shape (put t) σ out) e

  -- ---- induction: a property of what is put, where it holds of the rows that are put before

  module _ (P : Sign → ℕ → Table → Put → Type 0) where
    abbrev pub Step : Sign → ℕ → Shape → Type 0
    Step s k (literal c) = (out : Table) → P s k out (share c out)
    Step s k (other z l) = (out : Table) (p : Put) → P z l out p → P s k out p
    Step s k (unary make z l) = (out : Table) (p : Put) → P z l out p → P s k out (share (make p.at) p.rows)
    Step s k (binary make z l y r) = (out : Table) (p q : Put) → P z l out p → P y r p.rows q → P s k out (share (make p.at q.at) q.rows)

    module _ (step : (s : Sign) (k : ℕ) (σ : Shape) → shape (concept_at t k) s ≡ σ → Step s k σ) where
      by_shape : (s : Sign) (k : ℕ) (σ : Shape) → shape (concept_at t k) s ≡ σ
          → ((z : Sign) (l : ℕ) → Memᴰ l (shape_rows σ) → (out : Table) → P z l out (put t z l out)) → (out : Table)
          → P s k out (put_shape (put t) σ out)
      unfolding put_shape
      by_shape s k (literal c) e ih out = step s k (literal c) e out
      by_shape s k (other z l) e ih out = step s k (other z l) e out (put t z l out) (ih z l (Memᴰ.head refl) out)
      by_shape s k (unary make z l) e ih out = step s k (unary make z l) e out (put t z l out) (ih z l (Memᴰ.head refl) out)
      by_shape s k (binary make z l y r) e ih out =
          step s k (binary make z l y r) e out (put t z l out) (put t y r (put t z l out).rows) (ih z l (Memᴰ.head refl) out)
          (ih y r (Memᴰ.tail (Memᴰ.head refl)) (put t z l out).rows)

      below : (f : ℕ) (s : Sign) (k : ℕ) → k < f → (out : Table) → P s k out (put t s k out)
      below zero s k h out = absurd (not-suc-le-zero h)
      below (suc f) s k h out =
          subst (P s k out) (sym (put-clause s k out))
          (by_shape s k (shape (concept_at t k) s) refl (λ z l m o. below f z l (omega (arith, rows-lower s k l m)) o) out)

      pub put-induction : (s : Sign) (k : ℕ) (out : Table) → P s k out (put t s k out)
      put-induction s k out = below (suc k) s k (omega arith) out

  -- ---- growth and settlement

  pub record RowsGrown (s : Sign) (k : ℕ) (out : Table) (p : Put) : Type 0 where
    pub more : Begins out p.rows
    pub inside : p.at < length p.rows
    -- where the table has all of this already, putting the row again changes nothing and gives the same place
    pub settled : (u : Table) → Begins p.rows u → put t s k u ≡ stands u p.at

  grown-step : (s : Sign) (k : ℕ) (σ : Shape) → shape (concept_at t k) s ≡ σ → Step RowsGrown s k σ
  unfolding put_shape
  grown-step s k (literal c) e = λ out.
      let S = share-gives c out in
      record { more = S.more; inside = S.inside; settled = λ u b. put_as s k e u ∙ shared-settled S b }
  grown-step s k (other z l) e = λ out p G. record { more = G.more; inside = G.inside; settled = λ u b. put_as s k e u ∙ G.settled u b }
  grown-step s k (unary make z l) e = λ out p G.
      let S = share-gives (make p.at) p.rows in
      record {
        more = begins-trans out p.rows _ G.more S.more;
        inside = S.inside;
        settled = λ u b.
            put_as s k e u ∙ ap (λ (x : Put). share (make x.at) x.rows) (G.settled u (begins-trans p.rows _ u S.more b)) ∙ shared-settled S b;
      }
  grown-step s k (binary make z l y r) e = λ out p q G F.
      let S = share-gives (make p.at q.at) q.rows in
      record {
        more = begins-trans out p.rows _ G.more (begins-trans p.rows q.rows _ F.more S.more);
        inside = S.inside;
        settled = λ u b.
            let right : Begins q.rows u = begins-trans q.rows _ u S.more b in
            let left : Begins p.rows u = begins-trans p.rows q.rows u F.more right in
            put_as s k e u ∙ ap (λ (x : Put). share (make x.at (put t y r x.rows).at) (put t y r x.rows).rows) (G.settled u left)
            ∙ ap (λ (x : Put). share (make p.at x.at) x.rows) (F.settled u right) ∙ shared-settled S b;
      }

  pub put-grown : (s : Sign) (k : ℕ) (out : Table) → RowsGrown s k out (put t s k out)
  put-grown = put-induction RowsGrown grown-step

  -- ---- induction, where growth is known of what is put before

  module _ (P : Sign → ℕ → Table → Put → Type 0) where
    abbrev pub GrownStep : Sign → ℕ → Shape → Type 0
    GrownStep s k (literal c) = (out : Table) → P s k out (share c out)
    GrownStep s k (other z l) = (out : Table) (p : Put) → P z l out p → P s k out p
    GrownStep s k (unary make z l) = (out : Table) (p : Put) → RowsGrown z l out p → P z l out p → P s k out (share (make p.at) p.rows)
    GrownStep s k (binary make z l y r) =
        (out : Table) (p q : Put) → RowsGrown z l out p → P z l out p → RowsGrown y r p.rows q → P y r p.rows q
        → P s k out (share (make p.at q.at) q.rows)

    module _ (step : (s : Sign) (k : ℕ) (σ : Shape) → shape (concept_at t k) s ≡ σ → GrownStep s k σ) where
      abbrev Both : Sign → ℕ → Table → Put → Type 0
      Both s k out p = RowsGrown s k out p × P s k out p

      both-step : (s : Sign) (k : ℕ) (σ : Shape) → shape (concept_at t k) s ≡ σ → Step Both s k σ
      both-step s k (literal c) e = λ out. (grown-step s k (literal c) e out, step s k (literal c) e out)
      both-step s k (other z l) e = λ out p g. (grown-step s k (other z l) e out p g.0, step s k (other z l) e out p g.1)
      both-step s k (unary make z l) e = λ out p g. (grown-step s k (unary make z l) e out p g.0, step s k (unary make z l) e out p g.0 g.1)
      both-step s k (binary make z l y r) e = λ out p q g h.
          (grown-step s k (binary make z l y r) e out p q g.0 h.0, step s k (binary make z l y r) e out p q g.0 g.1 h.0 h.1)

      pub put-grown-induction : (s : Sign) (k : ℕ) (out : Table) → P s k out (put t s k out)
      put-grown-induction s k out = (put-induction Both both-step s k out).1

  -- ---- induction over rows that are no inclusions: the rows that they name are none either

  module _ (idle : Idle t) (P : Sign → ℕ → Table → Put → Type 0)
      (step : (s : Sign) (k : ℕ) (σ : Shape) → NoInclusion t k → shape (concept_at t k) s ≡ σ → GrownStep P s k σ) where
    abbrev IfIdle : Sign → ℕ → Table → Put → Type 0
    IfIdle s k out p = NoInclusion t k → P s k out p

    rows-idle : (s : Sign) (k l : ℕ) {σ : Shape} → shape (concept_at t k) s ≡ σ → Memᴰ l (shape_rows σ) → NoInclusion t l
    rows-idle s k l e m = idle k l (rows_named t s k l e m)

    idle-step : (s : Sign) (k : ℕ) (σ : Shape) → shape (concept_at t k) s ≡ σ → GrownStep IfIdle s k σ
    idle-step s k (literal c) e = λ out n. step s k (literal c) n e out
    idle-step s k (other z l) e = λ out p H n. step s k (other z l) n e out p (H (rows-idle s k l e (Memᴰ.head refl)))
    idle-step s k (unary make z l) e = λ out p G H n. step s k (unary make z l) n e out p G (H (rows-idle s k l e (Memᴰ.head refl)))
    idle-step s k (binary make z l y r) e = λ out p q G H F K n.
        step s k (binary make z l y r) n e out p q G (H (rows-idle s k l e (Memᴰ.head refl))) F
        (K (rows-idle s k r e (Memᴰ.tail (Memᴰ.head refl))))

    pub put-idle-induction : (s : Sign) (k : ℕ) (out : Table) → NoInclusion t k → P s k out (put t s k out)
    put-idle-induction = put-grown-induction IfIdle idle-step
