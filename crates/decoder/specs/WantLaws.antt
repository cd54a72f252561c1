-- Laws of Want.
--
-- In order: a mask before the kinds, written anew (`decoded-anew`); that of the wanted rows (`wanted-anew`), and of the rules (`rules-anew`); words of the
-- same rows.
use Rattle.std.specs.Prelude.{◌≡◌, refl, List, ℕ, ◌+◌, ◌≤◌, ◌<◌, T, eqb}
use Rattle.std.proofs.Common.{sym, ap, ◌∙◌, inl, inr, arith}
use Rattle.concepts.specs.RowSet.{RowSet, mem, empty, from_list}
use Rattle.concepts.specs.RowSetLaws.{from_list-mem}
use Rattle.words.specs.Sizes.{set_words, width}
use Rattle.procedure.specs.Problem.{Problem}
use Rattle.problem.specs.Rows.{AllBelow}
use Rattle.problem.specs.Layout.{used_at, rules_at, wanted_at, kinds_at, narrows_at, kind_place, role_place}
use Rattle.problem.specs.Decoded.{mask_of, table_of, rules_of, wanted_of, problem_of, Decoded}
use Rattle.problem.specs.DecodedLaws.{length-table_of}
use Rattle.decoder.specs.Remade.{Beside}
use Rattle.decoder.specs.RemadeLaws.{mask-beside, table_beside, rows-beside}
use Rattle.decoder.specs.Marking.{PutsList}
use Rattle.decoder.specs.Want.{MayServe, AllServe, with_wanted, with_rules, Poses, SameRows}

-- ---- a mask before the kinds, written anew

-- each row of the set may serve
abbrev Serves : List ℕ → RowSet → Type 0
Serves w rows = (k : ℕ) → T (mem k rows) → MayServe (table_of w) k

module _ {w : List ℕ} (ok : Decoded w) {at : ℕ} (low : used_at < at) (high : at + set_words ≤ kinds_at) {v : List ℕ} (anew : Beside at set_words w v) where
  table-anew : table_of v ≡ table_of w
  table-anew = table_beside anew low (omega arith)

  mask-behind : (p : ℕ) → kinds_at ≤ p → mask_of v p ≡ mask_of w p
  mask-behind p h = mask-beside anew p (inr (omega arith))

  decoded-anew : Serves w (rules_of v) → Serves w (wanted_of v) → Decoded v
  decoded-anew rules wanted = record {
    rows = rows-beside anew low (omega arith) ok.rows (λ kind h. mask-behind (kind_place kind) (omega arith)) rules wanted;
    universals = λ ρ h. rw (table-anew, mask-behind (role_place ρ) (omega arith)) (ok.universals ρ h);
    narrows = λ e σ h.
        rw (table-anew, anew.others (narrows_at + σ) (inr (omega arith)))
        (ok.narrows (sym (ap (λ (x : ℕ). eqb x empty) (mask-behind (kind_place 7) (omega arith))) ∙ e) σ h);
  }

module _ {w : List ℕ} (ok : Decoded w) {list : List ℕ} (serve : AllServe (table_of w) list) where
  pub serving-below : AllBelow width list
  serving-below k m = omega (arith, (serve k m).0, length-table_of w, ok.rows.few)

  list-serves : {rows : RowSet} → rows ≡ from_list list → Serves w rows
  list-serves e k m = serve k (from_list-mem k list (rw e at m))

  pub wanted-anew : {v : List ℕ} → PutsList wanted_at set_words list w v → Poses (with_wanted (from_list list) (problem_of w)) v
  wanted-anew {v} L =
      let rules : rules_of v ≡ rules_of w = mask-beside L.beside rules_at (inl (omega arith)) in
      record {
        decoded = decoded-anew ok (omega arith) (omega arith) L.beside (λ k m. ok.rows.rule_rows k (rw rules at m)) (list-serves L.rows);
        problem-is = rw (table-anew ok (omega arith) (omega arith) L.beside, rules, L.rows);
      }

  pub rules-anew : {v : List ℕ} → PutsList rules_at set_words list w v → Poses (with_rules (from_list list) (problem_of w)) v
  rules-anew {v} L =
      let wanted : wanted_of v ≡ wanted_of w = mask-beside L.beside wanted_at (inr (omega arith)) in
      record {
        decoded = decoded-anew ok (omega arith) (omega arith) L.beside (list-serves L.rows) (λ k m. ok.rows.wanted_rows k (rw wanted at m));
        problem-is = rw (table-anew ok (omega arith) (omega arith) L.beside, L.rows, wanted);
      }

-- ---- words of the same rows

module _ {w v : List ℕ} {rows : RowSet} where
  pub wanted-same : Poses (with_wanted rows (problem_of w)) v → SameRows with_wanted w v
  wanted-same P = record {
    decoded = P.decoded;
    table_is = ap (λ (Q : Problem). Q.table) P.problem-is;
    problem-is = λ s. ap (with_wanted s) P.problem-is;
  }

  pub rules-same : Poses (with_rules rows (problem_of w)) v → SameRows with_rules w v
  rules-same P = record {
    decoded = P.decoded;
    table_is = ap (λ (Q : Problem). Q.table) P.problem-is;
    problem-is = λ s. ap (with_rules s) P.problem-is;
  }

module _ {other : RowSet → Problem → Problem} where
  pub same_refl : {w : List ℕ} → Decoded w → SameRows other w w
  same_refl ok = record { decoded = ok; table_is = refl; problem-is = λ rows. refl }

  pub same_then : {w v u : List ℕ} → SameRows other w v → SameRows other v u → SameRows other w u
  same_then S R = record { decoded = R.decoded; table_is = R.table_is ∙ S.table_is; problem-is = λ rows. R.problem-is rows ∙ S.problem-is rows }

  module _ {w v : List ℕ} (S : SameRows other w v) where
    pub same-serve : {k : ℕ} → MayServe (table_of w) k → MayServe (table_of v) k
    same-serve m = rw S.table_is m

    pub same-all : {list : List ℕ} → AllServe (table_of w) list → AllServe (table_of v) list
    same-all m k r = same-serve (m k r)
