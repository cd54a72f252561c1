-- Laws of Chaining: after all inclusions the words are a decoded problem (`placed-decoded`, `included-decoded`).
--
-- In order: words left as they are; each role narrower than itself; rows that join along a role, word by word (`words-joined`); a pair of roles more;
-- the table, what is said of the rows, and the words in use; row by row; all.
use Rattle.std.specs.Prelude.{◌≡◌, refl, Bool, true, false, ◌&&◌, ◌||◌, cond, List, ◌⊎◌, ℕ, suc, ◌+◌, ◌-◌, ◌*◌, ◌≤◌, ◌<◌, eqb, ltb, length, get_or, None, Some}
use Rattle.std.proofs.Common.{sym, ap₂, ◌∙◌, subst, inl, inr, arith, eq-eqb, ne_eqb, lt-ltb, le-ltb}
use Rattle.std.proofs.Math.Path.{ap}
use Rattle.std.proofs.Math.Decide.{ℕ_discrete}
use Rattle.concepts.specs.Tests.{impossible, or_nothing, and-nothing, and-all}
use Rattle.concepts.specs.Role.{inverse}
use Rattle.concepts.specs.Concept.{as_inclusion, Table, concept_at, role_of}
use Rattle.concepts.specs.ConceptLaws.{as_inclusion-some}
use Rattle.concepts.specs.Inclusion.{Relation, chained, including, narrower_by, narrower}
use Rattle.concepts.proofs.InclusionLaws.{by-inclusion, by-other, by-none, narrower-all}
use Rattle.concepts.specs.RowSet.{mem, empty, union, single}
use Rattle.concepts.specs.RowSetLaws.{mem-union, mem-single, union-empty}
use Rattle.decoding.specs.RowParts.{kind_of}
use Rattle.decoding.specs.RowPartLaws.{views-by-parts}
use Rattle.words.specs.Sizes.{set_words}
use Rattle.rowset.specs.NextLaws.{Words}
use Rattle.rowset.specs.InUse.{mask-beyond}
use Rattle.problem.specs.Layout.{rules_at, wanted_at, universals_at, narrows_at, kind_place, role_place}
use Rattle.problem.specs.Decoded.{count_of, used_of, mask_of, part_of, table_of, Picked, universal, Narrows, no_inclusion}
use Rattle.problem.specs.Decoded.{RowsDecoded, Reaching, Narrowing, DecodedFrom}
use Rattle.problem.specs.DecodedLaws.{length-table_of, word-parts, inclusion-roles, same-only}
use Rattle.decoder.specs.Remade.{Beside}
use Rattle.decoder.specs.RemadeLaws.{beside-refl, beside-then, beside-wider, mask-beside, used-beside, row-beside, table_beside, rows-beside}
use Rattle.decoder.specs.RemadeLaws.{remade-beside, remade-same}
use Rattle.decoder.specs.MarkingLaws.{mask-joining}
use Rattle.decoder.specs.Writing.{Placed}
use Rattle.decoder.specs.Chaining.{joining, Sames, JoinsNarrows, JoinsWord, JoinsWords, JoinsUniversals, RowsKept, InUse, Chains}
use Rattle.decoder.specs.Chaining.{with_row, RolesAt, IncludesRow, Included}

-- ---- words left as they are

kept-universals : {w v : List ℕ} → Beside universals_at (32 * set_words) w v → RowsKept w v
kept-universals B = beside-wider (omega arith) (omega arith) B

pub kept-narrows : {w v : List ℕ} → Beside narrows_at 32 w v → RowsKept w v
kept-narrows B = beside-wider (omega arith) (omega arith) B

-- ---- each role is narrower than itself

pub single-narrows : (σ : ℕ) → σ < 32 → Narrows eqb σ (single σ)
single-narrows σ h = record { codes = λ ρ. mem-single ρ σ ∙ below ρ }
  where
    below : (ρ : ℕ) → eqb ρ σ ≡ (ltb ρ 32 && eqb ρ σ)
    below ρ = elim (ℕ_discrete ρ σ) [
      | yes e ↦ sym (ap (λ (x : Bool). x && eqb ρ σ) (lt-ltb ρ 32 (omega arith)))
      | no d ↦ ne_eqb ρ σ d ∙ sym (ap (λ (x : Bool). ltb ρ 32 && x) (ne_eqb ρ σ d) ∙ and-nothing (ltb ρ 32))
    ]

module _ {w v : List ℕ} (S : Sames 32 w v) where
  pub sames-narrowing : Narrowing eqb v
  sames-narrowing σ h = subst (Narrows eqb σ) (sym (S.made σ h)) (single-narrows σ h)

  pub sames-reaching : (t : Table) (R : Relation) → Reaching t R w → Reaching t R v
  sames-reaching t R reach ρ h = subst (Picked t (universal R ρ)) (sym (mask-beside (remade-beside S) (role_place ρ) (inl (omega arith)))) (reach ρ h)

-- ---- rows that join along a role, word by word

-- what joins, or nothing
pub joined-if : (test : Bool) (x s : ℕ) → union s (cond test x empty) ≡ joining test x s
joined-if true x s = refl
joined-if false x s = union-empty s

joining-empty : (test : Bool) (s : ℕ) → joining test empty s ≡ s
joining-empty true s = union-empty s
joining-empty false s = refl

-- the places of word j in the masks along two roles
pub roles-apart : (j c d : ℕ) → role_place c + j ≡ role_place d + j → c ≡ d
roles-apart j c d e = omega arith

-- no row of word j reaches along σ
pub joins-nothing : (j ρ σ : ℕ) (w : List ℕ) → get_or w (role_place σ + j) 0 ≡ empty → JoinsWord j 32 ρ σ w w
joins-nothing j ρ σ w e = remade-same w (λ c h.
    let s = get_or w (role_place c + j) 0 in
    let test = mem c (get_or w (narrows_at + ρ) 0) in
    ap (λ (x : ℕ). joining test x s) e ∙ joining-empty test s)

pub words-none : (ρ σ : ℕ) (w : List ℕ) → JoinsWords 0 ρ σ w w
words-none ρ σ w = record { beside = beside-refl w; done = λ c j h l. absurd (omega arith); ahead = λ c j h l b. refl }

module _ {n ρ σ : ℕ} (hρ : ρ < 32) (hσ : σ < 32) (few : n < set_words) {w v : List ℕ} (J : JoinsWords n ρ σ w v) where
  pub words_more : {u : List ℕ} → JoinsWord n 32 ρ σ v u → JoinsWords (n + 1) ρ σ w u
  words_more {u} R = record {
    beside = beside-then J.beside (record { longs = R.longs; others = λ i o. R.others i (apart i o) });
    done = λ c j h l. elim (ℕ_discrete j n) [
      | yes e ↦ here c j h e
      | no d ↦ other c j h d (omega arith) ∙ J.done c j h (omega arith)
    ];
    ahead = λ c j h l b. other c j h (λ e. omega arith) b ∙ J.ahead c j h (omega arith) b;
  }
    where
      apart : (i : ℕ) → (i < universals_at) ⊎ (universals_at + 32 * set_words ≤ i) → (c : ℕ) → c < 32 → i ≡ role_place c + n → ⊥
      apart i (inl l) c h e = omega arith
      apart i (inr g) c h e = omega arith

      -- another word of a mask
      other : (c j : ℕ) → c < 32 → (j ≡ n → ⊥) → j < set_words → get_or u (role_place c + j) 0 ≡ get_or v (role_place c + j) 0
      other c j h d b = R.others (role_place c + j) (λ x l e. d (omega arith))

      here : (c j : ℕ) → c < 32 → j ≡ n
          → get_or u (role_place c + j) 0 ≡ joining (mem c (get_or w (narrows_at + ρ) 0)) (get_or w (role_place σ + j) 0) (get_or w (role_place c + j) 0)
      here c j h e =
          let narrow : get_or v (narrows_at + ρ) 0 ≡ get_or w (narrows_at + ρ) 0 = J.beside.others (narrows_at + ρ) (inr (omega arith)) in
          let word : (d : ℕ) → d < 32 → get_or v (role_place d + n) 0 ≡ get_or w (role_place d + n) 0 = λ d l. J.ahead d n l (omega arith) few in
          rw e (R.made c h ∙ rw (narrow, word σ hσ, word c h))

-- the words in use are all
pub words-joined : {ρ σ : ℕ} → σ < 32 → (w : List ℕ) → Words w → InUse w → {v : List ℕ} → JoinsWords (used_of w) ρ σ w v
    → JoinsUniversals ρ σ w v
words-joined {ρ} {σ} hσ w words U {v} J = record {
  beside = J.beside;
  rows = λ c h. mask-joining (mem c (get_or w (narrows_at + ρ) 0)) w v words (role_place c) (role_place σ) (λ j l. elim (ℕ_discrete (suc j - used_of w) 0) [
    | yes e ↦ J.done c j h (omega arith)
    | no d ↦
        let s = get_or w (role_place c + j) 0 in
        let test = mem c (get_or w (narrows_at + ρ) 0) in
        let none-there = mask-beyond w words (role_place σ) (used_of w) set_words (U.none σ hσ) j (omega arith) l in
        J.ahead c j h (omega arith) l ∙ sym (ap (λ (x : ℕ). joining test x s) none-there ∙ joining-empty test s)
  ]);
}

-- ---- a pair of roles more

mem-joining : (k : ℕ) (test : Bool) (x s : ℕ) → mem k (joining test x s) ≡ (mem k s || (test && mem k x))
mem-joining k true x s = mem-union k s x
mem-joining k false x s = sym (or_nothing (mem k s))

chain-rows : (l u r a b : Bool) → ((l && (u && r)) || (a && (l && (u && b)))) ≡ (l && (u && (r || (a && b))))
chain-rows true true r a b = refl
chain-rows true false r a b = and-nothing a
chain-rows false u r a b = and-nothing a

chain-codes : (l r a b : Bool) → ((l && r) || (b && (l && a))) ≡ (l && (r || (a && b)))
chain-codes false r a b = and-nothing b
chain-codes true r true b = ap (λ (x : Bool). r || x) (and-all b)
chain-codes true r false b = ap (λ (x : Bool). r || x) (and-nothing b)

module _ {ρ σ : ℕ} (hρ : ρ < 32) (hσ : σ < 32) {w v u : List ℕ} (I : InUse w) (U : JoinsUniversals ρ σ w v) (N : JoinsNarrows 32 ρ σ v u) where
  narrow-kept : (c : ℕ) → get_or v (narrows_at + c) 0 ≡ get_or w (narrows_at + c) 0
  narrow-kept c = U.beside.others (narrows_at + c) (inr (omega arith))

  narrow-there : (c : ℕ) → c < 32 → get_or u (narrows_at + c) 0 ≡ joining (mem σ (get_or w (narrows_at + c) 0)) (get_or w (narrows_at + ρ) 0)
      (get_or w (narrows_at + c) 0)
  narrow-there c h = N.made c h ∙ ap₂ (λ (x y : ℕ). joining (mem σ x) y x) (narrow-kept c) (narrow-kept ρ)

  -- the rows along a role
  row-there : (c : ℕ) → c < 32 → (k : ℕ)
      → mem k (mask_of u (role_place c)) ≡ (mem k (mask_of w (role_place c)) || (mem c (get_or w (narrows_at + ρ) 0) && mem k (mask_of w (role_place σ))))
  row-there c h k =
      ap (mem k) (mask-beside (remade-beside N) (role_place c) (inl (omega arith)) ∙ U.rows c h)
      ∙ mem-joining k (mem c (get_or w (narrows_at + ρ) 0)) (mask_of w (role_place σ)) (mask_of w (role_place c))

  pair-kept : RowsKept w u
  pair-kept = beside-then (kept-universals U.beside) (kept-narrows (remade-beside N))

  pair-in-use : InUse u
  pair-in-use =
      let same : used_of u ≡ used_of w = used-beside pair-kept (omega arith) (omega arith) in
      record {
        few = omega (arith, same, I.few);
        none = λ c h k l.
            let test = mem c (get_or w (narrows_at + ρ) 0) in
            row-there c h k
            ∙ ap₂ (λ (x y : Bool). x || (test && y)) (I.none c h k (omega (arith, same))) (I.none σ hσ k (omega (arith, same))) ∙ and-nothing test;
      }

  pub pair-chains : Chains ρ σ w u
  unfolding universal
  pair-chains = record {
    kept = pair-kept;
    in_use = pair-in-use;
    reaching = λ t R reach narrow c h. record {
      rows = λ k.
          let x = concept_at t k in
          row-there c h k
          ∙ (λ i. (reach c h).rows k i || (((narrow ρ hρ).codes c ∙ ap (λ (y : Bool). y && R c ρ) (lt-ltb c 32 h)) i && (reach σ hσ).rows k i))
          ∙ chain-rows (ltb k (length t)) (eqb (kind_of x) 5) (R c (role_of x)) (R c ρ) (R σ (role_of x));
    };
    narrowing = λ R narrow c h. record {
      codes = λ a.
          ap (mem a) (narrow-there c h)
          ∙ mem-joining a (mem σ (get_or w (narrows_at + c) 0)) (get_or w (narrows_at + ρ) 0) (get_or w (narrows_at + c) 0)
          ∙ (λ i. (narrow c h).codes a i || (((narrow c h).codes σ ∙ ap (λ (y : Bool). y && R σ c) (lt-ltb σ 32 hσ)) i && (narrow ρ hρ).codes a i))
          ∙ chain-codes (ltb a 32) (R a c) (R a ρ) (R σ c);
    };
  }

-- ---- the table, what is said of the rows, and the words in use

module _ {w v : List ℕ} (K : RowsKept w v) where
  pub table_kept : table_of v ≡ table_of w
  table_kept = table_beside K (omega arith) (omega arith)

  pub rows-kept : RowsDecoded w → RowsDecoded v
  rows-kept ok =
      rows-beside K (omega arith) (omega arith) ok (λ kind h. mask-beside K (kind_place kind) (inl (omega arith)))
      (λ k m. ok.rule_rows k (rw (mask-beside K rules_at (inl (omega arith))) at m))
      (λ k m. ok.wanted_rows k (rw (mask-beside K wanted_at (inl (omega arith))) at m))

  -- no row is beyond the words in use
  reaching-in-use : RowsDecoded w → (R : Relation) → Reaching (table_of w) R v → InUse v
  reaching-in-use ok R reach =
      let same : used_of v ≡ used_of w = used-beside K (omega arith) (omega arith) in
      record {
        few = omega (arith, same, ok.used.0);
        none = λ ρ h k l.
            let beyond : length (table_of w) ≤ k = omega (arith, same, ok.used.1, length-table_of w) in
            (reach ρ h).rows k ∙ ap (λ (x : Bool). x && universal R ρ (concept_at (table_of w) k)) (le-ltb k (length (table_of w)) beyond);
      }

-- ---- row by row

-- the inclusion in row k, if row k is one
module _ {w : List ℕ} {k : ℕ} where
  pub other_row : eqb (part_of w k 0) 7 ≡ false → IncludesRow k w w
  other_row e = record {
    kept = beside-refl w;
    reaching = λ t R reach narrow. subst (λ (Q : Relation). Reaching t Q w) (sym (without R)) reach;
    narrowing = λ R narrow. subst (λ (Q : Relation). Narrowing Q w) (sym (without R)) narrow;
  }
    where
      without : (R : Relation) → with_row w k R ≡ R
      without R = ap (λ (x : Bool). cond x (including R (part_of w k 1) (part_of w k 2)) R) e

  pub inclusion-row : {v u : List ℕ} → eqb (part_of w k 0) 7 ≡ true → Chains (part_of w k 1) (part_of w k 2) w v
      → Chains (inverse (part_of w k 1)) (inverse (part_of w k 2)) v u → IncludesRow k w u
  inclusion-row {v} {u} e C D = record {
    kept = beside-then C.kept D.kept;
    reaching = λ t R reach narrow.
        subst (λ (Q : Relation). Reaching t Q u) (sym (more R))
        (D.reaching t (chained R (part_of w k 1) (part_of w k 2)) (C.reaching t R reach narrow) (C.narrowing R narrow));
    narrowing = λ R narrow.
        subst (λ (Q : Relation). Narrowing Q u) (sym (more R)) (D.narrowing (chained R (part_of w k 1) (part_of w k 2)) (C.narrowing R narrow));
  }
    where
      more : (R : Relation) → with_row w k R ≡ including R (part_of w k 1) (part_of w k 2)
      more R = ap (λ (x : Bool). cond x (including R (part_of w k 1) (part_of w k 2)) R) e

module _ {w : List ℕ} (ok : RowsDecoded w) where
  abbrev t : Table
  t = table_of w

  -- by row n, in the words of the start
  row-relation : (n : ℕ) → n < count_of w → narrower_by t (n + 1) ≡ with_row w n (narrower_by t n)
  row-relation n h =
      let c = concept_at t n in
      let view : as_inclusion c ≡ cond (eqb (part_of w n 0) 7) (Some (part_of w n 1, part_of w n 2)) None =
      let parts = word-parts ok n h in
      (views-by-parts c).inclusion-is ∙ rw (parts.kind-is, parts.role-is, parts.left_is) in
      ap (narrower_by t) (omega arith) ∙ by (eqb (part_of w n 0) 7) view
    where
      by : (x : Bool) → as_inclusion (concept_at t n) ≡ cond x (Some (part_of w n 1, part_of w n 2)) None
          → narrower_by t (suc n) ≡ cond x (including (narrower_by t n) (part_of w n 1) (part_of w n 2)) (narrower_by t n)
      by true e = by-inclusion t n e
      by false e = by-other t n e

  pub included-in-use : {n : ℕ} {v : List ℕ} → Included w n v → InUse v
  included-in-use {n} I = reaching-in-use I.kept ok (narrower_by t n) I.reaching

  module _ {n : ℕ} (h : n < count_of w) {v : List ℕ} (I : Included w n v) where
    part-kept : (i : ℕ) → part_of v n i ≡ part_of w n i
    part-kept i = rw (row-beside I.kept (omega arith) (omega arith) n)

    -- its role codes are in their range
    pub roles-at : RolesAt v n
    roles-at e =
        let parts = word-parts ok n h in
        let view = (views-by-parts (concept_at t n)).inclusion-is in
        let kind : kind_of (concept_at t n) ≡ 7 = parts.kind-is ∙ sym (part-kept 0) ∙ e in
        let is : as_inclusion (concept_at t n) ≡ Some (part_of w n 1, part_of w n 2) =
        view ∙ rw (eq-eqb (kind_of (concept_at t n)) 7 kind, parts.role-is, parts.left_is) in
        let (p, q) = inclusion-roles ok n (part_of w n 1) (part_of w n 2) (as_inclusion-some (concept_at t n) (part_of w n 1, part_of w n 2) is) in
        (omega (arith, part-kept 1), omega (arith, part-kept 2))

    pub included-more : {u : List ℕ} → IncludesRow n v u → Included w (n + 1) u
    included-more {u} R =
        let same : with_row v n (narrower_by t n) ≡ narrower_by t (n + 1) =
        rw (part-kept 0, part-kept 1, part-kept 2) (sym (row-relation n h)) in
        record {
          kept = beside-then I.kept R.kept;
          reaching = subst (λ (Q : Relation). Reaching t Q u) same (R.reaching t (narrower_by t n) I.reaching I.narrowing);
          narrowing = subst (λ (Q : Relation). Narrowing Q u) same (R.narrowing (narrower_by t n) I.narrowing);
        }

-- ---- all

module _ {b tbox wanted w : List ℕ} (P : Placed b tbox wanted w) where
  -- without an inclusion the words are complete
  pub placed-decoded : no_inclusion w ≡ true → DecodedFrom b tbox wanted w
  placed-decoded e = record {
    decoded = record {
      rows = P.rows;
      universals = subst (λ (Q : Relation). Reaching (table_of w) Q w) (sym (same-only P.rows e)) P.universals;
      narrows = λ f. let z : true ≡ false = sym e ∙ f in impossible cc;
    };
    table_is = P.table_is;
    rules-are = P.rules-are;
    wanted-are = P.wanted-are;
  }

  -- with each role narrower than itself, nothing is included yet
  pub placed-sames : {v : List ℕ} → Sames 32 w v → Placed b tbox wanted v × Included v 0 v
  placed-sames {v} S =
      let K = kept-narrows (remade-beside S) in
      let same = table_kept K in
      let reach : Reaching (table_of v) eqb v = subst (λ (t : Table). Reaching t eqb v) (sym same) (sames-reaching S (table_of w) eqb P.universals) in (
        record {
          rows = rows-kept K P.rows;
          universals = reach;
          table_is = same ∙ P.table_is;
          rules-are = mask-beside K rules_at (inl (omega arith)) ∙ P.rules-are;
          wanted-are = mask-beside K wanted_at (inl (omega arith)) ∙ P.wanted-are;
        },
        record {
          kept = beside-refl v;
          reaching = subst (λ (Q : Relation). Reaching (table_of v) Q v) (sym (by-none (table_of v))) reach;
          narrowing = subst (λ (Q : Relation). Narrowing Q v) (sym (by-none (table_of v))) (sames-narrowing S);
        },
      )

  -- with the inclusions of all rows they are complete
  pub included-decoded : {v : List ℕ} → Included w (count_of w) v → DecodedFrom b tbox wanted v
  included-decoded {v} I =
      let K = I.kept in
      let same = table_kept K in
      let all : narrower_by (table_of w) (count_of w) ≡ narrower (table_of v) =
      ap (narrower_by (table_of w)) (sym (length-table_of w)) ∙ sym (narrower-all (table_of w)) ∙ ap narrower (sym same) in
      record {
        decoded = record {
          rows = rows-kept K P.rows;
          universals =
              subst (λ (t : Table). Reaching t (narrower (table_of v)) v) (sym same) (subst (λ (Q : Relation). Reaching (table_of w) Q v) all I.reaching);
          narrows = λ _. subst (λ (Q : Relation). Narrowing Q v) all I.narrowing;
        };
        table_is = same ∙ P.table_is;
        rules-are = mask-beside K rules_at (inl (omega arith)) ∙ P.rules-are;
        wanted-are = mask-beside K wanted_at (inl (omega arith)) ∙ P.wanted-are;
      }
