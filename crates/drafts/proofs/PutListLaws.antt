-- Laws of putting a list of rows, one after the other.
--
-- In order: what is known of the rows that are written and of the places (`ListGrown`, `put_list-grown`); the table stays sound (`put_list-sound`).
-- Assumes nothing.
use Rattle.std.specs.Prelude.{◌≡◌, T, get_or}
use Rattle.std.proofs.Math.Path.{refl, ap}
use mathlib.Core.List.{List, [], ◌∷◌, Memᴰ}
use Prim.Native.Nat.{ℕ, zero, suc, ◌≤◌, ◌<◌}
use Rattle.std.proofs.Common.{not-suc-le-zero, le_of_suc-le-suc, arith}
use Rattle.std.proofs.Math.Decide.{dec_lt}
use Rattle.std.proofs.Math.ListN.{length}
use Rattle.concepts.specs.Begins.{Begins, begins-refl, begins-trans}
use Rattle.concepts.specs.Concept.{Table, concept_at, Ordered, NoInclusion}
use Rattle.decoding.specs.RowParts.{in_range}
use Rattle.drafts.specs.Normalize.{as_is, Put, stands, put, PutList, put_list}
use Rattle.drafts.specs.Sound.{Idle, Sound}
use Rattle.drafts.proofs.PutLaws.{put-grown}
use Rattle.drafts.proofs.SoundLaws.{put-sound}
use Rattle.drafts.specs.NeededLaws.{Reaches}
use Rattle.drafts.proofs.NeededLaws.{reaches-grown, put-reaches}

module _ (t : Table) (ordered : Ordered t) where
  pub record ListGrown (ks : List ℕ) (out : Table) (q : PutList) : Type 0 where
    pub more : Begins out q.rows
    pub count : length q.places ≡ length ks
    -- each row of the list is found at its place, as the table grows
    pub settled : (i : ℕ) → i < length ks → (u : Table) → Begins q.rows u → put t as_is (get_or ks i 0) u ≡ stands u (get_or q.places i 0)
    -- each new row is reached from one of the places
    pub reached : (i : ℕ) → length out ≤ i → i < length q.rows → (j : ℕ) × Memᴰ j q.places × Reaches q.rows j i

  pub put_list-grown : (ks : List ℕ) (out : Table) → ListGrown ks out (put_list t ks out)
  unfolding put_list
  put_list-grown [] out = record {
    more = begins-refl out;
    count = refl;
    settled = λ i h. absurd (not-suc-le-zero h);
    reached = λ i from b. absurd (omega arith);
  }
  put_list-grown (k ∷ ks) out =
      let p = put t as_is k out in
      let G = put-grown t ordered as_is k out in
      let L = put_list-grown ks p.rows in
      record {
        more = begins-trans out p.rows _ G.more L.more;
        count = ap suc L.count;
        settled = at p (put_list t ks p.rows) (λ u b. G.settled u (begins-trans p.rows _ u L.more b)) L.settled;
        reached = λ i from b. elim (dec_lt i (length p.rows)) [
          | yes h ↦ (p.at, Memᴰ.head refl, reaches-grown L.more (put-reaches t ordered as_is k out i from h))
          | no g ↦ let (j, m, r) = L.reached i (omega arith) b in (j, Memᴰ.tail m, r)
        ];
      }
    where
      -- the first row, and those after it
      at : (p : Put) (q : PutList) → ((u : Table) → Begins q.rows u → put t as_is k u ≡ stands u p.at)
          → ((i : ℕ) → i < length ks → (u : Table) → Begins q.rows u → put t as_is (get_or ks i 0) u ≡ stands u (get_or q.places i 0))
          → (i : ℕ) → i < suc (length ks) → (u : Table) → Begins q.rows u → put t as_is (get_or (k ∷ ks) i 0) u ≡ stands u (get_or (p.at ∷ q.places) i 0)
      at p q first rest zero h u b = first u b
      at p q first rest (suc i) h u b = rest i (le_of_suc-le-suc h) u b

  pub put_list-sound : Idle t → ((k : ℕ) → T (in_range (concept_at t k))) → (ks : List ℕ) → ((k : ℕ) → Memᴰ k ks → NoInclusion t k) → (out : Table)
      → Sound out → Sound (put_list t ks out).rows
  unfolding put_list
  put_list-sound idle ranged [] none out S = S
  put_list-sound idle ranged (k ∷ ks) none out S =
      put_list-sound idle ranged ks (λ j m. none j (Memᴰ.tail m)) (put t as_is k out).rows (put-sound t ordered idle ranged as_is k out (none k (Memᴰ.head refl)) S).0
