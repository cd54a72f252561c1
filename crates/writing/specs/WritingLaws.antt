-- Laws of Writing: the ways through the writers.
--
-- In order: the names of the elements; the links, one more, a writer's start and end; a link; the whole: what the evaluation asks, and what it gives.
use Rattle.std.specs.Prelude.{◌≡◌, refl, ℕ, ◌+◌, ◌*◌, ◌^◌, ◌≤◌, ◌<◌, get_or}
use Rattle.std.proofs.Math.Path.{sym, ap}
use Rattle.std.proofs.Common.{ap₂, ◌∙◌, subst, lt_of_lt_of_le, arith, length-append, pow_mono}
use mathlib.Core.List.{List, ◌++◌, map, map-map, append_assoc, Memᴰ}
use Rattle.std.proofs.Math.ListN.{length}
use Rattle.concepts.specs.Lists.{Bytes, range}
use Rattle.concepts.specs.ListLaws.{length-map-range, get_or-map-range, range-more, range-mem, map-mem, map_same}
use Rattle.concepts.specs.Inclusion.{narrower}
use Rattle.concepts.specs.RowSet.{RowSet}
use Rattle.meaning.specs.Meaning.{World}
use Rattle.meaning.specs.Given.{RoleLink, given}
use Rattle.procedure.specs.SetTests.{names_of}
use Rattle.procedure.specs.Example.{Example, world_of}
use Rattle.procedure.specs.ExampleLaws.{world-given}
use Rattle.words.specs.Words.{put_le, little_endian, overwrite}
use Rattle.words.specs.WordLaws.{length-put_le, length-little_endian, put_le-overwrite, overwrite-again}
use Rattle.words.specs.Fields.{put_fields}
use Rattle.words.specs.FieldLaws.{length-put_fields}
use Rattle.words.specs.Sizes.{node_size, set_size, link_size, width}
use Rattle.rowset.specs.SetOf.{set_of}
use Rattle.problem.specs.Decoded.{table_of, Decoded}
use Rattle.listing.specs.Evaluation.{evaluated}
use Rattle.listing.proofs.EvaluationLaws.{length-evaluated}
use Rattle.listing.specs.Layout.{element_at, link_at, element_bytes, link_bytes, links_in, world_in}
use Rattle.listing.specs.LayoutLaws.{link_record, length-element_bytes, length-link_bytes, link_bytes-snoc, LinkFits, links-back}
use Rattle.evaluation.specs.Holding.{Holding}
use Rattle.evaluation.specs.HoldingLaws.{hold-none, hold-length, hold-get, hold-more}
use Rattle.evaluation.specs.Clauses.{EvaluateAsks}
use Rattle.run.specs.Run.{listing}
use Rattle.settests.specs.AnswerLaws.{names-lt}
use Rattle.records.specs.Areas.{Fits}
use Rattle.records.specs.RecordLaws.{node-rows}
use Rattle.marks.specs.Marks.{state_in, role_link_of, role_link_in, example_held}
use Rattle.marks.specs.declared.LinkMark.{LinkMark}
use Rattle.marks.specs.declared.Sizes.{Sizes}
use Rattle.writing.specs.Writing.{set_in, names_in, links_to, link_fields, ElementsAsk, WriteAsks, WriteGives, CopiedUpTo}

-- ---- the names of the elements

-- an element is in the area
module _ {n : Bytes} {count : ℕ} {elements : Bytes} (A : ElementsAsk n count elements) {d : ℕ} (h : d < count) where
  pub element-fits : Fits node_size n d
  element-fits = (omega (arith, A.held), omega (arith, A.held))

  -- and so is the set of its state
  pub element-inside : {y at : ℕ} → y ≡ state_in n d → at ≡ node_size * y → at + set_size ≤ length n
  element-inside p q = let state = A.states d h in omega (arith, p, q)

-- what stands there is the set of the element
pub element-set : (n : Bytes) (d : ℕ) {y at : ℕ} → y ≡ state_in n d → at ≡ node_size * y → set_of n at ≡ set_in n d
element-set n d p q = ap (set_of n) (q ∙ ap (λ (z : ℕ). node_size * z) p) ∙ sym (node-rows n (state_in n d))

-- names fit the place of a set
names-fit : {ws : List ℕ} → Decoded ws → (s : RowSet) → names_of (table_of ws) s < 256 ^ set_size
names-fit D s = lt_of_lt_of_le (names-lt D s) (pow_mono {i = 64} {j = width} (omega arith))

-- the names of the elements below d are written
pub record Naming (ws : List ℕ) (n : Bytes) (count : ℕ) (area : Bytes) (d : ℕ) (area' : Bytes) : Type 0 where
  pub within : d ≤ count
  pub size : length area' ≡ length area
  pub holds : Holding area d (names_in (table_of ws) n) area'

pub naming-none : {ws : List ℕ} {n : Bytes} {count : ℕ} {area : Bytes} → Naming ws n count area 0 area
naming-none {ws} {n} {area = area} = record { within = omega arith; size = refl; holds = hold-none area (names_in (table_of ws) n) }

module _ {ws : List ℕ} {n : Bytes} {count : ℕ} {area : Bytes} {d : ℕ} {area' : Bytes} (N : Naming ws n count area d area') where
  pub naming-more : {area'' : Bytes} {s r : RowSet} → Decoded ws → set_size * count ≤ length area → d < count → s ≡ set_in n d
      → r ≡ names_of (table_of ws) s
      → area'' ≡ put_le area' (set_size * d) set_size r → Naming ws n count area (d + 1) area''
  naming-more {r = r} D room h hs hr e = record {
    within = omega arith;
    size = ap length e ∙ length-put_le area' (set_size * d) set_size r ∙ N.size;
    holds =
        let named : r ≡ names_in (table_of ws) n d = hr ∙ ap (names_of (table_of ws)) hs in
        hold-more N.holds (omega arith) (names-fit D (set_in n d)) (e ∙ ap (put_le area' (set_size * d) set_size) named);
  }

  pub naming-all : count ≤ d → Holding area count (names_in (table_of ws) n) area'
  naming-all h = let all : d ≡ count = omega (arith, N.within) in subst (λ (k : ℕ). Holding area k (names_in (table_of ws) n) area') all N.holds

-- ---- the links: one more

links-more : (e : Bytes) (k : ℕ) → links_to e (k + 1) ≡ links_to e k ++ link_record (role_link_in e k)
links-more e k = ap link_bytes (range-more (role_link_in e) k) ∙ link_bytes-snoc (map (role_link_in e) (range 0 k)) (role_link_in e k)

length-links_to : (e : Bytes) (k : ℕ) → length (links_to e k) ≡ link_size * k
length-links_to e k = length-link_bytes (map (role_link_in e) (range 0 k)) ∙ ap (λ (i : ℕ). link_size * i) (length-map-range (role_link_in e) 0 k)

-- ---- the links: a start and an end

pub written_none : (e : Bytes) {count : ℕ} {area : Bytes} → CopiedUpTo e count area area 0
unfolding link_bytes range
written_none e = record { within = omega arith; size = refl; here = refl }

pub written_all : {e : Bytes} {count : ℕ} {area area' : Bytes} {i : ℕ} → CopiedUpTo e count area area' i → count ≤ i
    → area' ≡ overwrite (links_to e count) area
written_all {e} {area = area} w h = w.here ∙ ap (λ (k : ℕ). overwrite (links_to e k) area) (omega (arith, w.within))

-- ---- a link

-- its three numbers, written one after another
pub link-put : (b : Bytes) (at : ℕ) {b₁ b₂ c : Bytes} {m : LinkMark} {l : RoleLink} → role_link_of m ≡ l
    → b₁ ≡ put_le b at 2 m.from → b₂ ≡ put_le b₁ (at + 2) 2 m.role → c ≡ put_le b₂ (at + 4) 2 m.to
    → c ≡ put_fields b at (link_fields l)
link-put b at {c = c} {m = m} r from role to =
    let first : at + 0 ≡ at = omega arith in
    let put : c ≡ put_fields b at (link_fields (role_link_of m)) = cc (first, from, role, to) in
    put ∙ ap (λ (k : RoleLink). put_fields b at (link_fields k)) r

-- a link written right after the bytes that are written over
link-overwrite : (bs area : Bytes) (at : ℕ) (l : RoleLink) → length bs ≡ at → at + link_size ≤ length area
    → put_fields (overwrite bs area) at (link_fields l) ≡ overwrite (bs ++ link_record l) area
link-overwrite bs area at l e h =
    let f : Bytes = little_endian 2 l.from in
    let r : Bytes = little_endian 2 l.role in
    let from = put_le-overwrite bs area (at + 0) 2 l.from (omega arith) (omega arith) in
    let role = put_le-overwrite (bs ++ f) area (at + 2) 2 l.role (simp (length-append, length-little_endian) (omega arith)) (omega arith) in
    let to = put_le-overwrite (bs ++ f ++ r) area (at + 4) 2 l.to (simp (length-append, length-little_endian) (omega arith)) (omega arith) in
    let joined : bs ++ f ++ r ++ little_endian 2 l.to ≡ bs ++ link_record l = simp append_assoc in
    cc

pub link-written : (e : Bytes) {count : ℕ} {area area' area'' : Bytes} {k : ℕ} → CopiedUpTo e count area area' k → k < count
    → link_size * count ≤ length area → area'' ≡ put_fields area' (link_size * k) (link_fields (role_link_in e k))
    → CopiedUpTo e count area area'' (k + 1)
link-written e {count} {area} {area'} {area''} {k} w h room put =
    record {
      within = omega arith;
      size = ap length put ∙ length-put_fields area' (link_size * k) (link_fields (role_link_in e k)) ∙ w.size;
      here =
          put ∙ ap (λ (b : Bytes). put_fields b (link_size * k) (link_fields (role_link_in e k))) w.here
          ∙ link-overwrite (links_to e k) area (link_size * k) (role_link_in e k) (length-links_to e k) (omega arith)
          ∙ ap (λ (b : Bytes). overwrite b area) (sym (links-more e k));
    }

-- ---- the whole

module _ {ws : List ℕ} {n e : Bytes} {s : Sizes} {elements links : Bytes} (A : WriteAsks ws n e s elements links)
    {elements₁ : Bytes} (N : Holding elements s.elements (names_in (table_of ws) n) elements₁)
    {links₁ : Bytes} (L : links₁ ≡ overwrite (links_to e s.links) links) where
  abbrev x : Example
  x = example_held n e s.elements s.links

  -- the links fit their bytes
  links-fit : (l : RoleLink) → Memᴰ l x.links → LinkFits l
  links-fit l m =
      let (i, r, q) = map-mem (role_link_in e) (range 0 s.links) l m in
      let (lo, hi) = range-mem 0 s.links i r in
      let (from, role, to) = A.ends i (omega arith) in (
        omega (arith, A.few, ap (λ (k : RoleLink). k.from) q),
        omega (arith, ap (λ (k : RoleLink). k.role) q),
        omega (arith, A.few, ap (λ (k : RoleLink). k.to) q),
      )

  -- and are read back as they were
  links-read : links_in links₁ s.links ≡ x.links
  links-read =
      ap (λ (b : Bytes). links_in b s.links) L
      ∙ ap (links_in (overwrite (link_bytes x.links) links)) (sym (length-map-range (role_link_in e) 0 s.links))
      ∙ links-back x.links links links-fit

  link-read : (i : ℕ) → i < s.links → link_at links₁ i ≡ role_link_in e i
  link-read i h =
      let none : RoleLink = record { from = 0; role = 0; to = 0 } in
      let z : 0 + i ≡ i = omega arith in
      sym (get_or-map-range (link_at links₁) 0 s.links i none h ∙ ap (link_at links₁) z) ∙ ap (λ (ls : List RoleLink). get_or ls i none) links-read
      ∙ get_or-map-range (role_link_in e) 0 s.links i none h ∙ ap (role_link_in e) z

  pub evaluation-asks : length links₁ ≡ length links → EvaluateAsks ws elements₁ s.elements links₁ s.links
  evaluation-asks size = record {
    decoded = A.decoded;
    room = omega (arith, A.elements_ask.room, hold-length N);
    linked = record {
      room = omega (arith, A.links_ask.room);
      ends = λ i h.
          let (from, role, to) = A.ends i h in
          let l = link-read i h in
          (omega (arith, ap (λ (k : RoleLink). k.from) l), omega (arith, ap (λ (k : RoleLink). k.to) l));
    };
  }

  -- the world that is evaluated is that of the example
  world-read : world_in (narrower (table_of ws)) elements₁ s.elements links₁ s.links ≡ world_of (table_of ws) x
  world-read =
      let m = s.elements in
      let named : map (element_at elements₁) (range 0 m) ≡ map (names_of (table_of ws)) x.elements =
      map_same (element_at elements₁) (names_in (table_of ws) n) (range 0 m) (λ d r. hold-get N (omega (arith, (range-mem 0 m d r).1)))
      ∙ sym (map-map (names_of (table_of ws)) (set_in n) (range 0 m)) in
      ap₂ (given (narrower (table_of ws))) named links-read ∙ sym (world-given (table_of ws) x)

  pub all-written : {elements₂ : Bytes}
      → elements₂ ≡ overwrite (element_bytes (evaluated (world_in (narrower (table_of ws)) elements₁ s.elements links₁ s.links)
      (table_of ws))) elements₁
      → WriteGives ws n e s elements elements₂ links links₁
  unfolding listing world_of
  all-written {elements₂} E =
      let sets = evaluated (world_of (table_of ws) x) (table_of ws) in
      let named = map (names_in (table_of ws) n) (range 0 s.elements) in
      let as_many : length sets ≡ length named =
      length-evaluated (world_of (table_of ws) x) (table_of ws) ∙ length-map-range (set_in n) 0 s.elements
      ∙ sym (length-map-range (names_in (table_of ws) n) 0 s.elements) in
      let as_long : length (element_bytes sets) ≡ length (element_bytes named) =
      length-element_bytes sets ∙ ap (λ (k : ℕ). set_size * k) as_many ∙ sym (length-element_bytes named) in
      record {
        elements_written =
            E ∙ ap (λ (W : World). overwrite (element_bytes (evaluated W (table_of ws))) elements₁) world-read
            ∙ ap (overwrite (element_bytes sets)) N.here
            ∙ overwrite-again (element_bytes sets) (element_bytes named) elements as_long;
        links_written = L;
      }
