-- The cases after "can", on plain values: the example does not fit, or it is written.
use Rattle.std.specs.Prelude.{◌≡◌, Bool, true, false, ℕ, ◌*◌, ◌≤◌, ◌<◌, Option, Some, Ok, Err}
use Rattle.std.proofs.Math.Path.{sym, ap, ap₂}
use Rattle.std.proofs.Common.{◌∙◌, arith, leb→le}
use Rattle.std.proofs.Math.Bool.{◌&&◌}
use mathlib.Core.List.{List, Memᴰ}
use Rattle.std.proofs.Math.Dec.{leb}
use Rattle.std.proofs.Math.ListN.{length}
use Rattle.concepts.specs.Tests.{and_both, from-true}
use Rattle.concepts.specs.Lists.{Bytes, range}
use Rattle.concepts.specs.ListLaws.{length-map-range, mem-range, mem-map}
use Rattle.procedure.specs.Example.{Example}
use Rattle.procedure.proofs.Model.{example-right}
use Rattle.words.specs.Sizes.{most_records, set_size, link_size}
use Rattle.words.specs.Words.{overwrite}
use Rattle.listing.specs.Layout.{element_bytes, link_bytes}
use Rattle.run.specs.Run.{Areas, Lengths, lengths, listing, shown, Used, used, Answer, can, too_long, fits, answer_can, areas_after}
use Rattle.run.proofs.ListingLaws.{length-listing, shown-some}
use Rattle.records.specs.Records.{node_in}
use Rattle.graph.specs.Graphs.{Work, work, graph_of}
use Rattle.graph.specs.GraphLaws.{held-most, held-room, count-nodes, count-edges, count-alternatives}
use Rattle.graph.specs.declared.Counts.{Counts}
use Rattle.marks.specs.Marks.{state_in, role_link_in, example_held}
use Rattle.marks.specs.declared.Sizes.{Sizes}
use Rattle.problem.specs.Decoded.{table_of, problem_of}
use Rattle.problem.specs.DecodedLaws.{decoded-posed}
use Rattle.walk.specs.Clauses.{nodes_edges, WalkAsks, WalkGives}
use Rattle.writing.specs.Writing.{WriteAsks, listing_held, WriteGives}
use Rattle.conclusion.specs.Clauses.{used_of, HasSizes, ShowGives}
use Rattle.conclusion.specs.declared.Decision.TheVariants.{Can}
use Rattle.conclusion.specs.declared.Shortage.TheVariants.{TooLong}

-- the records that a graph has used
pub used-counts : (w : Work) (c : Counts) → used (graph_of w c) ≡ used_of c
used-counts w c = cc (count-nodes w c, count-edges w c, count-alternatives w c)

answer-fits : (l : Lengths) (u : Used) (x : Example) → fits l x ≡ true → answer_can l u (Some x) ≡ can u x
unfolding answer_can
answer-fits l u x e = rw (e, answer_can)

answer-unfit : (l : Lengths) (u : Used) (x : Example) → fits l x ≡ false → answer_can l u (Some x) ≡ too_long x
unfolding answer_can
answer-unfit l u x e = rw (e, answer_can)

module _ {ws : List ℕ} {n e : Bytes} {c : Counts} (A : WalkAsks ws (nodes_edges n e) c) {s : Sizes} {n₁ e₁ : Bytes}
    (W : WalkGives ws (nodes_edges n e) c s (nodes_edges n₁ e₁)) where
  -- the example as the procedure placed it, and as it is shown
  abbrev placed : Example
  placed = example_held n₁ e₁ s.elements s.links

  abbrev x : Example
  x = listing_held ws n₁ e₁ s

  sizes : HasSizes s x
  unfolding listing
  sizes = (
    length-listing (table_of ws) placed ∙ length-map-range (λ d. (node_in n₁ (state_in n₁ d)).rows) 0 s.elements,
    length-map-range (role_link_in e₁) 0
        s.links,
  )

  -- each link goes between elements
  pub link-ends : (i : ℕ) → i < s.links → ((role_link_in e₁ i).from < s.elements) × ((role_link_in e₁ i).role < 32)
      × ((role_link_in e₁ i).to < s.elements)
  link-ends i h =
      let a = A.holds.alternatives in
      let (y, found, R) = example-right (problem_of ws) (graph_of (work n e a) c) A.good (decoded-posed A.decoded) A.finished in
      let same : y ≡ placed = cc (W.walked a) in
      let many : length y.elements ≡ s.elements = ap (λ (z : Example). length z.elements) same
      ∙ length-map-range (λ d. (node_in n₁ (state_in n₁ d)).rows) 0 s.elements in
      let there : Memᴰ (role_link_in e₁ i) y.links = rw same
      (mem-map (role_link_in e₁) (range 0 s.links) i (mem-range 0 s.links i (omega arith) (omega arith))) in
      let (from, role, to) = R.link-ends (role_link_in e₁ i) there in
      (omega (arith, from, many), role, omega (arith, to, many))

  pub sizes-small : (s.elements ≤ most_records) × (s.links ≤ most_records)
  sizes-small = (omega (arith, W.few_elements, (held-most A.holds.held).0), omega (arith, W.few_links, (held-most A.holds.held).1))

  -- the example was tried against the two areas
  pub record Tried (elements links : Bytes) (b : Bool) : Type 0 where
    pub test : b ≡ (leb (set_size * s.elements) (length elements) && leb (link_size * s.links) (length links))

  pub tried : {elements links : Bytes} {b : Bool}
      → b ≡ (leb (set_size * s.elements) (length elements) && leb (link_size * s.links) (length links)) → Tried elements links b
  tried e = record { test = e }

module _ {ws : List ℕ} {n e : Bytes} {c : Counts} {A : WalkAsks ws (nodes_edges n e) c} {s : Sizes} {n₁ e₁ : Bytes} {W : WalkGives ws (nodes_edges n e) c s
    (nodes_edges n₁ e₁)}
    {elements links : Bytes} {b : Bool} (t : Tried A W elements links b) where
  module _ (before : Areas) (he : before.elements ≡ elements) (hl : before.links ≡ links) where
    abbrev l : Lengths
    l = lengths before

    fits-is : {v : Bool} → b ≡ v → fits l (x A W) ≡ v
    unfolding fits
    fits-is hv =
        ap₂ ◌&&◌ (ap₂ (λ (m k : ℕ). leb (set_size * m) k) (sizes A W).0 (ap length he))
        (ap₂ (λ (m k : ℕ). leb (link_size * m) k) (sizes A W).1 (ap length hl))
        ∙ sym t.test ∙ hv

    found : (a : Bytes) → answer_can l (used (graph_of (work n e a) c)) (shown (table_of ws) (graph_of (work n e a) c)) ≡ answer_can l (used_of c) (Some (x A W))
    found a = ap₂ (λ (u : Used) (o : Option Example). answer_can l u o) (used-counts (work n e a) c)
        (shown-some (table_of ws) (graph_of (work n e a) c) (placed A W) (W.walked a))

  pub show-long : b ≡ false → ShowGives ws n e c elements links (Err (TooLong s)) elements links
  unfolding areas_after
  show-long hv a before he hl =
      let q = found before he hl a ∙ answer-unfit (lengths before) (used_of c) (x A W) (fits-is before he hl hv) in
      record {
        decides = (x A W, q, sizes A W);
        small = sizes-small A W;
        elements_are = sym (ap (λ (r : Answer). (areas_after r before).elements) q ∙ he);
        links_are = sym (ap (λ (r : Answer). (areas_after r before).links) q ∙ hl);
      }

  module _ (hv : b ≡ true) where
    room : (set_size * s.elements ≤ length elements) × (link_size * s.links ≤ length links)
    room =
        let (p, q) = and_both (leb (set_size * s.elements) (length elements)) (leb (link_size * s.links) (length links)) (from-true _ (sym t.test ∙ hv)) in
        (leb→le (set_size * s.elements) (length elements) p, leb→le (link_size * s.links) (length links) q)

    pub show-asks : length n₁ ≡ length n → length e₁ ≡ length e → WriteAsks ws n₁ e₁ s elements links
    show-asks hn he = record {
      decoded = A.decoded;
      few = (sizes-small A W).0;
      elements_ask = record {
        held = omega (arith, W.few_elements, (held-room A.holds.held).0, hn);
        states = λ d h. omega (arith, W.inside d h, (held-room A.holds.held).0, hn);
        room = room.0;
      };
      links_ask = record { held = omega (arith, W.few_links, (held-room A.holds.held).1, he); room = room.1 };
      ends = link-ends A W;
    }

    pub show-can : {elements' links' : Bytes} → WriteGives ws n₁ e₁ s elements elements' links links'
        → ShowGives ws n e c elements links (Ok (Can c s)) elements' links'
    unfolding areas_after
    show-can G a before he hl =
        let q = found before he hl a ∙ answer-fits (lengths before) (used_of c) (x A W) (fits-is before he hl hv) in
        record {
          decides = (x A W, q, sizes A W);
          small = (held-most A.holds.held, sizes-small A W);
          elements_are = G.elements_written ∙ sym (ap (λ (r : Answer). (areas_after r before).elements) q
              ∙ ap (overwrite (element_bytes (x A W).elements)) he);
          links_are = G.links_written ∙ sym (ap (λ (r : Answer). (areas_after r before).links) q ∙ ap (overwrite (link_bytes (x A W).links)) hl);
        }
