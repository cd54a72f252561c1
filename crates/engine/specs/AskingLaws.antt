-- Laws of Asking: answers that are written piece by piece. Nothing yet; a piece more; all.
use Rattle.std.specs.Prelude.{◌≡◌, refl, List, [], ℕ, ◌+◌, ◌≤◌, ◌<◌, length}
use Rattle.std.proofs.Common.{sym, ap, ◌∙◌, arith}
use Rattle.concepts.specs.RowSet.{RowSet}
use Rattle.procedure.specs.Problem.{Problem}
use Rattle.words.specs.Words.{overwrite}
use Rattle.problem.specs.Decoded.{Decoded}
use Rattle.decoder.specs.Want.{SameRows}
use Rattle.decoder.specs.WantLaws.{same_refl, same_then}
use Rattle.graph.specs.Graphs.{Work, Sized}
use Rattle.graph.specs.GraphLaws.{sized-refl, sized-trans}
use Rattle.engine.specs.Asking.{PiecesWritten}

module _ {other : RowSet → Problem → Problem} {up_to : ℕ → List ℕ} {count : ℕ} {ws : List ℕ} {w : Work} {area : List ℕ} where
  pub written_none : Decoded ws → up_to 0 ≡ [] → PiecesWritten other up_to count ws w area 0 ws w area
  written_none ok nil = record {
    within = omega arith;
    words = refl;
    sized = sized-refl;
    same = same_refl ok;
    here = ap (λ (xs : List ℕ). overwrite xs area) (sym nil);
  }

  module _ {i : ℕ} {ws' : List ℕ} {w' : Work} {area' : List ℕ} (L : PiecesWritten other up_to count ws w area i ws' w' area') where
    pub written-more : i < count → {ws'' : List ℕ} {w'' : Work} {area'' : List ℕ} → SameRows other ws' ws'' → length ws'' ≡ length ws'
        → Sized w' w'' → area'' ≡ overwrite (up_to (i + 1)) area
        → PiecesWritten other up_to count ws w area (i + 1) ws'' w'' area''
    written-more h S words Z e = record {
      within = omega arith;
      words = words ∙ L.words;
      sized = sized-trans L.sized Z;
      same = same_then L.same S;
      here = e;
    }

    pub written_all : count ≤ i → area' ≡ overwrite (up_to count) area
    written_all h = L.here ∙ ap (λ (k : ℕ). overwrite (up_to k) area) (omega (arith, L.within))
