-- Laws of Report: from what the engine promises and what is printed to the report.
--
-- In order: the text; the room of an example; the report.
use Rattle.std.specs.Prelude.{◌≡◌, ℕ, ◌+◌, ◌*◌, ◌≤◌, length}
use Rattle.std.proofs.Common.{sym, ap, subst, ◌∙◌, arith}
use Rattle.std.proofs.Math.Path.{ap₂}
use Rattle.concepts.specs.Lists.{Bytes}
use Rattle.rulefile.specs.Format.{wanted_rows}
use Rattle.run.specs.Run.{Areas, Lengths, lengths, Numbers}
use Rattle.run.specs.RunLaws.{Room}
use Rattle.run.proofs.RunLaws.{answer-room}
use Rattle.run.specs.Promise.{Promise}
use Rattle.run.specs.Printed.{printed}
use Rattle.run.specs.Program.{program_areas, program_text}
use Rattle.run.proofs.ProgramLaws.{lengths-program_areas}
use Rattle.words.specs.Sizes.{set_size, link_size}
use Rattle.printing.specs.Printing.{element_most, Prints}
use Rattle.printing.specs.PrintingLaws.{prints-within, prints-size, prints-text, prints-rest}
use Rattle.report.specs.Report.{Reports}

module _ {file : Bytes} {k : Numbers} {after : Areas} (P : Promise file program_areas k after) where
  -- ---- the text

  printed-program_text : printed k after.elements after.links ≡ program_text file
  unfolding program_text
  printed-program_text = ap₂ (λ (n : Numbers) (a : Areas). printed n a.elements a.links) P.numbers_are P.areas_are

  -- ---- the room of an example

  verdict-room : k.verdict ≡ 1 → Room (lengths program_areas) k
  verdict-room =
      subst (λ (n : Numbers). n.verdict ≡ 1 → Room (lengths program_areas) n) (sym P.numbers_are)
      (answer-room (wanted_rows file) file (lengths program_areas))

  -- ---- the report

  pub reported : {text text' : Bytes} {count : ℕ} → Prints k after.elements after.links text text' count
      → 64 + element_most * 1024 + 35 * 8192 ≤ length text → Reports file text text' count
  reported {text} {text'} {count} p room =
      record { within = omega (arith, has_room, prints-size p); printed = prints-text p has_room ∙ printed-program_text; rest = prints-rest p has_room }
    where
      has_room : count ≤ length text
      has_room =
          let elements : length program_areas.elements ≡ 1024 * set_size = ap (λ (l : Lengths). l.elements) lengths-program_areas in
          let links : length program_areas.links ≡ 8192 * link_size = ap (λ (l : Lengths). l.links) lengths-program_areas in
          omega (arith, prints-within p (lengths program_areas) verdict-room)
