-- The problem of an accepted file and the rows that are wanted of it, from the bytes to the words.
--
-- In order: words that are a file's problem (`FileDecoded`); what decoding relies on, from the parts of the file; that it gives the file's problem.
use Rattle.std.specs.Prelude.{◌≡◌, List, ℕ}
use Rattle.std.proofs.Common.{sym, ap, ◌∙◌, subst, subst₂}
use Rattle.concepts.specs.Lists.{Bytes}
use Rattle.decoding.specs.Decoding.{rule_kinds}
use Rattle.procedure.specs.Problem.{problem}
use Rattle.rulefile.specs.Format.{rows_part, rules, RuleFile, accepted, reading_for}
use Rattle.rulefile.specs.CheckLaws.{accepted-contents}
use Rattle.reader.specs.Read.{LaidFor}
use Rattle.reader.specs.declared.Layout.{Layout}
use Rattle.problem.specs.Rows.{table_in, Rows, ListsRows}
use Rattle.decoder.specs.FileRows.{accepted-rows, accepted-table, accepted-rules, accepted-wanted}
use Rattle.problem.specs.Decoded.{problem_of, Decoded, DecodedFrom}
use Rattle.problem.specs.DecodedLaws.{problem-decoded}

-- the words are the problem of the file b with these wanted rows
pub record FileDecoded (wanted : List ℕ) (b : Bytes) (ws : List ℕ) : Type 0 where
  pub decoded : Decoded ws
  pub problem-is : (f : RuleFile) → reading_for rule_kinds wanted b ≡ accepted f → problem_of ws ≡ problem f.table f.tbox f.wanted

-- the parts of the file: its rows, its rules; and the wanted rows
module _ {v b : Bytes} {l : Layout} (L : LaidFor rule_kinds v b l) {r t : Bytes} (er : r ≡ rows_part b) (et : t ≡ rules b) where
  abbrev f : RuleFile
  f = L.file

  tbox-is : t ≡ f.tbox
  tbox-is = et ∙ sym (ap (λ (k : RuleFile). k.tbox) (accepted-contents rule_kinds v b f L.reads))

  wanted-is : v ≡ f.wanted
  wanted-is = sym (ap (λ (k : RuleFile). k.wanted) (accepted-contents rule_kinds v b f L.reads))

  pub file-parts : Rows r × ListsRows r t × ListsRows r v
  file-parts = (
    subst Rows (sym er) (accepted-rows v b f L.reads),
    subst₂ ListsRows (sym er) (sym tbox-is) (accepted-rules v b f L.reads),
    subst₂ ListsRows (sym er) (sym wanted-is) (accepted-wanted v b f L.reads),
  )

  pub file-decoded : {ws : List ℕ} → DecodedFrom r t v ws → FileDecoded v b ws
  file-decoded {ws} D = record { decoded = D.decoded; problem-is = is }
    where
      is : (k : RuleFile) → reading_for rule_kinds v b ≡ accepted k → problem_of ws ≡ problem k.table k.tbox k.wanted
      is k e =
          let holds = accepted-contents rule_kinds v b k e in
          let p : table_in r ≡ k.table = ap table_in er ∙ accepted-table v b k e in
          let q : t ≡ k.tbox = et ∙ sym (ap (λ (u : RuleFile). u.tbox) holds) in
          let s : v ≡ k.wanted = sym (ap (λ (u : RuleFile). u.wanted) holds) in
          problem-decoded D ∙ rw (p, q, s)
