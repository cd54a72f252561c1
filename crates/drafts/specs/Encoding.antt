-- A rule file written in bytes (01, The rule file): "text, rows, rule list, trailer". Read back it is the same file: EncodingLaws.
use Rattle.std.specs.Prelude.{[], ◌∷◌, ◌++◌, ◌/◌, ◌%◌, length, get_or}
use Rattle.concepts.specs.Lists.{Bytes}
use Rattle.concepts.specs.Concept.{Concept, Table, role_of}
use Rattle.decoding.specs.RowParts.{kind_of, left_of, right_of}
use Rattle.rulefile.specs.Format.{RuleFile}

-- "A row is four bytes: kind, role, left, right"
abbrev pub row_bytes : Concept → Bytes
row_bytes c = kind_of c ∷ role_of c ∷ left_of c ∷ right_of c ∷ []

unfoldable pub table_bytes : Table → Bytes
table_bytes [] = []
table_bytes (c ∷ cs) = row_bytes c ++ table_bytes cs

-- "place of the first row (2 bytes, low byte first), number of rows, number of rules, number of the wanted row (1 byte each), then hexadecimal 46 49 54"
unfoldable pub trailer : RuleFile → Bytes
trailer f =
    length f.text % 256 ∷ length f.text / 256 ∷ length f.table ∷ length f.tbox ∷ get_or f.wanted 0 0 ∷ 0x46 ∷ 0x49 ∷ 0x54 ∷ []

unfoldable pub file_bytes : RuleFile → Bytes
file_bytes f = f.text ++ (table_bytes f.table ++ (f.tbox ++ trailer f))
