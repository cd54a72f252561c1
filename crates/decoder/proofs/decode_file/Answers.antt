-- `decoder::decode_file` meets its contract: the parts of the file are what decoding relies on.
use borrow.Author.Rules.{rules}
use Rattle.reader.specs.PartLaws.{laid-placed}
use Rattle.decoder.specs.FileProblem.{file-parts, file-decoded}
use Rattle.decoder.proofs.decode_file.Goals as goal

pub rows_of-rows-requires : goal.rows_of-rows-requires
rows_of-rows-requires c = laid-placed c.requires.0

pub rules_of-rules-requires : goal.rules_of-rules-requires
rules_of-rules-requires c = laid-placed c.requires.0

pub decode-requires : goal.decode-requires
decode-requires c = let (rows, rules, wanted) = file-parts c.requires.0 c.rows_of-rows.ensures c.rules_of-rules.ensures in (rows, rules, wanted, c.requires.1)

pub returns : goal.returns
returns c = file-decoded c.requires.0 c.rows_of-rows.ensures c.rules_of-rules.ensures c.decode.ensures
