-- `encoder::write_file` meets its contract: each part is stored right behind the one before.
-- Assumes nothing.
use Rattle.encoder.specs.EncoderLaws.{sets-parts_bytes}
use Rattle.encoder.proofs.write_file.Goals as goal

pub returns : goal.returns
returns c =
    let a = c.args in
    sets-parts_bytes a.area.now a.text.now a.written.now a.rules.now a.wanted c.requires.room
    c.copy.ensures c.write_rows.ensures c.copy-2.ensures c.write_trailer.ensures
