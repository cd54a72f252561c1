-- `decoder::inclusions::chain` meets its contract, by those of the two calls (`pair-chains`).
use Rattle.decoder.specs.ChainingLaws.{pair-chains}
use Rattle.decoder.proofs.inclusions.chain.Goals as goal

pub returns : goal.returns
returns c =
    let (narrow, wide, enough, in_use) = c.requires in
    pair-chains narrow wide in_use c.join_universals.ensures c.join_narrows.ensures
