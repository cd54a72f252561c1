use mathlib.Core.Path.{refl}
use native.Mathlib.Omega.{arith}
use Rattle.catalogue.specs.NameCases.{places-positive, places-negative, lists-none, name-fits, names-listed}
use Rattle.catalogue.proofs.names.listed.Goals as goal

pub places-positives-requires : goal.places-positives-requires
places-positives-requires c = (c.requires, omega arith)

pub places-negatives-requires : goal.places-negatives-requires
places-negatives-requires c = (c.requires, omega arith)

pub loop-name-init : goal.loop-name-init
loop-name-init c = lists-none _ _ refl c.new.ensures c.new-2.ensures

pub list_name-requires : goal.list_name-requires
list_name-requires c = name-fits (omega arith) c.loop-name.invariant

pub loop-name-preserved : goal.loop-name-preserved
loop-name-preserved c =
    c.list_name.ensures _ (record {
      below = omega arith;
      positive-is = places-positive c.places-positives.ensures _ (omega arith);
      negative-is = places-negative c.places-negatives.ensures _ (omega arith);
      lists = c.loop-name.invariant;
    })

pub returns : goal.returns
returns c = names-listed c.loop-name.invariant (omega arith)
