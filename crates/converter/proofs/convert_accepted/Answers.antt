-- `converter::convert_accepted` meets its contract: the inclusions are kept, the rules and then the wanted row are put, and the file is written if it fits.
use mathlib.Core.Path.{◌≡◌, refl, ap}
use Rattle.std.specs.Prelude.{length}
use Rattle.rulefile.specs.Format.{wanted_rows}
use Rattle.reader.specs.PartLaws.{laid-placed}
use Rattle.normalize.specs.declared.Written.{Written}
use Rattle.converter.specs.ConvertCases.{list-as, given_as, inclusions-asks, rules-asks, rules-full, kit-asks, kit-full, finish-asks, too_many}
use Rattle.converter.proofs.convert_accepted.Goals as goal

pub keep_inclusions-requires : goal.keep_inclusions-requires
keep_inclusions-requires c = inclusions-asks c.requires _ (ap (λ (w : Written). length w.words) c.new-written.ensures)

pub rules_of-requires : goal.rules_of-requires
rules_of-requires c = laid-placed c.requires

pub put_list-requires : goal.put_list-requires
put_list-requires c = rules-asks c.requires c.rules_of.ensures c.keep_inclusions.ensures _ refl (ap (λ (w : Written). w.memo) c.new-written.ensures)

pub returns-in_err-put_list : goal.returns-in_err-put_list
returns-in_err-put_list c =
    given_as _ (too_many c.requires
    (rules-full c.requires c.rules_of.ensures c.keep_inclusions.ensures _ refl (list-as c.put_list.ensures c.in_err-put_list.was)))
    c.from_residual.ensures.0

pub put_list-requires-2 : goal.put_list-requires-2
put_list-requires-2 c =
    let the-kit : c.wanted_of.result.now ≡ wanted_rows c.args.draft.now = c.wanted_of.ensures.0 (laid-placed c.requires).parts.least in
    kit-asks c.requires c.rules_of.ensures c.keep_inclusions.ensures _ refl (list-as c.put_list.ensures c.in_ok-put_list.was) the-kit

pub returns-in_err-put_list-2 : goal.returns-in_err-put_list-2
returns-in_err-put_list-2 c =
    let the-kit : c.wanted_of.result.now ≡ wanted_rows c.args.draft.now = c.wanted_of.ensures.0 (laid-placed c.requires).parts.least in
    given_as _ (too_many c.requires
    (kit-full c.requires c.rules_of.ensures c.keep_inclusions.ensures _ refl (list-as c.put_list.ensures c.in_ok-put_list.was) the-kit
    (list-as c.put_list-2.ensures c.in_err-put_list-2.was)))
    c.from_residual-in_err-put_list-2.ensures.0

pub finish-requires : goal.finish-requires
finish-requires c =
    let the-kit : c.wanted_of.result.now ≡ wanted_rows c.args.draft.now = c.wanted_of.ensures.0 (laid-placed c.requires).parts.least in
    finish-asks c.requires c.rules_of.ensures c.keep_inclusions.ensures _ refl (list-as c.put_list.ensures c.in_ok-put_list.was) the-kit
    (list-as c.put_list-2.ensures c.in_ok-put_list-2.was)
