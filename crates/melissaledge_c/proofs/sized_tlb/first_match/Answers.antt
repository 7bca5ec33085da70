use Rattle.std.proofs.Common.{◌∙◌, ap, sym}
use Rattle.std.specs.Result.{result_ok}
use Rattle.tlb.specs.Entries.{is_match}
use Rattle.melissaledge_c.proofs.Places.{found_in, none_in}
use Rattle.melissaledge_c.proofs.sized_tlb.first_match.Goals as goal

pub returns : goal.returns
returns c =
    c.ok.ensures.value ∙ ap result_ok c.entry_of.ensures
    ∙ sym (found_in (is_match c.args.asid c.args.va) c.args.places.now c.in-Some.given (sym c.matching_place.ensures ∙ c.in-Some.is))

pub returns-in_default : goal.returns-in_default
returns-in_default c = sym (none_in (is_match c.args.asid c.args.va) c.args.places.now (sym c.matching_place.ensures ∙ c.in_default.is))
