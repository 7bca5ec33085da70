use Rattle.std.proofs.Common.{rules, ◌≡◌, ◌∙◌, sym, ◌<◌, length, get_or, refl}
use Rattle.std.specs.Fn.{FnReturnsAt}
use Rattle.std.proofs.lemmas.Fn.{says_at}
use Rattle.melissaledge_c.specs.declared.requests.EntryGiven.{EntryGiven}
use Rattle.std.proofs.lemmas.List.{get_or_default}
use Rattle.std.proofs.lemmas.List.Filters.{FiltersInPlace-more_no, FiltersInPlace-more_set}
use Rattle.melissaledge_c.proofs.sized_tlb.keep.Goals.{then-stays, else-stays}
use Rattle.melissaledge_c.proofs.sized_tlb.keep.Goals as goal

pub loop-at-preserved : goal.loop-at-preserved
loop-at-preserved g c =
    let xs = c.loop-at.window in let at = c.loop-at.at in
    let within : at < length xs = search rules in
    let given : EntryGiven = get_or xs at (record { page_base = 0; page_bytes = 0; ppn = 0; asid = 0; flags = 0; global = 0 }) in
    let told : FnReturnsAt g.F.Fn c.args.stays given c.stays.result = says_at g.F.Fn c.stays.ensures refl in
    let read : given ≡ get_or xs at given = get_or_default xs at _ given within in
    elim c.if-stays.branch [
      | then-stays w ↦ rw (w.window-is, w.kept-is) (record {
        behind = search rules;
        len = search rules;
        filters = λ test agree. FiltersInPlace-more_set (c.loop-at.invariant.filters test agree) within (sym (agree given c.stays.result told) ∙ w.if-stays.true) read;
      })
      | else-stays w ↦ rw (w.window-is, w.kept-is) (record {
        behind = search rules;
        len = search rules;
        filters = λ test agree. FiltersInPlace-more_no (c.loop-at.invariant.filters test agree) within (sym (agree given c.stays.result told) ∙ w.if-stays.false) read;
      })
    ]
