use Rattle.std.proofs.Common.{Bool, ◌≡◌, ◌≤◌, length}
use Rattle.std.specs.Fn.{FnReturnsAt}
use Rattle.std.proofs.lemmas.List.Filters.{FiltersInPlace}
use Rattle.melissaledge_c.specs.declared.requests.EntryGiven.{EntryGiven}
use Rattle.melissaledge_c.proofs.sized_tlb.keep.Given as goal

abbrev pub invariant-loop-at : goal.invariant-loop-at
invariant-loop-at g l = record {
  behind : l.kept ≤ l.at;
  len : length l.window ≡ length l.fn.window;
  filters : (test : EntryGiven → Bool) → ((given : EntryGiven) (r : Bool) → FnReturnsAt g.F.Fn l.stays given r → r ≡ test given) → FiltersInPlace test l.fn.window l.window l.kept l.at;
}
