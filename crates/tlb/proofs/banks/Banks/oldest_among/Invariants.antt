use Rattle.std.proofs.Common.{ℕ, ◌≡◌, ◌<◌, ◌≤◌, true, Some}
use Rattle.std.specs.Prelude.{slice_get, slice_index}
use Rattle.tlb.specs.declared.store.Entry.{Entry}
use Rattle.tlb.specs.Entries.{is_match}
use Rattle.tlb.specs.Slots.{IsIn}
use Rattle.tlb.proofs.banks.Banks.oldest_among.Given as goal

abbrev pub invariant-loop-left : goal.invariant-loop-left
invariant-loop-left l = record {
  least : l.least ≤ l.self.count;
  within : l.oldest < 16;
  found : l.least < l.self.count → (slice_index l.self.ages l.oldest ≡ l.least) × ((e : Entry) → slice_get l.self.held l.oldest ≡ Some e → is_match l.asid l.va e ≡ true);
  left : (k : ℕ) (e : Entry) → slice_get l.self.held k ≡ Some e → slice_index l.self.ages k < l.least → is_match l.asid l.va e ≡ true → IsIn l.left k;
}

abbrev pub decreases-loop-left : goal.decreases-loop-left
decreases-loop-left l = l.left
