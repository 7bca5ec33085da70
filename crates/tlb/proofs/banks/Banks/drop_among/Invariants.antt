use Rattle.std.proofs.Common.{◌≡◌, Bool, filter, not}
use Rattle.std.specs.Fn.{FnReturnsAt}
use Rattle.tlb.specs.declared.store.Entry.{Entry}
use Rattle.tlb.specs.Banks.{HasAll, IsBanks, entries_of}
use Rattle.tlb.proofs.banks.Banks.drop_among.Given as goal

abbrev pub invariant-loop-left : goal.invariant-loop-left
invariant-loop-left g l = record {
  kept : IsBanks l.self;
  left : (test : Entry → Bool) → ((e : Entry) (r : Bool) → FnReturnsAt g.F.Fn l.goes e r → r ≡ test e) → filter (λ e. not (test e)) (entries_of l.self) ≡ filter (λ e. not (test e)) (entries_of l.fn.self);
  seen : (test : Entry → Bool) → ((e : Entry) (r : Bool) → FnReturnsAt g.F.Fn l.goes e r → r ≡ test e) → HasAll l.fn.self test l.slots → HasAll l.self test l.left;
}

abbrev pub decreases-loop-left : goal.decreases-loop-left
decreases-loop-left g l = l.left
