-- What the promises of an acknowledgement, and of used ASIDs, forbid a TLB to hold.
use Rattle.std.specs.Prelude.{ℕ, List, Contains}
use Rattle.tlb.specs.declared.store.Entry.{Entry}
use Rattle.shoot.specs.Request.{Request}
use Rattle.pte.specs.declared.address.What.TheVariants.{All}
use Rattle.history.specs.Setup.{Setup}
use Rattle.history.specs.Turns.{History}
use Rattle.history.specs.Tables.{words_of}
use Rattle.history.specs.Staleness.{Clear, Coherent, HoldsUsedAsids}

-- Clear is false of each TLB that holds the entry, whatever else it holds
abbrev pub ClearForbids : Setup → History → ℕ → ℕ → Entry → Type 0
ClearForbids setup history order hart e =
    (entries : List Entry) → Contains entries e → ¬ Clear setup history entries order hart

-- Clear says nothing: it is so whatever the TLB holds
abbrev pub ClearAllowsAll : Setup → History → ℕ → ℕ → Type 0
ClearAllowsAll setup history order hart =
    (entries : List Entry) → Clear setup history entries order hart

abbrev pub CoherentForbids : Setup → History → ℕ → ℕ → Entry → Type 0
CoherentForbids setup history order hart e =
    (entries : List Entry) → Contains entries e → ¬ Coherent setup history (words_of setup history) entries order hart

abbrev pub CoherentAllowsAll : Setup → History → ℕ → ℕ → Type 0
CoherentAllowsAll setup history order hart =
    (entries : List Entry) → Coherent setup history (words_of setup history) entries order hart

-- the request of a ticket that asks for everything
abbrev pub request_of : ℕ → Request
request_of ticket = record { ticket = ticket; what = All }

-- no TLB that holds the entry holds used ASIDs alone
abbrev pub UsedAsidsForbid : Setup → History → Entry → Type 0
UsedAsidsForbid setup history e =
    (entries : List Entry) → Contains entries e → ¬ HoldsUsedAsids setup history entries
