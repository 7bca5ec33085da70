-- What a Done forbids a TLB to hold, and where it says nothing.
use Rattle.std.specs.Prelude.{ℕ, List, Contains}
use Rattle.tlb.specs.declared.store.Entry.{Entry}
use Rattle.history.specs.Setup.{Setup}
use Rattle.history.specs.Turns.{History}
use Rattle.history.specs.Completion.{ClearOnceDone}

-- ClearOnceDone is false of each TLB that holds the entry, whatever else it holds
abbrev pub DoneForbids : Setup → History → ℕ → ℕ → Entry → Type 0
DoneForbids setup history order hart e =
    (entries : List Entry) → Contains entries e → ¬ ClearOnceDone setup history entries order hart

-- ClearOnceDone says nothing: it is so whatever the TLB holds
abbrev pub DoneAllowsAll : Setup → History → ℕ → ℕ → Type 0
DoneAllowsAll setup history order hart =
    (entries : List Entry) → ClearOnceDone setup history entries order hart
