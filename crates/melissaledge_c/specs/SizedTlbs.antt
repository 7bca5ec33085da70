-- A TLB of a chosen size in C's memory: the numbers at its head, and slots, of which some in a row are
-- its places, the oldest entry first. Its entries are those that the numbers of its places stand for;
-- numbers of no page are no entry.
use Rattle.std.specs.Prelude.{ℕ, Bool, false, ◌+◌, ◌-◌, ◌*◌, ◌==◌, ◌&&◌, not, nat_le, if◌then◌else◌}
use Rattle.std.specs.Prelude.{Option, None, Some}
use Rattle.std.specs.Prelude.{List, [], ◌∷◌, ◌++◌, length, drop, filter}
use Rattle.std.specs.List.{filter_map, list_all, slice_range}
use Rattle.std.specs.Int.{is_power_of_two}
use Rattle.std.specs.Result.{result_ok}
use Rattle.std.specs.Option.{is_some}
use Rattle.tlb.specs.declared.store.Entry.{Entry}
use Rattle.tlb.specs.Mappings.{maps_into}
use Rattle.melissaledge_c.specs.declared.requests.EntryGiven.{EntryGiven}
use Rattle.melissaledge_c.specs.declared.sized_tlb.TlbHead.{TlbHead}
use Rattle.melissaledge_c.specs.declared.sized_tlb.TheConstants.{MOST_ENTRIES}
use Rattle.melissaledge_c.specs.Requests.{entry_of}

-- what a fill leaves of at most so many, the oldest first: the new one is the youngest, and of one too
-- many the oldest goes
abbrev pub filled_to : {A : Type 0} → ℕ → List A → A → List A
filled_to most xs x = drop (length (xs ++ x ∷ []) - most) (xs ++ x ∷ [])

-- what is left of entries that are added one after the other
abbrev pub after_fills : ℕ → List Entry → List Entry → List Entry
after_fills most entries [] = entries
after_fills most entries (e ∷ fills) = after_fills most (filled_to most entries e) fills

-- an entry that answers for the page of a new one, in its address space, or if the new one is global
-- in any
abbrev pub is_replaced : Entry → Entry → Bool
is_replaced new e = maps_into new.page (if new.global then None else Some new.asid) e

-- what is left beside the new entry
abbrev pub beside : Entry → List Entry → List Entry
beside new entries = filter (λ e. not (is_replaced new e)) entries

abbrev pub replaced_to : ℕ → List Entry → Entry → List Entry
replaced_to most entries new = filled_to most (beside new entries) new

abbrev pub is_capacity : ℕ → Bool
is_capacity entries = is_power_of_two entries && nat_le entries MOST_ENTRIES

-- the numbers are those of a TLB with so many slots
abbrev pub is_tlb : TlbHead → ℕ → Bool
is_tlb head slots =
    is_capacity head.capacity && (slots == 2 * head.capacity) && nat_le head.count head.capacity
    && nat_le (head.first + head.count) slots

-- a TLB in memory
pub record Memory : Type 0 where
  pub head : TlbHead
  pub slots : List EntryGiven

abbrev pub memory : TlbHead → List EntryGiven → Memory
memory head slots = record { head = head; slots = slots }

abbrev pub is_there : Memory → Bool
is_there m = is_tlb m.head (length m.slots)

abbrev pub places : TlbHead → List EntryGiven → List EntryGiven
places head slots = slice_range slots head.first (head.first + head.count)

-- the entry that numbers stand for
abbrev pub entry_in : EntryGiven → Option Entry
entry_in given = result_ok (entry_of given)

abbrev pub entries_in : List EntryGiven → List Entry
entries_in given = filter_map entry_in given

abbrev pub places_of : Memory → List EntryGiven
places_of m = places m.head m.slots

abbrev pub entries_of : Memory → List Entry
entries_of m = entries_in (places_of m)

-- the numbers of each place stand for an entry
abbrev pub is_whole : List EntryGiven → Bool
is_whole given = list_all (λ x. is_some (entry_in x)) given

-- the numbers stand for an entry that passes
abbrev pub passes : (Entry → Bool) → Option Entry → Bool
passes test None = false
passes test (Some e) = test e

-- the numbers stand for no entry that passes
abbrev pub fails : (Entry → Bool) → EntryGiven → Bool
fails test given = not (passes test (entry_in given))
