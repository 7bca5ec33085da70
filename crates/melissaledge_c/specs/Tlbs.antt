-- What the calls of a TLB answer C, and what they leave in its memory.
use Rattle.std.specs.Prelude.{ℕ, ℤ, if◌then◌else◌, pos, Bool, true, false, ◌≡◌, ◌-◌, ◌*◌, ◌==◌, Option, Some, None, Result, Ok, Err, List, length}
use Rattle.pte.specs.declared.scheme.Scheme.{Scheme}
use Rattle.pte.specs.declared.permission.Access.{Access}
use Rattle.pte.specs.declared.permission.Ctx.{Ctx}
use Rattle.pte.specs.declared.address.What.{What}
use Rattle.pte.specs.Address.{is_canonical, widest}
use Rattle.walk.specs.declared.found_or_trap.Trap.{Trap}
use Rattle.tlb.specs.declared.store.Entry.{Entry}
use Rattle.tlb.specs.Answer.{answer_of}
use Rattle.tlb.specs.Entries.{first_match}
use Rattle.tlb.specs.Fence.{fenced}
use Rattle.tlb.specs.Service.{after_service}
use Rattle.melissaledge_c.specs.declared.codes.Fault.{Fault}
use Rattle.melissaledge_c.specs.declared.codes.Fault.TheVariants as fault
use Rattle.melissaledge_c.specs.declared.requests.EntryGiven.{EntryGiven}
use Rattle.melissaledge_c.specs.declared.requests.FenceAsked.{FenceAsked}
use Rattle.melissaledge_c.specs.declared.translations.Answer.{Answer}
use Rattle.melissaledge_c.specs.Codes.{code_of}
use Rattle.melissaledge_c.specs.Requests.{entry_given, rs1_of, rs2_of}
use Rattle.melissaledge_c.specs.SizedTlbs.{Memory, beside, entries_of, filled_to, is_capacity, is_there, is_whole, places_of, replaced_to}
use Rattle.melissaledge_c.specs.Translations.{hit_answer, trap_answer}

-- the call is refused, and the TLB stays as it is
abbrev pub Refuses : Fault → Memory → ℤ → Memory → Type 0
Refuses why old result new = (result ≡ code_of why) × (new ≡ old)

-- a TLB that holds so many entries, and has none
abbrev pub empty_of : ℕ → Memory → Memory
empty_of entries old = record {
  head = record { first = 0; capacity = entries; count = 0 };
  slots = old.slots;
}

-- so many entries can be held, and there are so many slots
abbrev pub Makes : Bool → Bool → ℕ → Memory → ℤ → Memory → Type 0
Makes false fits entries old result new = Refuses fault.Tlb old result new
Makes true false entries old result new = Refuses fault.Length old result new
Makes true true entries old result new = (result ≡ pos 0) × (new ≡ empty_of entries old)

abbrev pub Inits : ℕ → Memory → ℤ → Memory → Type 0
Inits entries old result new =
    Makes (is_capacity entries) (length old.slots == 2 * entries) entries old result new

-- what every change of a TLB keeps
pub record Stands (old new : Memory) : Type 0 where
  pub there : is_there new ≡ true
  pub capacity : new.head.capacity ≡ old.head.capacity
  pub whole : is_whole (places_of old) ≡ true → is_whole (places_of new) ≡ true

-- the new entry is the youngest, and of one too many the oldest goes
pub record Filled (old : Memory) (e : Entry) (new : Memory) : Type 0 where
  pub stands : Stands old new
  pub places : places_of new ≡ filled_to old.head.capacity (places_of old) (entry_given e)
  pub entries : is_whole (places_of old) ≡ true
      → entries_of new ≡ filled_to old.head.capacity (entries_of old) e

abbrev pub FillsIn : Bool → Entry → Memory → ℤ → Memory → Type 0
FillsIn false e old result new = Refuses fault.Tlb old result new
FillsIn true e old result new = (result ≡ pos 0) × Filled old e new

abbrev pub Fills : Result Entry Fault → Memory → ℤ → Memory → Type 0
Fills (Err why) old result new = Refuses why old result new
Fills (Ok e) old result new = FillsIn (is_there old) e old result new

-- the entries are these, and the answer says how many were dropped
pub record Dropped (old : Memory) (left : List Entry) (result : ℤ) (new : Memory) : Type 0 where
  pub stands : Stands old new
  pub entries : entries_of new ≡ left
  pub count : result ≡ pos (length (entries_of old) - length left)

abbrev pub DropsIn : Bool → (List Entry → List Entry) → Memory → ℤ → Memory → Type 0
DropsIn false leaves old result new = Refuses fault.Tlb old result new
DropsIn true leaves old result new = Dropped old (leaves (entries_of old)) result new

-- what is asked with a value drops entries, and leaves these
abbrev pub Drops : {A : Type 0} → Result A Fault → (A → List Entry → List Entry) → Memory → ℤ
    → Memory → Type 0
Drops (Err why) leaves old result new = Refuses why old result new
Drops (Ok x) leaves old result new = DropsIn (is_there old) (leaves x) old result new

-- what answered for the entry's page is dropped, and the entry is added; the answer says how many
-- were dropped
pub record Replaced (old : Memory) (e : Entry) (result : ℤ) (new : Memory) : Type 0 where
  pub stands : Stands old new
  pub entries : is_whole (places_of old) ≡ true
      → entries_of new ≡ replaced_to old.head.capacity (entries_of old) e
  pub count : result ≡ pos (length (entries_of old) - length (beside e (entries_of old)))

abbrev pub ReplacesIn : Bool → Entry → Memory → ℤ → Memory → Type 0
ReplacesIn false e old result new = Refuses fault.Tlb old result new
ReplacesIn true e old result new = Replaced old e result new

abbrev pub Replaces : Result Entry Fault → Memory → ℤ → Memory → Type 0
Replaces (Err why) old result new = Refuses why old result new
Replaces (Ok e) old result new = ReplacesIn (is_there old) e old result new

abbrev pub fenced_by : FenceAsked → Scheme → List Entry → List Entry
fenced_by fence scheme entries = fenced scheme entries (rs1_of fence) (rs2_of fence)

abbrev pub dropped : What → List Entry → List Entry
dropped what entries = after_service entries what

-- the answer is the entry, or that there is none
abbrev pub Tells : Option Entry → ℤ → EntryGiven → EntryGiven → Type 0
Tells None result old new = (result ≡ pos 2) × (new ≡ old)
Tells (Some entry) result old new = (result ≡ pos 0) × (new ≡ entry_given entry)

abbrev pub FindsIn : Bool → Option Entry → ℤ → EntryGiven → EntryGiven → Type 0
FindsIn false found result old new = (result ≡ code_of fault.Tlb) × (new ≡ old)
FindsIn true found result old new = Tells found result old new

-- the oldest entry that matches, of an address that is canonical
abbrev pub matched_at : List Entry → ℕ → ℕ → Option Entry
matched_at entries asid va = if is_canonical widest va then first_match entries asid va else None

abbrev pub LooksUp : Memory → ℕ → ℕ → ℤ → EntryGiven → EntryGiven → Type 0
LooksUp m asid va result old new =
    FindsIn (is_there m) (matched_at (entries_of m) asid va) result old new

-- the numbers of a place
abbrev pub ShowsAt : Option EntryGiven → ℤ → EntryGiven → EntryGiven → Type 0
ShowsAt None result old new = (result ≡ pos 2) × (new ≡ old)
ShowsAt (Some given) result old new = (result ≡ pos 0) × (new ≡ given)

abbrev pub Shows : Bool → Option EntryGiven → ℤ → EntryGiven → EntryGiven → Type 0
Shows false place result old new = (result ≡ code_of fault.Tlb) × (new ≡ old)
Shows true place result old new = ShowsAt place result old new

abbrev pub IsAnswer : Entry → Result ℕ Trap → ℤ → Answer → Type 0
IsAnswer entry (Ok pa) result new = (result ≡ pos 0) × (new ≡ hit_answer pa entry)
IsAnswer entry (Err trap) result new = (result ≡ pos 1) × (new ≡ trap_answer trap)

-- an address that is canonical is answered by the entry
abbrev pub AnswersAt : Bool → Entry → Result ℕ Trap → ℤ → Answer → Answer → Type 0
AnswersAt false entry outcome result old new = (result ≡ code_of fault.Address) × (new ≡ old)
AnswersAt true entry outcome result old new = IsAnswer entry outcome result new

abbrev pub Answers : Result Entry Fault → Result (Access × Ctx) Fault → ℕ → ℤ → Answer → Answer
    → Type 0
Answers (Err why) asked va result old new = (result ≡ code_of why) × (new ≡ old)
Answers (Ok entry) (Err why) va result old new = (result ≡ code_of why) × (new ≡ old)
Answers (Ok entry) (Ok asked) va result old new =
    AnswersAt (is_canonical widest va) entry (answer_of entry va asked.0 asked.1) result old new

-- the oldest entry that matches answers, or there is none
abbrev pub Hits : Option Entry → ℕ → Access → Ctx → ℤ → Answer → Answer → EntryGiven → EntryGiven
    → Type 0
Hits None va access ctx result old new given given' =
    (result ≡ pos 2) × (new ≡ old) × (given' ≡ given)
Hits (Some e) va access ctx result old new given given' =
    IsAnswer e (answer_of e va access ctx) result new × (given' ≡ entry_given e)

abbrev pub HitsIn : Bool → Option Entry → ℕ → Access → Ctx → ℤ → Answer → Answer → EntryGiven
    → EntryGiven → Type 0
HitsIn false found va access ctx result old new given given' =
    (result ≡ code_of fault.Tlb) × (new ≡ old) × (given' ≡ given)
HitsIn true found va access ctx result old new given given' =
    Hits found va access ctx result old new given given'

abbrev pub Translates : Memory → Result (Access × Ctx) Fault → ℕ → ℕ → ℤ → Answer → Answer
    → EntryGiven → EntryGiven → Type 0
Translates m (Err why) asid va result old new given given' =
    (result ≡ code_of why) × (new ≡ old) × (given' ≡ given)
Translates m (Ok asked) asid va result old new given given' =
    HitsIn (is_there m) (matched_at (entries_of m) asid va) va asked.0 asked.1 result old new given
    given'
