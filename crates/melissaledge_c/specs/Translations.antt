-- What a translation over a flat memory answers C, and one where MODE of satp is Bare.
use Rattle.std.specs.Prelude.{ℕ, ℤ, pos, Bool, ◌≡◌, ◌+◌, ◌*◌, ◌/◌, ◌^◌, ◌==◌, ◌||◌, not, nat_le, length, if◌then◌else◌, List, Option, Some, None, Result, Ok, Err}
use Rattle.pte.specs.Address.{bytes_of}
use Rattle.pte.specs.declared.address.PageSize.TheVariants.{Kib4}
use Rattle.pte.specs.declared.permission.Access.{Access}
use Rattle.pte.specs.declared.scheme.Scheme.{Scheme}
use Rattle.pte.specs.declared.address.TheConstants.{TABLE_LENGTH}
use Rattle.pte.specs.declared.entry.TheConstants.{PPN_BITS}
use Rattle.walk.specs.declared.found_or_trap.Found.{Found}
use Rattle.walk.specs.declared.found_or_trap.Trap.{Trap}
use Rattle.walk.specs.Answer.{outside_trap}
use Rattle.walk.specs.Outcome.{Outcome}
use Rattle.tlb.specs.declared.store.Entry.{Entry}
use Rattle.melissaledge_c.specs.declared.codes.Fault.{Fault}
use Rattle.melissaledge_c.specs.declared.codes.Fault.TheVariants as fault
use Rattle.melissaledge_c.specs.declared.bare.Translation.{Translation}
use Rattle.melissaledge_c.specs.declared.bare.Translation.TheVariants.{Bare, Paged}
use Rattle.melissaledge_c.specs.declared.translations.Tables.{Tables}
use Rattle.melissaledge_c.specs.declared.translations.Answer.{Answer}
use Rattle.melissaledge_c.specs.declared.translations.Request.{Request}
use Rattle.melissaledge_c.specs.declared.requests.AccessAsked.{AccessAsked}
use Rattle.melissaledge_c.specs.Codes.{code_of, number_of, or_fault, scheme_of, why_code}
use Rattle.melissaledge_c.specs.Flat.{flat_words}
use Rattle.melissaledge_c.specs.Requests.{and_then, asked_of}

-- MODE of satp: the number 0 stands for Bare, and no translation (privileged manual 4.1.11)
abbrev pub paged : Option Scheme → Option Translation
paged None = None
paged (Some scheme) = Some (Paged scheme)

abbrev pub translation_of : ℕ → Option Translation
translation_of code = if code == 0 then Some Bare else paged (scheme_of code)

-- there is a frame, and each has a PPN of the bits of a PPN; there are the words of the frames; the
-- root has such a PPN too
abbrev pub memory_fault : Tables → ℕ → Option Fault
memory_fault tables words =
    if tables.frames == 0 || not (nat_le (tables.base_ppn + tables.frames) (2 ^ PPN_BITS))
    then Some fault.Memory
    else if not (words == tables.frames * TABLE_LENGTH) then Some fault.Length
    else if nat_le (2 ^ PPN_BITS) tables.root_ppn then Some fault.Root
    else None

-- what is asked, or the first fault
abbrev pub request_of : Tables → AccessAsked → Result Request Fault
request_of tables asked =
    or_fault (translation_of tables.scheme) fault.Scheme (λ translation.
    and_then (asked_of asked) (λ access.
    Ok (record { translation = translation; access = access.0; ctx = access.1 })))

abbrev pub trap_answer : Trap → Answer
trap_answer trap = record {
  pa = 0;
  page_base = 0;
  page_bytes = 0;
  ppn = 0;
  flags = 0;
  global = 0;
  cause = trap.cause;
  why = why_code trap.why;
}

abbrev pub hit_answer : ℕ → Entry → Answer
hit_answer pa entry = record {
  pa = pa;
  page_base = entry.page.base;
  page_bytes = bytes_of entry.page.size;
  ppn = entry.ppn;
  flags = entry.flags.0;
  global = number_of entry.global;
  cause = 0;
  why = 0;
}

abbrev pub answer_of : Result Found Trap → Answer
answer_of (Ok found) = record {
  pa = found.pa;
  page_base = found.page.base;
  page_bytes = bytes_of found.page.size;
  ppn = found.ppn;
  flags = found.flags.0;
  global = number_of found.global;
  cause = 0;
  why = 0;
}
answer_of (Err trap) = trap_answer trap

abbrev pub status_of : Result Found Trap → ℤ
status_of (Ok found) = pos 0
status_of (Err trap) = pos 1

-- in Bare the physical address is the address, with no further protection; one of more than 56 bits
-- is none, and so an access fault (privileged manual 4.1.11). The page is that of 4 KiB, and there is
-- no leaf
abbrev pub is_beyond : ℕ → Bool
is_beyond va = nat_le (2 ^ PPN_BITS) (va / bytes_of Kib4)

abbrev pub bare_page : ℕ → Answer
bare_page va = record {
  pa = va;
  page_base = va / bytes_of Kib4 * bytes_of Kib4;
  page_bytes = bytes_of Kib4;
  ppn = va / bytes_of Kib4;
  flags = 0;
  global = 0;
  cause = 0;
  why = 0;
}

abbrev pub bare_answer : ℕ → Access → Answer
bare_answer va access =
    if is_beyond va then trap_answer (outside_trap access) else bare_page va

abbrev pub bare_status : ℕ → ℤ
bare_status va = if is_beyond va then pos 1 else pos 0

-- memory that is in order answers the outcome of the access; and what is not in order is answered by
-- its first fault, with nothing changed
abbrev pub LeadsIn : Option Fault → Scheme → Tables → List ℕ → ℕ → Request → ℤ → Answer → Answer
    → Type 0
LeadsIn (Some why) scheme tables words va request result old new =
    (result ≡ code_of why) × (new ≡ old)
LeadsIn None scheme tables words va request result old new =
    (outcome : Result Found Trap)
    × Outcome scheme (flat_words tables.base_ppn tables.frames words) tables.root_ppn
    va request.access request.ctx outcome
    × (result ≡ status_of outcome) × (new ≡ answer_of outcome)

-- no table is read in Bare
abbrev pub Leads : Translation → Tables → List ℕ → ℕ → Request → ℤ → Answer → Answer → Type 0
Leads Bare tables words va request result old new =
    (result ≡ bare_status va) × (new ≡ bare_answer va request.access)
Leads (Paged scheme) tables words va request result old new =
    LeadsIn (memory_fault tables (length words)) scheme tables words va request result old new

abbrev pub Translates : Tables → List ℕ → AccessAsked → Result Request Fault → ℤ → Answer → Answer
    → Type 0
Translates tables words asked (Err why) result old new = (result ≡ code_of why) × (new ≡ old)
Translates tables words asked (Ok request) result old new =
    Leads request.translation tables words asked.va request result old new
