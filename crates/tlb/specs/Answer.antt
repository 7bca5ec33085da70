-- What an entry answers to an access of an address of its page, and the entry that a walk gives.
use Rattle.std.specs.Prelude.{ℕ, ◌+◌, ◌*◌, ◌%◌, ◌^◌, Option, Some, None, Result, Ok, Err}
use Rattle.pte.specs.declared.permission.Access.{Access}
use Rattle.pte.specs.declared.permission.Ctx.{Ctx}
use Rattle.pte.specs.declared.address.PageSize.TheVariants.{Kib4}
use Rattle.pte.specs.Address.{bytes_of}
use Rattle.pte.specs.declared.entry.TheConstants.{PPN_BITS}
use Rattle.walk.specs.declared.found_or_trap.Found.{Found}
use Rattle.walk.specs.declared.found_or_trap.Trap.{Trap}
use Rattle.walk.specs.declared.found_or_trap.Why.{Why}
use Rattle.walk.specs.Answer.{flags_fault, page_trap}
use Rattle.tlb.specs.declared.store.Entry.{Entry}

-- the physical address: the entry's PPN, of which the bits of a PPN count, and the place in the
-- entry's page
abbrev pub address_of : Entry → ℕ → ℕ
address_of e va = e.ppn % 2 ^ PPN_BITS * bytes_of Kib4 + va % bytes_of e.page.size

abbrev pub unless : Option Why → Access → ℕ → Result ℕ Trap
unless None access pa = Ok pa
unless (Some why) access pa = Err (page_trap access why)

-- the page fault that the flags raise first, or the physical address
abbrev pub answer_of : Entry → ℕ → Access → Ctx → Result ℕ Trap
answer_of e va access ctx = unless (flags_fault access ctx e.flags) access (address_of e va)

-- what a walk found in the address space of an ASID
abbrev pub entry_of : ℕ → Found → Entry
entry_of asid found =
    record {
      asid = asid;
      global = found.global;
      page = found.page;
      ppn = found.ppn;
      flags = found.flags;
    }

-- what a walk answers, of which an access needs the physical address
abbrev pub address_found : Result Found Trap → Result ℕ Trap
address_found (Ok found) = Ok found.pa
address_found (Err trap) = Err trap
