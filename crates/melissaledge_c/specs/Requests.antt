-- What the numbers of C ask of a TLB, and those that stand for an entry.
use Rattle.std.specs.Prelude.{ℕ, ◌==◌, if◌then◌else◌, Option, Some, None, Result, Ok, Err}
use Rattle.pte.specs.declared.permission.Access.{Access}
use Rattle.pte.specs.declared.permission.Ctx.{Ctx}
use Rattle.pte.specs.declared.address.What.{What}
use Rattle.pte.specs.declared.address.What.TheVariants as what
use Rattle.pte.specs.Address.{bytes_of}
use Rattle.tlb.specs.declared.store.Entry.{Entry}
use Rattle.melissaledge_c.specs.declared.codes.Fault.{Fault}
use Rattle.melissaledge_c.specs.declared.codes.Fault.TheVariants as fault
use Rattle.melissaledge_c.specs.declared.requests.AccessAsked.{AccessAsked}
use Rattle.melissaledge_c.specs.declared.requests.EntryGiven.{EntryGiven}
use Rattle.melissaledge_c.specs.declared.requests.FenceAsked.{FenceAsked}
use Rattle.melissaledge_c.specs.declared.requests.WhatAsked.{WhatAsked}
use Rattle.melissaledge_c.specs.Codes.{access_of, is_set, mode_of, number_of, or_fault, page_of}

abbrev pub asked_of : AccessAsked → Result (Access × Ctx) Fault
asked_of asked =
    or_fault (access_of asked.access) fault.Access (λ access.
    or_fault (mode_of asked.mode) fault.Mode (λ mode.
    Ok (access, record { mode = mode; sum = is_set asked.sum; mxr = is_set asked.mxr })))

abbrev pub and_then : {A B : Type 0} → Result A Fault → (A → Result B Fault) → Result B Fault
and_then (Err why) next = Err why
and_then (Ok x) next = next x

abbrev pub entry_of : EntryGiven → Result Entry Fault
entry_of given = and_then (page_of given.page_base given.page_bytes) (λ page.
    Ok (record {
      asid = given.asid;
      global = is_set given.global;
      page = page;
      ppn = given.ppn;
      flags = record { 0 = given.flags };
    }))

abbrev pub entry_given : Entry → EntryGiven
entry_given entry = record {
  page_base = entry.page.base;
  page_bytes = bytes_of entry.page.size;
  ppn = entry.ppn;
  asid = entry.asid;
  flags = entry.flags.0;
  global = number_of entry.global;
}

abbrev pub optional_word : ℕ → ℕ → Option ℕ
optional_word is_there word = if is_set is_there then Some word else None

abbrev pub optional_asid : ℕ → ℕ → Option ℕ
optional_asid is_there asid = if is_set is_there then Some asid else None

-- the registers of a fence
abbrev pub rs1_of : FenceAsked → Option ℕ
rs1_of fence = optional_word fence.has_rs1 fence.rs1

abbrev pub rs2_of : FenceAsked → Option ℕ
rs2_of fence = optional_word fence.has_rs2 fence.rs2

abbrev pub what_of : WhatAsked → Result What Fault
what_of asked =
    if asked.kind == 0 then and_then (page_of asked.page_base asked.page_bytes)
    (λ page. Ok (what.PageOf page (optional_asid asked.has_asid asked.asid)))
    else if asked.kind == 1 then Ok (what.SpaceOf asked.asid)
    else if asked.kind == 2 then Ok what.All
    else Err fault.Kind
