-- The entries of a TLB that worked runs and counterexamples speak of.
use Rattle.std.specs.Prelude.{ℕ, ◌+◌, true, false}
use Rattle.pte.specs.Address.{Span}
use Rattle.tlb.specs.declared.store.Entry.{Entry}
use Rattle.counterexamples.specs.WorkedRuns.{flags, R, W, U, A, D}

-- an entry of a page for an ASID, with W and without, and one for every ASID
abbrev pub entry : ℕ → Span → ℕ → Entry
entry asid page ppn =
    record {
      asid = asid;
      global = false;
      page = page;
      ppn = ppn;
      flags = flags
          (R + W + U + A + D);
    }

abbrev pub read_only_entry : ℕ → Span → ℕ → Entry
read_only_entry asid page ppn =
    record { asid = asid; global = false; page = page; ppn = ppn; flags = flags (R + U + A + D) }

abbrev pub global_entry : Span → ℕ → Entry
global_entry page ppn =
    record { asid = 0; global = true; page = page; ppn = ppn; flags = flags (R + W + U + A + D) }

abbrev pub global_read_only_entry : Span → ℕ → Entry
global_read_only_entry page ppn =
    record { asid = 0; global = true; page = page; ppn = ppn; flags = flags (R + U + A + D) }
