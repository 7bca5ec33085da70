-- What a walk makes of a leaf whose A is clear, or whose D is clear at a store. The manual leaves a
-- choice: raise a page fault (the extension Svade), or set the bits by an atomic compare and store,
-- and go on (the extension Svadu) (privileged manual 4.3.2, step 7). And where the word stands that
-- a walk reads (step 2).
use Rattle.std.specs.Prelude.{ℕ, ◌+◌, ◌*◌, ◌&&◌, not, if◌then◌else◌, Option, Some, None}
use Rattle.std.specs.Int.Bits.{bit_or}
use Rattle.pte.specs.declared.permission.Access.{Access}
use Rattle.pte.specs.declared.flags.PteFlags.{PteFlags}
use Rattle.pte.specs.declared.address.PageSize.TheVariants.{Kib4}
use Rattle.pte.specs.declared.entry.Kind.{Kind}
use Rattle.pte.specs.declared.entry.Kind.TheVariants as kinds
use Rattle.pte.specs.Address.{bytes_of, vpn_of}
use Rattle.pte.specs.Entry.{kind_of, is_accessed, is_dirty}
use Rattle.walk.specs.declared.stepping.AccessedDirty.{AccessedDirty}
use Rattle.walk.specs.declared.stepping.AccessedDirty.TheVariants as policy
use Rattle.walk.specs.declared.stepping.Advance.{Advance}
use Rattle.walk.specs.declared.stepping.Advance.TheVariants as advance
use Rattle.walk.specs.declared.stepping.ReadWord.{ReadWord}
use Rattle.walk.specs.declared.stepping.TheConstants.{WORD_BYTES}
use Rattle.walk.specs.declared.walking.Progress.{Progress}
use Rattle.walk.specs.declared.walking.Progress.TheVariants as progress
use Rattle.walk.specs.Answer.{is_store, outside_trap}
use Rattle.walk.specs.Stage.{Stage}
use Rattle.walk.specs.Step.{step_of}

-- the bits that step 7 sets in a leaf: A, and at a store D, as far as they are clear
abbrev pub clear_bits : Access → PteFlags → PteFlags
clear_bits access flags = record {
  0 = bit_or (if is_accessed flags.0 then 0 else 0x40)
      (if is_store access && not (is_dirty flags.0) then 0x80 else 0);
}

abbrev pub no_bits : PteFlags
no_bits = record { 0 = 0 }

-- the bits that are set for an access
abbrev pub bits_set : AccessedDirty → Access → PteFlags → PteFlags
bits_set policy.Trap access flags = no_bits
bits_set policy.Set access flags = clear_bits access flags

abbrev pub with_bits : PteFlags → PteFlags → PteFlags
with_bits bits flags = record { 0 = bit_or flags.0 bits.0 }

-- the physical address of the word that a walk waits for: a + va.vpn[i] * PTESIZE
abbrev pub word_address : Stage → ℕ
word_address s = s.table * bytes_of Kib4 + vpn_of s.va s.level * WORD_BYTES

abbrev pub read_at : Stage → ℕ → ReadWord
read_at s word = record { pa = word_address s; word = word; level = s.level }

-- what a word makes of a walk, told with that word and with the bits to set in it
abbrev pub told : Stage → ℕ → PteFlags → Progress → Advance
told s word bits (progress.More next) = advance.More next
told s word bits (progress.Found found) =
    advance.Granted (record { found = found; set = bits; read = read_at s word })
told s word bits (progress.Trap trap) =
    advance.Trapped (record { trap = trap; read = Some (read_at s word) })

-- a leaf makes of the walk what it makes once the bits are set in it; step 7 is of leaves alone
abbrev pub step_under : AccessedDirty → Stage → ℕ → Kind → Advance
step_under policy s word kinds.Invalid = told s word no_bits (step_of s kinds.Invalid)
step_under policy s word kinds.Reserved = told s word no_bits (step_of s kinds.Reserved)
step_under policy s word (kinds.Table ppn global) =
    told s word no_bits (step_of s (kinds.Table ppn global))
step_under policy s word (kinds.Leaf ppn flags) =
    told s word (bits_set policy s.access flags)
    (step_of s (kinds.Leaf ppn (with_bits (bits_set policy s.access flags) flags)))

-- what a load makes of a walk: by the word, or an access fault where there is none
abbrev pub load_under : AccessedDirty → Stage → Option ℕ → Advance
load_under policy s None = advance.Trapped (record { trap = outside_trap s.access; read = None })
load_under policy s (Some word) = step_under policy s word (kind_of word)
