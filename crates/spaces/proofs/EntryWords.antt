-- The kinds of the words that edits store.
use Rattle.std.proofs.Common.{◌≡◌, ℕ, ◌*◌, ◌/◌, ◌%◌, ◌^◌, ◌<◌, Bool, false, Some, ap, sym, ◌∙◌, arith}
use Rattle.std.specs.Int.{bit_at}
use Rattle.pte.specs.declared.flags.PteFlags.{PteFlags}
use Rattle.pte.specs.declared.entry.Kind.TheVariants as kinds
use Rattle.pte.specs.Entry.{kind_of, flags_of, leaf_word, table_word, is_no_leaf, is_global}
use Rattle.pte.specs.declared.entry.TheConstants.{PPN_BITS}
use Rattle.pte.proofs.EntryKinds.{kind-table, kind-leaf, Leaf-global, Table-global}
use Rattle.walk.specs.Pointers.{pointed, pointed_kind}
use Rattle.spaces.specs.Applied.{seven}

same-flags : (flags : PteFlags) → flags.0 < 2 ^ 8 → flags_of flags.0 ≡ seven flags
same-flags flags byte =
    let same : flags.0 / 2 % 2 ^ 7 ≡ flags.0 / 2 = omega arith in
    rw same

bit-5 : (f : ℕ) → bit_at (f / 2 * 2) 5 ≡ bit_at f 5
bit-5 f = omega arith

pub global-seven : (flags : PteFlags) → is_global (seven flags).0 ≡ is_global flags.0
global-seven flags = rw (bit-5 flags.0)

-- the leaf that is stored has the PPN and the seven flags
pub kind-stored : (ppn : ℕ) (flags : PteFlags) → ppn < 2 ^ PPN_BITS → flags.0 < 2 ^ 8 → is_no_leaf flags.0 ≡ false → kind_of (leaf_word ppn flags) ≡ kinds.Leaf ppn (seven flags)
kind-stored ppn flags fits byte leaf =
    kind-leaf ppn flags fits byte leaf ∙ ap (kinds.Leaf ppn) (same-flags flags byte)

pub global-stored : (ppn : ℕ) (flags : PteFlags) → ppn < 2 ^ PPN_BITS → flags.0 < 2 ^ 8 → is_no_leaf flags.0 ≡ false → is_global (leaf_word ppn flags) ≡ is_global flags.0
global-stored ppn flags fits byte leaf = sym (Leaf-global (leaf_word ppn flags) ppn (seven flags) (kind-stored ppn flags fits byte leaf)) ∙ global-seven flags

pub pointed-table : (ppn : ℕ) (global : Bool) → ppn < 2 ^ PPN_BITS → pointed (Some (table_word ppn global)) ≡ Some ppn
pointed-table ppn global fits = ap pointed_kind (kind-table ppn global fits)

pub global-table : (ppn : ℕ) (global : Bool) → ppn < 2 ^ PPN_BITS → is_global (table_word ppn global) ≡ global
global-table ppn global fits = Table-global (table_word ppn global) ppn global (kind-table ppn global fits)
