-- What a handle of C holds, and what it owns by its pointer.
use Rattle.std.specs.Prelude.{Option, None, Some}
use base.Fml.{Fml, feq}
use denote.RawPtr.{Ptr, null_ptr}
use Rattle.std_alloc.specs.Box.Ownership.{box_owns}
use Rattle.std.specs.contracts.impls.GlobalAllocator.TheImpl.{ghosts}
use Rattle.stepcore.specs.declared.machine.Machine.{Machine}
use Rattle.stepcore.specs.contracts.machine.Machine.{the_row}

abbrev pub Held : Type 0
Held = Option Machine

-- nothing at the null pointer; else the pointer is that of a box
abbrev pub owned_at : Held → Ptr → Fml
owned_at None p = feq Ptr p null_ptr
owned_at (Some v) p =
    box_owns (ghosts.dealloc_token (record { memory = record { seal = tt } })) the_row p v
