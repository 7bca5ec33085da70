-- What a box holds, also as its pointer.
use Rattle.std.specs.Prelude.{Option, None, Some}
use Rattle.std.specs.declared.alloc.Global.{Global}
use Rattle.std_alloc.specs.declared.boxed.Box.{Box}
use Rattle.stepcore.specs.declared.machine.Machine.{Machine}
use Rattle.melissaledge_c.specs.declared.loose.Loose.{Loose}

abbrev pub value_in : Option (Loose Machine Global) → Option Machine
value_in None = None
value_in (Some loose) = Some loose.value

abbrev pub boxed_in : Option (Box Machine Global) → Option Machine
boxed_in None = None
boxed_in (Some b) = Some b.value
