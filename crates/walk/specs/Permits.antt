-- Which accesses a leaf's flags let go through (privileged manual 4.3.2, steps 5 and 7).
use Rattle.std.specs.Prelude.{Bool, true, false, Option, Some, None}
use Rattle.pte.specs.declared.permission.Access.{Access}
use Rattle.pte.specs.declared.permission.Access.TheVariants.{Fetch, Load, Store}
use Rattle.pte.specs.declared.permission.Ctx.{Ctx}
use Rattle.pte.specs.declared.flags.PteFlags.{PteFlags}
use Rattle.walk.specs.declared.found_or_trap.Why.{Why}
use Rattle.walk.specs.declared.permissions.Permitted.{Permitted}
use Rattle.walk.specs.Answer.{flags_fault}

abbrev pub is_faultless : Option Why → Bool
is_faultless None = true
is_faultless (Some why) = false

-- nothing in the flags refuses the access
abbrev pub goes_through : Access → Ctx → PteFlags → Bool
goes_through access ctx flags = is_faultless (flags_fault access ctx flags)

abbrev pub permits : Ctx → PteFlags → Permitted
permits ctx flags = record {
  fetch = goes_through Fetch ctx flags;
  load = goes_through Load ctx flags;
  store = goes_through Store ctx flags;
}
