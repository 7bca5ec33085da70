-- The use of a stale mapping, as it is reported.
use Rattle.std.specs.Prelude.{ℕ, ◌≡◌, Option, Some, None}
use Rattle.walk.specs.Maps.{page_number}
use Rattle.tlb.specs.Mappings.{Mapping}
use Rattle.stale.specs.declared.hits.StaleUse.{StaleUse}
use Rattle.stale.specs.Mapped.{mapping_of}

-- what is reported is that this hart uses this mapping
abbrev pub Tells : Option StaleUse → ℕ → Mapping → Type 0
Tells None hart m = ⊥
Tells (Some use_) hart m = (hart ≡ use_.hart) × (m ≡ mapping_of use_.entry (page_number use_.va))
