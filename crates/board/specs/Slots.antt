-- What the parts of a request say that lies in a ring.
use Rattle.std.specs.Prelude.{ℕ, ⊤, Some, None}
use Rattle.pte.specs.Address.{IsPage}
use Rattle.pte.specs.declared.address.What.{What}
use Rattle.pte.specs.declared.address.What.TheVariants as what
use Rattle.board.specs.declared.slot.Asked.{Asked}
use Rattle.board.specs.declared.slot.Asked.TheVariants.{PageOf, GlobalPage, SpaceOf, All}

-- what is asked to be dropped
abbrev pub what_in : Asked → ℕ → ℕ → What
what_in (PageOf size) base asid = what.PageOf (record { base = base; size = size }) (Some asid)
what_in (GlobalPage size) base asid = what.PageOf (record { base = base; size = size }) None
what_in SpaceOf base asid = what.SpaceOf asid
what_in All base asid = what.All

-- the base of a page is that of a page of its size
abbrev pub IsWhole : Asked → ℕ → Type 0
IsWhole (PageOf size) base = IsPage (record { base = base; size = size })
IsWhole (GlobalPage size) base = IsPage (record { base = base; size = size })
IsWhole SpaceOf base = ⊤
IsWhole All base = ⊤
