-- Which number stands at the border for which value.
use Rattle.std.specs.Prelude.{ℕ, ℤ, Bool, ◌==◌, ◌%◌, ◌&&◌, not, if◌then◌else◌, Option, Some, None, Result, Ok, Err, negsuc}
use Rattle.pte.specs.declared.address.PageSize.{PageSize}
use Rattle.pte.specs.declared.address.PageSize.TheVariants.{Kib4, Mib2, Gib1, Gib512}
use Rattle.pte.specs.declared.scheme.Scheme.{Scheme}
use Rattle.pte.specs.declared.scheme.Scheme.TheVariants.{Sv39, Sv48}
use Rattle.pte.specs.declared.permission.Access.{Access}
use Rattle.pte.specs.declared.permission.Access.TheVariants.{Fetch, Load, Store}
use Rattle.pte.specs.declared.permission.Mode.{Mode}
use Rattle.pte.specs.declared.permission.Mode.TheVariants.{User, Super}
use Rattle.pte.specs.Address.{Span, bytes_of, is_canonical, widest}
use Rattle.walk.specs.declared.found_or_trap.Why.{Why}
use Rattle.walk.specs.declared.found_or_trap.Why.TheVariants as why
use Rattle.melissaledge_c.specs.declared.codes.Fault.{Fault}
use Rattle.melissaledge_c.specs.declared.codes.Fault.TheVariants as fault

-- a scheme has the number that MODE of satp has for it (privileged manual 4.1.11)
abbrev pub scheme_of : ℕ → Option Scheme
scheme_of code = if code == 8 then Some Sv39 else if code == 9 then Some Sv48 else None

abbrev pub access_of : ℕ → Option Access
access_of code =
    if code == 0 then Some Fetch else if code == 1 then Some Load else if code == 2 then Some Store
    else None

-- a privilege mode has the number of its encoding (privileged manual 1.2)
abbrev pub mode_of : ℕ → Option Mode
mode_of code = if code == 0 then Some User else if code == 1 then Some Super else None

abbrev pub is_set : ℕ → Bool
is_set flag = not (flag == 0)

abbrev pub number_of : Bool → ℕ
number_of flag = if flag then 1 else 0

abbrev pub size_of : ℕ → Option PageSize
size_of bytes =
    if bytes == 0x1000 then Some Kib4
    else if bytes == 0x20_0000 then Some Mib2
    else if bytes == 0x4000_0000 then Some Gib1
    else if bytes == 0x80_0000_0000 then Some Gib512
    else None

-- what is done with a value if there is one, or else the fault
abbrev pub or_fault : {A B : Type 0} → Option A → Fault → (A → Result B Fault) → Result B Fault
or_fault None why next = Err why
or_fault (Some x) why next = next x

-- the page of a base and a number of bytes, if the base is canonical and a multiple of a size of
-- pages
abbrev pub page_of : ℕ → ℕ → Result Span Fault
page_of base bytes =
    or_fault (size_of bytes) fault.Page (λ size.
    if is_canonical widest base && (base % bytes_of size == 0)
    then Ok (record { base = base; size = size }) else Err fault.Page)

abbrev pub why_code : Why → ℕ
why_code why.NotCanonical = 1
why_code why.Outside = 2
why_code why.Invalid = 3
why_code why.Reserved = 4
why_code why.TooDeep = 5
why_code why.Denied = 6
why_code why.Misaligned = 7
why_code why.NotAccessed = 8
why_code why.NotDirty = 9

-- negsuc n is -(n + 1)
abbrev pub code_of : Fault → ℤ
code_of fault.Scheme = negsuc 2
code_of fault.Access = negsuc 3
code_of fault.Mode = negsuc 4
code_of fault.Memory = negsuc 5
code_of fault.Length = negsuc 6
code_of fault.Root = negsuc 7
code_of fault.NoMemory = negsuc 8
code_of fault.AlreadyOpen = negsuc 9
code_of fault.NotOpen = negsuc 10
code_of fault.Page = negsuc 11
code_of fault.Kind = negsuc 12
code_of fault.Layout = negsuc 13
code_of fault.Hart = negsuc 14
code_of fault.Address = negsuc 15
code_of fault.Space = negsuc 16
code_of fault.Ticket = negsuc 17
code_of fault.Place = negsuc 18
code_of fault.Policy = negsuc 19
code_of fault.Walk = negsuc 20
code_of fault.Tlb = negsuc 21
