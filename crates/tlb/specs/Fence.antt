-- Which entries SFENCE.VMA takes out, by its four forms (privileged manual 4.2.1, Supervisor
-- Memory-Management Fence Instruction). An operand is None where the register is x0, and Some of
-- its value where it is another register, whatever the value is. The manual lets a fence take out
-- more; here each form takes out just what the manual asks for.
use Rattle.std.specs.Prelude.{ℕ, Bool, true, ◌%◌, ◌^◌, ◌==◌, ◌&&◌, not, Option, Some, None, List}
use Rattle.std.specs.Prelude.{filter}
use Rattle.pte.specs.declared.scheme.Scheme.{Scheme}
use Rattle.pte.specs.declared.TheConstants.{ASID_BITS}
use Rattle.pte.specs.Address.{holds, is_canonical}
use Rattle.tlb.specs.declared.store.Entry.{Entry}

-- rs1 is canonical, and the entry holds a leaf for that address
abbrev pub is_of_address : Scheme → ℕ → Entry → Bool
is_of_address scheme rs1 e = is_canonical scheme rs1 && holds e.page rs1

-- the entry is not global and has the ASID of rs2, whose higher bits are ignored
abbrev pub is_of_space : ℕ → Entry → Bool
is_of_space rs2 e = not e.global && (e.asid == rs2 % 2 ^ ASID_BITS)

-- the fence takes the entry out
abbrev pub is_fenced : Scheme → Option ℕ → Option ℕ → Entry → Bool
is_fenced scheme None None e = true
is_fenced scheme None (Some rs2) e = is_of_space rs2 e
is_fenced scheme (Some rs1) None e = is_of_address scheme rs1 e
is_fenced scheme (Some rs1) (Some rs2) e = is_of_address scheme rs1 e && is_of_space rs2 e

-- what a fence leaves, in the same order
abbrev pub fenced : Scheme → List Entry → Option ℕ → Option ℕ → List Entry
fenced scheme entries rs1 rs2 = filter (λ e. not (is_fenced scheme rs1 rs2 e)) entries
