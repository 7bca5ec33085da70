-- The lines that `walk` prints: that of each step has its number and the answer of the translation.
use Rattle.pte.specs.declared.scheme.Scheme.{Scheme}
use Rattle.std.specs.Prelude.{◌≡◌, ℕ, ◌+◌, Bool, Result, Ok, Err, codes, List, [], ◌∷◌, ◌++◌, if◌then◌else◌, false}
use Rattle.std.specs.Fmt.{decimal, digits}
use Rattle.pte.specs.declared.address.PageSize.{PageSize}
use Rattle.pte.specs.declared.address.PageSize.TheVariants.{Kib4, Mib2, Gib1, Gib512}
use Rattle.walk.specs.Leads.{Tables}
use Rattle.walk.specs.Outcome.{Outcome}
use Rattle.walk.specs.declared.found_or_trap.Found.{Found}
use Rattle.walk.specs.declared.found_or_trap.Trap.{Trap}
use Rattle.walk.specs.declared.found_or_trap.Why.{Why}
use Rattle.walk.specs.declared.found_or_trap.Why.TheVariants as whys
use Rattle.steps.specs.declared.step.WalkStep.{WalkStep}

abbrev pub size_text : PageSize → List ℕ
size_text Kib4 = codes "4K"
size_text Mib2 = codes "2M"
size_text Gib1 = codes "1G"
size_text Gib512 = codes "512G"

abbrev pub why_text : Why → List ℕ
why_text whys.NotCanonical = codes "NotCanonical"
why_text whys.Outside = codes "Outside"
why_text whys.Invalid = codes "Invalid"
why_text whys.Reserved = codes "Reserved"
why_text whys.TooDeep = codes "TooDeep"
why_text whys.Denied = codes "Denied"
why_text whys.Misaligned = codes "Misaligned"
why_text whys.NotAccessed = codes "NotAccessed"
why_text whys.NotDirty = codes "NotDirty"

-- lower case after `0x`, without leading zeros
abbrev pub hex : ℕ → List ℕ
hex n = codes "0x" ++ digits 16 false n

abbrev pub global_text : Bool → List ℕ
global_text global = if global then codes " global" else []

abbrev pub trap_text : Trap → List ℕ
trap_text trap = codes "trap " ++ decimal trap.cause ++ codes " " ++ why_text trap.why

abbrev pub answer_text : Result Found Trap → List ℕ
answer_text (Ok found) =
    codes "pa " ++ hex found.pa ++ codes " " ++ size_text found.page.size
    ++ global_text found.global
answer_text (Err trap) = trap_text trap

-- the line of an answer
abbrev pub line_of : ℕ → Result Found Trap → List ℕ
line_of number answer = decimal number ++ codes " " ++ answer_text answer ++ codes "\n"

-- the lines of the steps, the first of which has this number: that of its outcome, and then the
-- lines of the rest
abbrev pub WritesLines : Scheme → Tables → ℕ → ℕ → List WalkStep → List ℕ → Type 0
WritesLines scheme words root n [] lines = lines ≡ []
WritesLines scheme words root n (step ∷ steps) lines =
    (answer : Result Found Trap) × (rest : List ℕ)
    × Outcome scheme words root step.va step.access step.ctx answer
    × (lines ≡ line_of n answer ++ rest) × WritesLines scheme words root (n + 1) steps rest
