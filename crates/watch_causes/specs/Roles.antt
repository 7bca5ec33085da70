-- What a record has to do with a verdict, by its number: the first record of a trace has 1.
use Rattle.std.specs.Prelude.{ℕ, Bool, false, not, ◌==◌, ◌&&◌, ◌||◌, nat_lt, if◌then◌else◌}
use Rattle.std.specs.Prelude.{Option, Some, None}
use Rattle.pte.specs.declared.scheme.Scheme.{Scheme}
use Rattle.watch.specs.declared.trace.Record.{Record}
use Rattle.watch.specs.declared.trace.Record.TheVariants.{Store, Satp, Fence, RemoteBegin, GiveOut, GiveBack, ClaimBegin, ClaimEnd, Use}
use Rattle.watch.specs.declared.trace.Space.{Space}
use Rattle.watch.specs.Holding.{Translation}
use Rattle.watch_causes.specs.declared.reason.Reason.{Reason}
use Rattle.watch_causes.specs.declared.reason.Reason.TheVariants.{OtherHarts, OtherSpaces, OtherPages, NotDone}
use Rattle.watch_causes.specs.declared.role.Role.{Role}
use Rattle.watch_causes.specs.declared.role.Role.TheVariants as roles
use Rattle.watch_causes.specs.Reasons.{covers, is_for, is_of_space}
use Rattle.watch_engine.specs.declared.warning.Warning.{Warning}
use Rattle.watch_engine.specs.Warnings.{shown_of}

-- the address space is that of the translation; one that is global is of all (4.3.1, G)
abbrev pub is_in_space : Translation → Option Space → Bool
is_in_space x None = false
is_in_space x (Some space) =
    x.entry.global || ((space.root == x.root) && (space.asid == x.entry.asid))

-- a hart's satp gets the address space, or another, or none
abbrev pub of_satp : Warning → ℕ → Option Space → Role
of_satp w hart space =
    if not (hart == w.hart) then roles.Other
    else if is_in_space (shown_of w) space then roles.Enters
    else roles.Leaves

-- why a fence does not take the translation from the hart: the first of these that holds
abbrev pub miss_of : Scheme → Warning → Record → Reason
miss_of scheme w fence =
    if not (is_for w.hart fence) then OtherHarts
    else if not (is_of_space scheme w.entry fence) then OtherSpaces
    else if not (covers scheme w.entry fence) then OtherPages
    else NotDone

-- a fence for the hart that takes the translation out has the role
abbrev pub if_covered : Scheme → Warning → Record → Role → Role
if_covered scheme w fence role =
    if is_for w.hart fence && covers scheme w.entry fence then role else roles.Other

-- before the translation was stale: a hart that is asked may execute the fence earlier than that
abbrev pub role_before : Scheme → Warning → Record → Role
role_before scheme w (Store hart address word) = roles.Maps
role_before scheme w (Satp hart space) = of_satp w hart space
role_before scheme w (Fence hart rs1 rs2) = if_covered scheme w (Fence hart rs1 rs2) roles.Drops
role_before scheme w (RemoteBegin hart token fence) =
    if_covered scheme w (RemoteBegin hart token fence) roles.AsksEarly
role_before scheme w made = roles.Other

-- since then
abbrev pub role_since : Scheme → Warning → Record → Role
role_since scheme w (Satp hart space) = of_satp w hart space
role_since scheme w (Fence hart rs1 rs2) = roles.Misses (miss_of scheme w (Fence hart rs1 rs2))
role_since scheme w (RemoteBegin hart token fence) =
    roles.Misses (miss_of scheme w (RemoteBegin hart token fence))
role_since scheme w (ClaimBegin hart token claim) = roles.BeginsFlush
role_since scheme w (ClaimEnd hart token) = roles.EndsFlush
role_since scheme w (GiveBack hart frames) = roles.GivesBack
role_since scheme w (GiveOut hart frames) = roles.GivesOut
role_since scheme w (Use hart address) = roles.Uses
role_since scheme w made = roles.Other

abbrev pub role_of : Scheme → Warning → ℕ → Record → Role
role_of scheme w number made =
    if number == w.stale_since then roles.MakesStale
    else if nat_lt number w.stale_since then role_before scheme w made
    else role_since scheme w made
