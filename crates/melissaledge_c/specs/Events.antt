-- The event of a machine that the numbers of C ask for.
use Rattle.std.specs.Prelude.{ℕ, if◌then◌else◌, Option, Result, Ok}
use Rattle.std.specs.List.{slice_get}
use Rattle.spaces.specs.declared.places.Place.{Place}
use Rattle.spaces.specs.declared.places.Place.TheVariants as place
use Rattle.history.specs.declared.event.Event.{Event}
use Rattle.history.specs.declared.event.Event.TheVariants as event
use Rattle.history.specs.declared.event.Scope.{Scope}
use Rattle.history.specs.declared.event.Scope.TheVariants as scope
use Rattle.melissaledge_c.specs.declared.codes.Fault.{Fault}
use Rattle.melissaledge_c.specs.declared.codes.Fault.TheVariants as fault
use Rattle.melissaledge_c.specs.declared.events.TheConstants.{KINDS}
use Rattle.melissaledge_c.specs.declared.events.EventAsked.{EventAsked}
use Rattle.melissaledge_c.specs.declared.events.Kind.{Kind}
use Rattle.melissaledge_c.specs.declared.events.Kind.TheVariants as kind
use Rattle.melissaledge_c.specs.Codes.{is_set, or_fault, page_of}
use Rattle.melissaledge_c.specs.Requests.{and_then, asked_of, optional_word}

-- a kind stands at its number
abbrev pub kind_of : ℕ → Option Kind
kind_of code = slice_get KINDS code

abbrev pub place_of : EventAsked → Place
place_of asked = if is_set asked.all then place.Kernel else place.Space asked.space

abbrev pub scope_of : EventAsked → Scope
scope_of asked = if is_set asked.all then scope.All else scope.Space asked.space

abbrev pub begin_event : EventAsked → Result Event Fault
begin_event asked =
    and_then (asked_of asked.access)
    (λ access. Ok (event.Begin asked.hart asked.access.va access.0 access.1))

abbrev pub map_event : EventAsked → Result Event Fault
map_event asked =
    and_then (page_of asked.page_base asked.page_bytes)
    (λ page. Ok (event.Map asked.hart (place_of asked) page asked.ppn (record { 0 = asked.flags })))

abbrev pub unmap_event : EventAsked → Result Event Fault
unmap_event asked =
    and_then (page_of asked.page_base asked.page_bytes)
    (λ page. Ok (event.Unmap asked.hart (place_of asked) page asked.named))

abbrev pub protect_event : EventAsked → Result Event Fault
protect_event asked =
    and_then (page_of asked.page_base asked.page_bytes)
    (λ page. Ok (event.Protect asked.hart (place_of asked) page (record { 0 = asked.flags })
    asked.named))

abbrev pub event_with : Kind → EventAsked → Result Event Fault
event_with kind.Begin asked = begin_event asked
event_with kind.Map asked = map_event asked
event_with kind.Unmap asked = unmap_event asked
event_with kind.Protect asked = protect_event asked
event_with kind.Load asked = Ok (event.Load asked.hart)
event_with kind.Flush asked = Ok (event.Flush asked.hart (scope_of asked) asked.named)
event_with kind.Switch asked = Ok (event.Switch asked.hart asked.space)
event_with kind.Fence asked =
    Ok (event.Fence asked.hart (optional_word asked.has_rs1 asked.rs1)
    (optional_word asked.has_rs2 asked.rs2))
event_with kind.Post asked = Ok (event.Post asked.hart asked.ticket asked.other)
event_with kind.Take asked = Ok (event.Take asked.hart asked.other)
event_with kind.ServeFence asked = Ok (event.ServeFence asked.hart)
event_with kind.Ack asked = Ok (event.Ack asked.hart)
event_with kind.AckSelf asked = Ok (event.AckSelf asked.hart asked.ticket)
event_with kind.Collect asked = Ok (event.Collect asked.hart asked.ticket asked.other)
event_with kind.Finish asked = Ok (event.Finish asked.hart asked.ticket)
event_with kind.Close asked = Ok (event.Close asked.hart asked.other)
event_with kind.Retire asked = Ok (event.Retire asked.hart asked.space)
event_with kind.Reclaim asked = Ok (event.Reclaim asked.hart asked.space)
event_with kind.Create asked = Ok (event.Create asked.hart asked.space asked.asid)

abbrev pub event_of : EventAsked → Result Event Fault
event_of asked = or_fault (kind_of asked.kind) fault.Kind (λ kind. event_with kind asked)
