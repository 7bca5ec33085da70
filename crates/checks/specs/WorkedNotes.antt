-- Steps and replies of which a few lists are worked through: which of the steps have a note.
use Rattle.std.specs.Prelude.{ℕ, List}
use Rattle.pte.specs.Address.{Span}
use Rattle.pte.specs.declared.address.PageSize.{PageSize}
use Rattle.spaces.specs.declared.places.Place.{Place}
use Rattle.history.specs.declared.event.Event.{Event}
use Rattle.history.specs.declared.event.Event.TheVariants.{Map, Protect, Unmap}
use Rattle.history.specs.declared.refusal.Refusal.TheVariants.{NoFrame, NotMapped}
use Rattle.history.specs.declared.reply.Reply.{Reply}
use Rattle.history.specs.declared.reply.Reply.TheVariants as reply
use Rattle.checks.specs.Notes.{short_maps}

abbrev pub page_at : ℕ → PageSize → Span
page_at base size = record { base = base; size = size }

-- by hart 0, to PPN 0x200, with the flags DAUWRV
abbrev pub map_of : Place → Span → Event
map_of place page = Map 0 place page 0x200 (record { 0 = 0xd7 })

-- by another hart, to another PPN, with other flags
abbrev pub map_again : Place → Span → Event
map_again place page = Map 1 place page 0x400 (record { 0 = 0x53 })

abbrev pub unmap_of : Place → Span → Event
unmap_of place page = Unmap 0 place page 0

abbrev pub protect_of : Place → Span → Event
protect_of place page = Protect 0 place page (record { 0 = 0xd7 }) 0

abbrev pub table : Reply
table = reply.Table 0x80002

abbrev pub no_frame : Reply
no_frame = reply.Refused NoFrame

abbrev pub not_mapped : Reply
not_mapped = reply.Refused NotMapped

-- the steps with a note, from 1 on
abbrev pub noted_steps : List Event → List Reply → List ℕ
noted_steps events replies = short_maps 1 events replies
