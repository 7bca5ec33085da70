-- The table of steps: for each its word, what the words after it are, and what it makes.
use Rattle.std.specs.Prelude.{ℕ, Bool, true, false, codes, List, [], ◌∷◌, Option, Some, None}
use Rattle.pte.specs.declared.address.PageSize.TheVariants.{Kib4}
use Rattle.pte.specs.declared.permission.Access.TheVariants as access
use Rattle.pte.specs.declared.permission.Mode.TheVariants as modes
use Rattle.spaces.specs.declared.places.Place.TheVariants as places
use Rattle.history.specs.declared.event.Event.{Event}
use Rattle.history.specs.declared.event.Event.TheVariants as events
use Rattle.history.specs.declared.event.Scope.TheVariants as scopes
use Rattle.history.specs.declared.live_step.LiveStep.{LiveStep}
use Rattle.history.specs.declared.live_step.LiveStep.TheVariants as live
use Rattle.steps.specs.declared.parts.Parts.{Parts}
use Rattle.steps.specs.declared.step.WalkStep.{WalkStep}
use Rattle.steps.specs.declared.table.Field.{Field}
use Rattle.steps.specs.declared.table.Field.TheVariants.{Hart, Mode, Access, Va, Address, Place, Page, Ppn, Flags, Named, Scope, Rs1, Rs2, Space, Asid, Ticket, From, To}
use Rattle.steps.specs.declared.table.StepName.{StepName}
use Rattle.steps.specs.declared.table.StepName.TheVariants.{Begin, Translate, Load, Map, Unmap, Protect, Flush, Switch, Fence, Post, Take, Serve, ServeFence, Ack, AckSelf, Collect, Finish, Close, Wait, Retire, Reclaim, Create}
use Rattle.steps.specs.Accesses.{named}

-- the word, and what the words after it are in `run` and in `live`
pub record Line : Type 0 where
  pub word : List ℕ
  pub run : Option (List Field)
  pub live : Option (List Field)

abbrev pub both : List ℕ → List Field → Line
both word fields = record { word = word; run = Some fields; live = Some fields }

abbrev pub run_alone : List ℕ → List Field → Line
run_alone word fields = record { word = word; run = Some fields; live = None }

abbrev pub live_alone : List ℕ → List Field → Line
live_alone word fields = record { word = word; run = None; live = Some fields }

abbrev pub line_of : StepName → Line
line_of Begin = run_alone (codes "begin") (Mode ∷ Access ∷ Va ∷ [])
line_of Translate = live_alone (codes "translate") (Mode ∷ Access ∷ Va ∷ [])
line_of Load = run_alone (codes "load") []
line_of Map = both (codes "map") (Place ∷ Page ∷ Ppn ∷ Flags ∷ [])
line_of Unmap = both (codes "unmap") (Place ∷ Page ∷ Named ∷ [])
line_of Protect = both (codes "protect") (Place ∷ Page ∷ Flags ∷ Named ∷ [])
line_of Flush = both (codes "flush") (Scope ∷ Named ∷ [])
line_of Switch = both (codes "switch") (Space ∷ [])
line_of Fence = both (codes "fence") (Rs1 ∷ Rs2 ∷ [])
line_of Post = both (codes "post") (Ticket ∷ To ∷ [])
line_of Take = run_alone (codes "take") (From ∷ [])
line_of Serve = live_alone (codes "serve") (From ∷ [])
line_of ServeFence = run_alone (codes "servefence") []
line_of Ack = run_alone (codes "ack") []
line_of AckSelf = both (codes "ackself") (Ticket ∷ [])
line_of Collect =
    record { word = codes "collect"; run = Some (Ticket ∷ From ∷ []); live = Some (Ticket ∷ []) }
line_of Finish = both (codes "finish") (Ticket ∷ [])
line_of Close = both (codes "close") (To ∷ [])
line_of Wait = live_alone (codes "wait") (Ticket ∷ [])
line_of Retire = run_alone (codes "retire") (Space ∷ [])
line_of Reclaim = run_alone (codes "reclaim") (Space ∷ [])
line_of Create = run_alone (codes "create") (Space ∷ Asid ∷ [])

abbrev pub word_of : StepName → List ℕ
word_of name = (line_of name).word

abbrev pub run_fields : StepName → Option (List Field)
run_fields name = (line_of name).run

abbrev pub live_fields : StepName → Option (List Field)
live_fields name = (line_of name).live

abbrev pub walk_fields : List Field
walk_fields = Mode ∷ Access ∷ Address ∷ []

abbrev pub step_names : List StepName
step_names =
    Begin ∷ Translate ∷ Load ∷ Map ∷ Unmap ∷ Protect ∷ Flush ∷ Switch ∷ Fence ∷ Post ∷ Take
    ∷ Serve ∷ ServeFence ∷ Ack ∷ AckSelf ∷ Collect ∷ Finish ∷ Close ∷ Wait ∷ Retire
    ∷ Reclaim ∷ Create ∷ []

-- the name that is this word
abbrev pub name_of : List ℕ → Option StepName
name_of = named word_of step_names

abbrev pub label_of : Field → List ℕ
label_of Hart = codes "H"
label_of Mode = codes "MODE"
label_of Access = codes "ACCESS"
label_of Va = codes "VA"
label_of Address = codes "ADDRESS"
label_of Place = codes "PLACE"
label_of Page = codes "PAGE"
label_of Ppn = codes "PPN"
label_of Flags = codes "FLAGS"
label_of Named = codes "NAMED"
label_of Scope = codes "SCOPE"
label_of Rs1 = codes "RS1"
label_of Rs2 = codes "RS2"
label_of Space = codes "SPACE"
label_of Asid = codes "ASID"
label_of Ticket = codes "TICKET"
label_of From = codes "FROM"
label_of To = codes "TO"

-- ---- what a step makes of what its words say

abbrev pub nothing : Parts
nothing =
    record {
      hart = 0;
      ctx = record { mode = modes.User; sum = false; mxr = false };
      access = access.Load;
      va = 0;
      place = places.Kernel;
      page = record { base = 0; size = Kib4 };
      ppn = 0;
      flags = record { 0 = 0 };
      named = 0;
      scope = scopes.All;
      rs1 = None;
      rs2 = None;
      space = 0;
      asid = 0;
      ticket = 0;
      other = 0;
    }

-- the event of a step of `run`
abbrev pub event_of : StepName → Parts → Option Event
event_of Begin p = Some (events.Begin p.hart p.va p.access p.ctx)
event_of Translate p = None
event_of Load p = Some (events.Load p.hart)
event_of Map p = Some (events.Map p.hart p.place p.page p.ppn p.flags)
event_of Unmap p = Some (events.Unmap p.hart p.place p.page p.named)
event_of Protect p = Some (events.Protect p.hart p.place p.page p.flags p.named)
event_of Flush p = Some (events.Flush p.hart p.scope p.named)
event_of Switch p = Some (events.Switch p.hart p.space)
event_of Fence p = Some (events.Fence p.hart p.rs1 p.rs2)
event_of Post p = Some (events.Post p.hart p.ticket p.other)
event_of Take p = Some (events.Take p.hart p.other)
event_of Serve p = None
event_of ServeFence p = Some (events.ServeFence p.hart)
event_of Ack p = Some (events.Ack p.hart)
event_of AckSelf p = Some (events.AckSelf p.hart p.ticket)
event_of Collect p = Some (events.Collect p.hart p.ticket p.other)
event_of Finish p = Some (events.Finish p.hart p.ticket)
event_of Close p = Some (events.Close p.hart p.other)
event_of Wait p = None
event_of Retire p = Some (events.Retire p.hart p.space)
event_of Reclaim p = Some (events.Reclaim p.hart p.space)
event_of Create p = Some (events.Create p.hart p.space p.asid)

-- the step of `live`
abbrev pub live_of : StepName → Parts → Option LiveStep
live_of Begin p = None
live_of Translate p = Some (live.Translate p.va p.access p.ctx)
live_of Load p = None
live_of Map p = Some (live.Map p.place p.page p.ppn p.flags)
live_of Unmap p = Some (live.Unmap p.place p.page p.named)
live_of Protect p = Some (live.Protect p.place p.page p.flags p.named)
live_of Flush p = Some (live.Flush p.scope p.named)
live_of Switch p = Some (live.Switch p.space)
live_of Fence p = Some (live.Fence p.rs1 p.rs2)
live_of Post p = Some (live.Post p.ticket p.other)
live_of Take p = None
live_of Serve p = Some (live.Serve p.other)
live_of ServeFence p = None
live_of Ack p = None
live_of AckSelf p = Some (live.AckSelf p.ticket)
live_of Collect p = Some (live.Collect p.ticket)
live_of Finish p = Some (live.Finish p.ticket)
live_of Close p = Some (live.Close p.other)
live_of Wait p = Some (live.Wait p.ticket)
live_of Retire p = None
live_of Reclaim p = None
live_of Create p = None

-- the step of `walk`
abbrev pub walk_of : Parts → WalkStep
walk_of p = record { ctx = p.ctx; access = p.access; va = p.va }

-- ---- the step of `run` that makes an event

abbrev pub name_for : Event → StepName
name_for (events.Begin hart va access ctx) = Begin
name_for (events.Load hart) = Load
name_for (events.Map hart place page ppn flags) = Map
name_for (events.Unmap hart place page named) = Unmap
name_for (events.Protect hart place page flags named) = Protect
name_for (events.Flush hart scope named) = Flush
name_for (events.Switch hart space) = Switch
name_for (events.Fence hart rs1 rs2) = Fence
name_for (events.Post hart ticket to) = Post
name_for (events.Take hart from) = Take
name_for (events.ServeFence hart) = ServeFence
name_for (events.Ack hart) = Ack
name_for (events.AckSelf hart ticket) = AckSelf
name_for (events.Collect hart ticket from) = Collect
name_for (events.Finish hart ticket) = Finish
name_for (events.Close hart to) = Close
name_for (events.Retire hart space) = Retire
name_for (events.Reclaim hart space) = Reclaim
name_for (events.Create hart space asid) = Create

-- a step of many words
abbrev pub is_wide : Event → Bool
is_wide (events.Begin hart va access ctx) = true
is_wide (events.Map hart place page ppn flags) = true
is_wide (events.Unmap hart place page named) = true
is_wide (events.Protect hart place page flags named) = true
is_wide _ = false
