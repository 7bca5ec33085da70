-- What the calls of a machine answer C, and what they leave in its handle.
use Rattle.std.specs.Prelude.{ℕ, ℤ, pos, Bool, true, false, ◌≡◌, ◌⊎◌, ◌↔◌, nat_lt, length, [], Some, None, Result, Ok, Err}
use Rattle.history.specs.declared.event.Event.{Event}
use Rattle.history.specs.declared.reply.Reply.{Reply}
use Rattle.history.specs.Setup.{Setup, setup_of}
use Rattle.history.specs.Turns.{History}
use Rattle.history.specs.Runs.{with_turn}
use Rattle.history.specs.Due.{due}
use Rattle.pte.specs.Address.{is_canonical, widest}
use Rattle.spaces.specs.declared.configuration.Config.{Config}
use Rattle.spaces.specs.Limits.{MeetsLimits}
use Rattle.spaces.specs.declared.configuration.TheConstants.{MAX_FRAMES}
use Rattle.tlb.specs.Mappings.{IsMappedBy, Translates}
use Rattle.stepcore.specs.Changes.{is_accepted}
use Rattle.stepcore.specs.Runs.{Promises, entries_in}
use Rattle.stepcore.specs.Stands.{Stands}
use Rattle.stepcore.specs.State.{State}
use Rattle.melissaledge_c.specs.declared.codes.Fault.{Fault}
use Rattle.melissaledge_c.specs.declared.codes.Fault.TheVariants as fault
use Rattle.melissaledge_c.specs.declared.replies.ReplyGiven.{ReplyGiven}
use Rattle.melissaledge_c.specs.Codes.{code_of}
use Rattle.melissaledge_c.specs.MachineHeld.{Held}
use Rattle.melissaledge_c.specs.Replies.{reply_given}

-- the call is refused, and the handle holds what it held
abbrev pub Refused : Fault → Held → ℤ → Held → Type 0
Refused why old result new = (result ≡ code_of why) × (new ≡ old)

-- a machine that stands at the empty history, of a configuration within the limits
pub record IsOpened (config : Config) (result : ℤ) (new : Held) : Type 0 where
  pub machine : State
  pub held : new ≡ Some machine
  pub result_is : result ≡ pos 0
  pub limits : MeetsLimits MAX_FRAMES config
  pub stands : Stands (setup_of config) machine []

-- a configuration outside the limits is refused with Layout, and no other; or there is no memory;
-- or the machine is opened
pub record OpensAnew (config : Config) (result : ℤ) (new : Held) : Type 0 where
  pub layout : (result ≡ code_of fault.Layout) ↔ (¬ MeetsLimits MAX_FRAMES config)
  pub refused : ¬ (result ≡ pos 0) → new ≡ None
  pub opened : result ≡ pos 0 → IsOpened config result new
  pub answers : (result ≡ pos 0) ⊎ (result ≡ code_of fault.Layout)
      ⊎ (result ≡ code_of fault.NoMemory)

abbrev pub Opens : Result Config Fault → Held → ℤ → Held → Type 0
Opens (Err why) old result new = Refused why old result new
Opens (Ok config) (Some machine) result new = Refused fault.AlreadyOpen (Some machine) result new
Opens (Ok config) None result new = OpensAnew config result new

abbrev pub Closes : Held → ℤ → Held → Type 0
Closes None result new = Refused fault.NotOpen None result new
Closes (Some machine) result new = (result ≡ pos 0) × (new ≡ None)

-- all that is proved of a step: for every history at which the machine stood
pub record IsStep (old : State) (event : Event) (reply : Reply) (new : State) : Type 0 where
  pub stands : (setup : Setup) (history : History) → Stands setup old history
      → Stands setup new (with_turn event reply history)
  pub due_is : (setup : Setup) (history : History) → Stands setup old history
      → reply ≡ due setup history event
  pub refused : is_accepted reply ≡ false → new ≡ old
  pub promises : (setup : Setup) (history : History) → Stands setup old history
      → Promises setup (with_turn event reply history) new

-- the machine makes a step to the next, and C is given the reply
pub record IsStepped (old : State) (event : Event) (next : State) (told : ReplyGiven) : Type 0 where
  pub reply : Reply
  pub step : IsStep old event reply next
  pub told_is : told ≡ reply_given reply

abbrev pub StepsTo : State → Event → Held → ReplyGiven → Type 0
StepsTo old event None told = ⊥
StepsTo old event (Some next) told = IsStepped old event next told

abbrev pub Steps : Result Event Fault → Held → ℤ → Held → ReplyGiven → ReplyGiven → Type 0
Steps (Err why) old result new before after = Refused why old result new × (after ≡ before)
Steps (Ok event) None result new before after =
    Refused fault.NotOpen None result new × (after ≡ before)
Steps (Ok event) (Some machine) result new before after =
    (result ≡ pos 0) × StepsTo machine event new after

-- 1 exactly if the address is translated
pub record Says (machine : State) (hart asid va : ℕ) (result : ℤ) : Type 0 where
  pub answers : (result ≡ pos 0) ⊎ (result ≡ pos 1)
  pub yes_is : (result ≡ pos 1) ↔ Translates (IsMappedBy (entries_in machine hart)) asid va

abbrev pub SaysAt : Bool → Bool → State → ℕ → ℕ → ℕ → ℤ → Type 0
SaysAt false canonical machine hart asid va result = result ≡ code_of fault.Hart
SaysAt true false machine hart asid va result = result ≡ pos 0
SaysAt true true machine hart asid va result = Says machine hart asid va result

abbrev pub Tells : Held → ℕ → ℕ → ℕ → ℤ → Type 0
Tells None hart asid va result = result ≡ code_of fault.NotOpen
Tells (Some machine) hart asid va result =
    SaysAt (nat_lt hart (length machine.harts)) (is_canonical widest va) machine hart asid va result
