-- A whole access: it begins, and makes the loads of its walk until that has ended.
use Rattle.std.specs.Prelude.{ℕ, zero, suc, ◌≡◌, true, false, Some, Result, Ok, Err}
use Rattle.pte.specs.declared.permission.Access.{Access}
use Rattle.pte.specs.declared.permission.Ctx.{Ctx}
use Rattle.walk.specs.declared.found_or_trap.Trap.{Trap}
use Rattle.history.specs.declared.event.Event.TheVariants.{Begin, Load}
use Rattle.history.specs.declared.refusal.Refusal.{Refusal}
use Rattle.history.specs.declared.refusal.Refusal.TheVariants.{NoHart}
use Rattle.history.specs.declared.reply.Reply.{Reply}
use Rattle.history.specs.declared.reply.Reply.TheVariants as reply
use Rattle.history.specs.Due.{due}
use Rattle.history.specs.Setup.{Setup}
use Rattle.history.specs.Harts.{Walking, walk_of}
use Rattle.history.specs.Turns.{History, is_more}
use Rattle.history.specs.Runs.{with_turn}
use Rattle.stepcore.specs.Runs.{Promises}
use Rattle.stepcore.specs.Stands.{Stands}
use Rattle.stepcore.specs.State.{State}

-- the history and the last reply after this many loads of a hart, each of which was due since the
-- walk went on
unfoldable pub IsLoaded : Setup → ℕ → ℕ → History → Reply → History → Reply → Type 0
IsLoaded setup hart zero start first history last = (history ≡ start) × (last ≡ first)
IsLoaded setup hart (suc n) start first history last =
    (before : History) × (more : Reply) × IsLoaded setup hart n start first before more
    × (is_more more ≡ true) × (last ≡ due setup before (Load hart))
    × (history ≡ with_turn (Load hart) last before)

-- where the last reply says that a walk goes on, the hart's walk has made this many loads
abbrev pub HasLoads : History → ℕ → ℕ → Reply → Type 0
HasLoads history hart loads last =
    is_more last ≡ true
    → (walk : Walking) × (walk_of history hart ≡ Some walk) × (walk.loads ≡ loads)

-- what the last reply tells: the physical address, the exception, or why the access did not begin
abbrev pub accessed_of : Reply → Result (Result ℕ Trap) Refusal
accessed_of (reply.Hit pa) = Ok (Ok pa)
accessed_of (reply.Filled pa) = Ok (Ok pa)
accessed_of (reply.Trap trap) = Ok (Err trap)
accessed_of (reply.Refused refusal) = Err refusal
accessed_of _ = Err NoHart

-- The loads of a walk were made until it had ended: the machine stands at the history with them, and
-- keeps the promises.
pub record IsWalked (setup : Setup) (hart : ℕ) (start : History) (first last : Reply)
    (new : State) : Type 0 where
  pub loads : ℕ
  pub after : History
  pub loaded : IsLoaded setup hart loads start first after last
  pub ended : is_more last ≡ false
  pub stands : Stands setup new after
  pub promises : Promises setup after new

-- An access of a machine that stood at a history: it began with the reply that was due, its loads
-- were made until it had ended, and the result tells the last reply.
pub record IsAccessed (setup : Setup) (history : History) (hart va : ℕ) (access : Access)
    (ctx : Ctx) (result : Result (Result ℕ Trap) Refusal) (new : State) : Type 0 where
  pub last : Reply
  pub walked : IsWalked setup hart
      (with_turn (Begin hart va access ctx) (due setup history (Begin hart va access ctx)) history)
      (due setup history (Begin hart va access ctx)) last new
  pub answer : result ≡ accessed_of last

-- so it is for every history at which the machine stood
abbrev pub Accesses : State → ℕ → ℕ → Access → Ctx → Result (Result ℕ Trap) Refusal → State
    → Type 0
Accesses old hart va access ctx result new =
    (setup : Setup) (history : History) → Stands setup old history
    → IsAccessed setup history hart va access ctx result new
