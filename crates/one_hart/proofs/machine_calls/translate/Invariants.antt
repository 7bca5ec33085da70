use Rattle.std.proofs.Common.{◌≡◌, ◌-◌}
use Rattle.pte.specs.Address.{level_count, widest}
use Rattle.history.specs.Setup.{Setup}
use Rattle.history.specs.Turns.{History}
use Rattle.history.specs.declared.event.Event.TheVariants as event
use Rattle.stepcore.specs.Stands.{Stands}
use Rattle.one_hart.specs.Asked.{loaded, turned}
use Rattle.one_hart.proofs.machine_calls.translate.Given as goal

-- the loads that are left end as all of them do
abbrev pub invariant-loop-made : goal.invariant-loop-made
invariant-loop-made l =
    (setup : Setup) (history : History) → Stands setup l.fn.machine history →
    (now : History) × Stands setup l.machine now
    × (loaded (level_count widest - l._made) setup (record { reply = l.reply; history = now })
    ≡ loaded (level_count widest) setup (turned setup (event.Begin 0 l.fn.va l.fn.access l.fn.ctx) history))
