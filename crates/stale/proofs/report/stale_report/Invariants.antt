use Rattle.std.proofs.Common.{◌≡◌}
use Rattle.history.specs.Setup.{Setup}
use Rattle.history.specs.Turns.{History}
use Rattle.stepcore.specs.Stands.{Stands}
use Rattle.stale.specs.Told.{InOrderTo, TellsOnce}
use Rattle.stale.specs.UseRuns.{history_at}
use Rattle.stale.proofs.Reporting.{ToldBecoming, ToldEntry, ToldOrders, ToldUses}
use Rattle.stale.proofs.report.stale_report.Given as goal

abbrev pub invariant-loop-event : goal.invariant-loop-event
invariant-loop-event l = record {
  count : l.step ≡ l.event-index;
  stands : (C : Setup) (H : History) → Stands C l.fn.machine H → Stands C l.machine (history_at C H l.events l.event-index);
  became : (C : Setup) (H : History) → Stands C l.fn.machine H → ToldBecoming C H l.events l.event-index l.items.items;
  entries : (C : Setup) (H : History) → Stands C l.fn.machine H → ToldEntry C H l.events l.event-index l.items.items;
  used : (C : Setup) (H : History) → Stands C l.fn.machine H → ToldUses C H l.events l.event-index l.items.items;
  in_order : InOrderTo l.items.items l.step;
  once : (C : Setup) (H : History) → Stands C l.fn.machine H → TellsOnce l.items.items;
  orders : (C : Setup) (H : History) → Stands C l.fn.machine H → ToldOrders C H l.events l.event-index l.items.items;
}
