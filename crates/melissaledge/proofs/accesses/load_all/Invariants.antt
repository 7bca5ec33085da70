use Rattle.history.specs.Setup.{Setup}
use Rattle.history.specs.Turns.{History}
use Rattle.stepcore.specs.Runs.{Promises}
use Rattle.stepcore.specs.Stands.{Stands}
use Rattle.melissaledge.specs.Accesses.{HasLoads}
use Rattle.melissaledge.proofs.Accessing.{Goes}
use Rattle.melissaledge.proofs.accesses.load_all.Given as goal

abbrev pub invariant-loop-load : goal.invariant-loop-load
invariant-loop-load l =
    (setup : Setup) (start : History) → Stands setup l.initial.machine start → Promises setup start l.initial.machine → HasLoads start l.hart 0 l.fn.first
    → Goes setup l.hart start l.fn.first l._load l.reply l.machine
