use Rattle.pte.specs.declared.address.What.TheVariants.{SpaceOf}
use Rattle.thread_tests.proofs.cells.ask_and_serve.Goals as goal

pub collect-early-requires-clause-awaits : goal.collect-early-requires-clause-awaits
collect-early-requires-clause-awaits g c = c.arm.ensures.awaits (SpaceOf 1) c.open_order.ensures.asks
