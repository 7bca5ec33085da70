use Rattle.std.proofs.Common.{inl, sym}
use Rattle.scenario.proofs.AskLemmas.{shown_done}
use Rattle.scenario.proofs.command_line.answer_unasked.Goals as goal

pub returns-in-Ok : goal.returns-in-Ok
returns-in-Ok g c = rw (sym c.in-Some.ensures) (inl (shown_done _ _ _ _ c.in-Ok.ensures.ok))
