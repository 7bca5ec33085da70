use Rattle.watch.proofs.Global.{given_placed, held_placed, live_placed, new_placed, stale_placed}
use Rattle.watch.proofs.laws.root_and_asid_of_global_change_nothing.Goals as goal

pub returns-clause-live : goal.returns-clause-live
returns-clause-live c = live_placed

pub returns-clause-held : goal.returns-clause-held
returns-clause-held c = held_placed

pub returns-clause-stale : goal.returns-clause-stale
returns-clause-stale c = stale_placed

pub returns-clause-given : goal.returns-clause-given
returns-clause-given c = λ scheme verdict newest trace hart x root asid g. given_placed scheme trace hart x root asid g verdict newest

pub returns-clause-fresh : goal.returns-clause-fresh
returns-clause-fresh c = λ scheme verdict trace hart x root asid g. new_placed scheme trace hart x root asid g verdict
