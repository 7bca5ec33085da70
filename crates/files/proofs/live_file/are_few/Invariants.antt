use Rattle.files.proofs.ScriptLemmas.{RoomLeft}
use Rattle.files.proofs.live_file.are_few.Given as goal

abbrev pub invariant-loop-texts : goal.invariant-loop-texts
invariant-loop-texts l = RoomLeft l.setup l.scripts l.texts-index l.room
