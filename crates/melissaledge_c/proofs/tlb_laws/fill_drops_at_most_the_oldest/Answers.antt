use Rattle.std.proofs.Common.{◌∷◌, arith}
use Rattle.melissaledge_c.proofs.Places.{filled_when_full, filled_with_room}
use Rattle.melissaledge_c.proofs.tlb_laws.fill_drops_at_most_the_oldest.Goals as goal

pub returns-clause-room : goal.returns-clause-room
returns-clause-room c = λ most entries e room. filled_with_room most entries e room

pub returns-clause-full : goal.returns-clause-full
returns-clause-full c = λ most oldest e others full. filled_when_full most (oldest ∷ others) e (omega (arith, full)) (omega (arith, full))
