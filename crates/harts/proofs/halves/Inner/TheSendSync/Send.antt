-- A ghost name is of no thread. Assumes nothing.
use denote.RattleType.{RattleType}
use denote.Param.Send.{IsSend}
use Rattle.harts.specs.contracts.halves.Inner.{the_row}

pub send : (E : RattleType) → IsSend (the_row E)
send E = record { owned = λ d vs. ((λ vss. (tt, ((λ uss. (tt, tt)), tt))), tt); leaving = λ k f vs. tt }
