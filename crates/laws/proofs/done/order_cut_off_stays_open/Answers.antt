use Rattle.laws.proofs.Staying.{stays_stuck}
use Rattle.laws.proofs.done.order_cut_off_stays_open.Goals as goal

pub returns : goal.returns
returns c = λ C later earlier s t k h l o named apart closed unposted.
    (stays_stuck C later earlier s t k h l (record { is_open = o; named = named; apart = apart; closed = closed; unposted = unposted })).is_open
