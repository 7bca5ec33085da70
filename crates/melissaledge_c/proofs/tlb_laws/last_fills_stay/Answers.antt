use Rattle.melissaledge_c.proofs.Bounds.{last_stay}
use Rattle.melissaledge_c.proofs.tlb_laws.last_fills_stay.Goals as goal

pub returns : goal.returns
returns c = last_stay
