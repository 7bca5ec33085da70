use Rattle.melissaledge_c.proofs.Bounds.{answers_alone}
use Rattle.melissaledge_c.proofs.tlb_laws.replacement_answers.Goals as goal

pub returns : goal.returns
returns c = λ most asid va entries e some held its. answers_alone e asid va held its most entries some
