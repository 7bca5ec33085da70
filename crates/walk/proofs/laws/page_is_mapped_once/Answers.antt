use Rattle.walk.proofs.Members.{one_member}
use Rattle.walk.proofs.laws.page_is_mapped_once.Goals as goal

pub returns : goal.returns
returns c = λ scheme words root page p q f g a b m n. let same = one_member scheme words root page p q f g a b m n in (same.same_ppn, same.same_flags, same.same_global)
