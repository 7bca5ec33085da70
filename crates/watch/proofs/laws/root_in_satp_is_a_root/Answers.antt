use Rattle.watch.proofs.Roots.{given_out, live-current, satp-root}
use Rattle.watch.proofs.laws.root_in_satp_is_a_root.Goals as goal

pub returns-clause-satp : goal.returns-clause-satp
returns-clause-satp c = satp-root

pub returns-clause-given_out : goal.returns-clause-given_out
returns-clause-given_out c = given_out

pub returns-clause-current : goal.returns-clause-current
returns-clause-current c = live-current
