use Rattle.stale.proofs.ToldEdit.{other_told, plain_event, protect_told, unmap_told}
use Rattle.stale.proofs.changes.change_of.Goals as goal

pub returns-in-Unmap-clause-changed : goal.returns-in-Unmap-clause-changed
returns-in-Unmap-clause-changed c = λ C H t h m st.
    rw c.in-Unmap.is
    (λ has opened. unmap_told C c.args.machine.now H st c.in-Unmap.hart c.in-Unmap.place c.in-Unmap.page c.in-Unmap.named t c.change_in.result c.change_in.ensures.some c.change_in.ensures.none h m has opened)

pub returns-in-Protect-clause-changed : goal.returns-in-Protect-clause-changed
returns-in-Protect-clause-changed c = λ C H t h m st.
    rw c.in-Protect.is
    (λ has opened. protect_told C c.args.machine.now H st c.in-Protect.hart c.in-Protect.place c.in-Protect.page c.in-Protect.flags c.in-Protect.named t c.change_in-in-Protect.result
    c.change_in-in-Protect.ensures.some c.change_in-in-Protect.ensures.none h m has opened)

pub returns-in_default : goal.returns-in_default
returns-in_default c = record {
  range = tt;
  page = tt;
  edit = tt;
  changed = λ C H t h m st has opened. other_told C c.args.machine.now H st c.args.event.now (plain_event c.args.event.now _ c.in_default.not-Unmap c.in_default.not-Protect) has h m;
}
