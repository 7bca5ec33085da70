use Rattle.std.proofs.Common.{refl, sym, ◌∙◌, subst, ◌⊎◌, inl, inr}
use Rattle.std.specs.Prelude.{◌↔◌, Contains}
use Rattle.history.specs.Turns.{opened_ticket}
use Rattle.history.specs.Due.{due}
use Rattle.history.specs.Runs.{with_turn}
use Rattle.history.specs.declared.reply.Reply.{Reply}
use Rattle.stepcore.specs.Stands.{Stands}
use Rattle.stale.specs.Stale.{UsesStale}
use Rattle.stale.specs.Told.{home_in, IsEditOf, IsOfChange, IsOfUse, TellsBecoming, TellsEntry, TellsOrder, TellsUse}
use Rattle.stale.specs.Uses.{Tells}
use Rattle.stale.proofs.Stepping.{among, becoming_by, change_tells_no_use, change_tells_order, edit_ticket, entry_by, use_steps, use_tells_no_change, use_tells_no_entry, use_tells_no_order}
use Rattle.stale.proofs.Once.{hold_once, step_once}
use Rattle.stale.proofs.report.step_stale.Goals as goal

pub returns-clause-became : goal.returns-clause-became
returns-clause-became c = λ C H n h m st.
    let event = c.args.event in
    let step = c.args.step in
    let now = c.step-reply.new.self in
    let change = c.change_of-change.result in
    let home = c.home_of.result in
    let is_due = c.step-reply.ensures.due C H st in
    let after : Stands C now (with_turn event (due C H event) H) = subst (λ (r : Reply). Stands C now (with_turn event r H)) is_due (c.step-reply.ensures.stands C H st) in
    let all = among c.args.items.now.items c.tell_change.new.items.items c.tell_use.new.items.items (IsOfChange now change home step (opened_ticket (due C H event))) (IsOfUse c.stale_use-used.result step)
    (λ item. subst (λ (r : Reply). Contains c.tell_change.new.items.items item ↔ (Contains c.args.items.now.items item ⊎ IsOfChange now change home step (opened_ticket r) item)) is_due (c.in_ok-tell_change.ensures.told item))
    c.in_ok-tell_use.ensures.told n (λ item. TellsBecoming item h m)
    in
    let by = becoming_by C H event step now after change c.change_of-change.ensures.page home (λ t k p opened. c.change_of-change.ensures.changed C H t k p st after.pages.1 opened) change
    (opened_ticket (due C H event)) refl refl (edit_ticket event (due C H event)) after.pages.1 n h m
    in (
      λ t. elim (all.0 t) [
        | inl old ↦ inl old
        | inr more ↦ elim more [ inl a ↦ inr (by.0 a) | inr b ↦ absurd (use_tells_no_change c.stale_use-used.result step n h m b) ]
      ],
      λ cases. all.1 (elim cases [ inl old ↦ inl old | inr b ↦ inr (inl (by.1 b)) ]),
    )

pub returns-clause-entries : goal.returns-clause-entries
returns-clause-entries c = λ C H n h e st.
    let event = c.args.event in
    let step = c.args.step in
    let now = c.step-reply.new.self in
    let change = c.change_of-change.result in
    let home = c.home_of.result in
    let is_due = c.step-reply.ensures.due C H st in
    let after : Stands C now (with_turn event (due C H event) H) = subst (λ (r : Reply). Stands C now (with_turn event r H)) is_due (c.step-reply.ensures.stands C H st) in
    let all = among c.args.items.now.items c.tell_change.new.items.items c.tell_use.new.items.items (IsOfChange now change home step (opened_ticket (due C H event))) (IsOfUse c.stale_use-used.result step)
    (λ item. subst (λ (r : Reply). Contains c.tell_change.new.items.items item ↔ (Contains c.args.items.now.items item ⊎ IsOfChange now change home step (opened_ticket r) item)) is_due (c.in_ok-tell_change.ensures.told item))
    c.in_ok-tell_use.ensures.told n (λ item. TellsEntry item h e)
    in
    let by = entry_by C H event step now after change c.change_of-change.ensures.page home (λ t k p opened. c.change_of-change.ensures.changed C H t k p st after.pages.1 opened) change
    (opened_ticket (due C H event)) refl refl (edit_ticket event (due C H event)) after.pages.1 n h e
    in (
      λ t. elim (all.0 t) [
        | inl old ↦ inl old
        | inr more ↦ elim more [ inl a ↦ inr (by.0 a) | inr b ↦ absurd (use_tells_no_entry c.stale_use-used.result step n h e b) ]
      ],
      λ cases. all.1 (elim cases [ inl old ↦ inl old | inr b ↦ inr (inl (by.1 b)) ]),
    )

pub returns-clause-used : goal.returns-clause-used
returns-clause-used c = λ C H n h m st.
    let event = c.args.event in
    let step = c.args.step in
    let now = c.step-reply.new.self in
    let change = c.change_of-change.result in
    let home = c.home_of.result in
    let used = c.stale_use-used.result in
    let is_due = c.step-reply.ensures.due C H st in
    let all = among c.args.items.now.items c.tell_change.new.items.items c.tell_use.new.items.items (IsOfChange now change home step (opened_ticket (due C H event))) (IsOfUse used step)
    (λ item. subst (λ (r : Reply). Contains c.tell_change.new.items.items item ↔ (Contains c.args.items.now.items item ⊎ IsOfChange now change home step (opened_ticket r) item)) is_due (c.in_ok-tell_change.ensures.told item))
    c.in_ok-tell_use.ensures.told n (λ item. TellsUse item h m)
    in
    let by = use_steps used step n h m in
    let uses : UsesStale C (record { event = event; reply = due C H event }) H h m ↔ Tells used h m =
    subst (λ (r : Reply). UsesStale C (record { event = event; reply = r }) H h m ↔ Tells used h m) is_due (c.stale_use-used.ensures C H h m (c.step-reply.ensures.stands C H st))
    in (
      λ t. elim (all.0 t) [
        | inl old ↦ inl old
        | inr more ↦ elim more [
          | inl a ↦ absurd (change_tells_no_use now change home step (opened_ticket (due C H event)) n h m a)
          | inr b ↦ let tells = by.0 b in inr (tells.0, uses.1 tells.1)
        ]
      ],
      λ cases. all.1 (elim cases [ inl old ↦ inl old | inr b ↦ inr (inr (by.1 (b.0, uses.0 b.1))) ]),
    )

pub returns-clause-orders : goal.returns-clause-orders
returns-clause-orders c = λ C H n home ticket st t.
    let event = c.args.event in
    let step = c.args.step in
    let now = c.step-reply.new.self in
    let change = c.change_of-change.result in
    let is_due = c.step-reply.ensures.due C H st in
    let all = among c.args.items.now.items c.tell_change.new.items.items c.tell_use.new.items.items (IsOfChange now change c.home_of.result step (opened_ticket (due C H event))) (IsOfUse c.stale_use-used.result step)
    (λ item. subst (λ (r : Reply). Contains c.tell_change.new.items.items item ↔ (Contains c.args.items.now.items item ⊎ IsOfChange now change c.home_of.result step (opened_ticket r) item)) is_due
    (c.in_ok-tell_change.ensures.told item))
    c.in_ok-tell_use.ensures.told n (λ item. TellsOrder item home ticket)
    in
    elim (all.0 t) [
      | inl old ↦ inl old
      | inr more ↦ elim more [
        | inl a ↦
            let told = change_tells_order now change c.home_of.result step (opened_ticket (due C H event)) n home ticket (IsEditOf (home_in event) event) c.change_of-change.ensures.edit a in
            inr (told.0, subst (λ k. IsEditOf k event) (sym c.home_of.ensures ∙ sym told.1) told.3, told.2)
        | inr b ↦ absurd (use_tells_no_order c.stale_use-used.result step n home ticket b)
      ]
    ]

pub returns-clause-once : goal.returns-clause-once
returns-clause-once c = λ C H st.
    let now = c.step-reply.new.self in
    step_once now c.change_of-change.result c.home_of.result c.args.step (opened_ticket c.step-reply.result) c.stale_use-used.result c.args.items.now.items c.tell_change.new.items.items c.tell_use.new.items.items
    c.in_ok-tell_change.ensures.told c.in_ok-tell_change.ensures.once c.in_ok-tell_use.ensures.once
    (hold_once C now (with_turn c.args.event c.step-reply.result H) (c.step-reply.ensures.stands C H st))
