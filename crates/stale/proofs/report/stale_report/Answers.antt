use Rattle.std.proofs.Common.{◌≡◌, ℕ, ◌+◌, Some, slice_get, ap, sym, ◌∙◌, subst, ◌⊎◌, arith}
use Rattle.std.specs.Prelude.{◌↔◌}
use Rattle.std.proofs.lemmas.Option.{slice_get-get_or}
use Rattle.history.specs.Turns.{History, opened_ticket}
use Rattle.history.specs.Due.{due}
use Rattle.stepcore.specs.Stands.{Stands}
use Rattle.stale.specs.Stale.{BecomesStale, UsesStale}
use Rattle.stale.specs.Told.{EntryBecomesStale, IsEditOf, IsToldBecoming, IsToldEntry, IsToldOrder, IsToldUse}
use Rattle.stale.specs.UseRuns.{due_turn, history_at}
use Rattle.stale.proofs.Once.{before_next}
use Rattle.stale.proofs.Ordering.{in_order_later}
use Rattle.stale.proofs.Reporting.{all_becoming, all_entries, all_uses, next_becoming, next_entries, next_orders, next_uses}
use Rattle.stale.proofs.Telling.{history_more}
use Rattle.stale.proofs.report.stale_report.Goals as goal

pub loop-event-preserved : goal.loop-event-preserved
loop-event-preserved c =
    let i = c.loop-event.event-index in
    let events = c.args.events.now in
    let event = c.event-item.result in
    let old = c.loop-event.items.items in
    let new = c.step_stale.new.items.items in
    let at : slice_get events i ≡ Some event = slice_get-get_or events i event c.loop-event-test.true ∙ ap Some (sym c.event-item.is) in
    let number : c.loop-event.step + 1 ≡ i + 1 = ap (λ (n : ℕ). n + 1) c.loop-event.invariant.count in
    record {
      count = number;
      stands = λ C H st.
          subst (λ (G : History). Stands C c.step_stale.new.machine G) (sym (history_more C H events i event at))
          (c.in_ok-_reply.ensures.stands C (history_at C H events i) (c.loop-event.invariant.stands C H st));
      became = λ C H st. next_becoming C H events i event at old new (c.loop-event.invariant.became C H st)
          (λ n h m. subst (λ k. IsToldBecoming new n h m ↔ (IsToldBecoming old n h m ⊎ ((n ≡ k) × BecomesStale C (due_turn C (history_at C H events i) event) (history_at C H events i) h m))) number
          (c.in_ok-_reply.ensures.became C (history_at C H events i) n h m (c.loop-event.invariant.stands C H st)));
      entries = λ C H st. next_entries C H events i event at old new (c.loop-event.invariant.entries C H st)
          (λ n h e. subst (λ k. IsToldEntry new n h e ↔ (IsToldEntry old n h e ⊎ ((n ≡ k) × EntryBecomesStale C (due_turn C (history_at C H events i) event) (history_at C H events i) h e))) number
          (c.in_ok-_reply.ensures.entries C (history_at C H events i) n h e (c.loop-event.invariant.stands C H st)));
      used = λ C H st. next_uses C H events i event at old new (c.loop-event.invariant.used C H st)
          (λ n h m. subst (λ k. IsToldUse new n h m ↔ (IsToldUse old n h m ⊎ ((n ≡ k) × UsesStale C (due_turn C (history_at C H events i) event) (history_at C H events i) h m))) number
          (c.in_ok-_reply.ensures.used C (history_at C H events i) n h m (c.loop-event.invariant.stands C H st)));
      in_order = c.in_ok-_reply.ensures.in_order (in_order_later old c.loop-event.step (c.loop-event.step + 1) (omega arith) c.loop-event.invariant.in_order);
      once = λ C H st. c.in_ok-_reply.ensures.once C (history_at C H events i) (c.loop-event.invariant.stands C H st) (before_next old c.loop-event.step c.loop-event.invariant.in_order)
          (c.loop-event.invariant.once C H st);
      orders = λ C H st. next_orders C H events i event at old new (c.loop-event.invariant.orders C H st)
          (λ n home ticket. subst (λ k. IsToldOrder new n home ticket → IsToldOrder old n home ticket
          ⊎ ((n ≡ k) × IsEditOf home event × (opened_ticket (due C (history_at C H events i) event) ≡ Some ticket))) number
          (c.in_ok-_reply.ensures.orders C (history_at C H events i) n home ticket (c.loop-event.invariant.stands C H st)));
    }

pub returns-clause-became : goal.returns-clause-became
returns-clause-became c = λ C H number h m st.
    all_becoming C H c.args.events.now c.loop-event.items.items c.loop-event.event-index c.loop-event-test.false (c.loop-event.invariant.became C H st) number h m

pub returns-clause-entries : goal.returns-clause-entries
returns-clause-entries c = λ C H number h e st.
    all_entries C H c.args.events.now c.loop-event.items.items c.loop-event.event-index c.loop-event-test.false (c.loop-event.invariant.entries C H st) number h e

pub returns-clause-used : goal.returns-clause-used
returns-clause-used c = λ C H number h m st.
    all_uses C H c.args.events.now c.loop-event.items.items c.loop-event.event-index c.loop-event-test.false (c.loop-event.invariant.used C H st) number h m

pub returns-clause-orders : goal.returns-clause-orders
returns-clause-orders c = λ C H number home ticket st told. let b = c.loop-event.invariant.orders C H st home ticket number told in (b.0, b.1, b.3)
