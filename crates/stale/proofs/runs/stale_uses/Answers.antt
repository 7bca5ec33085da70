use Rattle.std.proofs.Common.{◌≡◌, ℕ, ◌+◌, List, [], ◌∷◌, ◌++◌, Some, slice_get, ap, sym, ◌∙◌, subst}
use Rattle.std.proofs.lemmas.Option.{slice_get-get_or}
use Rattle.std.specs.Prelude.{◌↔◌}
use Rattle.history.specs.Turns.{History}
use Rattle.stepcore.specs.Stands.{Stands}
use Rattle.stale.specs.declared.runs.UseAt.{UseAt}
use Rattle.stale.specs.Stale.{UsesStale}
use Rattle.stale.specs.Uses.{Tells}
use Rattle.stale.specs.UseRuns.{due_turn, history_at}
use Rattle.stale.proofs.Telling.{AreTold, history_more, told_all, told_more, told_past}
use Rattle.stale.proofs.runs.stale_uses.Goals.{in-Some+in_ok-push, in_default}
use Rattle.stale.proofs.runs.stale_uses.Goals as goal

pub loop-event-preserved : goal.loop-event-preserved
loop-event-preserved c =
    let i = c.loop-event.event-index in
    let events = c.args.events.now in
    let event = c.event-item.result in
    let at : slice_get events i ≡ Some event = slice_get-get_or events i event c.loop-event-test.true ∙ ap Some (sym c.event-item.is) in
    record {
      count = ap (λ (n : ℕ). n + 1) c.loop-event.invariant.count;
      stands = λ C H st.
          subst (λ (G : History). Stands C c.step_use.new.machine G) (sym (history_more C H events i event at))
          (c.step_use.ensures.stands C (history_at C H events i) (c.loop-event.invariant.stands C H st));
      told = λ C H st. elim c.match-step_use.branch [
        | in-Some+in_ok-push w ↦
            let used = w.in-Some.used in
            let items : c.match-step_use.uses.items ≡ c.loop-event.uses.items ++ record { step = i; used = used } ∷ [] =
            ap (λ v. v.items) w.uses-is ∙ (w.in_ok-push.ensures.items ∙ ap (λ (k : ℕ). c.loop-event.uses.items ++ record { step = k; used = used } ∷ []) c.loop-event.invariant.count) in
            subst (AreTold C H events (i + 1)) (sym items)
            (told_more C H events i c.loop-event.uses.items (c.loop-event.invariant.told C H st) event at used
            (λ h m. subst (λ o. UsesStale C (due_turn C (history_at C H events i) event) (history_at C H events i) h m ↔ Tells o h m) w.in-Some.is
            (c.step_use.ensures.used C (history_at C H events i) h m (c.loop-event.invariant.stands C H st))))
        | in_default w ↦
            subst (λ (xs : List UseAt). AreTold C H events (i + 1) xs) (sym (ap (λ v. v.items) w.uses-is))
            (told_past C H events i c.loop-event.uses.items (c.loop-event.invariant.told C H st) event at
            (λ h m. subst (λ o. UsesStale C (due_turn C (history_at C H events i) event) (history_at C H events i) h m ↔ Tells o h m) w.in_default.is
            (c.step_use.ensures.used C (history_at C H events i) h m (c.loop-event.invariant.stands C H st))))
      ];
    }

pub returns : goal.returns
returns c = λ C H n h m st. told_all C H c.args.events.now c.loop-event.uses.items c.loop-event.event-index c.loop-event-test.false (c.loop-event.invariant.told C H st) n h m
