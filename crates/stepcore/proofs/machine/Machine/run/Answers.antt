use Rattle.std.proofs.Common.{◌≡◌, Ok, Some, slice_get, ◌+◌, ◌≤◌, List, ◌∷◌, [], length, refl, ap, sym, subst, ◌∙◌, vec_len, arith, length-append}
use Rattle.std.proofs.Math.Seq.{take-length}
use Rattle.std.proofs.lemmas.List.{take-append-le}
use Rattle.std.proofs.lemmas.Option.{slice_get-get_or}
use Rattle.std.specs.Vec.{vec_capacity}
use Rattle.history.specs.Setup.{Setup}
use Rattle.history.specs.Turns.{History}
use Rattle.history.specs.declared.reply.Reply.{Reply}
use Rattle.stepcore.specs.Stands.{Stands}
use Rattle.history.specs.declared.event.Event.{Event}
use Rattle.stepcore.specs.State.{State}
use Rattle.stepcore.specs.Answers.{reply_to_access}
use Rattle.stepcore.specs.Changes.{reply_of}
use Rattle.stepcore.proofs.Standing.{answers_due, stands_after, Turn}
use Rattle.stepcore.specs.Runs.{after_run, appended, with_turns, AreDue}
use Rattle.stepcore.proofs.Running.{appended_none, no_turns, run_more, appended_more, due_more, all_due, promises}
use Rattle.stepcore.proofs.machine.Machine.run.Goals as goal
use Rattle.stepcore.proofs.machine.Machine.run.Goals.{in-Begin, in-Load, in_default}

-- a run that has done nothing
none_done : (C : Setup) (H : History) (events : List Event) (old : List Reply) (m : State) → Stands C m H → Stands C m (after_run events old old H)
none_done C H events old m st =
    subst (Stands C m) (sym (ap (λ (rs : List Reply). with_turns events rs H) (appended_none old) ∙ no_turns events H)) st

pub loop-event-init : goal.loop-event-init
loop-event-init c =
    let old = c.args.replies.now.items in
    let same = c.in_ok-reserve.ensures.items in
    record {
      room = omega (arith, c.in_ok-reserve.ensures.ok);
      more = rw same (omega arith);
      kept = rw same (take-length old);
      count = rw same (ap length (appended_none old));
      due = λ C H st. rw same (subst (AreDue C H c.args.events.now) (sym (appended_none old)) refl);
      stands = λ C H st. rw same (none_done C H c.args.events.now old c.args.self.now st);
    }

pub loop-event-preserved : goal.loop-event-preserved
loop-event-preserved c =
    let i = c.loop-event.invariant in
    let events = c.args.events.now in
    let event = c.event-item.result in
    let old = c.args.replies.now.items in
    let now = c.loop-event.replies.items in
    let turn : Turn c.loop-event.self event c.match-event.self now c.match-event.replies.items = elim c.match-event.branch [
      | in-Begin w ↦ rw (w.self-is, w.replies-is) (record {
        result = Ok (reply_to_access w.begin.result);
        pushed = w.append.ensures.items;
        answers = rw w.in-Begin.is w.begin.ensures;
      })
      | in-Load w ↦ rw (w.self-is, w.replies-is) (record {
        result = Ok (reply_to_access w.load.result);
        pushed = w.append-in-Load.ensures.items;
        answers = rw w.in-Load.is w.load.ensures;
      })
      | in_default w ↦ rw (w.self-is, w.replies-is) (record {
        result = w.do_event.result;
        pushed = w.append_answer.ensures.items;
        answers = w.do_event.ensures;
      })
    ] in
    let room : vec_len c.match-event.replies + length events ≤ vec_capacity c.match-event.replies + (c.loop-event.event-index + 1) = elim c.match-event.branch [
      | in-Begin w ↦ rw w.replies-is (omega (arith, i.room, w.append.ensures.len, w.append.ensures.capacity))
      | in-Load w ↦ rw w.replies-is (omega (arith, i.room, w.append-in-Load.ensures.len, w.append-in-Load.ensures.capacity))
      | in_default w ↦ rw w.replies-is (omega (arith, i.room, w.append_answer.ensures.len, w.append_answer.ensures.capacity))
    ] in
    let r : Reply = reply_of turn.result in
    let at : slice_get events (length (appended old now)) ≡ Some event =
    rw i.count (slice_get-get_or events c.loop-event.event-index event c.loop-event-test.true ∙ ap Some (sym c.event-item.is)) in
    record {
      room = room;
      more = rw turn.pushed (omega (arith, i.more, length-append now (r ∷ [])));
      kept = rw turn.pushed (take-append-le (length old) now (r ∷ []) i.more ∙ i.kept);
      count = rw (turn.pushed, appended_more old now r i.more) (omega (arith, i.count, length-append (appended old now) (r ∷ [])));
      due = λ C H st.
          rw (turn.pushed, appended_more old now r i.more)
          (due_more C H events (appended old now) event r at (turn.answers.reply ∙ answers_due C _ _ (i.stands C H st) c.recall.ensures event) (i.due C H st));
      stands = λ C H st.
          rw (turn.pushed, run_more events old now event r H i.more at)
          (stands_after C _ _ (i.stands C H st) c.recall.ensures event turn.result c.match-event.self turn.answers);
    }

stays : (c : goal.After-from_residual) (C : Setup) (H : History) → Stands C c.args.self.now H
    → Stands C c.args.self.now (after_run c.args.events.now c.args.replies.now.items c.reserve.new.self.items H)
stays c C H st = rw c.in_err-reserve.ensures.items (none_done C H c.args.events.now c.args.replies.now.items c.args.self.now st)

pub returns-in_err-reserve-clause-stands : goal.returns-in_err-reserve-clause-stands
returns-in_err-reserve-clause-stands c = stays c

pub returns-in_err-reserve-clause-promises : goal.returns-in_err-reserve-clause-promises
returns-in_err-reserve-clause-promises c C H st = promises C _ _ (stays c C H st)

pub returns-clause-promises : goal.returns-clause-promises
returns-clause-promises c C H st = promises C _ _ (c.loop-event.invariant.stands C H st)

pub returns-clause-all_due : goal.returns-clause-all_due
returns-clause-all_due c C H st =
    let i = c.loop-event.invariant in
    all_due C H c.args.events.now _ (omega (arith, i.count, c.loop-event.auto.event-index-end, c.loop-event-test.false)) (i.due C H st)
