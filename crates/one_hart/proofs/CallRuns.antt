-- Each call is a run of events.
use Rattle.std.proofs.Common.{◌≡◌, ℕ, zero, suc, cond, Bool, List, [], ◌∷◌, refl, ap, ◌∙◌}
use Rattle.pte.specs.Address.{level_count, widest}
use Rattle.history.specs.Setup.{Setup}
use Rattle.history.specs.Turns.{is_more}
use Rattle.history.specs.Runs.{due_replies}
use Rattle.history.specs.declared.event.Event.{Event}
use Rattle.history.specs.declared.event.Event.TheVariants as event
use Rattle.laws.proofs.Tools.{by_test}
use Rattle.stepcore.specs.Runs.{with_turns}
use Rattle.one_hart.specs.declared.call.Call.TheVariants as call
use Rattle.one_hart.specs.Asked.{Turned, loaded, turned}
use Rattle.one_hart.specs.Runs.{EachCallIsARun, last_or}
use Rattle.one_hart.proofs.Walked.{loaded-next, loaded-none}

-- the loads of a walk are a run
record LoadsRun (C : Setup) (n : ℕ) (last : Turned) : Type 0 where
  events : List Event
  history_is : (loaded n C last).history ≡ with_turns events (due_replies C last.history events) last.history
  reply_is : (loaded n C last).reply ≡ last_or last.reply (due_replies C last.history events)

loads-run : (C : Setup) (n : ℕ) (last : Turned) → LoadsRun C n last
loads-run C zero last =
    let none : loaded zero C last ≡ last = loaded-none C zero last refl in
    record { events = []; history_is = ap (λ (t : Turned). t.history) none; reply_is = ap (λ (t : Turned). t.reply) none }
loads-run C (suc n) last =
    let load = turned C (event.Load 0) last.history in
    by_test (λ _. LoadsRun C (suc n) last) (is_more last.reply)
    (λ more.
    let same : loaded (suc n) C last ≡ loaded n C load = loaded-next C (suc n) n last refl ∙ ap (λ (v : Bool). loaded n C (cond v load last)) more in
    let rest = loads-run C n load in
    record {
      events = event.Load 0 ∷ rest.events;
      history_is = ap (λ (t : Turned). t.history) same ∙ rest.history_is;
      reply_is = ap (λ (t : Turned). t.reply) same ∙ rest.reply_is;
    })
    (λ stops.
    let same : loaded (suc n) C last ≡ loaded n C last = loaded-next C (suc n) n last refl ∙ ap (λ (v : Bool). loaded n C (cond v load last)) stops in
    let rest = loads-run C n last in
    record {
      events = rest.events;
      history_is = ap (λ (t : Turned). t.history) same ∙ rest.history_is;
      reply_is = ap (λ (t : Turned). t.reply) same ∙ rest.reply_is;
    })

pub each_call_is_a_run : EachCallIsARun
each_call_is_a_run C H (call.Translate va access ctx) =
    let rest = loads-run C (level_count widest) (turned C (event.Begin 0 va access ctx) H) in
    record { events = event.Begin 0 va access ctx ∷ rest.events; history_is = rest.history_is; reply_is = λ other looks. rest.reply_is }
each_call_is_a_run C H (call.Map place page ppn flags) = record { events = event.Map 0 place page ppn flags ∷ []; history_is = refl; reply_is = λ other looks. refl }
each_call_is_a_run C H (call.Unmap place page named) = record { events = event.Unmap 0 place page named ∷ []; history_is = refl; reply_is = λ other looks. refl }
each_call_is_a_run C H (call.Protect place page flags named) = record { events = event.Protect 0 place page flags named ∷ []; history_is = refl; reply_is = λ other looks. refl }
each_call_is_a_run C H (call.Flush scope named) = record { events = event.Flush 0 scope named ∷ []; history_is = refl; reply_is = λ other looks. refl }
each_call_is_a_run C H (call.Switch space) = record { events = event.Switch 0 space ∷ []; history_is = refl; reply_is = λ other looks. refl }
each_call_is_a_run C H (call.Fence rs1 rs2) = record { events = event.Fence 0 rs1 rs2 ∷ []; history_is = refl; reply_is = λ other looks. refl }
each_call_is_a_run C H (call.Post ticket to) = record { events = event.Post 0 ticket to ∷ []; history_is = refl; reply_is = λ other looks. refl }
each_call_is_a_run C H (call.Serve from) = record { events = event.Take 0 from ∷ []; history_is = refl; reply_is = λ other looks. refl }
each_call_is_a_run C H (call.AckSelf ticket) = record { events = event.AckSelf 0 ticket ∷ []; history_is = refl; reply_is = λ other looks. refl }
each_call_is_a_run C H (call.Collect ticket) = record { events = []; history_is = refl; reply_is = λ other looks. absurd cc }
each_call_is_a_run C H (call.Finish ticket) = record { events = event.Finish 0 ticket ∷ []; history_is = refl; reply_is = λ other looks. refl }
each_call_is_a_run C H (call.CloseTo to) = record { events = event.Close 0 to ∷ []; history_is = refl; reply_is = λ other looks. refl }
