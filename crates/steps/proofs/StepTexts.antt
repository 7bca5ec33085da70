-- The steps of `run` and of `live` that are written are those that are read, and a text writes one
-- at most.
use Rattle.std.proofs.Common.{◌≡◌, ℕ, ◌<◌, List, Some, Result, Ok, Err, refl, sym, ap, subst, ◌∙◌}
use Rattle.std.specs.Result.{result_ok}
use Rattle.std.proofs.lemmas.Option.{same_Some}
use Rattle.pte.specs.declared.scheme.Scheme.{Scheme}
use Rattle.pte.specs.declared.TheConstants.{MAX_HARTS}
use Rattle.history.specs.declared.event.Event.{Event}
use Rattle.history.specs.declared.live_step.LiveStep.{LiveStep}
use Rattle.steps.specs.declared.fault.StepFault.{StepFault}
use Rattle.steps.specs.declared.parts.Parts.{Parts}
use Rattle.steps.specs.declared.step.WalkStep.{WalkStep}
use Rattle.steps.specs.Grammar.{WritesStep}
use Rattle.steps.specs.LiveSteps.{live_step_in, live_words, setup_step_in, setup_words}
use Rattle.steps.specs.Reading.{read_step}
use Rattle.steps.specs.RunStep.{run_step_of, step_among}
use Rattle.steps.specs.StepFaults.{◌>>=◌}
use Rattle.steps.specs.StepGrammar.{Tells, WritesLiveStep, WritesRunStep, WritesSetupStep}
use Rattle.steps.specs.Table.{event_of, live_fields, live_of, nothing, run_fields}
use Rattle.steps.specs.Words.{words_of}
use Rattle.steps.proofs.FieldLemmas.{same_Ok}
use Rattle.steps.proofs.ReadingLemmas.{first-hart, hart-first, result_bind, step-tells, tells-step, walk-writes}
use Rattle.steps.proofs.WordLemmas.{has-words_of, words_of-has}

pub one_walk_step : (text : List ℕ) (a b : WalkStep) → WritesStep text a → WritesStep text b → a ≡ b
one_walk_step text a b p q = same_Some _ _ (sym (walk-writes text a p) ∙ walk-writes text b q)

-- ---- of `run`

pub run-writes : (scheme : Scheme) (harts : ℕ) (text : List ℕ) (event : Event) → WritesRunStep scheme harts text event → step_among scheme harts text ≡ Ok event
run-writes scheme harts text event w =
    hart-first scheme harts (read_step run_fields event_of scheme harts) text w.hart w.words w.own event w.text_has w.number (tells-step run_fields event_of scheme harts w.words w.own event w.tells)

pub writes-run : (scheme : Scheme) (harts : ℕ) (text : List ℕ) (event : Event) → step_among scheme harts text ≡ Ok event → WritesRunStep scheme harts text event
writes-run scheme harts text event h =
    let f = first-hart scheme harts (read_step run_fields event_of scheme harts) text event h in
    record { hart = f.hart; words = f.words; own = f.own; text_has = f.text_has; number = f.number; tells = step-tells run_fields event_of scheme harts f.words f.own event f.is }

pub one_run_step : (scheme : Scheme) (harts : ℕ) (text : List ℕ) (a b : Event) → WritesRunStep scheme harts text a → WritesRunStep scheme harts text b → a ≡ b
one_run_step scheme harts text a b p q = same_Ok (step_among scheme harts text) a b (run-writes scheme harts text a p) (run-writes scheme harts text b q)

ok_Some : {X : Type 0} (r : Result X StepFault) (x : X) → result_ok r ≡ Some x → r ≡ Ok x
ok_Some (Ok y) x h = ap Ok (same_Some _ _ h)
ok_Some (Err e) x h = cc

pub of_all-writes : (scheme : Scheme) (text : List ℕ) (event : Event) → WritesRunStep scheme MAX_HARTS text event → run_step_of scheme text ≡ Some event
of_all-writes scheme text event h = ap result_ok (run-writes scheme MAX_HARTS text event h)

pub writes-of_all : (scheme : Scheme) (text : List ℕ) (event : Event) → run_step_of scheme text ≡ Some event → WritesRunStep scheme MAX_HARTS text event
writes-of_all scheme text event h = writes-run scheme MAX_HARTS text event (ok_Some (step_among scheme MAX_HARTS text) event h)

-- ---- of `live`

pub live-writes : (scheme : Scheme) (harts : ℕ) (text : List ℕ) (step : LiveStep) → WritesLiveStep scheme harts text step → live_step_in scheme harts text ≡ Ok step
live-writes scheme harts text step w =
    ap (λ words. read_step live_fields live_of scheme harts words nothing) (words_of-has w.words text w.text_has) ∙ tells-step live_fields live_of scheme harts w.words nothing step w.tells

pub writes-live : (scheme : Scheme) (harts : ℕ) (text : List ℕ) (step : LiveStep) → live_step_in scheme harts text ≡ Ok step → WritesLiveStep scheme harts text step
writes-live scheme harts text step h =
    record { words = words_of text; text_has = has-words_of text; tells = step-tells live_fields live_of scheme harts (words_of text) nothing step h }

pub one_live_step : (scheme : Scheme) (harts : ℕ) (text : List ℕ) (a b : LiveStep) → WritesLiveStep scheme harts text a → WritesLiveStep scheme harts text b → a ≡ b
one_live_step scheme harts text a b p q = same_Ok (live_step_in scheme harts text) a b (live-writes scheme harts text a p) (live-writes scheme harts text b q)

pub setup-writes : (scheme : Scheme) (harts : ℕ) (text : List ℕ) (hart : ℕ) (step : LiveStep) → WritesSetupStep scheme harts text hart step → setup_step_in scheme harts text ≡ Ok (hart, step)
setup-writes scheme harts text hart step w =
    hart-first scheme harts (setup_words scheme harts) text w.word w.words w.own (hart, step) w.text_has w.number
    (ap (λ (r : Result LiveStep StepFault). r >>= λ s. Ok (w.own.hart, s)) (tells-step live_fields live_of scheme harts w.words w.own step w.tells) ∙ ap (λ h. Ok (h, step)) w.hart_is)

pub writes-setup : (scheme : Scheme) (harts : ℕ) (text : List ℕ) (hart : ℕ) (step : LiveStep) → setup_step_in scheme harts text ≡ Ok (hart, step) → WritesSetupStep scheme harts text hart step
writes-setup scheme harts text hart step h =
    let f = first-hart scheme harts (setup_words scheme harts) text (hart, step) h in
    let s = result_bind (live_words scheme harts f.words f.own) (λ s. Ok (f.own.hart, s)) (hart, step) f.is in
    let both = same_Ok {X = ℕ × LiveStep} _ (f.own.hart, s.0) (hart, step) refl s.2 in
    record {
      word = f.hart;
      words = f.words;
      own = f.own;
      text_has = f.text_has;
      number = f.number;
      hart_is = ap (λ (p : ℕ × LiveStep). p.0) both;
      tells = subst (Tells live_fields live_of scheme harts f.words f.own) (ap (λ (p : ℕ × LiveStep). p.1) both) (step-tells live_fields live_of scheme harts f.words f.own s.0 s.1);
    }

-- the hart of a line of the setup exists
pub setup_hart_there : (scheme : Scheme) (harts : ℕ) (text : List ℕ) (hart : ℕ) (step : LiveStep) → setup_step_in scheme harts text ≡ Ok (hart, step) → hart < harts
setup_hart_there scheme harts text hart step h =
    let w = writes-setup scheme harts text hart step h in
    subst (λ n. n < harts) (sym (ap (λ (p : Parts). p.hart) w.number.2) ∙ w.hart_is) w.number.1.1

pub one_setup_step : (scheme : Scheme) (harts : ℕ) (text : List ℕ) (g h : ℕ) (a b : LiveStep) → WritesSetupStep scheme harts text g a → WritesSetupStep scheme harts text h b → (g ≡ h) × (a ≡ b)
one_setup_step scheme harts text g h a b p q =
    let both = same_Ok (setup_step_in scheme harts text) (g, a) (h, b) (setup-writes scheme harts text g a p) (setup-writes scheme harts text h b q) in
    (ap (λ (p : ℕ × LiveStep). p.0) both, ap (λ (p : ℕ × LiveStep). p.1) both)
