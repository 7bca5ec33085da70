-- The steps of the texts of a file: a loop that reads them, and what is read in other words.
use Rattle.pte.specs.declared.scheme.Scheme.{Scheme}
use Rattle.std.proofs.Common.{◌≡◌, ℕ, ◌+◌, ◌<◌, List, [], ◌∷◌, ◌++◌, length, get_or, drop, map, Some, None, refl, sym, ap, ◌∙◌, append_assoc, append-nil, Bor, Result, Ok, Err, arith}
use Rattle.std.specs.Result.{result_ok}
use Rattle.std.proofs.lemmas.List.{drop_more}
use Rattle.std.proofs.lemmas.Option.{same_Some}
use Rattle.std.proofs.Math.Seq.{drop-length}
use Rattle.history.specs.declared.event.Event.{Event}
use Rattle.history.specs.declared.live_step.LiveStep.{LiveStep}
use Rattle.steps.specs.declared.fault.StepFault.{StepFault}
use Rattle.steps.specs.declared.fault.StepFault.TheVariants.{NotStep}
use Rattle.steps.specs.declared.step.WalkStep.{WalkStep}
use Rattle.steps.specs.LiveSteps.{live_step_in, setup_step_in}
use Rattle.steps.proofs.StepTexts.{setup_hart_there}
use Rattle.steps.specs.RunStep.{step_among}
use Rattle.steps.specs.Step.{walk_step_of}
use Rattle.files.specs.Faults.{Failure, wrong_script, wrong_step, ◌>>=◌}
use Rattle.files.specs.StepTexts.{AreRead, events_in, in_script, IsFirstWrong, script_in, setup_steps_in, steps_from, walk_step_in, walk_steps_in}

-- ---- a loop over texts

abbrev pub texts_from : List (Bor (List ℕ)) → ℕ → List (List ℕ)
texts_from ts i = map (λ text. text.now) (drop i ts)

-- what is read so far, and then the rest, is what is read of all
abbrev pub SoFar : {X : Type 0} → (List ℕ → Result X StepFault) → List (Bor (List ℕ)) → ℕ → List X → Type 0
SoFar read ts i front = steps_from read 1 (map (λ text. text.now) ts) ≡ (steps_from read (i + 1) (texts_from ts i) >>= λ rest. Ok (front ++ rest))

bind-nil : {X : Type 0} (r : Result (List X) Failure) → r ≡ (r >>= λ rest. Ok ([] ++ rest))
bind-nil (Ok steps) = refl
bind-nil (Err e) = refl

one_more : {X : Type 0} (front : List X) (step : X) (r : Result (List X) Failure)
    → ((r >>= λ steps. Ok (step ∷ steps)) >>= λ rest. Ok (front ++ rest)) ≡ (r >>= λ rest. Ok ((front ++ step ∷ []) ++ rest))
one_more front step (Ok steps) = ap Ok (sym (append_assoc front (step ∷ []) steps))
one_more front step (Err e) = refl

some_more : {X : Type 0} (read : List ℕ → Result X StepFault) (ts : List (Bor (List ℕ))) (i : ℕ) (front : List X) (d : Bor (List ℕ)) (step : X) → i < length ts
    → read (get_or ts i d).now ≡ Ok step → SoFar read ts i front → SoFar read ts (i + 1) (front ++ step ∷ [])
some_more read ts i front d step lt is so_far =
    so_far ∙ rw (drop_more ts i d lt, is) (one_more front step (steps_from read (i + 1 + 1) (texts_from ts (i + 1))))

some_wrong : {X : Type 0} (read : List ℕ → Result X StepFault) (ts : List (Bor (List ℕ))) (i : ℕ) (front : List X) (d : Bor (List ℕ)) (fault : StepFault) → i < length ts
    → read (get_or ts i d).now ≡ Err fault → SoFar read ts i front → steps_from read 1 (map (λ text. text.now) ts) ≡ Err (wrong_step (i + 1) fault)
some_wrong read ts i front d fault lt is so_far = so_far ∙ rw (drop_more ts i d lt, is)

all_read : {X : Type 0} (read : List ℕ → Result X StepFault) (ts : List (Bor (List ℕ))) (front : List X) → SoFar read ts (length ts) front
    → steps_from read 1 (map (λ text. text.now) ts) ≡ Ok front
all_read read ts front so_far = so_far ∙ rw (drop-length ts) (ap Ok (append-nil front))

-- ---- the loop of `walk`

abbrev pub StepsSoFar : List (Bor (List ℕ)) → ℕ → List WalkStep → Type 0
StepsSoFar ts i front = SoFar walk_step_in ts i front

pub steps_start : (ts : List (Bor (List ℕ))) → StepsSoFar ts 0 []
steps_start ts = bind-nil (walk_steps_in (map (λ text. text.now) ts))

pub steps_more : (ts : List (Bor (List ℕ))) (i : ℕ) (front : List WalkStep) (d : Bor (List ℕ)) (step : WalkStep) → i < length ts → walk_step_of (get_or ts i d).now ≡ Some step
    → StepsSoFar ts i front → StepsSoFar ts (i + 1) (front ++ step ∷ [])
steps_more ts i front d step lt is so_far = some_more walk_step_in ts i front d step lt (rw is refl) so_far

pub steps_refused : (ts : List (Bor (List ℕ))) (i : ℕ) (front : List WalkStep) (d : Bor (List ℕ)) → i < length ts → walk_step_of (get_or ts i d).now ≡ None
    → StepsSoFar ts i front → walk_steps_in (map (λ text. text.now) ts) ≡ Err (wrong_step (i + 1) NotStep)
steps_refused ts i front d lt is so_far = some_wrong walk_step_in ts i front d NotStep lt (rw is refl) so_far

pub steps_end : (ts : List (Bor (List ℕ))) (front : List WalkStep) → StepsSoFar ts (length ts) front → walk_steps_in (map (λ text. text.now) ts) ≡ Ok front
steps_end ts front so_far = all_read walk_step_in ts front so_far

-- ---- the loop of `run`

abbrev pub EventsSoFar : Scheme → ℕ → List (Bor (List ℕ)) → ℕ → List Event → Type 0
EventsSoFar scheme harts ts i front = SoFar (step_among scheme harts) ts i front

pub events_start : (scheme : Scheme) (harts : ℕ) (ts : List (Bor (List ℕ))) → EventsSoFar scheme harts ts 0 []
events_start scheme harts ts = bind-nil (events_in scheme harts (map (λ text. text.now) ts))

pub events_more : (scheme : Scheme) (harts : ℕ) (ts : List (Bor (List ℕ))) (i : ℕ) (front : List Event) (d : Bor (List ℕ)) (event : Event) → i < length ts → step_among scheme harts (get_or ts i d).now ≡ Ok event
    → EventsSoFar scheme harts ts i front → EventsSoFar scheme harts ts (i + 1) (front ++ event ∷ [])
events_more scheme harts ts i front d event lt is so_far = some_more (step_among scheme harts) ts i front d event lt is so_far

pub events_refused : (scheme : Scheme) (harts : ℕ) (ts : List (Bor (List ℕ))) (i : ℕ) (front : List Event) (d : Bor (List ℕ)) (fault : StepFault) → i < length ts → step_among scheme harts (get_or ts i d).now ≡ Err fault
    → EventsSoFar scheme harts ts i front → events_in scheme harts (map (λ text. text.now) ts) ≡ Err (wrong_step (i + 1) fault)
events_refused scheme harts ts i front d fault lt is so_far = some_wrong (step_among scheme harts) ts i front d fault lt is so_far

pub events_end : (scheme : Scheme) (harts : ℕ) (ts : List (Bor (List ℕ))) (front : List Event) → EventsSoFar scheme harts ts (length ts) front → events_in scheme harts (map (λ text. text.now) ts) ≡ Ok front
events_end scheme harts ts front so_far = all_read (step_among scheme harts) ts front so_far

-- ---- the loop over the setup of `live`

abbrev pub SetupSoFar : Scheme → ℕ → List (Bor (List ℕ)) → ℕ → List (ℕ × LiveStep) → Type 0
SetupSoFar scheme harts ts i front = SoFar (setup_step_in scheme harts) ts i front

pub setup_start : (scheme : Scheme) (harts : ℕ) (ts : List (Bor (List ℕ))) → SetupSoFar scheme harts ts 0 []
setup_start scheme harts ts = bind-nil (setup_steps_in scheme harts (map (λ text. text.now) ts))

pub setup_more : (scheme : Scheme) (harts : ℕ) (ts : List (Bor (List ℕ))) (i : ℕ) (front : List (ℕ × LiveStep)) (d : Bor (List ℕ)) (step : ℕ × LiveStep) → i < length ts → setup_step_in scheme harts (get_or ts i d).now ≡ Ok step
    → SetupSoFar scheme harts ts i front → SetupSoFar scheme harts ts (i + 1) (front ++ step ∷ [])
setup_more scheme harts ts i front d step lt is so_far = some_more (setup_step_in scheme harts) ts i front d step lt is so_far

pub setup_refused : (scheme : Scheme) (harts : ℕ) (ts : List (Bor (List ℕ))) (i : ℕ) (front : List (ℕ × LiveStep)) (d : Bor (List ℕ)) (fault : StepFault) → i < length ts → setup_step_in scheme harts (get_or ts i d).now ≡ Err fault
    → SetupSoFar scheme harts ts i front → setup_steps_in scheme harts (map (λ text. text.now) ts) ≡ Err (wrong_step (i + 1) fault)
setup_refused scheme harts ts i front d fault lt is so_far = some_wrong (setup_step_in scheme harts) ts i front d fault lt is so_far

pub setup_end : (scheme : Scheme) (harts : ℕ) (ts : List (Bor (List ℕ))) (front : List (ℕ × LiveStep)) → SetupSoFar scheme harts ts (length ts) front → setup_steps_in scheme harts (map (λ text. text.now) ts) ≡ Ok front
setup_end scheme harts ts front so_far = all_read (setup_step_in scheme harts) ts front so_far

-- the hart of a step that was read exists
pub hart_there : (scheme : Scheme) (harts : ℕ) (text : List ℕ) (step : ℕ × LiveStep) → setup_step_in scheme harts text ≡ Ok step → step.0 < harts
hart_there scheme harts text (hart, step) h = setup_hart_there scheme harts text hart step h

-- ---- the loop over a script

abbrev pub ScriptSoFar : Scheme → ℕ → List (Bor (List ℕ)) → ℕ → List LiveStep → Type 0
ScriptSoFar scheme harts ts i front = SoFar (live_step_in scheme harts) ts i front

pub script_start : (scheme : Scheme) (harts : ℕ) (ts : List (Bor (List ℕ))) → ScriptSoFar scheme harts ts 0 []
script_start scheme harts ts = bind-nil (steps_from (live_step_in scheme harts) 1 (map (λ text. text.now) ts))

pub script_more : (scheme : Scheme) (harts : ℕ) (ts : List (Bor (List ℕ))) (i : ℕ) (front : List LiveStep) (d : Bor (List ℕ)) (step : LiveStep) → i < length ts → live_step_in scheme harts (get_or ts i d).now ≡ Ok step
    → ScriptSoFar scheme harts ts i front → ScriptSoFar scheme harts ts (i + 1) (front ++ step ∷ [])
script_more scheme harts ts i front d step lt is so_far = some_more (live_step_in scheme harts) ts i front d step lt is so_far

pub script_refused : (scheme : Scheme) (harts hart : ℕ) (ts : List (Bor (List ℕ))) (i : ℕ) (front : List LiveStep) (d : Bor (List ℕ)) (fault : StepFault) → i < length ts → live_step_in scheme harts (get_or ts i d).now ≡ Err fault
    → ScriptSoFar scheme harts ts i front → script_in scheme harts hart (map (λ text. text.now) ts) ≡ Err (wrong_script hart (i + 1) fault)
script_refused scheme harts hart ts i front d fault lt is so_far = ap (in_script hart) (some_wrong (live_step_in scheme harts) ts i front d fault lt is so_far)

pub script_end : (scheme : Scheme) (harts hart : ℕ) (ts : List (Bor (List ℕ))) (front : List LiveStep) → ScriptSoFar scheme harts ts (length ts) front → script_in scheme harts hart (map (λ text. text.now) ts) ≡ Ok front
script_end scheme harts hart ts front so_far = ap (in_script hart) (all_read (live_step_in scheme harts) ts front so_far)

-- ---- each text is read as the step in its place

same_ok : {X : Type 0} (a b : X) (r : Result X Failure) → r ≡ Ok a → r ≡ Ok b → a ≡ b
same_ok a b r p q = same_Some _ _ (ap result_ok (sym p ∙ q))

read_by : {X : Type 0} (read : List ℕ → Result X StepFault) (n : ℕ) (text : List ℕ) (texts : List (List ℕ)) (steps : List X) (r : Result X StepFault) (rest : Result (List X) Failure)
    → read text ≡ r → steps_from read (n + 1) texts ≡ rest → ((found : List X) → rest ≡ Ok found → AreRead read texts found)
    → steps_from read n (text ∷ texts) ≡ Ok steps → AreRead read (text ∷ texts) steps
read_by read n text texts steps (Err fault) rest e f more h = let bad : Err (wrong_step n fault) ≡ Ok steps = rw e at h in cc
read_by read n text texts steps (Ok step) (Err failure) e f more h = let bad : Err failure ≡ Ok steps = rw (e, f) at h in cc
read_by read n text texts steps (Ok step) (Ok found) e f more h =
    let is : steps_from read n (text ∷ texts) ≡ Ok (step ∷ found) = rw (e, f) refl in
    rw (← same_ok _ _ _ is h, e) (ap (λ rs. Ok step ∷ rs) (more found refl))

pub are_read : {X : Type 0} (read : List ℕ → Result X StepFault) (n : ℕ) (texts : List (List ℕ)) (steps : List X) → steps_from read n texts ≡ Ok steps → AreRead read texts steps
are_read read n [] steps h = ap (map Ok) (same_ok [] steps (Ok []) refl h)
are_read read n (text ∷ texts) steps h =
    read_by read n text texts steps (read text) (steps_from read (n + 1) texts) refl refl (are_read read (n + 1) texts) h

pub read_so : {X : Type 0} (read : List ℕ → Result X StepFault) (n : ℕ) (texts : List (List ℕ)) (steps : List X) → AreRead read texts steps → steps_from read n texts ≡ Ok steps
read_so read n [] [] h = refl
read_so read n [] (step ∷ steps) h = cc
read_so read n (text ∷ texts) [] h = cc
read_so read n (text ∷ texts) (step ∷ steps) h =
    let first : read text ≡ Ok step = cc in
    let rest : AreRead read texts steps = cc in
    rw (first, read_so read (n + 1) texts steps rest) refl

-- ---- the first text that is wrong

-- the same as IsFirstWrong, where the first text has another number
record WrongFrom {X : Type 0} (read : List ℕ → Result X StepFault) (from : ℕ) (texts : List (List ℕ)) (n : ℕ) (fault : StepFault) : Type 0 where
  before : List (List ℕ)
  text : List ℕ
  behind : List (List ℕ)
  is : texts ≡ before ++ text ∷ behind
  number : n ≡ length before + from
  steps : List X
  read_before : AreRead read before steps
  wrong : read text ≡ Err fault

later_wrong : {X : Type 0} (read : List ℕ → Result X StepFault) (from : ℕ) (text : List ℕ) (texts : List (List ℕ)) (step : X) (n : ℕ) (fault : StepFault) → read text ≡ Ok step
    → WrongFrom read (from + 1) texts n fault → WrongFrom read from (text ∷ texts) n fault
later_wrong read from text texts step n fault e h = record {
  before = text ∷ h.before;
  text = h.text;
  behind = h.behind;
  is = ap (λ rest. text ∷ rest) h.is;
  number = omega (arith, h.number);
  steps = step ∷ h.steps;
  read_before = rw e (ap (λ rs. Ok step ∷ rs) h.read_before);
  wrong = h.wrong;
}

wrong_by : {X : Type 0} (read : List ℕ → Result X StepFault) (from : ℕ) (text : List ℕ) (texts : List (List ℕ)) (n : ℕ) (fault : StepFault) (r : Result X StepFault) (rest : Result (List X) Failure)
    → read text ≡ r → steps_from read (from + 1) texts ≡ rest → (rest ≡ Err (wrong_step n fault) → WrongFrom read (from + 1) texts n fault)
    → steps_from read from (text ∷ texts) ≡ Err (wrong_step n fault) → WrongFrom read from (text ∷ texts) n fault
wrong_by read from text texts n fault (Err other) rest e f more h =
    let is : Err (wrong_step from other) ≡ Err (wrong_step n fault) = rw e at h in
    let here : from ≡ n = cc in
    let same : other ≡ fault = cc in
    record { before = []; text = text; behind = texts; is = refl; number = omega (arith, here); steps = []; read_before = refl; wrong = e ∙ ap Err same }
wrong_by read from text texts n fault (Ok step) (Err failure) e f more h =
    let is : Err failure ≡ Err (wrong_step n fault) = rw (e, f) at h in
    later_wrong read from text texts step n fault e (more is)
wrong_by read from text texts n fault (Ok step) (Ok steps) e f more h = let bad : Ok (step ∷ steps) ≡ Err (wrong_step n fault) = rw (e, f) at h in cc

wrong_from : {X : Type 0} (read : List ℕ → Result X StepFault) (from : ℕ) (texts : List (List ℕ)) (n : ℕ) (fault : StepFault) → steps_from read from texts ≡ Err (wrong_step n fault)
    → WrongFrom read from texts n fault
wrong_from read from [] n fault h = cc
wrong_from read from (text ∷ texts) n fault h =
    wrong_by read from text texts n fault (read text) (steps_from read (from + 1) texts) refl refl (wrong_from read (from + 1) texts n fault) h

pub first_wrong : {X : Type 0} (read : List ℕ → Result X StepFault) (texts : List (List ℕ)) (n : ℕ) (fault : StepFault) → steps_from read 1 texts ≡ Err (wrong_step n fault)
    → IsFirstWrong read texts n fault
first_wrong read texts n fault h =
    let w = wrong_from read 1 texts n fault h in
    record { before = w.before; text = w.text; behind = w.behind; is = w.is; number = w.number; steps = w.steps; read_before = w.read_before; wrong = w.wrong }

wrong_behind : {X : Type 0} (read : List ℕ → Result X StepFault) (from : ℕ) (before : List (List ℕ)) (text : List ℕ) (behind : List (List ℕ)) (steps : List X) (fault : StepFault)
    → AreRead read before steps → read text ≡ Err fault → steps_from read from (before ++ text ∷ behind) ≡ Err (wrong_step (length before + from) fault)
wrong_behind read from [] text behind steps fault h e =
    let none : from ≡ 0 + from = omega arith in
    rw e (ap (λ n. Err (wrong_step n fault)) none)
wrong_behind read from (t ∷ before) text behind [] fault h e = cc
wrong_behind read from (t ∷ before) text behind (step ∷ steps) fault h e =
    let first : read t ≡ Ok step = cc in
    let rest : AreRead read before steps = cc in
    let number : length before + (from + 1) ≡ length (t ∷ before) + from = omega arith in
    rw (first, wrong_behind read (from + 1) before text behind steps fault rest e, number) refl

pub told_wrong : {X : Type 0} (read : List ℕ → Result X StepFault) (texts : List (List ℕ)) (n : ℕ) (fault : StepFault) → IsFirstWrong read texts n fault
    → steps_from read 1 texts ≡ Err (wrong_step n fault)
told_wrong read texts n fault w =
    rw (w.is, w.number) (wrong_behind read 1 w.before w.text w.behind w.steps fault w.read_before w.wrong)

pub script_ok : {X : Type 0} (hart : ℕ) (r : Result X Failure) (steps : X) → in_script hart r ≡ Ok steps → r ≡ Ok steps
script_ok hart (Ok x) steps h = h
script_ok hart (Err failure) steps h = cc
