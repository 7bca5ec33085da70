-- The steps that the texts of a file write, or the first that is wrong.
use Rattle.std.specs.Prelude.{◌≡◌, ℕ, ◌+◌, List, [], ◌∷◌, ◌++◌, length, map, nat_le, Result, Ok, Err, if◌then◌else◌}
use Rattle.std.specs.Option.{ok_or}
use Rattle.pte.specs.declared.scheme.Scheme.{Scheme}
use Rattle.history.specs.declared.event.Event.{Event}
use Rattle.history.specs.declared.live_step.LiveStep.{LiveStep}
use Rattle.steps.specs.declared.fault.StepFault.{StepFault}
use Rattle.steps.specs.declared.fault.StepFault.TheVariants.{NotStep}
use Rattle.steps.specs.declared.step.WalkStep.{WalkStep}
use Rattle.steps.specs.LiveSteps.{live_step_in, setup_step_in}
use Rattle.steps.specs.RunStep.{step_among}
use Rattle.steps.specs.Step.{walk_step_of}
use Rattle.files.specs.declared.limits.TheConstants.{MOST_STEPS}
use Rattle.files.specs.Faults.{Failure, too_many, wrong_script, wrong_step, ◌>>=◌}

-- what is wrong with the step of this number, if something is
abbrev pub numbered : {X : Type 0} → ℕ → Result X StepFault → Result X Failure
numbered n (Ok x) = Ok x
numbered n (Err fault) = Err (wrong_step n fault)

-- the step of each text, the first of which has this number, or the first fault
abbrev pub steps_from : {X : Type 0} → (List ℕ → Result X StepFault) → ℕ → List (List ℕ)
    → Result (List X) Failure
steps_from read n [] = Ok []
steps_from read n (text ∷ texts) =
    numbered n (read text) >>= λ step. steps_from read (n + 1) texts >>= λ steps. Ok (step ∷ steps)

abbrev pub walk_step_in : List ℕ → Result WalkStep StepFault
walk_step_in text = ok_or (walk_step_of text) NotStep

-- no more steps than a file may have
abbrev pub few_of : ℕ → Result (Unit {0}) Failure
few_of n = if nat_le n MOST_STEPS then Ok tt else Err too_many

abbrev pub few : {X : Type 0} → List X → Result (Unit {0}) Failure
few xs = few_of (length xs)

-- the steps of a file for `walk`
abbrev pub walk_steps_in : List (List ℕ) → Result (List WalkStep) Failure
walk_steps_in texts = steps_from walk_step_in 1 texts

-- the steps of a file for `run`, in a scheme and for a number of harts
abbrev pub events_in : Scheme → ℕ → List (List ℕ) → Result (List Event) Failure
events_in scheme harts texts = steps_from (step_among scheme harts) 1 texts

-- the setup of a file for `live`: its steps, each with its hart
abbrev pub setup_steps_in : Scheme → ℕ → List (List ℕ) → Result (List (ℕ × LiveStep)) Failure
setup_steps_in scheme harts texts = steps_from (setup_step_in scheme harts) 1 texts

-- a wrong step is one of this hart's script
abbrev pub of_script : ℕ → Failure → Failure
of_script hart (wrong_step n fault) = wrong_script hart n fault
of_script hart failure = failure

abbrev pub in_script : {X : Type 0} → ℕ → Result X Failure → Result X Failure
in_script hart (Ok x) = Ok x
in_script hart (Err failure) = Err (of_script hart failure)

-- the script of a hart
abbrev pub script_in : Scheme → ℕ → ℕ → List (List ℕ) → Result (List LiveStep) Failure
script_in scheme harts hart texts = in_script hart (steps_from (live_step_in scheme harts) 1 texts)

-- the scripts of the harts, the first of which has this number, or the first fault
abbrev pub scripts_in : Scheme → ℕ → ℕ → List (List (List ℕ))
    → Result (List (List LiveStep)) Failure
scripts_in scheme harts hart [] = Ok []
scripts_in scheme harts hart (texts ∷ scripts) =
    script_in scheme harts hart texts
    >>= λ steps. scripts_in scheme harts (hart + 1) scripts >>= λ rest. Ok (steps ∷ rest)

-- each of the texts is read as the step in its place
abbrev pub AreRead : {X : Type 0} → (List ℕ → Result X StepFault) → List (List ℕ) → List X → Type 0
AreRead read texts steps = map read texts ≡ map Ok steps

-- the text of this number is wrong, for this fault, and none before it
pub record IsFirstWrong {X : Type 0} (read : List ℕ
    → Result X StepFault) (texts : List (List ℕ)) (n : ℕ) (fault : StepFault) : Type 0 where
  pub before : List (List ℕ)
  pub text : List ℕ
  pub behind : List (List ℕ)
  pub is : texts ≡ before ++ text ∷ behind
  pub number : n ≡ length before + 1
  pub steps : List X
  pub read_before : AreRead read before steps
  pub wrong : read text ≡ Err fault
