-- Why a text is refused, and how the code's faults stand for it.
use Rattle.std.specs.Prelude.{◌≡◌, ℕ, ◌++◌, List, Option, Some, None, Result, Ok, Err, string_bytes, codes}
use Rattle.std.specs.Fmt.{decimal}
use Rattle.files.specs.declared.fault.Fault.{Fault}
use Rattle.files.specs.declared.fault.Fault.TheVariants as faults
use Rattle.steps.specs.declared.fault.StepFault.{StepFault}
use Rattle.steps.specs.StepFaults.{step_fault_text}

-- what is wrong with a text: it is no TOML, a key is wrong, the layout is not within the limits,
-- there are too many steps, or the step of a number is wrong, in the file's one list of steps or in
-- the script of a hart
pub data Failure : Type 0 where
  not_toml : Failure
  wrong_key : List ℕ → Failure
  bad_layout : Failure
  too_many : Failure
  wrong_step : ℕ → StepFault → Failure
  wrong_script : ℕ → ℕ → StepFault → Failure

abbrev pub failure_text : Failure → List ℕ
failure_text not_toml = codes "not TOML"
failure_text (wrong_key name) = codes "key " ++ name ++ codes ": wrong"
failure_text bad_layout = codes "layout refused"
failure_text too_many = codes "too many steps"
failure_text (wrong_step n fault) =
    codes "step " ++ decimal n ++ codes ": " ++ step_fault_text fault
failure_text (wrong_script hart n fault) =
    codes "script " ++ decimal hart ++ codes " step " ++ decimal n ++ codes ": "
    ++ step_fault_text fault

-- what a fault says of the text; the two others say nothing of it
abbrev pub failure_of : Fault → Option Failure
failure_of faults.NotToml = Some not_toml
failure_of (faults.Key name) = Some (wrong_key (string_bytes name))
failure_of faults.Layout = Some bad_layout
failure_of faults.TooMany = Some too_many
failure_of (faults.Step n fault) = Some (wrong_step n fault)
failure_of (faults.Script hart n fault) = Some (wrong_script hart n fault)
failure_of faults.Output = None
failure_of faults.NoMemory = None

abbrev pub fault_text : Fault → List ℕ
fault_text faults.NotToml = failure_text not_toml
fault_text (faults.Key name) = failure_text (wrong_key (string_bytes name))
fault_text faults.Layout = failure_text bad_layout
fault_text faults.TooMany = failure_text too_many
fault_text (faults.Step n fault) = failure_text (wrong_step n fault)
fault_text (faults.Script hart n fault) = failure_text (wrong_script hart n fault)
fault_text faults.Output = codes "output failed"
fault_text faults.NoMemory = codes "no memory"

-- ---- reading that may fail

infixl 10 ◌>>=◌
abbrev pub ◌>>=◌ : {A B : Type 0} → Result A Failure → (A → Result B Failure) → Result B Failure
(Ok x) >>= f = f x
(Err e) >>= f = Err e

-- the first fault, if there is one
abbrev pub fault_in : {X : Type 0} → Result X Failure → Option Failure
fault_in (Ok x) = None
fault_in (Err e) = Some e

-- the fault is the first one, or memory ran out
abbrev pub Fails : {Y : Type 0} → Fault → Result Y Failure → Type 0
Fails faults.NotToml read = read ≡ Err not_toml
Fails (faults.Key name) read = read ≡ Err (wrong_key (string_bytes name))
Fails faults.Layout read = read ≡ Err bad_layout
Fails faults.TooMany read = read ≡ Err too_many
Fails (faults.Step n fault) read = read ≡ Err (wrong_step n fault)
Fails (faults.Script hart n fault) read = read ≡ Err (wrong_script hart n fault)
Fails faults.Output read = ⊥
Fails faults.NoMemory read = Unit {0}

-- what a function returned, seen by `view`, is what reading gives, unless memory ran out
abbrev pub Gives : {X Y : Type 0} → (X → Y) → Result X Fault → Result Y Failure → Type 0
Gives view (Ok x) read = read ≡ Ok (view x)
Gives view (Err e) read = Fails e read
