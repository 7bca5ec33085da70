-- What is wrong with the text of a step, and reading that may fail so.
use Rattle.std.specs.Prelude.{ℕ, codes, List, Option, Result, Ok, Err}
use Rattle.std.specs.Option.{ok_or}
use Rattle.steps.specs.declared.fault.StepFault.{StepFault}
use Rattle.steps.specs.declared.fault.StepFault.TheVariants.{NotStep, NoSuchHart, NotPage}

abbrev pub step_fault_text : StepFault → List ℕ
step_fault_text NotStep = codes "not a step"
step_fault_text NoSuchHart = codes "no such hart"
step_fault_text NotPage = codes "not a page"

infixl 10 ◌>>=◌
abbrev pub ◌>>=◌ : {A B : Type 0} → Result A StepFault → (A → Result B StepFault)
    → Result B StepFault
(Ok x) >>= f = f x
(Err e) >>= f = Err e

-- a word that is not what its place in the step asks for makes the text no step
abbrev pub asked : {A : Type 0} → Option A → Result A StepFault
asked o = ok_or o NotStep

-- of two faults the one that is told: the first in this order
abbrev pub graver : StepFault → StepFault → StepFault
graver NotStep other = NotStep
graver NoSuchHart NotStep = NotStep
graver NoSuchHart NoSuchHart = NoSuchHart
graver NoSuchHart NotPage = NoSuchHart
graver NotPage other = other
