-- The text of a fault, as the reason of its ending.
use Rattle.std.proofs.Common.{◌≡◌, ℕ, List, refl}
use Rattle.files.specs.declared.fault.Fault.{Fault}
use Rattle.files.specs.declared.fault.Fault.TheVariants as faults
use Rattle.files.specs.Faults.{fault_text}
use Rattle.scenario.specs.Command.{ending_of_fault, reason}

-- no fault names the file
pub fault_reason : (file : List ℕ) (fault : Fault) → fault_text fault ≡ reason file (ending_of_fault fault)
fault_reason file faults.NotToml = refl
fault_reason file (faults.Key name) = refl
fault_reason file faults.Layout = refl
fault_reason file faults.TooMany = refl
fault_reason file (faults.Step n fault) = refl
fault_reason file (faults.Script hart n fault) = refl
fault_reason file faults.Output = refl
fault_reason file faults.NoMemory = refl
