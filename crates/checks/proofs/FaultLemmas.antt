-- A fault other than running out of memory is the failure that was read.
use Rattle.std.proofs.Common.{◌≡◌, ℕ, List, false, Result, Some, option_map, ap, refl, sym}
use Rattle.toml.specs.Data.{Members}
use Rattle.toml.specs.Parse.{parse_document}
use Rattle.files.specs.Faults.{Failure, Fails, failure_of, fault_in}
use Rattle.files.specs.declared.fault.Fault.{Fault}
use Rattle.files.specs.declared.fault.Fault.TheVariants as faults
use Rattle.files.specs.LiveFile.{live_scenario_of}
use Rattle.files.specs.RunFile.{run_scenario_of}
use Rattle.files.specs.WalkFile.{walk_scenario_of}
use Rattle.checks.specs.Told.{fault_for, fault_in_members, is_memory}
use Rattle.files.specs.declared.key_table.Command.{Command}
use Rattle.files.specs.declared.key_table.Command.TheVariants.{Walk, Run, Live}

pub failing : {Y : Type 0} → (fault : Fault) → (read : Result Y Failure) → is_memory fault ≡ false → Fails fault read → Some (failure_of fault) ≡ option_map Some (fault_in read)
failing faults.NotToml read known is = ap (λ r. option_map Some (fault_in r)) (sym is)
failing (faults.Key name) read known is = ap (λ r. option_map Some (fault_in r)) (sym is)
failing faults.Layout read known is = ap (λ r. option_map Some (fault_in r)) (sym is)
failing faults.TooMany read known is = ap (λ r. option_map Some (fault_in r)) (sym is)
failing (faults.Step n fault) read known is = ap (λ r. option_map Some (fault_in r)) (sym is)
failing (faults.Script hart n fault) read known is = ap (λ r. option_map Some (fault_in r)) (sym is)
failing faults.Output read known is = absurd is
failing faults.NoMemory read known is = cc

-- the first fault of a text is that of its document
pub fault_of_members : (command : Command) (text : List ℕ) (ms : Members) → parse_document text ≡ Some ms → fault_in_members command ms ≡ fault_for command text
unfolding walk_scenario_of run_scenario_of live_scenario_of
fault_of_members Walk text ms e = rw e refl
fault_of_members Run text ms e = rw e refl
fault_of_members Live text ms e = rw e refl
