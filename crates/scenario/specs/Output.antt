-- What is written of the lines.
use Rattle.std.specs.Prelude.{◌≡◌, ℕ, List, Option, None, take}
use Rattle.std.specs.Io.KnownBytes.{Appends, Keeps}
use Rattle.files.specs.declared.fault.Fault.{Fault}
use Rattle.files.specs.declared.fault.Fault.TheVariants as faults
use Rattle.files.specs.Faults.{Failure, failure_of}

-- known bytes stay at the front, and grow by a beginning of bs
abbrev pub AppendsFront : Option (List ℕ) → Option (List ℕ) → List ℕ → Type 0
AppendsFront old new bs = (k : ℕ) × Appends old new (take k bs)

-- just these lines were written
abbrev pub WritesAll : (List ℕ → Type 0) → Option (List ℕ) → Option (List ℕ) → Type 0
WritesAll Lines old new = (lines : List ℕ) × Lines lines × Appends old new lines

-- a beginning of these lines was written
abbrev pub WritesFront : (List ℕ → Type 0) → Option (List ℕ) → Option (List ℕ) → Type 0
WritesFront Lines old new = (lines : List ℕ) × Lines lines × AppendsFront old new lines

-- what a call leaves that ended by this fault, where the text has this first fault and these lines:
-- at Output a beginning of the lines was written, at NoMemory nothing; any other fault is the
-- text's first, and nothing was written
abbrev pub EndsBy : Fault → Option Failure → (List ℕ → Type 0) → Option (List ℕ) → Option (List ℕ)
    → Type 0
EndsBy faults.Output first Lines old new = (first ≡ None) × WritesFront Lines old new
EndsBy faults.NoMemory first Lines old new = Keeps old new
EndsBy fault first Lines old new = (first ≡ failure_of fault) × Keeps old new
