-- What is written of a text.
use Rattle.std.specs.Prelude.{ℕ, List, Option, take}
use Rattle.std.specs.Io.KnownBytes.{Appends}
use Rattle.std.specs.declared.io.ErrorKind.{ErrorKind}
use Rattle.std.specs.declared.io.ErrorKind.TheVariants as kinds
use Rattle.watch_report.specs.declared.output.WriteFault.{WriteFault}
use Rattle.watch_report.specs.declared.output.WriteFault.TheVariants.{BrokenPipe, Failed}

-- known bytes stay at the front, and grow by a beginning of the bytes
abbrev pub AppendsFront : Option (List ℕ) → Option (List ℕ) → List ℕ → Type 0
AppendsFront old new bytes = (k : ℕ) × Appends old new (take k bytes)

-- why a text is not written whole, by the kind of the writer's error
abbrev pub write_fault : ErrorKind → WriteFault
write_fault kinds.BrokenPipe = BrokenPipe
write_fault _ = Failed

-- just such a text was written
abbrev pub WritesAll : (List ℕ → Type 0) → Option (List ℕ) → Option (List ℕ) → Type 0
WritesAll Text old new = (text : List ℕ) × Text text × Appends old new text

-- a beginning of such a text was written
abbrev pub WritesFront : (List ℕ → Type 0) → Option (List ℕ) → Option (List ℕ) → Type 0
WritesFront Text old new = (text : List ℕ) × Text text × AppendsFront old new text
