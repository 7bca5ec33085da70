-- The limit of a file.
use Rattle.std.specs.Prelude.{ℕ}
use Rattle.scenario.specs.declared.limits.TheConstants.{MOST_BYTES}

-- the bytes of a file
abbrev pub most_bytes : ℕ
most_bytes = MOST_BYTES
