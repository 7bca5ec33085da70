-- Bytes that are looked for.
use Rattle.std.specs.Prelude.{ℕ, Bool, ◌==◌, ◌||◌}

abbrev pub is_either : ℕ → ℕ → ℕ → Bool
is_either a b byte = byte == a || byte == b
