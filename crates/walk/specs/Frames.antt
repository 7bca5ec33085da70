-- Memory as worked examples have it: three tables for Sv39 and four for Sv48, each of zeros but for
-- one word.
use Rattle.std.specs.Prelude.{ℕ, ◌==◌, if◌then◌else◌, Option, Some, None}

-- a table of zeros but for the word at one index
abbrev pub only_word : ℕ → ℕ → ℕ → Option ℕ
only_word at word index = Some (if index == at then word else 0)

abbrev pub three_frames : ℕ → ℕ → ℕ → ℕ → ℕ → Option ℕ
three_frames root middle low ppn index =
    if ppn == 0x80000 then only_word 2 root index
    else if ppn == 0x80001 then only_word 2 middle index
    else if ppn == 0x80002 then only_word 3 low index
    else None

abbrev pub four_frames : ℕ → ℕ → ℕ → ℕ → ℕ → ℕ → Option ℕ
four_frames root upper middle low ppn index =
    if ppn == 0x80000 then only_word 1 root index
    else if ppn == 0x80001 then only_word 2 upper index
    else if ppn == 0x80002 then only_word 2 middle index
    else if ppn == 0x80003 then only_word 3 low index
    else None
