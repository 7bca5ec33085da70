-- The keys of one command, and the limits of `turns`.
use Rattle.std.proofs.Common.{◌≡◌, ℕ, ◌==◌, ◌^◌, Bool, true, false, nat_le, nat_lt, Some, None, refl, arith}
use Rattle.std.specs.Prelude.{if◌then◌else◌, pos}
use Rattle.std.specs.List.{filter}
use Rattle.std.proofs.lemmas.Bool.Decides.{nat_tests}
use Rattle.files.specs.declared.key_table.Command.{Command}
use Rattle.files.specs.declared.key_table.Command.TheVariants.{Walk, Run, Live}
use Rattle.files.specs.declared.key_table.Key.TheVariants.{Turns}
use Rattle.files.specs.KeyTable.{is_own, is_within, keys_of, kind_of, own_keys}
use Rattle.files.specs.LiveFile.{positive}

pub own_by_command : (command : Command) → own_keys command ≡ filter (is_own command) (keys_of command)
own_by_command Walk = refl
own_by_command Run = refl
own_by_command Live = refl

turns_by : (n : ℕ) (none few : Bool) → (n == 0) ≡ none → nat_lt n (2 ^ 32) ≡ few → positive (pos n) ≡ (if is_within (kind_of Turns) n then Some n else None)
turns_by n true few e f =
    let least : nat_le 1 n ≡ false = grind (arith, nat_tests) in
    rw (e, least)
turns_by n false true e f =
    let least : nat_le 1 n ≡ true = grind (arith, nat_tests) in
    let most : nat_le n 4294967295 ≡ true = grind (arith, nat_tests) in
    rw (e, f, least, most)
turns_by n false false e f =
    let least : nat_le 1 n ≡ true = grind (arith, nat_tests) in
    let most : nat_le n 4294967295 ≡ false = grind (arith, nat_tests) in
    rw (e, f, least, most)

pub turns_within : (n : ℕ) → positive (pos n) ≡ (if is_within (kind_of Turns) n then Some n else None)
turns_within n = turns_by n (n == 0) (nat_lt n (2 ^ 32)) refl refl
