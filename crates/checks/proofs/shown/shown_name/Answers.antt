use Rattle.std.proofs.Common.{◌≡◌, rules}
use Rattle.std.specs.Str.{chars}
use Rattle.std.proofs.lemmas.Str.{chars_from_encodes}
use Rattle.checks.proofs.shown.shown_name.Goals as goal

pub returns : goal.returns
returns c =
    let letters : c.in_ok-letters.letters.items ≡ chars c.args.file.now = search (rules, chars_from_encodes) in
    rw (c.as_slice.ensures.value, c.new-name.ensures.bytes, letters) at c.in_ok-push_letters.ensures
