-- An object of JSON that is being written.
use Rattle.std.specs.Prelude.{◌≡◌, List, []}
use Rattle.json.specs.Token.{Token}
use Rattle.watch_report.specs.declared.object.Object.TheInside.{Inside}

-- what was written of it
abbrev pub written_of : Inside → List Token
written_of object = object.writer.tokens

-- nothing stands in front of it
abbrev pub IsObject : Inside → Type 0
IsObject object = object.writer.before ≡ []
