use Rattle.std.proofs.Common.{◌≡◌, None}
use Rattle.std.specs.Prelude.{IfSome}
use Rattle.checks.specs.Places.{IsKeyLine}
use Rattle.checks.proofs.places.Place.find.Given as goal

abbrev pub invariant-loop-index : goal.invariant-loop-index
invariant-loop-index l = l.fn.self.line ≡ None → IfSome l.self.line (λ number. IsKeyLine l.text l.key number)
