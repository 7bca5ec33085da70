use Rattle.std.proofs.Common.{◌≡◌, take}
use Rattle.std.specs.Str.Parse.{AllDigits, digits_value}
use Rattle.watch_report.proofs.numbers.leading_number.Given as goal

abbrev pub invariant-loop-at : goal.invariant-loop-at
invariant-loop-at l =
    record {
      digits : AllDigits l.radix (take l.at l.text);
      value : l.number ≡ digits_value l.radix (take l.at l.text);
    }
