use Rattle.std.proofs.Common.{◌≡◌, ◌++◌, drop}
use Rattle.std.specs.Prelude.{map}
use Rattle.watch_report.specs.JsonObjects.{number_value}
use Rattle.watch_report.proofs.note_json.add_items.Given as goal

abbrev pub invariant-loop-number : goal.invariant-loop-number
invariant-loop-number l =
    l.object ++ map number_value (drop l.number-index l.numbers) ≡ l.fn.object ++ map number_value l.numbers
