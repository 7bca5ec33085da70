use Rattle.std.proofs.Common.{◌≡◌, Some, rules}
use Rattle.toml.specs.Data.{as_array}
use Rattle.toml.specs.View.{array_view, view}
use Rattle.files.proofs.EachLemmas.{spares_of_array}
use Rattle.files.proofs.settings.spares_in.Goals as goal

pub returns : goal.returns
returns c =
    let is : Some (array_view c.in_ok-values.values.now) ≡ as_array (view c.args.value.now) = search rules in
    rw (← spares_of_array c.in_ok-values.values.now (view c.args.value.now) is, ← c.deref.ensures.value) c.few_wholes.ensures
