use Rattle.std.proofs.Common.{◌≤◌, length}
use Rattle.toml.specs.View.{view}
use Rattle.files.specs.Settings.{whole_of}
use Rattle.files.proofs.EachLemmas.{EachSoFar}
use Rattle.files.proofs.settings.wholes.Given as goal

abbrev pub invariant-loop-value : goal.invariant-loop-value
invariant-loop-value l = record {
  read : EachSoFar (λ value. whole_of (view value)) l.values l.value-index l.wholes.items;
  few : length l.wholes.items ≤ l.value-index;
}
