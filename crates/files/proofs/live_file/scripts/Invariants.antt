use Rattle.std.proofs.Common.{◌≡◌, length}
use Rattle.toml.specs.View.{view}
use Rattle.files.specs.Keys.{texts_of}
use Rattle.files.proofs.EachLemmas.{EachSoFar}
use Rattle.files.specs.LiveFile.{script_views}
use Rattle.files.proofs.live_file.scripts.Given as goal

abbrev pub invariant-loop-value : goal.invariant-loop-value
invariant-loop-value l = record {
  read : EachSoFar (λ value. texts_of (view value)) l.values l.value-index (script_views l.scripts);
  count : length l.scripts.items ≡ l.value-index;
}
