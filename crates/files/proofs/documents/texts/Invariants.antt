use Rattle.toml.specs.Data.{as_str}
use Rattle.toml.specs.View.{view}
use Rattle.files.specs.Keys.{text_views}
use Rattle.files.proofs.EachLemmas.{EachSoFar}
use Rattle.files.proofs.documents.texts.Given as goal

abbrev pub invariant-loop-value : goal.invariant-loop-value
invariant-loop-value l = EachSoFar (λ value. as_str (view value)) l.values l.value-index (text_views l.texts)
