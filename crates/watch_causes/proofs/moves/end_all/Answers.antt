use Rattle.std.proofs.Common.{rules}
use Rattle.std.proofs.lemmas.Fn.{filter_same}
use Rattle.watch_causes.proofs.moves.end_all.Goals as goal

pub returns : goal.returns
returns c = filter_same _ _ _ (λ x b f called. search rules) _ _ c.retain.ensures.filtered
