use Rattle.std.proofs.lemmas.List.Elements.{All-contains_itself}
use Rattle.watch_engine.proofs.kept_ways.KeptWays.keep_unless_any.Goals as goal

pub returns-then-is_empty-clause-same : goal.returns-then-is_empty-clause-same
returns-then-is_empty-clause-same c = All-contains_itself c.args.self.now.known.items
