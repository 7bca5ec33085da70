use Rattle.std.proofs.Common.{All, Contains, sym, subst}
use Rattle.std.proofs.lemmas.List.Elements.{All-contains_itself}
use Rattle.watch_engine.proofs.Keeping.{all-stay}
use Rattle.watch_engine.proofs.kept_ways.KeptWays.drop_oldest.Goals as goal

pub returns-then-len-ge-MOST_TABLES-clause-rest : goal.returns-then-len-ge-MOST_TABLES-clause-rest
returns-then-len-ge-MOST_TABLES-clause-rest c = subst (All (Contains c.args.self.now.known.items)) (sym c.remove-oldest.ensures.items) (all-stay c.args.self.now.known.items 0)

pub returns-else-len-ge-MOST_TABLES-clause-rest : goal.returns-else-len-ge-MOST_TABLES-clause-rest
returns-else-len-ge-MOST_TABLES-clause-rest c = All-contains_itself c.args.self.now.known.items
