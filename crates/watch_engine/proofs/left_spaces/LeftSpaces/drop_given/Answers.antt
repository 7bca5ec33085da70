use Rattle.std.proofs.Common.{◌≡◌, true, sym, rules}
use Rattle.std.specs.List.{list_all}
use Rattle.watch_engine.specs.Held.{stays}
use Rattle.watch_engine.proofs.SpaceRoots.{all_stay}
use Rattle.watch_engine.proofs.left_spaces.LeftSpaces.drop_given.Goals as goal

pub returns-then-keeps_all-clause-roots : goal.returns-then-keeps_all-clause-roots
returns-then-keeps_all-clause-roots c =
    let all : list_all (stays c.args.frames c.args.satps.now) c.args.roots.now ≡ true = search rules in
    sym (all_stay (stays c.args.frames c.args.satps.now) c.args.roots.now all)
