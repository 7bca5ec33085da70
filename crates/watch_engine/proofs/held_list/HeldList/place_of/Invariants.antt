use Rattle.std.proofs.Common.{length}
use Rattle.watch_engine.specs.declared.keys.By.TheVariants.{Page}
use Rattle.watch_engine.specs.Held.{is_of, last_translation}
use Rattle.watch_engine.specs.Keys.{key_of, page_key}
use Rattle.watch_engine.specs.Places.{has}
use Rattle.watch_engine.proofs.Walks.{Looks}
use Rattle.watch_engine.proofs.held_list.HeldList.place_of.Given as goal

abbrev pub invariant-loop-front : goal.invariant-loop-front
invariant-loop-front l = Looks (length l.pages.heads.items) (key_of Page) (page_key l.live.entry.page) (has (is_of l.live.hart (last_translation l.live))) l.self.places.items l.at l.front l.found

abbrev pub decreases-loop-front : goal.decreases-loop-front
decreases-loop-front l = l.at
