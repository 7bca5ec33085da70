use Rattle.std.proofs.Common.{◌≡◌, List, subst}
use Rattle.watch_engine.specs.declared.held.Held.{Held}
use Rattle.watch_engine.specs.Places.{items_of}
use Rattle.watch_engine.proofs.EmptyPlaces.{all_closed}
use Rattle.watch_engine.proofs.translation_index.TranslationIndex.apply.Goals as goal

pub returns-clause-there : goal.returns-clause-there
returns-clause-there g c = subst (λ (held : List Held). items_of held ≡ held) c.self.view_is (all_closed c.self.inside.list.places.items).same
