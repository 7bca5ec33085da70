use Rattle.watch_tables.proofs.PathWords.{leads-alike, leaf-filled, leaf-goes-by-words}
use Rattle.watch_tables.proofs.laws.what_leads_goes_by_the_words_on_its_path.Goals as goal

pub returns : goal.returns
returns c = record { path = leads-alike; filled = leaf-filled; leaf = leaf-goes-by-words }
