-- Where items stand by page, by frame and by root.
use Rattle.std.specs.Prelude.{ℕ, ◌≡◌, List, map}
use Rattle.watch_engine.specs.declared.held.Held.{Held}
use Rattle.watch_engine.specs.declared.indexes.Indexes.{Indexes}
use Rattle.watch_engine.specs.declared.keys.By.{By}
use Rattle.watch_engine.specs.declared.keys.By.TheVariants.{Frame, Page, Root}
use Rattle.watch_engine.specs.Keys.{key_of}

abbrev pub keys_by : By → Indexes → List ℕ
keys_by Page x = x.pages.keys.items
keys_by Frame x = x.frames.keys.items
keys_by Root x = x.roots.keys.items

-- they have the keys of all places
abbrev pub AreIndexes : List Held → Indexes → Type 0
AreIndexes places x = (by : By) → keys_by by x ≡ map (key_of by) places
