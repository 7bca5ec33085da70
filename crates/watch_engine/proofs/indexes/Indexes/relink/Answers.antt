use Rattle.watch_engine.specs.declared.keys.By.TheVariants.{Frame, Page, Root}
use Rattle.watch_engine.proofs.indexes.Indexes.relink.Goals as goal

pub relink-requires-clause-fewer : goal.relink-requires-clause-fewer
relink-requires-clause-fewer c = c.requires.fewer Page

pub relink-requires-2-clause-fewer : goal.relink-requires-2-clause-fewer
relink-requires-2-clause-fewer c = c.requires.fewer Frame

pub relink-requires-3-clause-fewer : goal.relink-requires-3-clause-fewer
relink-requires-3-clause-fewer c = c.requires.fewer Root
