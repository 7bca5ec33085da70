use Rattle.std.proofs.Common.{◌∙◌, ap, is_some}
use Rattle.files.proofs.MemoryLemmas.{placed_listed}
use Rattle.files.proofs.frames.Frames.contains.Goals as goal

pub returns : goal.returns
returns c = c.is_some.ensures ∙ ap is_some c.place.ensures ∙ placed_listed c.args.self.now.ppns.items c.args.ppn
