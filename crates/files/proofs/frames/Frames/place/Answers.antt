use Rattle.std.proofs.Common.{◌∙◌}
use Rattle.files.proofs.MemoryLemmas.{searched_place}
use Rattle.files.proofs.frames.Frames.place.Goals as goal

pub returns : goal.returns
returns c =
    c.ok.ensures.value
    ∙ searched_place c.args.self.now.ppns.items c.args.ppn c.binary_search.result c.args.self.now.rising (rw c.deref.ensures.value at c.binary_search.ensures.position)
