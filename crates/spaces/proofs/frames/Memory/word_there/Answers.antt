use Rattle.std.proofs.Common.{refl}
use Rattle.spaces.proofs.Applying.{word-held}
use Rattle.spaces.proofs.frames.Memory.word_there.Goals as goal

pub returns : goal.returns
returns c = word-held _ c.args.self.now c.args.ppn c.args.index _ c.from.result c.from-2.result c.index.result.now _ c.self.invariant c.self.view_is c.requires c.from.ensures refl c.from-2.ensures c.index.ensures
