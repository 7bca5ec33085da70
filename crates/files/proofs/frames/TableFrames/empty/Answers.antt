use Rattle.std.proofs.Common.{◌*◌}
use Rattle.files.proofs.MemoryLemmas.{zeros}
use Rattle.files.proofs.frames.TableFrames.empty.Goals as goal

pub returns : goal.returns
returns c ppn index = zeros c.args.frames c.in_ok-words.words.items (512 * c.len.result) (c.in_ok-words.ensures.items_if_clones_equal (λ y same. same)) ppn index
