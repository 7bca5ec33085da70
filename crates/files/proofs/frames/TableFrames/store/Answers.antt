use Rattle.std.proofs.Common.{sym}
use Rattle.files.proofs.MemoryLemmas.{position_below, stored_word}
use Rattle.files.proofs.frames.TableFrames.store.Goals as goal

pub returns-in-Some : goal.returns-in-Some
returns-in-Some c ppn index =
    let here = sym c.in-Some.ensures in
    stored_word c.args.self.now c.args.word c.in-Some.position here (position_below c.args.self.now _ _ c.in-Some.position here) ppn index
