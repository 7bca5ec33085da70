use Rattle.watch_tables.specs.FrameTables.{in_frames}
use Rattle.watch_tables.specs.Pointers.{has_pointer}
use Rattle.watch_tables.specs.Words.{word_number}
use Rattle.watch_tables.proofs.Memory.{linked-pointer}
use Rattle.watch_tables.proofs.tables.PageTables.pointers_to.Goals as goal

pub returns : goal.returns
returns c = λ t i point.
    let known = linked-pointer (in_frames c.args.self.now.frames) (has_pointer c.args.self.now.pointers) c.args.self.now.linked c.args.table t i point in
    c.to.ensures (word_number t i) known.0 known.1
