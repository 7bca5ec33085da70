use Rattle.std.proofs.Common.{rules}
use Rattle.stepcore.proofs.Edits.{map_follows}
use Rattle.stepcore.proofs.machine.Machine.map.Goals as goal

pub returns : goal.returns
returns c = record {
  reply = search rules;
  follows = rw (c.stored_reply.ensures.reply, c.word.ensures)
      (map_follows c.args.self.now c.store.new.self c.args.hart c.store.ensures.others c.args.place c.args.page c.args.ppn c.args.flags c.in_ok-edit.edit
      (record {
        memory = c.due_edit.ensures.memory;
        has = c.in_ok-edit.ensures.has;
        page = c.recall.ensures;
        is = c.in_ok-edit.ensures.is;
        layout = c.store.ensures.layout;
        words = c.store.ensures.words;
        holders = c.store.ensures.holders;
      }));
  refused = search rules;
  page = c.recall.ensures;
}
