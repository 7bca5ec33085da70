use Rattle.std.proofs.Common.{◌∙◌, ap, sym, inl, inr, arith}
use Rattle.watch_tables.specs.FrameTables.{in_frames}
use Rattle.watch_tables.specs.Stored.{table_of}
use Rattle.watch_tables.specs.Pointers.{has_pointer}
use Rattle.watch_tables.proofs.Memory.{words-stored}
use Rattle.watch_tables.proofs.Storing.{kept-after, linked-same, linked-after, tested}
use Rattle.watch_tables.proofs.tables.PageTables.store.Goals.{then-is_ok, else-is_ok}
use Rattle.watch_tables.proofs.tables.PageTables.store.Goals as goal

pub invariant_of-self : goal.invariant_of-self
invariant_of-self c =
    let old = c.pointed-old.ensures ∙ ap table_of c.find.ensures in
    record {
      kept = kept-after (in_frames c.args.self.now.frames) (in_frames c.put.new.self) _ c.args.word c.args.count c.put.result (let fits = c.ranges.address.fits in omega arith) c.put.ensures.ok c.put.ensures.err c.args.self.now.kept;
      linked = linked-same (in_frames c.args.self.now.frames) (in_frames c.put.new.self) _ c.args.word c.args.count (has_pointer c.args.self.now.pointers) c.args.self.now.linked c.put.result c.put.ensures.ok c.put.ensures.err
          (tested _ _ _ _ _ old c.pointed-new.ensures c.eq.ensures ∙ c.if-eq.true);
    }

pub invariant_of-self-2 : goal.invariant_of-self-2
invariant_of-self-2 c =
    let old = c.pointed-old.ensures ∙ ap table_of c.find.ensures in
    record {
      kept = kept-after (in_frames c.args.self.now.frames) (in_frames c.put-done.new.self) _ c.args.word c.args.count c.put-done.result (let fits = c.ranges.address.fits in omega arith) c.put-done.ensures.ok c.put-done.ensures.err c.args.self.now.kept;
      linked = linked-after (in_frames c.args.self.now.frames) (in_frames c.put-done.new.self) _ c.args.word c.args.count (has_pointer c.args.self.now.pointers) c.args.self.now.linked (has_pointer c.add.new.self) (has_pointer c.remove.new.self) c.if-is_ok.gone
          (tested _ _ _ _ _ old c.pointed-new.ensures c.eq.ensures ∙ c.if-eq.false) (rw (← c.pointed-new.ensures) c.in_ok-add.ensures.ok) c.remove.ensures
          c.put-done.result c.put-done.ensures.ok c.put-done.ensures.err
          (elim c.if-is_ok.branch [
            | then-is_ok w ↦ inl (sym c.is_ok.ensures.value ∙ w.if-is_ok.true, w.gone-is ∙ old)
            | else-is_ok w ↦ inr (sym c.is_ok.ensures.value ∙ w.if-is_ok.false, w.gone-is ∙ c.pointed-new.ensures)
          ]);
    }

pub returns-clause-ok : goal.returns-clause-ok
returns-clause-ok c = words-stored (in_frames c.args.self.now.frames) (in_frames c.put-done.new.self) c.args.address c.args.word c.args.count c.put-done.result c.ranges.address.fits c.put-done.ensures.ok
