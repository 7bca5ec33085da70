use Rattle.std.proofs.Common.{sym, ◌∙◌, Ok, Err}
use Rattle.std.proofs.lemmas.Result.{err_from_is_err_and}
use Rattle.spaces.specs.Held.{spare_of, memory_words}
use Rattle.spaces.proofs.Dues.{due-of}
use Rattle.spaces.proofs.HomeReads.{starts-home, stays-home, there}
use Rattle.spaces.proofs.Stages.{begun-as, ends-here, goes-below, read-there}
use Rattle.spaces.proofs.edits.next_edit.Goals as goal

pub returns-in_err-walk : goal.returns-in_err-walk
returns-in_err-walk c =
    let p = err_from_is_err_and c.from_residual.result c.from_residual.ensures.1 in
    rw (p.1, p.2) (record {
      outcome = begun-as c.args.memory.now c.begin.ensures.memory c.args.hart c.args.wish.now (Err c.in_err-walk.field-0.0) (sym c.in_err-walk.was ∙ c.begin.ensures.start);
      due = tt;
    })

pub loop-next-init : goal.loop-next-init
loop-next-init c = record {
  answer = begun-as c.args.memory.now c.begin.ensures.memory c.args.hart c.args.wish.now (Ok c.in_ok-walk.walk) c.in_ok-walk.ensures.start;
  home = starts-home c.args.memory.now c.begin.ensures.memory c.args.hart c.args.wish.now c.in_ok-walk.walk c.requires c.in_ok-walk.ensures.start;
}

pub word_there-word-requires : goal.word_there-word-requires
word_there-word-requires c =
    there c.args.memory.now c.begin.ensures.memory c.args.hart c.loop-next.walk c.wants-ppn.result.0 c.wants-ppn.result.1 c.loop-next.invariant.home c.wants-ppn.ensures.table c.wants-ppn.ensures.index

pub loop-next-preserved : goal.loop-next-preserved
loop-next-preserved c =
    let on = goes-below c.loop-next.walk (memory_words c.args.memory.now) (spare_of c.args.memory.now c.args.hart) c.word_there-word.result c.wants-ppn.result.0 c.wants-ppn.result.1
    c.wants-ppn.ensures.stage c.wants-ppn.ensures.table c.wants-ppn.ensures.index c.word_there-word.ensures c.in-Some.next c.in-Some.ensures in
    record {
      answer = on.1 ∙ c.loop-next.invariant.answer;
      home =
          stays-home c.args.memory.now c.begin.ensures.memory c.args.hart c.loop-next.walk c.in-Some.next c.word_there-word.result c.loop-next.invariant.home
          (read-there c.loop-next.walk (memory_words c.args.memory.now) (spare_of c.args.memory.now c.args.hart) c.word_there-word.result c.wants-ppn.result.0 c.wants-ppn.result.1
          c.wants-ppn.ensures.stage c.wants-ppn.ensures.table c.wants-ppn.ensures.index c.word_there-word.ensures)
          c.in-Some.ensures;
    }

pub returns-in_default : goal.returns-in_default
returns-in_default c =
    let end = ends-here c.loop-next.walk (memory_words c.args.memory.now) (spare_of c.args.memory.now c.args.hart) c.word_there-word.result c.wants-ppn.result.0 c.wants-ppn.result.1
    c.wants-ppn.ensures.stage c.wants-ppn.ensures.table c.wants-ppn.ensures.index c.word_there-word.ensures
    c.in_default.ensures c.end.result c.spare_for.result c.end.ensures (c.spare_for.ensures.same c.word_there-word.result) in
    let outcome = end ∙ c.loop-next.invariant.answer in
    record { outcome = outcome; due = due-of c.args.memory.now c.args.hart c.args.wish.now _ c.requires outcome }
