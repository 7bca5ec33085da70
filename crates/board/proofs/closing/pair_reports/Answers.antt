use Rattle.std.proofs.Common.{◌≡◌, subst, arith}
use Rattle.board.proofs.PairsClosed.{IsClosedTo, closed_none, closed_pair, closed_row, closed_self}
use Rattle.board.proofs.closing.pair_reports.Goals as goal

pub loop-sender-init : goal.loop-sender-init
loop-sender-init c = record {
  closed = rw c.requires.empty (closed_none c.args.harts c.args.outboxes.items c.args.inboxes.items c.requires.ends);
  room = c.requires.room;
}

pub loop-receiver-preserved-then-receiver-sender : goal.loop-receiver-preserved-then-receiver-sender
loop-receiver-preserved-then-receiver-sender c = record {
  closed = closed_self _ _ _ _ _ _ _ _ c.if-receiver-sender.true c.loop-receiver.invariant.closed;
  room = c.loop-receiver.invariant.room;
}

pub loop-receiver-preserved : goal.loop-receiver-preserved
loop-receiver-preserved c =
    let e = c.close_pair.ensures in
    let made = c.in-Some.ensures in
    record {
      closed = rw c.push_reserved.ensures.items (
          closed_pair _ _ _ _ _ _ _ _ _ _ _ c.if-receiver-sender.false c.loop-receiver.invariant.closed made.pair made.report e.outs_kept e.ins_kept e.count e.out_counts e.in_counts);
      room = rw c.push_reserved.ensures.capacity c.loop-receiver.invariant.room;
    }

pub loop-sender-preserved : goal.loop-sender-preserved
loop-sender-preserved c =
    let last : c.loop-receiver.receiver ≡ c.args.harts = omega (arith, c.loop-receiver.auto.receiver-end, c.loop-receiver-test.false) in
    record {
      closed = closed_row _ _ _ _ _ _ _ (
          subst
          (IsClosedTo c.args.harts c.args.outboxes.items c.args.inboxes.items c.loop-receiver.outboxes.items c.loop-receiver.inboxes.items c.loop-receiver.pairs.items c.loop-sender.sender)
          last c.loop-receiver.invariant.closed);
      room = c.loop-receiver.invariant.room;
    }
