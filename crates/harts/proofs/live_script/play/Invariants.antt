use Rattle.std.proofs.Common.{◌≡◌, ◌≤◌, ◌++◌, List, length, drop}
use Rattle.std.specs.Prelude.{vec_len, vec_capacity}
use Rattle.board.specs.Ports.{PortState, name_of}
use Rattle.harts.specs.declared.live_reply.LiveReply.{LiveReply}
use Rattle.harts.specs.Plays.{Plays}
use Rattle.harts.specs.Scripts.{is_answered}
use Rattle.harts.proofs.live_script.play.Given as goal

-- what answers the steps that are left, answers the script after the answers so far
abbrev pub invariant-loop-step : goal.invariant-loop-step
invariant-loop-step g l = record {
  same : name_of l.port ≡ name_of l.fn.port;
  count : vec_len l.answers ≡ l.step-index;
  room : length l.script ≤ vec_capacity l.answers;
  plays : (more : List LiveReply) (last : PortState) → Plays (record { gate = g.G.Gate.says l.fn.gate; harts = l.fn.latch.harts; turns = l.fn.turns }) l.fn.hart l.number (drop l.step-index l.script) l.port more last
      → Plays (record { gate = g.G.Gate.says l.fn.gate; harts = l.fn.latch.harts; turns = l.fn.turns }) l.fn.hart 0 l.script l.fn.port (l.answers.items ++ more) last;
  answered : (more : List LiveReply) → is_answered l.script (l.answers.items ++ more) ≡ is_answered (drop l.step-index l.script) more;
}
