use Rattle.std.proofs.Common.{◌≡◌, ◌≤◌, ◌++◌, List, length, map, drop}
use Rattle.std.specs.Prelude.{vec_len, vec_capacity}
use Rattle.history.specs.Setup.{setup_of}
use Rattle.board.specs.Ports.{ArePorts, PortState, name_of}
use Rattle.harts.specs.declared.live_reply.LiveReply.{LiveReply}
use Rattle.harts.specs.Plays.{SetsUp}
use Rattle.harts.specs.Scripts.{are_made}
use Rattle.harts.proofs.live.run_live.Given as goal

-- what answers the steps of setup that are left, answers all of them after the answers so far
abbrev pub invariant-loop-hart : goal.invariant-loop-hart
invariant-loop-hart g l = record {
  ports : ArePorts (setup_of l.fn.config) (map name_of l.ports.items);
  many : length l.ports.items ≡ l.fn.config.harts;
  count : vec_len l.answers ≡ l.hart-index;
  room : length l.setup ≤ vec_capacity l.answers;
  harts : l.latch.harts ≡ l.fn.config.harts;
  set_up : (more : List LiveReply) (last : List PortState) → SetsUp l.latch.harts l.fn.turns l.ports.items (drop l.hart-index l.setup) more last → SetsUp l.latch.harts l.fn.turns l.initial.ports.items l.setup (l.answers.items ++ more) last;
  made : (more : List LiveReply) → are_made (map (λ step. step.1) l.setup) (l.answers.items ++ more) ≡ are_made (map (λ step. step.1) (drop l.hart-index l.setup)) more;
}
