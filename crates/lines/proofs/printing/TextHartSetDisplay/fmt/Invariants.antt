use Rattle.std.proofs.Common.{◌≡◌}
use Rattle.std.specs.Fmt.{HasWritten, IsPlainFormatter}
use Rattle.lines.proofs.ReplyLemmas.{joined, members_below, none_yet}
use Rattle.lines.proofs.printing.TextHartSetDisplay.fmt.Given as goal

abbrev pub invariant-loop-hart : goal.invariant-loop-hart
invariant-loop-hart g l = record {
  text : IsPlainFormatter l.initial.f → HasWritten g.W.Write.write_str_gives l.initial.f (joined (members_below l.self.0 l.hart)) l.f;
  first : l.is_first ≡ none_yet (members_below l.self.0 l.hart);
}
