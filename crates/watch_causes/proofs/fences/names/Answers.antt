use Rattle.std.proofs.Common.{sym, ◌∙◌, arith}
use Rattle.std.proofs.lemmas.Bool.{le-ltb}
use Rattle.watch_causes.proofs.Lists.{high_bit}
use Rattle.watch_causes.proofs.fences.names.Goals as goal

pub returns-else-hart-lt64 : goal.returns-else-hart-lt64
returns-else-hart-lt64 c = le-ltb c.args.hart 64 c.if-hart-lt64.false ∙ sym (high_bit c.args.fence.now.harts c.args.hart (omega arith) c.if-hart-lt64.false)
