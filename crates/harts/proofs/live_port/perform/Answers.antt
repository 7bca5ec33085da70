use Rattle.std.proofs.Common.{rules, sym, subst}
use Rattle.harts.specs.Performs.{Performs}
use Rattle.harts.proofs.live_port.perform.Goals.{in-Translate, in-Map, in-Unmap, in-Protect, in-Flush, in-Switch, in-Fence, in-Post, in-Serve, in-AckSelf, in-Collect, in-Finish, in-Close}
use Rattle.harts.proofs.live_port.perform.Goals as goal

pub returns-clause-performs : goal.returns-clause-performs
unfolding Performs
returns-clause-performs c =
    elim c.match-step.branch [
      | in-Translate w ↦ subst (λ step. Performs c.args.latch.now.harts c.args.turns step c.args.port.now c.match-step.port c.match-step.reply) (sym w.in-Translate.is) (search rules)
      | in-Map w ↦ subst (λ step. Performs c.args.latch.now.harts c.args.turns step c.args.port.now c.match-step.port c.match-step.reply) (sym w.in-Map.is) (search rules)
      | in-Unmap w ↦ subst (λ step. Performs c.args.latch.now.harts c.args.turns step c.args.port.now c.match-step.port c.match-step.reply) (sym w.in-Unmap.is) (search rules)
      | in-Protect w ↦ subst (λ step. Performs c.args.latch.now.harts c.args.turns step c.args.port.now c.match-step.port c.match-step.reply) (sym w.in-Protect.is) (search rules)
      | in-Flush w ↦ subst (λ step. Performs c.args.latch.now.harts c.args.turns step c.args.port.now c.match-step.port c.match-step.reply) (sym w.in-Flush.is) (search rules)
      | in-Switch w ↦ subst (λ step. Performs c.args.latch.now.harts c.args.turns step c.args.port.now c.match-step.port c.match-step.reply) (sym w.in-Switch.is) (search rules)
      | in-Fence w ↦ subst (λ step. Performs c.args.latch.now.harts c.args.turns step c.args.port.now c.match-step.port c.match-step.reply) (sym w.in-Fence.is) (search rules)
      | in-Post w ↦ subst (λ step. Performs c.args.latch.now.harts c.args.turns step c.args.port.now c.match-step.port c.match-step.reply) (sym w.in-Post.is) (search rules)
      | in-Serve w ↦ subst (λ step. Performs c.args.latch.now.harts c.args.turns step c.args.port.now c.match-step.port c.match-step.reply) (sym w.in-Serve.is) (search rules)
      | in-AckSelf w ↦ subst (λ step. Performs c.args.latch.now.harts c.args.turns step c.args.port.now c.match-step.port c.match-step.reply) (sym w.in-AckSelf.is) (search rules)
      | in-Collect w ↦ subst (λ step. Performs c.args.latch.now.harts c.args.turns step c.args.port.now c.match-step.port c.match-step.reply) (sym w.in-Collect.is) (search rules)
      | in-Finish w ↦ subst (λ step. Performs c.args.latch.now.harts c.args.turns step c.args.port.now c.match-step.port c.match-step.reply) (sym w.in-Finish.is) (search rules)
      | in-Close w ↦ subst (λ step. Performs c.args.latch.now.harts c.args.turns step c.args.port.now c.match-step.port c.match-step.reply) (sym w.in-Close.is) (search rules)
    ]
