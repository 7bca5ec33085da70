-- A run whose replies are those that are due is a lawful history.
use Rattle.std.proofs.Common.{◌≡◌, List, [], ◌∷◌, sym, subst}
use Rattle.history.specs.declared.reply.Reply.{Reply}
use Rattle.history.specs.Setup.{Setup}
use Rattle.history.specs.Turns.{History}
use Rattle.history.specs.Due.{due, Lawful}
use Rattle.history.specs.Runs.{with_turn, due_replies}
use Rattle.counterexamples.specs.WorkedRuns.{IsRun, Step, events, replies, history_after, history_of}

lawful_after : (C : Setup) (H : History) (steps : List Step) → Lawful C H → due_replies C H (events steps) ≡ replies steps → Lawful C (history_after H steps)
lawful_after C H [] lawful run = lawful
lawful_after C H (step ∷ steps) lawful run =
    let head : due C H step.0 ≡ step.1 = cc in
    let tail : due_replies C (with_turn step.0 (due C H step.0) H) (events steps) ≡ replies steps = cc in
    let P : Reply → Type 0 = λ reply. due_replies C (with_turn step.0 reply H) (events steps) ≡ replies steps in
    lawful_after C (with_turn step.0 step.1 H) steps (lawful, sym head) (subst P head tail)

pub lawful_run : (C : Setup) (steps : List Step) → IsRun C steps → Lawful C (history_of steps)
unfolding IsRun
lawful_run C steps run = lawful_after C [] steps tt run
