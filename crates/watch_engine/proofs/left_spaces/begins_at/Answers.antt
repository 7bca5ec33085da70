use Rattle.std.proofs.Common.{leb-true, ltb-true, sym, ◌∙◌, arith}
use Rattle.watch_engine.proofs.LeftOrder.{begins_there}
use Rattle.watch_engine.proofs.left_spaces.begins_at.Goals as goal
use Rattle.watch_engine.proofs.left_spaces.begins_at.Goals.{then-place-left+then-place-eq0, then-place-left+else-place-eq0, else-place-left}

pub returns-else-place-left-2-clause-place : goal.returns-else-place-left-2-clause-place
returns-else-place-left-2-clause-place c = λ t.
    elim c.if-place-left.branch [
      | then-place-left+then-place-eq0 w ↦
          begins_there c.args.left.now c.args.place c.args.root _ c.requires (λ some. absurd (omega arith)) (λ among. leb-true _ _ t) w.if-place-left.true
      | then-place-left+else-place-eq0 w ↦
          begins_there c.args.left.now c.args.place c.args.root _ c.requires (λ some. ltb-true _ _ (sym w.value-is ∙ c.if-left-place.true)) (λ among. leb-true _ _ t) w.if-place-left.true
      | else-place-left w ↦ absurd (omega arith)
    ]
