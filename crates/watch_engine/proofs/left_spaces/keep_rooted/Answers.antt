use Rattle.std.proofs.Common.{◌≡◌, ◌∙◌, ◌==◌, ℕ, List, get_or, sym, ap, true, false, arith}
use Rattle.std.proofs.lemmas.Grind.{common_steps}
use Rattle.std.specs.List.{list_any}
use Rattle.watch_engine.specs.declared.left.Left.{Left}
use Rattle.watch_engine.specs.Left.{has_its_root}
use Rattle.watch_engine.proofs.left_spaces.keep_rooted.Goals as goal
use Rattle.watch_engine.proofs.left_spaces.keep_rooted.Goals.{then-space-asked, else-space-asked, then-stays, else-stays}

pub loop-at-preserved : goal.loop-at-preserved
loop-at-preserved c =
    let roots : List ℕ = c.args.roots.now in
    let space : Left = get_or c.loop-at.left c.loop-at.at (record { hart = 0; space = record { root = 0; asid = 0 }; left = 0; fences = 0 }) in
    let asked : c.if-space-asked.asked ≡ space.space.root = elim c.if-space-asked.branch [ then-space-asked w ↦ w.asked-is | else-space-asked w ↦ w.asked-is ∙ sym w.if-space-asked.false ] in
    let stays : c.if-space-asked.stays ≡ has_its_root roots space = elim c.if-space-asked.branch [
      | then-space-asked w ↦ w.stays-is ∙ (w.has_near.ensures ∙ ap (λ n. list_any (λ r. r == n) roots) (sym w.asked-is ∙ asked))
      | else-space-asked w ↦ w.stays-is ∙ (c.loop-at.invariant.1 ∙ ap (λ n. list_any (λ r. r == n) roots) (sym w.if-space-asked.false))
    ] in
    let answer : c.if-space-asked.stays ≡ list_any (λ r. r == c.if-space-asked.asked) roots = stays ∙ ap (λ n. list_any (λ r. r == n) roots) (sym asked) in
    elim c.if-stays.branch [
      | then-stays w ↦
          let is : has_its_root roots space ≡ true = sym stays ∙ w.if-stays.true in
          (omega arith, answer, grind (arith, common_steps))
      | else-stays w ↦
          let is : has_its_root roots space ≡ false = sym stays ∙ w.if-stays.false in
          (omega arith, answer, grind (arith, common_steps))
    ]
