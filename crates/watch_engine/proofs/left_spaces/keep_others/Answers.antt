use Rattle.std.proofs.Common.{◌≡◌, ◌∙◌, ◌+◌, ℕ, List, Some, false, true, ap, sym, drop, get_or, arith}
use Rattle.std.specs.Prelude.{not}
use Rattle.std.proofs.lemmas.Grind.{common_steps}
use Rattle.watch_engine.specs.declared.left.Left.{Left}
use Rattle.watch_engine.specs.Left.{is_of, is_other}
use Rattle.watch_engine.proofs.LeftOrder.{one_behind, one_less, other_of_root}
use Rattle.watch_engine.proofs.left_spaces.keep_others.Goals as goal
use Rattle.watch_engine.proofs.left_spaces.keep_others.Goals.{then-not-is_of, else-not-is_of}

pub loop-at-preserved : goal.loop-at-preserved
loop-at-preserved c =
    let old : List Left = c.args.left.now in
    let now : List Left = c.loop-at.left in
    let at : ℕ = c.loop-at.at in
    let none : Left = record { hart = 0; space = record { root = 0; asid = 0 }; left = 0; fences = 0 } in
    let one : Left = get_or now at none in
    let same : one ≡ get_or old at none = one_behind now old at none c.loop-at.invariant.4 in
    let root : one.space.root ≡ c.args.space.root = ap (λ (l : Left). l.space.root) same ∙ c.requires.root at none (omega arith) (omega arith) in
    let is : is_other c.args.hart (Some c.args.space) one ≡ not (is_of c.args.hart c.args.space.asid one) = other_of_root c.args.hart c.args.space one root in
    let behind : drop (at + 1) now ≡ drop (at + 1) old = one_less now old at c.loop-at.invariant.4 in
    elim c.if-not-is_of.branch [
      | then-not-is_of w ↦
          let stays : is_other c.args.hart (Some c.args.space) one ≡ true = is ∙ ap not (sym c.is_of.ensures ∙ w.if-not-is_of.true) in
          (omega arith, omega arith, omega arith, grind (arith, common_steps), grind (arith, common_steps), grind (arith, common_steps))
      | else-not-is_of w ↦
          let goes : is_other c.args.hart (Some c.args.space) one ≡ false = is ∙ ap not (sym c.is_of.ensures ∙ w.if-not-is_of.false) in
          (omega arith, omega arith, omega arith, grind (arith, common_steps), grind (arith, common_steps), grind (arith, common_steps))
    ]
