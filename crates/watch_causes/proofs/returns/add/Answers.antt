use Rattle.std.proofs.Common.{◌∙◌, Some, ap, cond, sym}
use Rattle.std.specs.BTreeMap.{get}
use Rattle.std.specs.Option.{unwrap_or}
use Rattle.std.specs.Ordering.{is_eq}
use Rattle.watch_causes.specs.declared.moves.Move.TheVariants.{Writes}
use Rattle.watch_causes.specs.Returns.{any_visit, last_in, returns_to, visit_cmp, visit_of}
use Rattle.watch_causes.proofs.Returning.{on_ok, visited}
use Rattle.watch_causes.proofs.returns.add.Goals as goal

pub returns-in_ok-put-in-Some : goal.returns-in_ok-put-in-Some
returns-in_ok-put-in-Some c =
    let count = c.args.count in
    let hart = c.in-Writes.hart in
    let old = c.args.lasts.now in
    let first = c.put.new.lasts in
    on_ok c.put-in-Some.result c.put-in-Some.ensures (λ second w.
    ap (λ o. unwrap_or o 0) (second (visit_of w))
    ∙ (ap (λ k. unwrap_or (cond (is_eq (visit_cmp k (visit_of w))) (Some count) (get visit_cmp first (visit_of w))) 0) c.any.ensures
    ∙ (ap (λ o. unwrap_or (cond (is_eq (visit_cmp (any_visit hart) (visit_of w))) (Some count) o) 0)
    (c.in_ok-put-in-Some.ensures (visit_of w) ∙ ap (λ k. cond (is_eq (visit_cmp k (visit_of w))) (Some count) (get visit_cmp old (visit_of w))) c.under.ensures)
    ∙ (visited w hart c.in-Some.asid count (get visit_cmp old (visit_of w))
    ∙ ap (λ m. cond (returns_to w m) count (last_in old w)) (sym (c.in-Writes.is ∙ ap (Writes hart) c.in-Some.is))))))
