use Rattle.std.proofs.Common.{◌≡◌, ◌∙◌, ◌++◌, ◌≤◌, ◌<◌, ℕ, Bool, List, Some, false, ap, sym, subst, drop, filter, get_or, inl, inr, length, take, arith}
use Rattle.std.proofs.lemmas.Bool.{cases_lt}
use Rattle.std.proofs.lemmas.Grind.{common_steps}
use Rattle.watch.specs.declared.trace.Space.{Space}
use Rattle.watch_engine.specs.declared.left.Left.{Left}
use Rattle.watch_engine.specs.Left.{is_of, is_other}
use Rattle.watch_engine.specs.LeftOrder.{Begins, Ends}
use Rattle.watch_engine.proofs.LeftOrder.{before_stays, ends_late, others_before, others_behind, rest_stays}
use Rattle.watch_engine.proofs.left_spaces.drop_back.Goals as goal

pub first_of-first-requires-clause-order : goal.first_of-first-requires-clause-order
first_of-first-requires-clause-order c =
    let old : List Left = c.args.left.now.items in
    let begins : Begins old c.count_below-start.result c.args.space.root = subst (λ (ls : List Left). Begins ls c.count_below-start.result c.args.space.root) c.as_slice.ensures.value c.count_below-start.ensures.place in
    let ends : Ends old c.count_up_to-end.result c.args.space.root = subst (λ (ls : List Left). Ends ls c.count_up_to-end.result c.args.space.root) c.as_slice-2.ensures.value c.count_up_to-end.ensures.place in
    let within : c.count_below-start.result ≤ length old = subst (λ (ls : List Left). c.count_below-start.result ≤ length ls) c.as_slice.ensures.value c.count_below-start.ensures.within in
    ends_late old c.count_below-start.result c.count_up_to-end.result c.args.space.root within begins ends

pub returns-then-first-end : goal.returns-then-first-end
returns-then-first-end c =
    let old : List Left = c.args.left.now.items in
    let space : Space = c.args.space in
    let start : ℕ = c.count_below-start.result in
    let end : ℕ = c.count_up_to-end.result in
    let first : ℕ = c.first_of-first.result in
    let begins : Begins old start space.root = subst (λ (ls : List Left). Begins ls start space.root) c.as_slice.ensures.value c.count_below-start.ensures.place in
    let ends : Ends old end space.root = subst (λ (ls : List Left). Ends ls end space.root) c.as_slice-2.ensures.value c.count_up_to-end.ensures.place in
    let none : (k : ℕ) (d : Left) → start ≤ k → k < first → is_of c.args.hart space.asid (get_or old k d) ≡ false =
    subst (λ (ls : List Left). (k : ℕ) (d : Left) → start ≤ k → k < first → is_of c.args.hart space.asid (get_or ls k d) ≡ false) c.as_slice-3.ensures.value c.first_of-first.ensures.before in
    sym (rest_stays (is_other c.args.hart (Some space)) old 0 (λ k d from among. elim (cases_lt k first) [
      | inl early ↦ others_before c.args.hart space old start first end begins ends c.first_of-first.ensures.within none k d early among
      | inr late ↦ others_behind c.args.hart space old end ends k d (omega arith) among
    ]))

pub keep_others-kept-requires-clause-others : goal.keep_others-kept-requires-clause-others
keep_others-kept-requires-clause-others c =
    let old : List Left = c.args.left.now.items in
    let space : Space = c.args.space in
    let start : ℕ = c.count_below-start.result in
    let end : ℕ = c.count_up_to-end.result in
    let first : ℕ = c.first_of-first.result in
    let begins : Begins old start space.root = subst (λ (ls : List Left). Begins ls start space.root) c.as_slice.ensures.value c.count_below-start.ensures.place in
    let ends : Ends old end space.root = subst (λ (ls : List Left). Ends ls end space.root) c.as_slice-2.ensures.value c.count_up_to-end.ensures.place in
    let none : (k : ℕ) (d : Left) → start ≤ k → k < first → is_of c.args.hart space.asid (get_or old k d) ≡ false =
    subst (λ (ls : List Left). (k : ℕ) (d : Left) → start ≤ k → k < first → is_of c.args.hart space.asid (get_or ls k d) ≡ false) c.as_slice-3.ensures.value c.first_of-first.ensures.before in
    subst (λ (ls : List Left). take first ls ++ filter (is_other c.args.hart (Some space)) (drop first ls) ≡ filter (is_other c.args.hart (Some space)) ls) (sym c.as_mut_slice.ensures.value)
    (before_stays (is_other c.args.hart (Some space)) old first (others_before c.args.hart space old start first end begins ends c.first_of-first.ensures.within none))

pub returns : goal.returns
returns c =
    let old : List Left = c.args.left.now.items in
    let space : Space = c.args.space in
    let end : ℕ = c.count_up_to-end.result in
    let kept : ℕ = c.keep_others-kept.result in
    let mid : List Left = c.keep_others-kept.new.left in
    let test : Left → Bool = is_other c.args.hart (Some space) in
    let ends : Ends old end space.root = subst (λ (ls : List Left). Ends ls end space.root) c.as_slice-2.ensures.value c.count_up_to-end.ensures.place in
    let same : drop end mid ≡ drop end old = c.keep_others-kept.ensures.behind ∙ ap (drop end) c.as_mut_slice.ensures.value in
    let rest : filter test (drop end mid) ≡ drop end mid = subst (λ (ls : List Left). filter test ls ≡ ls) (sym same) (rest_stays test old end (others_behind c.args.hart space old end ends)) in
    let whole : take c.args.left.now.len (mid ++ drop (length mid) old) ≡ mid = grind (arith, common_steps) in
    c.close_gap.ensures
    ∙ (ap (λ (ls : List Left). take kept ls ++ drop end ls) whole
    ∙ (ap (λ (ls : List Left). take kept mid ++ ls) (sym rest)
    ∙ (c.keep_others-kept.ensures.kept ∙ ap (filter test) c.as_mut_slice.ensures.value)))
