use Rattle.std.proofs.Common.{◌≡◌, ◌∙◌, ◌++◌, ◌∷◌, ◌||◌, List, None, Option, [], ap, arith, get_or, length, subst, sym, ℕ}
use Rattle.std.specs.Prelude.{is_some}
use Rattle.std.proofs.lemmas.List.{length-append}
use Rattle.watch.specs.Trace.{satp_of}
use Rattle.watch_causes.specs.declared.moves.Move.{Move}
use Rattle.watch_causes.specs.declared.begun.Begun.{Begun}
use Rattle.watch_causes.specs.Moves.{AreWithin, fence_count, start_by}
use Rattle.watch_causes.specs.Reaches.{is_under}
use Rattle.watch_causes.specs.Reaching.{IsStart}
use Rattle.watch_causes.proofs.Reaching.{no-start, with-start}
use Rattle.watch_causes.proofs.reaches.Reaches.begin.Goals as goal

pub returns : goal.returns
returns c = λ scheme newest trace verdicts others has is.
    let b : Begun = c.args.begun in
    let old = c.args.self.now in
    let kept : List Move = old.moves.kept.items in
    let new-kept = c.start-start.new.self.kept.items in
    let same : new-kept ≡ kept = ap (λ v. v.items) c.start-start.ensures.kept in
    let own : Option ℕ = start_by (is_under b.warning.entry (satp_of (newest ∷ trace) b.warning.hart)) (length kept) in
    let start : c.start-start.result ≡ own = c.start-start.ensures.value (newest ∷ trace) has.moves in
    let items : c.push.new.self.items ≡ others ++ b ∷ [] = c.in_ok-push.ensures.items ∙ ap (λ bs. bs ++ b ∷ []) has.findings in
    let starts : c.push-2.new.self.items ≡ old.starts.items ++ own ∷ [] =
    c.in_ok-push-2.ensures.items ∙ ap (λ s. old.starts.items ++ s ∷ []) start in
    record {
      moves = c.start-start.ensures.tracks (newest ∷ trace) has.moves;
      findings = items;
      within = subst (AreWithin (fence_count (newest ∷ trace))) (sym same) has.within;
      used = has.used;
      long = omega (arith, ap length starts, length-append old.starts.items (own ∷ []), length-append others (b ∷ []), has.long);
      starts = λ i d low.
          subst (λ ms. IsStart scheme (newest ∷ trace) ms (get_or (others ++ b ∷ []) i d) (get_or c.push-2.new.self.items i None)) (sym same)
          (subst (λ ss. IsStart scheme (newest ∷ trace) kept (get_or (others ++ b ∷ []) i d) (get_or ss i None)) (sym starts)
          (with-start scheme newest trace kept others old.starts.items has.long has.starts b is i d low));
      keeps = λ off i.
          ap (λ ss. get_or ss i None) starts
          ∙ no-start scheme newest trace kept others old.starts.items has.long has.starts b is old.moves.keeps has.keeps
          (sym (c.start-start.ensures.keeps ∙ ap (λ s. is_some s || old.moves.keeps) start) ∙ off) i;
    }
