use Rattle.std.proofs.Common.{◌∙◌, ap, sym, not}
use Rattle.std.specs.Prelude.{position}
use Rattle.watch_report.specs.CauseLines.{comes_before}
use Rattle.watch_report.proofs.CauseLemmas.{placed_at_end, placed_in_front}
use Rattle.watch_report.proofs.cause_line.place.Goals as goal

pub returns-in_ok-insert-in-Some : goal.returns-in_ok-insert-in-Some
returns-in_ok-insert-in-Some c =
    let found = sym (c.in-Some.ensures ∙ ap (position (λ next. not (comes_before next c.args.one))) c.as_slice.ensures.value) in
    c.in_ok-insert-in-Some.ensures.items ∙ placed_in_front c.args.one c.args.ones.now.items c.in-Some.at found

pub returns-in_ok-push-in-None : goal.returns-in_ok-push-in-None
returns-in_ok-push-in-None c =
    let none = sym (c.in-None.ensures ∙ ap (position (λ next. not (comes_before next c.args.one))) c.as_slice.ensures.value) in
    c.in_ok-push-in-None.ensures.items ∙ placed_at_end c.args.one c.args.ones.now.items none
