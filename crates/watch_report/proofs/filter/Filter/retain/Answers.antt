use Rattle.std.proofs.Common.{rules, ◌≡◌, length, sym, true}
use Rattle.std.proofs.lemmas.Fn.{filter_same}
use Rattle.watch_report.specs.Filters.{is_open, takes}
use Rattle.watch_report.proofs.FilterLemmas.{all_kept, none_kept}
use Rattle.watch_report.proofs.filter.Filter.retain.Goals as goal

pub returns-then-is_empty : goal.returns-then-is_empty
returns-then-is_empty c =
    let none : length c.args.warnings.now.items ≡ 0 = search rules in
    none_kept (takes c.args.self.now) c.args.warnings.now.items none

pub returns-then-is_open : goal.returns-then-is_open
returns-then-is_open c =
    let none : is_open c.args.self.now ≡ true = search rules in
    sym (all_kept c.args.self.now c.args.warnings.now.items none)

pub returns : goal.returns
returns c = filter_same _ _ _ (λ x b f called. search rules) _ _ c.retain.ensures.filtered
