use Rattle.std.proofs.Common.{leb, leb-true, leb-false, rules}
use Rattle.std.proofs.lemmas.List.Sorted.{IsPartitionPoint-from_clause, IsPartitionedBy-leb}
use Rattle.watch_report.specs.declared.lines.Run.{Run}
use Rattle.watch_report.proofs.lines.count_up_to.Goals as goal

pub returns-clause-place : goal.returns-clause-place
returns-clause-place c = λ order.
    let parted = IsPartitionedBy-leb (λ (r : Run). r.first) _ c.args.number order in
    let point = IsPartitionPoint-from_clause (λ (r : Run). leb r.first c.args.number) _ _ c.partition_point.ensures.partitioned parted (λ a r q k. search rules) in
    ((λ k d from early. leb-true _ _ (point.0 k d from early)), (λ k d from within. leb-false _ _ (point.1 k d from within)))
