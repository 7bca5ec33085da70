use Rattle.std.proofs.Common.{nat_eq, ap, ◌∙◌, arith}
use Rattle.std.proofs.lemmas.List.Filters.{dedup_is}
use Rattle.std.proofs.lemmas.Map.Keys.{IsStrictlyIncreasing-dedup}
use Rattle.files.specs.Memory.{is_listed}
use Rattle.files.proofs.MemoryLemmas.{sorted_listed}
use Rattle.files.proofs.frames.Frames.new.Goals as goal

pub invariant_of-result : goal.invariant_of-result
invariant_of-result c = record {
  few = omega (arith, c.dedup.ensures.bound, c.in_ok-sort.ensures.len, c.requires);
  rising = rw (dedup_is nat_eq _ _ c.dedup.ensures.filtered) (IsStrictlyIncreasing-dedup c.sort.new.self.items c.in_ok-sort.ensures.sorted);
}

pub returns : goal.returns
returns c =
    ap is_listed (dedup_is nat_eq _ _ c.dedup.ensures.filtered) ∙ sorted_listed c.args.ppns.items c.sort.new.self.items c.in_ok-sort.ensures.permutation
