use Rattle.std.proofs.Common.{inl, inr, arith}
use Rattle.std.proofs.lemmas.Bool.{cases_lt}
use Rattle.stale.proofs.lasting.unmapped_from.Goals as goal

pub loop-number-preserved : goal.loop-number-preserved
loop-number-preserved c = record {
  from = let old = c.loop-number.invariant.from in let further = c.in-Some.ensures.further in omega (arith, old, further);
  mapped = λ n from below within. elim (cases_lt n c.loop-number.number) [
    | inl before ↦ c.loop-number.invariant.mapped n from before within
    | inr after ↦ c.in-Some.ensures.some n after below (c.requires.in_page n from within)
  ];
}
