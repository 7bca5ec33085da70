use Rattle.std.proofs.Common.{◌≡◌, true, get_or, sym, arith, rules}
use Rattle.std.proofs.lemmas.List.Sums.{position_or_len_is}
use Rattle.watch_report.specs.Bytes.{is_either}
use Rattle.watch_report.proofs.bytes.first_in_short.Goals as goal

pub returns-else-not-is_either : goal.returns-else-not-is_either
returns-else-not-is_either c =
    let either : is_either c.args.a c.args.b (get_or c.args.text.now c.single.at 0) ≡ true = search rules in
    sym (position_or_len_is (is_either c.args.a c.args.b) c.args.text.now c.single.at 0 c.single.invariant.within c.single.invariant.none (λ _. either))

pub returns-after-single : goal.returns-after-single
returns-after-single c =
    sym (position_or_len_is (is_either c.args.a c.args.b) c.args.text.now c.single.at 0 c.single.invariant.within c.single.invariant.none (λ less. absurd (omega (arith, less, c.single-test.false))))
