use Rattle.std.proofs.Common.{◌≡◌, ◌≢◌, ◌∙◌, ap, drop, length, map, sym, take, arith}
use Rattle.std.specs.Int.Count.{count_trailing_zeros}
use Rattle.std.specs.Simd.Lanes.{mask_l}
use Rattle.std.proofs.lemmas.Simd.{leading_from_mask_l, length-chunk, trailing_mask_l}
use Rattle.watch_report.specs.Bytes.{is_either}
use Rattle.watch_report.proofs.FirstBytes.{found_lanes}
use Rattle.watch_report.proofs.bytes.before_in_block.Goals as goal

pub returns-then-found-eq0 : goal.returns-then-found-eq0
returns-then-found-eq0 c =
    let block = take 16 (drop c.args.at c.args.text.now) in
    let long : length block ≡ 16 = length-chunk c.args.at 16 c.args.text.now c.requires in
    sym (leading_from_mask_l (is_either c.args.a c.args.b) block (sym (found_lanes c.args.a c.args.b block long) ∙ c.if-found-eq0.true) ∙ long)

pub returns-else-found-eq0 : goal.returns-else-found-eq0
returns-else-found-eq0 c =
    let block = take 16 (drop c.args.at c.args.text.now) in
    let test = is_either c.args.a c.args.b in
    let long : length block ≡ 16 = length-chunk c.args.at 16 c.args.text.now c.requires in
    let found = found_lanes c.args.a c.args.b block long in
    let some : mask_l (map test block) ≢ 0 = λ none. c.if-found-eq0.false (found ∙ none) in
    ap (count_trailing_zeros 64) found ∙ trailing_mask_l test 64 block (omega (arith, long)) (omega (arith, some))
