use Rattle.std.proofs.Common.{◌≡◌, ℕ, not, length, ap, ◌∙◌, rules}
use borrow.Author.Tests.{tests}
use Rattle.std.specs.List.{position, position_or_len}
use Rattle.std.specs.Option.{unwrap_or}
use Rattle.std.proofs.lemmas.Iterator.{YieldsList-from_slice}
use Rattle.std.proofs.lemmas.Iterator.Search.{position_from_yields_List}
use Rattle.std.proofs.lemmas.List.Sums.{prefix_len-le-length}
use Rattle.watch_report.specs.LineFaults.{is_printable}
use Rattle.watch_report.proofs.Positions.{unwrap_position}
use Rattle.watch_report.proofs.word_faults.first_wrong.Goals as goal

pub returns : goal.returns
returns c =
    let text = c.args.word.now in
    let found : c.position.result ≡ position (λ (byte : ℕ). not (is_printable byte)) text =
    position_from_yields_List (λ (byte : ℕ). not (is_printable byte)) _ _ c.position.result c.position.ensures.ran (YieldsList-from_slice text c.iter.ensures.rest) (λ x b q k. search (rules, tests)) in
    c.unwrap_or.ensures ∙ ap (λ found. unwrap_or found (length text)) found
    ∙ unwrap_position (position_or_len (λ (byte : ℕ). not (is_printable byte)) text) (length text) (prefix_len-le-length _ text)
