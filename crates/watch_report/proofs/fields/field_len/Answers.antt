use Rattle.std.proofs.Common.{◌≡◌, length, ap, ◌∙◌, rules}
use borrow.Author.Tests.{tests}
use Rattle.std.specs.List.{position, position_or_len}
use Rattle.std.specs.Option.{unwrap_or}
use Rattle.std.proofs.lemmas.Iterator.{YieldsList-from_slice}
use Rattle.std.proofs.lemmas.Iterator.Search.{position_from_yields_List}
use Rattle.std.proofs.lemmas.List.Sums.{prefix_len-le-length}
use Rattle.watch_report.specs.Fields.{is_separator}
use Rattle.watch_report.proofs.Positions.{unwrap_position}
use Rattle.watch_report.proofs.fields.field_len.Goals as goal

pub returns : goal.returns
returns c =
    let text = c.args.text.now in
    let found : c.position.result ≡ position is_separator text =
    position_from_yields_List is_separator _ _ c.position.result c.position.ensures.ran (YieldsList-from_slice text c.iter.ensures.rest) (λ x b q k. search (rules, tests)) in
    c.unwrap_or.ensures ∙ ap (λ found. unwrap_or found (length text)) found ∙ unwrap_position (position_or_len is_separator text) (length text) (prefix_len-le-length _ text)
