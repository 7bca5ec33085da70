use Rattle.std.proofs.Common.{rules, ℕ, List, ◌==◌, length}
use Rattle.std.proofs.lemmas.Iterator.Search.{any_from_yields_List}
use Rattle.std.proofs.lemmas.Iterator.Splits.{YieldsList-from_slice_split}
use borrow.Author.Tests.{tests}
use Rattle.watch_report.specs.Fields.{is_separator}
use Rattle.watch_report.proofs.known_words.has_space_too_many.Goals as goal

pub returns : goal.returns
returns c =
    any_from_yields_List (λ (word : List ℕ). length word == 0) _ _ _ c.any.ensures.ran
    (YieldsList-from_slice_split _ is_separator c.args.text.now c.split.ensures.rest c.split.ensures.done c.split.ensures.closure (λ x r q k. search (rules, tests)))
    (λ x b q k. search (rules, tests))
