use Rattle.std.proofs.Common.{◌∙◌, ap, sym, not, option_map, string_bytes, rules}
use borrow.Author.Tests.{tests}
use Rattle.std.proofs.lemmas.Iterator.Consumers.{YieldsList-from_rest}
use Rattle.std.proofs.lemmas.Iterator.Search.{find_from_yields_List}
use Rattle.files.specs.KeyTable.{names_of}
use Rattle.files.proofs.KeyLemmas.{is_known_key, least_unknown-find, option_map-now}
use Rattle.files.proofs.documents.unknown_key.Goals as goal

pub returns : goal.returns
returns c =
    option_map-now c.find.result
    ∙ ap (option_map string_bytes)
    (find_from_yields_List (λ key. not (is_known_key (names_of c.args.command) key)) _ _ c.find.result c.find.ensures.ran (YieldsList-from_rest _ c.keys.ensures.rest) (λ x b q k. search (rules, tests)))
    ∙ sym (least_unknown-find (names_of c.args.command) c.args.table.now.entries c.keys.ensures.ordered)
