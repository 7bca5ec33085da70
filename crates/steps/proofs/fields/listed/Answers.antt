use Rattle.std.proofs.Common.{◌==◌, None, Some, ap, ◌∙◌, rules}
use borrow.Author.Tests.{tests}
use Rattle.std.specs.List.{fold}
use Rattle.std.proofs.lemmas.Iterator.Consumers.{fold_from_yields_List}
use Rattle.std.proofs.lemmas.Iterator.Splits.{YieldsList-from_slice_split}
use Rattle.steps.specs.Fields.{parts_of, with_part}
use Rattle.steps.proofs.fields.listed.Goals as goal

pub returns : goal.returns
returns c =
    fold_from_yields_List _ with_part (Some (record { set = c.new.result; greatest = None })) c.fold.result c.fold.ensures.ran
    (YieldsList-from_slice_split _ (λ byte. byte == 44) c.args.word.now (search rules) (search rules) (search rules) (λ x r q k. search (rules, tests)))
    (λ a x b q k. search rules)
    ∙ ap (λ set. fold with_part (Some (record { set = set; greatest = None })) (parts_of c.args.word.now)) c.new.ensures
