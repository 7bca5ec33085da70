use Rattle.std.proofs.Common.{◌∙◌, Bool, List, sym}
use Rattle.std.proofs.lemmas.Bool.{and_parts}
use Rattle.watch_engine.specs.declared.held.Held.{Held}
use Rattle.watch_engine.specs.Causes.{applies}
use Rattle.watch_engine.specs.Places.{has, is_there}
use Rattle.watch_engine.proofs.Changing.{none_narrower}
use Rattle.watch_engine.proofs.Emptying.{any_items}
use Rattle.watch_engine.proofs.held_list.HeldList.may_concern.Goals as goal

pub returns : goal.returns
returns c = λ no.
    let test : Held → Bool = applies c.args.cause.now in
    let items : List Held = c.args.self.now.places.items in
    sym (any_items test items)
    ∙ none_narrower test (has test) (λ i is. (and_parts (is_there i) (test i) is).1) items (c.may_concern_among.ensures no (c.keys_of_cause.ensures.all c.in-Some.keys c.in-Some.is))
