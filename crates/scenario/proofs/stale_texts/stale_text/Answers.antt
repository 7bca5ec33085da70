use Rattle.std.proofs.Common.{◌≡◌, ◌<◌, List, [], ap, sym, ◌∙◌, subst}
use Rattle.std.specs.Prelude.{◌↔◌}
use Rattle.std.proofs.lemmas.Bool.{ltb-true, lt-ltb}
use Rattle.history.specs.Setup.{setup_of}
use Rattle.history.specs.declared.event.Event.{Event}
use Rattle.stale.specs.Told.{BecomesBy, EntryBecomesBy, IsToldBecoming, IsToldEntry, IsToldOrder, IsToldUse, OpensBy, UsedBy}
use Rattle.scenario.specs.StaleLines.{stale_lines, uses_in}
use Rattle.scenario.proofs.stale_texts.stale_text.Goals as goal

pub returns-clause-prints : goal.returns-clause-prints
returns-clause-prints c =
    let C = setup_of c.args.scenario.now.config in
    let items = c.in_ok-items.items.items in
    let events = c.as_slice.ensures.value in
    let same : c.uses_in.result ≡ uses_in items = c.uses_in.ensures ∙ ap uses_in c.as_slice-3.ensures.value in
    record {
      items = items;
      are = c.in_ok-text.ensures ∙ ap stale_lines c.as_slice-2.ensures.value;
      in_order = c.in_ok-items.ensures.in_order;
      once = c.in_ok-items.ensures.once C [] c.in-Ok.ensures.ok;
      some_used = (λ t. subst (λ n. 0 < n) same (ltb-true 0 c.uses_in.result t), λ less. lt-ltb 0 c.uses_in.result (subst (λ n. 0 < n) (sym same) less));
      becoming = λ number h m. subst (λ (es : List Event). BecomesBy C [] es number h m ↔ IsToldBecoming items number h m) events
          (c.in_ok-items.ensures.became C [] number h m c.in-Ok.ensures.ok);
      entries = λ number h e. subst (λ (es : List Event). EntryBecomesBy C [] es number h e ↔ IsToldEntry items number h e) events
          (c.in_ok-items.ensures.entries C [] number h e c.in-Ok.ensures.ok);
      uses = λ number h m. subst (λ (es : List Event). UsedBy C [] es number h m ↔ IsToldUse items number h m) events (c.in_ok-items.ensures.used C [] number h m c.in-Ok.ensures.ok);
      orders = λ number home ticket. subst (λ (es : List Event). IsToldOrder items number home ticket → OpensBy C [] es number home ticket) events
          (c.in_ok-items.ensures.orders C [] number home ticket c.in-Ok.ensures.ok);
    }
