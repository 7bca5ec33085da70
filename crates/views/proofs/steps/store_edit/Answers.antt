use Rattle.std.proofs.Common.{◌+◌, ◌≡◌, ap, sym, ◌∙◌, subst}
use Rattle.spaces.specs.Layout.{layout_of}
use Rattle.views.specs.Rule.{Local}
use Rattle.views.specs.OrderTurns.{noted, orders_after}
use Rattle.views.proofs.EditKeeps.{edited-local, word-there}
use Rattle.views.proofs.Pairs.{edits}
use Rattle.views.proofs.steps.store_edit.Goals as goal

pub word_index-at-requires-clause-word : goal.word_index-at-requires-clause-word
word_index-at-requires-clause-word c =
    rw (c.ppn.ensures, c.index.ensures)
    (word-there (layout_of c.args.config.now) c.args.seat.now.view c.requires.fit.local c.args.wish.now c.requires.place c.args.edit.now c.requires.due)

pub store-requires-clause-steps : goal.store-requires-clause-steps
store-requires-clause-steps c =
    rw (c.requires.fit.key_is, c.word_index-at.ensures.value, c.ppn.ensures, c.index.ensures, c.word.ensures)
    (edits c.args.config.now c.args.seat.now.id c.args.seat.now.view c.args.wish.now c.args.ticket c.args.edit.now c.requires.place c.requires.asked c.requires.due)

pub returns-clause-fit : goal.returns-clause-fit
returns-clause-fit c =
    let view : c.store.new.seat.view ≡ noted c.args.config.now c.args.wish.now c.args.ticket c.args.seat.now.view c.args.edit.now =
    c.store.ensures.view ∙ ap (λ k. noted k c.args.wish.now c.args.ticket c.args.seat.now.view c.args.edit.now) c.requires.fit.key_is
    in
    record {
      limits = c.requires.fit.limits;
      key_is = c.requires.fit.key_is;
      words_are = c.requires.fit.words_are;
      same = c.store.ensures.same ∙ c.requires.fit.same;
      config = ap (λ v. v.config) view ∙ c.requires.fit.config;
      number = c.store.ensures.id ∙ (c.requires.fit.number ∙ sym (ap (λ v. v.hart) view));
      on_board = c.store.ensures.on_board;
      local =
          subst (Local (layout_of c.args.config.now)) (sym view)
          (edited-local (layout_of c.args.config.now) c.args.seat.now.view c.requires.fit.local c.args.wish.now c.requires.place c.args.edit.now c.requires.due (orders_after c.args.config.now c.args.wish.now c.args.ticket c.args.edit.now (c.args.seat.now.view.stores + 1) c.args.seat.now.view.orders));
    }
