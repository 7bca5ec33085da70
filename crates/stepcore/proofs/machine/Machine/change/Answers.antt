use Rattle.std.proofs.Common.{rules, ap, ◌∙◌}
use Rattle.spaces.specs.Applied.{holders_after, words_after_store}
use Rattle.stepcore.specs.State.{State, words_in, holders_in}
use Rattle.stepcore.proofs.Edits.{change_answers, change_follows}
use Rattle.stepcore.proofs.machine.Machine.change.Goals as goal

pub returns : goal.returns
returns c =
    let m = c.args.self.now in
    let edit = c.in_ok-edit.edit in
    let opens = c.in_ok-ticket.ensures.after in
    change_answers m c.store.new.self c.args.hart c.args.named c.args.wish.now _ c.requires (search rules) (search rules)
    (change_follows m c.open_ticket.new.self c.store.new.self c.args.hart c.args.named c.in_ok-ticket.ticket _ opens c.store.ensures.others c.args.wish.now edit c.requires
    (search rules)
    (record {
      memory = c.due_edit.ensures.memory;
      has = c.in_ok-edit.ensures.has;
      page = search rules;
      is = c.in_ok-edit.ensures.is;
      layout = c.store.ensures.layout ∙ ap (λ (s : State). s.memory.layout) opens;
      words = λ ppn i. c.store.ensures.words ppn i ∙ ap (λ (s : State). words_after_store (words_in s) edit ppn i) opens;
      holders = λ p. c.store.ensures.holders p ∙ ap (λ (s : State). holders_after (holders_in s) edit.place edit p) opens;
    }))
    (search rules)

pub returns-in_err-edit : goal.returns-in_err-edit
returns-in_err-edit c = record { reply = search rules; follows = search rules; refused = search rules; page = search rules }

pub returns-in_err-ticket : goal.returns-in_err-ticket
returns-in_err-ticket c = record { reply = search rules; follows = search rules; refused = search rules; page = search rules }
