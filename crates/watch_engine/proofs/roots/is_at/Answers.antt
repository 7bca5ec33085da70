use Rattle.std.proofs.Common.{◌∙◌, sym, rules, ◌<◌, length}
use Rattle.std.proofs.lemmas.Bool.{le-ltb}
use Rattle.watch_engine.proofs.RootOrder.{at_place, past_end}
use Rattle.watch_engine.proofs.roots.is_at.Goals as goal

pub returns-then-place-ppns : goal.returns-then-place-ppns
returns-then-place-ppns c =
    let here : c.args.place < length c.args.ppns.now = search rules in
    at_place c.args.ppns.now c.args.place c.args.ppn 0 c.requires.place c.requires.order here

pub returns-else-place-ppns : goal.returns-else-place-ppns
returns-else-place-ppns c =
    le-ltb c.args.place (length c.args.ppns.now) c.if-place-ppns.false
    ∙ sym (past_end c.args.ppns.now c.args.place c.args.ppn c.requires.place c.if-place-ppns.false)
