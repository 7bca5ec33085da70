use Rattle.std.proofs.Common.{List, sym, subst, is_ok}
use Rattle.std.proofs.lemmas.List.Elements.{All-weaker}
use Rattle.std.specs.List.{All}
use Rattle.std.proofs.Math.Logic.{∥∥₁_map}
use Rattle.walk.specs.Maps.{page_number}
use Rattle.watch_engine.specs.declared.kept_ways.KnownWays.{KnownWays}
use Rattle.watch_engine.specs.KeptWays.{AreOfTable}
use Rattle.watch_engine.proofs.Keeping.{all-among, all-pushed}
use Rattle.watch_engine.proofs.kept_ways.KeptWays.keep.Goals as goal

pub returns-then-len-gt-MOST_WAYS : goal.returns-then-len-gt-MOST_WAYS
returns-then-len-gt-MOST_WAYS c = λ scheme words others since new kept are stay.
    let stays = stay c.if-not-stay.false in
    let before = AreOfTable scheme words since in
    let after = AreOfTable scheme others new in
    All-weaker before after (λ ways some. ∥∥₁_map some (stays ways.table ways.ways.items)) c.args.self.now.known.items kept

pub returns : goal.returns
returns c = λ scheme words others since new kept are stay.
    let stays = stay c.if-not-stay.false in
    let before = AreOfTable scheme words since in
    let after = AreOfTable scheme others new in
    let rest : List KnownWays = c.drop_oldest.new.self.known.items in
    let known : All before rest = all-among before c.args.self.now.known.items rest c.drop_oldest.ensures.rest kept in
    let still : All after rest = All-weaker before after (λ ways some. ∥∥₁_map some (stays ways.table ways.ways.items)) rest known in
    subst (All after) (sym c.push.ensures.items)
    (all-pushed after rest _ (is_ok c.push.result) still ∣ stays (page_number c.args.address) c.args.ways.items are ∣₁)
