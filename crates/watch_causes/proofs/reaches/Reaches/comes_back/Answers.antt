use Rattle.std.proofs.Common.{◌∙◌, ap, sym}
use Rattle.watch_causes.specs.Decisions.{comes_from}
use Rattle.watch_causes.specs.Returns.{last_in}
use Rattle.watch_causes.proofs.Returning.{gone-away}
use Rattle.watch_causes.proofs.reaches.Reaches.comes_back.Goals as goal

pub returns-then-is_gone : goal.returns-then-is_gone
returns-then-is_gone c = λ are listed.
    let w = c.args.warning.now in
    let fences = c.args.fences.now in
    let moves = c.args.self.now.moves.kept.items in
    sym (
    ap (comes_from c.args.scheme fences moves w) c.in-Some.is
    ∙ gone-away c.args.scheme w fences moves (last_in c.args.lasts.now w) c.in-Some.start c.is_gone.result c.is_gone.ensures c.if-is_gone.true (are w)
    )
