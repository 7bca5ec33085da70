use Rattle.std.proofs.Common.{ap, ◌∙◌, ◌++◌, ◌∷◌, [], map, slice_set}
use Rattle.std.proofs.lemmas.List.{map-set}
use Rattle.std.proofs.Math.Seq.{map-set_same}
use Rattle.harts.proofs.locked.push_to.Goals as goal

pub returns-clause-names : goal.returns-clause-names
returns-clause-names c = map-set_same (λ l. l.half.name) c.args.lists.now c.args.number _ c.index-lists-number.result c.push.ensures.3

pub returns-clause-lists : goal.returns-clause-lists
returns-clause-lists c = map-set (λ l. l.half.list) c.args.lists.now c.args.number _
    ∙ ap (λ w. slice_set (map (λ l. l.half.list) c.args.lists.now) c.args.number w) (c.push.ensures.1 ∙ ap (λ w. w ++ c.args.turn.now ∷ []) c.push.ensures.0)
