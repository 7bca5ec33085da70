use Rattle.std.proofs.Common.{◌≡◌, rules, ap, ◌∙◌, ◌++◌, ◌∷◌, [], length, map, slice_set}
use Rattle.std.proofs.Math.ListN.{take, drop}
use Rattle.std.proofs.Math.Seq.{take-append_seam}
use Rattle.harts.specs.Turns.{IsInterleaving}
use Rattle.harts.proofs.Woven.{woven_after, within}
use Rattle.harts.proofs.locked.Kept.call.Goals as goal

pub invariant_of-self-2 : goal.invariant_of-self-2
invariant_of-self-2 g c =
    let lists = c.as_mut_slice.result.now in let new = c.push_to.new.lists in let mine = c.args.mine.now in
    let here : lists ≡ c.self.inside.lists.items = search rules in
    let named : map (λ l. l.half.name) lists ≡ g.C.Named.lists = rw here c.self.invariant.0 in
    let woven : IsInterleaving (map (λ l. l.half.list) lists) c.self.inside.book = rw here c.self.invariant.1 in
    let long : c.self.inside.lists.len ≡ length new = search rules in
    let rest = drop (length new) c.self.inside.lists.items in
    let back : take c.self.inside.lists.len (new ++ rest) ≡ new = ap (λ n. take n (new ++ rest)) long ∙ take-append_seam new rest in
    rw back (
      c.push_to.ensures.names ∙ named,
      woven_after (map (λ l. l.half.list) lists) (map (λ l. l.half.list) new) c.self.inside.book c.note.new.self mine.number (c.args.event, c.in_ok-reply.reply) mine.turns.list
          (within (λ l. l.half.name) (λ l. l.half.list) lists _ mine.number named mine.within) c.push_to.ensures.same woven
          (c.push_to.ensures.lists ∙ ap (λ t. slice_set (map (λ l. l.half.list) lists) mine.number (mine.turns.list ++ t ∷ [])) c.turn_of.ensures) c.in_ok-reply.ensures.appended,
    )
