use Rattle.std.proofs.Common.{◌≡◌, ◌≤◌, List, length, rules, vec_len, arith}
use Rattle.history.specs.declared.event.Event.{Event}
use Rattle.history.specs.declared.reply.Reply.{Reply}
use Rattle.checks.specs.Told.{most_told}
use Rattle.checks.proofs.NoteLemmas.{short_at_end, short_enough, short_of_all}
use Rattle.checks.proofs.notes.short_maps.Goals.{else-loop-index-test, then-loop-index-test+in_default, then-loop-index-test+in-len1-up+then-len-ge-MOST_TOLD}
use Rattle.checks.proofs.notes.short_maps.Goals as goal

pub returns : goal.returns
returns c =
    let events : List Event = c.args.events.now in
    let replies : List Reply = c.args.replies.now in
    elim c.loop-index-test.branch [
      | else-loop-index-test w ↦ short_at_end events replies c.loop-index.index _ _ w.loop-index-test.false c.loop-index.invariant
      | then-loop-index-test+in_default w ↦ short_of_all events replies c.loop-index.index _ _ w.in_default.len_below c.loop-index.invariant
      | then-loop-index-test+in-len1-up+then-len-ge-MOST_TOLD w ↦
          (let many : length c.loop-index.short.items ≡ vec_len c.loop-index.short = search rules in
          let full : most_told ≤ length c.loop-index.short.items = omega (arith, many, w.len.ensures, w.if-len-ge-MOST_TOLD.true) in
          short_enough events replies c.loop-index.index _ _ full c.loop-index.invariant)
    ]
