use Rattle.std.proofs.Common.{◌≡◌, ◌∙◌, ◌&&◌, ℕ, Bool, cond, ap, sym, length, length-set, slice_get, None, arith}
use Rattle.std.proofs.lemmas.Bool.{le-ltb}
use Rattle.std.proofs.lemmas.Option.{slice_get-get_or}
use Rattle.spaces.specs.Held.{held_at}
use Rattle.spaces.specs.Holders.{is_held_for}
use Rattle.spaces.specs.declared.places.Place.TheVariants.{Space}
use Rattle.spaces.proofs.Lists.{slice_get-set_same, slice_get-set_other}
use Rattle.spaces.proofs.GivingBack.{keeps-done, more-done, all-done, get-past}
use Rattle.std.specs.Prelude.{is_none}
use Rattle.spaces.specs.UnusedFrames.{marked_in}
use Rattle.spaces.proofs.MarkedFrames.{changed}
use Rattle.spaces.proofs.frame_use.free_frames.Goals as goal
use Rattle.spaces.proofs.frame_use.free_frames.Goals.{then-is_held_for, else-is_held_for}

pub loop-at-preserved : goal.loop-at-preserved
loop-at-preserved c =
    let xs = c.args.holders.now in
    let now = c.loop-at.holders in
    let at = c.loop-at.at in
    let i = c.loop-at.invariant in
    let less = c.loop-at-test.true in
    let own : ℕ → Bool = λ k. is_held_for (held_at (slice_get xs k)) (Space c.args.space) in
    let told : c.is_held_for.result ≡ own at =
    c.is_held_for.ensures ∙ ap (λ o. is_held_for (held_at o) (Space c.args.space)) (sym (slice_get-get_or now at _ (omega (arith, less, i.length))))
    ∙ ap (λ o. is_held_for o (Space c.args.space)) (i.holders at ∙ ap (λ b. cond (b && own at) None (held_at (slice_get xs at))) (le-ltb at at (omega arith)))
    in
    elim c.if-is_held_for.branch [
      | then-is_held_for w ↦ record {
        length = ap (λ l. length l) w.holders-is ∙ length-set now at None ∙ i.length;
        holders =
            more-done (λ k. held_at (slice_get xs k)) (λ k. held_at (slice_get now k)) (λ _. None) own at (λ k. held_at (slice_get c.if-is_held_for.holders k)) i.holders (sym told ∙ w.if-is_held_for.true)
            (ap (λ l. held_at (slice_get l at)) w.holders-is ∙ ap held_at (slice_get-set_same now at None (omega (arith, less, i.length))))
            (λ n apart. ap (λ l. held_at (slice_get l n)) w.holders-is ∙ ap held_at (slice_get-set_other now at n None apart));
        marks = λ n down.
            ap (λ u. marked_in u n) w.unused-is
            ∙ changed (marked_in c.loop-at.unused) (marked_in w.insert.new.self) now at None i.marks w.insert.ensures.here w.insert.ensures.others n
            (omega (arith, down, c.if-is_held_for.auto.holders, length-set now at None))
            ∙ sym (ap (λ l. is_none (held_at (slice_get l n))) w.holders-is);
      }
      | else-is_held_for w ↦ record {
        length = ap (λ l. length l) w.holders-is ∙ i.length;
        holders = λ n. ap (λ l. held_at (slice_get l n)) w.holders-is
            ∙ keeps-done (λ k. held_at (slice_get xs k)) (λ k. held_at (slice_get now k)) (λ _. None) own at i.holders (sym told ∙ w.if-is_held_for.false) n;
        marks = λ n down.
            ap (λ u. marked_in u n) w.unused-is ∙ i.marks n (omega (arith, down, c.if-is_held_for.auto.holders))
            ∙ sym (ap (λ l. is_none (held_at (slice_get l n))) w.holders-is);
      }
    ]

pub returns-clause-holders : goal.returns-clause-holders
returns-clause-holders c n =
    let xs = c.args.holders.now in
    all-done (λ k. held_at (slice_get xs k)) (λ k. held_at (slice_get c.loop-at.holders k)) (λ _. None) (λ k. is_held_for (held_at (slice_get xs k)) (Space c.args.space)) c.loop-at.at
    c.loop-at.invariant.holders n (λ past. sym (ap held_at (get-past xs n (omega (arith, c.loop-at-test.false, c.loop-at.invariant.length)))))
