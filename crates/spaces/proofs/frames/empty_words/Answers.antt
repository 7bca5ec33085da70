use Rattle.std.proofs.Common.{◌≡◌, ◌∙◌, ◌*◌, ℕ, Bool, length, ap, sym, slice_get, arith}
use Rattle.std.proofs.lemmas.Option.{slice_get-get_or}
use Rattle.spaces.specs.Held.{held_at}
use Rattle.spaces.specs.Holders.{is_held_for}
use Rattle.spaces.specs.declared.places.Place.TheVariants.{Space}
use Rattle.spaces.proofs.GivingBack.{keeps-cleared, more-cleared, all-cleared, get-past}
use Rattle.spaces.proofs.frames.empty_words.Goals as goal
use Rattle.spaces.proofs.frames.empty_words.Goals.{then-is_held_for, else-is_held_for}

pub loop-frame-preserved : goal.loop-frame-preserved
loop-frame-preserved c =
    let xs = c.args.words.now in
    let frame = c.loop-frame.frame in
    let i = c.loop-frame.invariant in
    let own : ℕ → Bool = λ k. is_held_for (held_at (slice_get c.args.holders.now k)) (Space c.args.space) in
    let told : c.is_held_for.result ≡ own frame =
    c.is_held_for.ensures ∙ ap (λ o. is_held_for (held_at o) (Space c.args.space)) (sym (slice_get-get_or c.args.holders.now frame _ c.loop-frame-test.true))
    in
    elim c.if-is_held_for.branch [
      | then-is_held_for w ↦ record {
        length = ap (λ l. length l) w.words-is ∙ w.clear.ensures.length ∙ i.length;
        words =
            more-cleared (slice_get xs) own (slice_get c.loop-frame.words) frame i.words (slice_get c.if-is_held_for.words) (frame * c.from-table.result) c.from-table.result
            (sym told ∙ w.if-is_held_for.true) (ap (λ k. frame * k) c.from-table.ensures) c.from-table.ensures
            (λ n. ap (λ l. slice_get l n) w.words-is ∙ w.clear.ensures.words n);
      }
      | else-is_held_for w ↦ record {
        length = ap (λ l. length l) w.words-is ∙ i.length;
        words = λ n. ap (λ l. slice_get l n) w.words-is ∙ keeps-cleared (slice_get xs) own (slice_get c.loop-frame.words) frame i.words (sym told ∙ w.if-is_held_for.false) n;
      }
    ]

pub returns-clause-words : goal.returns-clause-words
returns-clause-words c =
    let xs = c.args.words.now in
    all-cleared (slice_get xs) (λ k. is_held_for (held_at (slice_get c.args.holders.now k)) (Space c.args.space)) (slice_get c.loop-frame.words) c.loop-frame.frame c.loop-frame.invariant.words
    (slice_get c.clear-2.new.words) c.args.root (c.args.root * c.from-table.result) c.from.result (ap (λ k. c.args.root * k) c.from-table.ensures) c.from.ensures
    (λ n past. get-past xs n (omega (arith, c.loop-frame-test.false, c.requires.length, past))) c.clear-2.ensures.words
