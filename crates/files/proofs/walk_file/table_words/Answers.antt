use Rattle.std.proofs.Common.{Bor, List, ℕ, sym, ◌∙◌}
use Rattle.files.specs.Memory.{is_frame_of}
use Rattle.files.specs.WalkFile.{word_of}
use Rattle.files.proofs.EachLemmas.{each_more, no_text}
use Rattle.files.proofs.walk_file.table_words.Goals as goal

pub loop-text-preserved : goal.loop-text-preserved
loop-text-preserved c =
    rw c.in_ok-push-in-Some.ensures.items
    (each_more (λ (text : Bor (List ℕ)). word_of (is_frame_of c.args.frames.now) text.now) c.args.texts.now c.loop-text.text-index c.loop-text.words.items no_text c.in-Some.word
    c.loop-text-test.true (sym c.table_word.ensures ∙ c.in-Some.is) c.loop-text.invariant)
