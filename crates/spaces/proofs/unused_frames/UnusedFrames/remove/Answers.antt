use Rattle.std.proofs.Common.{◌%◌, List, ℕ, ap, ◌∙◌, arith, w64, eqb}
use Rattle.spaces.specs.UnusedFrames.{marked_in}
use Rattle.spaces.proofs.Marks.{marked_here, other_mark}
use Rattle.std.proofs.lemmas.Nat.Bits.{bit_at_clear_same, bit_at_clear_other}
use Rattle.spaces.proofs.unused_frames.UnusedFrames.remove.Goals as goal

pub returns-clause-here : goal.returns-clause-here
returns-clause-here c =
    let bit = bit_at_clear_same w64 _ (c.args.frame % 64) (omega arith) in
    marked_here c.self.inside.words c.args.frame _ (omega (arith, c.requires, c.self.told)) ∙ ap (λ b. eqb b 1) bit

pub returns-clause-others : goal.returns-clause-others
returns-clause-others c n apart =
    other_mark c.self.inside.words c.args.frame n _ apart (omega (arith, c.requires, c.self.told)) (λ i low other. bit_at_clear_other w64 _ (c.args.frame % 64) (omega arith) i low other)
    ∙ ap (λ (w : List ℕ). marked_in w n) c.self.view_is
