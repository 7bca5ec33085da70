use Rattle.std.proofs.Common.{Bor, List, ℕ, sym, ◌∙◌, arith}
use Rattle.files.specs.WalkFile.{ppn_of}
use Rattle.files.proofs.EachLemmas.{each_more, no_text}
use Rattle.files.proofs.walk_file.ppns.Goals as goal

pub loop-text-preserved : goal.loop-text-preserved
loop-text-preserved c = record {
  read =
      rw c.in_ok-push-in-Some.ensures.items
      (each_more (λ (text : Bor (List ℕ)). ppn_of text.now) c.args.texts.now c.loop-text.text-index c.loop-text.ppns.items no_text c.in-Some.ppn
      c.loop-text-test.true (sym c.in_ok-ppn.ensures.value ∙ c.in-Some.is) c.loop-text.invariant.read);
  few = omega (arith, c.in_ok-push-in-Some.ensures.len, c.loop-text.invariant.few);
}
