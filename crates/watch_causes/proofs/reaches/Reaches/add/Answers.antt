use Rattle.std.proofs.Common.{◌∙◌, ◌∷◌, None, get_or, subst, sym}
use Rattle.watch_causes.specs.Moves.{AreWithin, fence_count}
use Rattle.watch_causes.specs.Reaching.{IsStart}
use Rattle.watch_causes.proofs.Reaching.{kept-within, on_both, start-after}
use Rattle.watch_causes.proofs.reaches.Reaches.add.Goals as goal

pub returns : goal.returns
returns c = λ scheme trace verdicts begun has count.
    let newest = c.args.newest.now in
    let old = c.args.self.now.moves in
    on_both c.add.result (c.add.ensures.tracks trace has.moves count) (c.add.ensures.kept trace has.moves count)
    (λ tracks kept.
    record {
      moves = tracks;
      findings = has.findings;
      within = subst (AreWithin (fence_count (newest ∷ trace))) (sym kept) (kept-within newest trace old.keeps old.kept.items has.within);
      used = has.used;
      long = has.long;
      starts = λ i d low.
          subst (λ ms. IsStart scheme (newest ∷ trace) ms (get_or begun i d) (get_or c.args.self.now.starts.items i None)) (sym kept)
          (start-after scheme newest trace old.kept.items has.within old.keeps (get_or begun i d) (get_or c.args.self.now.starts.items i None) (λ off. has.keeps off i) (has.starts i d low));
      keeps = λ off i. has.keeps (sym c.add.ensures.keeps ∙ off) i;
    })
