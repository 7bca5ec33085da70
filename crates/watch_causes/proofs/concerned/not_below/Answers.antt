use Rattle.std.proofs.Common.{◌∙◌}
use Rattle.std.proofs.lemmas.List.{take_rest}
use Rattle.watch_causes.proofs.Concerning.{behind-point}
use Rattle.watch_causes.proofs.concerned.not_below.Goals as goal

pub returns : goal.returns
returns c = λ rises.
    take_rest c.args.places.now c.count_below-below.result
    ∙ behind-point c.args.start c.args.places.now c.count_below-below.result (c.count_below-below.ensures.place rises) c.count_below-below.ensures.within
