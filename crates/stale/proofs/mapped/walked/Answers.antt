use Rattle.stale.proofs.mapped.walked.Goals as goal

pub returns : goal.returns
returns c = rw (c.scheme.ensures, c.root-root.ensures.value) at c.translate_in.ensures
