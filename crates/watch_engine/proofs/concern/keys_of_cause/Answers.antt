use Rattle.std.proofs.Common.{◌∙◌, sym, subst, ap}
use Rattle.watch_engine.specs.declared.cause.Cause.{Cause}
use Rattle.watch_engine.specs.declared.keys.Keys.{Keys}
use Rattle.watch_engine.specs.Causes.{applies}
use Rattle.watch_engine.specs.Keys.{IsAmong, key_of}
use Rattle.watch_engine.proofs.Keyed.{same_some, used_among}
use Rattle.watch_engine.proofs.concern.keys_of_cause.Goals as goal

pub returns-in-Access-clause-all : goal.returns-in-Access-clause-all
returns-in-Access-clause-all c = λ keys is i used. subst (λ (k : Keys). IsAmong k (key_of k.by i)) (sym c.of_pages.ensures ∙ same_some _ _ is) (used_among c.in-Access.hart c.in-Access.space c.in-Access.address i (ap (λ (cause : Cause). applies cause i) (sym c.in-Access.is) ∙ used))
