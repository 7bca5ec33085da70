use Rattle.std.proofs.Common.{◌∙◌, sym, ap, subst, Option}
use Rattle.watch.specs.declared.trace.AddressRange.{AddressRange}
use Rattle.watch.specs.Holding.{reaches}
use Rattle.watch_engine.specs.declared.keys.Keys.{Keys}
use Rattle.watch_engine.specs.Keys.{IsAmong, key_of}
use Rattle.watch_engine.proofs.Keyed.{same_some, reached_among}
use Rattle.watch_engine.proofs.concern.keys_of_range.Goals as goal

pub returns-clause-all : goal.returns-clause-all
returns-clause-all c = λ keys is i reached. subst (λ (k : Keys). IsAmong k (key_of k.by i)) (sym c.of_pages.ensures ∙ same_some _ _ is) (reached_among c.in-Some.range i.entry.page (ap (λ (r : Option AddressRange). reaches r i.entry.page) (sym c.in-Some.is) ∙ reached))
