use Rattle.std.proofs.Common.{◌∙◌, sym, subst, ap, Option, ℕ}
use Rattle.tlb.specs.Fence.{is_fenced}
use Rattle.watch_engine.specs.declared.keys.Keys.{Keys}
use Rattle.watch_engine.specs.Keys.{IsAmong, key_of}
use Rattle.watch_engine.proofs.Keyed.{fenced_among, same_some}
use Rattle.watch_engine.proofs.concern.keys_of_fence.Goals as goal

pub returns-in-Some-clause-all : goal.returns-in-Some-clause-all
returns-in-Some-clause-all c = λ keys is scheme rs2 i fenced. subst (λ (k : Keys). IsAmong k (key_of k.by i)) (sym c.of_pages.ensures ∙ same_some _ _ is) (fenced_among scheme c.in-Some.va rs2 i.entry (ap (λ (rs1 : Option ℕ). is_fenced scheme rs1 rs2 i.entry) (sym c.in-Some.is) ∙ fenced))
