use Rattle.std.proofs.Common.{refl, subst}
use Rattle.watch_engine.specs.declared.keys.Keys.{Keys}
use Rattle.watch_engine.specs.Keys.{IsAmong, key_of}
use Rattle.watch_engine.proofs.Keyed.{same_some, shared_among}
use Rattle.watch_engine.proofs.concern.keys_of_frames.Goals as goal

pub returns-clause-all : goal.returns-clause-all
returns-clause-all c = λ keys is i shared. subst (λ (k : Keys). IsAmong k (key_of k.by i)) (same_some _ _ is) (shared_among c.args.frames.now i.entry _ refl shared)
