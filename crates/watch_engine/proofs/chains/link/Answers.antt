use Rattle.std.proofs.Common.{refl}
use Rattle.watch_engine.proofs.LastPlaces.{link_more}
use Rattle.watch_engine.proofs.chains.link.Goals as goal

pub returns : goal.returns
returns c =
    link_more _ c.args.keys.now c.args.links.now c.args.heads.now c.args.place _ c.requires.place c.requires.links refl
    c.bucket_of-bucket.ensures.within c.bucket_of-bucket.ensures.is c.requires.before
