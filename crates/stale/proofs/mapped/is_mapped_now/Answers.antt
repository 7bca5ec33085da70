use Rattle.walk.specs.Maps.{page_number}
use Rattle.stale.specs.Mapped.{mapping_of}
use Rattle.stale.proofs.Bridge.{mapped_now}
use Rattle.stale.proofs.mapped.is_mapped_now.Goals as goal

pub returns : goal.returns
returns c = λ C H stands.
    let p = mapping_of c.args.entry.now (page_number c.args.va) in
    let now = mapped_now C c.args.machine.now H stands p in
    let is = rw c.get.ensures.value at c.is_mapped.ensures in
    (λ t. now.0 (is.0 t), λ m. is.1 (now.1 m))
