use Rattle.std.proofs.Common.{◌≡◌, ◌∙◌, ap, List, filter, None, Option, ℕ}
use Rattle.watch_engine.specs.declared.held.Held.{Held}
use Rattle.watch_engine.specs.declared.left.PastFence.{PastFence}
use Rattle.watch_engine.specs.declared.open.OpenFence.{OpenFence}
use Rattle.watch_engine.specs.Held.{outlives_remote}
use Rattle.watch_engine.specs.Left.{ended}
use Rattle.watch_engine.specs.Open.{newest_fence}
use Rattle.watch_engine.proofs.FenceChanges.{remote_end_stands}
use Rattle.watch_engine.proofs.engine.Watch.end_fence.Goals as goal

pub returns-clause-ok : goal.returns-clause-ok
returns-clause-ok g c = λ hart trace at.
    let scheme = c.args.self.now.scheme in
    let token : ℕ = c.args.token in
    let held : List Held = c.args.self.now.held in
    let drops : List PastFence = c.args.self.now.drops.fences.items in
    let is : c.newest-fence.result ≡ newest_fence token None c.args.self.now.fences.items = c.newest-fence.ensures ∙ ap (newest_fence token None) c.as_slice.ensures.value in
    remote_end_stands at hart token _ _ _
    (c.drop_remote.ensures ∙ ap (λ (f : Option OpenFence). filter (outlives_remote scheme f) held) is)
    (c.in_ok-add_ended.ensures.ok ∙ ap (λ (f : Option OpenFence). ended f drops) is)
    c.end_all.ensures
