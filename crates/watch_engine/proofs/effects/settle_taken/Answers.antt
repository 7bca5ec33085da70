use Rattle.std.proofs.Common.{◌∙◌, ℕ, Bool, List, inl, map}
use Rattle.watch.specs.Computed.{is_mapped}
use Rattle.watch_engine.specs.declared.held.Held.{Held}
use Rattle.watch_engine.specs.State.{stale_of}
use Rattle.watch_engine.specs.Held.{is_current_by, settled_unless_stale, translation_of}
use Rattle.watch_engine.specs.View.{View, view_of}
use Rattle.watch_engine.proofs.Changing.{each_changed}
use Rattle.watch_engine.proofs.Effected.{stale_state, stale_stays}
use Rattle.watch_engine.proofs.effects.settle_taken.Goals as goal

pub returns : goal.returns
returns g c =
    let v : View = view_of c.args.view.now in
    let held : List Held = c.args.held.now in
    let roots : List ℕ = c.as_slice.result.now in
    let current : List ℕ → Held → Bool = λ rs i. is_current_by (is_mapped v.scheme v.words) rs (translation_of i) in
    let settle : List ℕ → Held → Held = λ rs i. settled_unless_stale (current rs i) v.count i in
    inl (c.apply.ensures.left
    ∙ (each_changed (λ i. stale_of (current roots i) v.count i.state) (λ i. (settle roots i).state) (λ i. stale_state (current roots i) v.count i.state) (λ i. stale_stays (current roots i) v.count i.state) held c.apply.ensures.there
    ∙ (λ j. map (settle (c.as_slice.ensures j)) held)))
