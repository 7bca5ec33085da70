use Rattle.std.proofs.Common.{◌≡◌, ◌∙◌, sym, ap, subst, inl, inr, List, map, ◌+◌, ◌∷◌, [], ℕ, Bool}
use Rattle.std.specs.List.{list_all}
use Rattle.walk.specs.Leads.{Tables}
use Rattle.watch.specs.declared.trace.Record.TheVariants as records
use Rattle.watch.specs.declared.trace.Verdict.TheVariants.{Reuse}
use Rattle.watch.specs.Computed.{is_mapped}
use Rattle.watch_tables.specs.Words.{AreFilled}
use Rattle.watch_engine.specs.declared.cause.Cause.TheVariants.{Out}
use Rattle.watch_engine.specs.declared.held.Held.{Held}
use Rattle.watch_engine.specs.declared.held.LastLive.{LastLive}
use Rattle.watch_engine.specs.declared.left.Left.{Left}
use Rattle.watch_engine.specs.Held.{is_current_by, is_exposed_by, marked_if, remembered_all, settled_unless_stale, stays as root_stays, translation_of, without_frames}
use Rattle.watch_engine.specs.KeptWays.{AreKept}
use Rattle.watch_engine.specs.Warnings.{AreWarnings, joined}
use Rattle.watch_engine.specs.Standing.{Stands}
use Rattle.watch_engine.proofs.FrameChanges.{all_rooted, frames_stand}
use Rattle.watch_engine.proofs.Gathering.{SeenIn}
use Rattle.watch_engine.proofs.EmptyFrames.{kept-over}
use Rattle.watch_engine.proofs.Judging.{are_warnings, out_causes}
use Rattle.watch_engine.proofs.Marking.{still_same_out}
use Rattle.watch_engine.proofs.Standings.{on_err, some_remembered}
use Rattle.watch_engine.specs.View.{View}
use Rattle.watch_engine.specs.Watching.{view_in}
use Rattle.watch_engine.proofs.engine.Watch.give_out.Goals as goal

pub returns-in_err-remember_all-clause-err : goal.returns-in_err-remember_all-clause-err
returns-in_err-remember_all-clause-err g c = λ trace at.
    let watch = c.args.self.now in
    let v : View = view_in g.T.Tables.words g.T.Tables.since watch in
    let seen : List LastLive = c.as_slice-2.result.now in
    let addresses : List ℕ = c.in_ok-addresses.addresses.items in
    let all = subst (SeenIn v addresses) (sym c.as_slice-2.ensures.value)
    (subst (λ (many : List ℕ). SeenIn v many c.add_seen_in.new.seen.items) c.as_slice.ensures.value
    (subst (λ (w : View). SeenIn w c.as_slice.result.now c.add_seen_in.new.seen.items) c.view.ensures c.in_ok-add_seen_in.ensures)) in
    let e = c.in_err-remember_all.ensures.err in
    on_err _ _ (some_remembered at seen all.each e.0 _ e.1)

pub returns-clause-warnings : goal.returns-clause-warnings
returns-clause-warnings g c = λ hart trace at.
    let scheme = c.args.self.now.scheme in
    let frames = c.args.frames in
    let held : List Held = c.args.self.now.held in
    subst (AreWarnings scheme (records.GiveOut hart frames) trace) (sym (c.in_ok-given.ensures))
    (are_warnings scheme (records.GiveOut hart frames) trace (Out frames) _ (out_causes scheme hart frames trace) held at.are)

pub returns-clause-ok : goal.returns-clause-ok
returns-clause-ok g c = λ hart trace at.
    let watch = c.args.self.now in
    let v : View = view_in g.T.Tables.words g.T.Tables.since watch in
    let seen : List LastLive = c.as_slice-2.result.now in
    let addresses : List ℕ = c.in_ok-addresses.addresses.items in
    let all = subst (SeenIn v addresses) (sym c.as_slice-2.ensures.value)
    (subst (λ (many : List ℕ). SeenIn v many c.add_seen_in.new.seen.items) c.as_slice.ensures.value
    (subst (λ (w : View). SeenIn w c.as_slice.result.now c.add_seen_in.new.seen.items) c.view.ensures c.in_ok-add_seen_in.ensures)) in
    let held : List Held = watch.held in
    let frames = c.args.frames in
    let new : Tables = g.T.Tables.words c.clear.new.self in
    let these : List ℕ = c.drop_given-keeps.new.roots in
    let these_are : these ≡ without_frames frames watch.satps.spaces.items watch.roots = c.drop_given-keeps.ensures.roots ∙ (λ j. without_frames frames (c.spaces.ensures.value j) watch.roots) in
    let keeps : Bool = c.drop_given-keeps.result in
    let keeps_is : keeps ≡ list_all (root_stays frames watch.satps.spaces.items) watch.roots = c.drop_given-keeps.ensures.all ∙ (λ j. list_all (root_stays frames (c.spaces.ensures.value j)) watch.roots) in
    let mark : Held → Held = marked_if Reuse (is_exposed_by frames) in
    let settle : Held → Held = λ i. settled_unless_stale (is_current_by (is_mapped v.scheme new) these (translation_of i)) (watch.count + 1) i in
    let marks : c.mark_given.new.held ≡ map mark (remembered_all seen held) = c.mark_given.ensures ∙ ap (map mark) c.in_ok-remember_all.ensures.ok in
    subst (λ (ls : List Left). Stands (records.GiveOut hart frames ∷ trace) (record v { words = new; since = g.T.Tables.since c.clear.new.self; roots = these; left = ls; count = watch.count + 1 }) c.settle_taken.new.held watch.fences.items watch.claims.items)
    (sym (c.drop_given-keeps.ensures.left ∙ all_rooted at frames these these_are keeps keeps_is))
    (frames_stand at hart frames new (g.T.Tables.since c.clear.new.self) (c.clear.ensures.words hart) c.clear.ensures.others addresses c.in_ok-addresses.ensures these these_are seen all _
    (elim c.settle_taken.ensures [
      | inl is ↦ inl (is ∙ ap (map settle) marks)
      | inr none ↦ inr (sym c.as_slice-5.ensures.value ∙ none.0, sym keeps_is ∙ none.1, none.2 ∙ marks)
    ]))

pub mark_given-requires : goal.mark_given-requires
mark_given-requires g c = λ none.
    let held : List Held = c.args.self.now.held in
    let frames = c.args.frames in
    let seen : List LastLive = c.as_slice-2.result.now in
    let f : Held → Held = marked_if Reuse (is_exposed_by frames) in
    let empty : joined (Out frames) held [] ≡ [] = sym (c.in_ok-given.ensures) ∙ (sym c.as_slice-3.ensures.value ∙ none) in
    ap (map f) c.in_ok-remember_all.ensures.ok ∙ (still_same_out frames seen held empty ∙ sym c.in_ok-remember_all.ensures.ok)

pub invariant_of-self-3 : goal.invariant_of-self-3
invariant_of-self-3 g c =
    let watch = c.args.self.now in
    let scheme = watch.scheme in
    let words : Tables = g.T.Tables.words watch.tables in
    let new = g.T.Tables.since c.clear.new.self in
    let frames = c.args.frames in
    let kept = c.keep_unless_any.ensures in
    record {
      kept = λ place known among.
          let none : c.in_ok-addresses.addresses.items ≡ [] = sym c.as_slice-4.ensures.value ∙ kept.none place known among in
          let filled = subst (AreFilled words frames) none c.in_ok-addresses.ensures in
          subst (λ (w : Tables). AreKept scheme w new c.keep_unless_any.new.self) (sym (c.clear.ensures.words 0))
          (kept-over words (g.T.Tables.since watch.tables) new frames c.clear.ensures.others filled scheme watch.kept_ways c.keep_unless_any.new.self watch.kept kept.same) place known among;
    }
