-- What frames that are given out leave.
use Rattle.std.proofs.Common.{◌≡◌, ℕ, Bool, true, false, ◌+◌, ◌<◌, ◌≤◌, ◌⊎◌, zero, suc, Option, Some, None, List, [], ◌∷◌, length, get_or, map, filter, IsTrue, ap, sym, ◌∙◌, subst, refl, inl, inr, arith}
use Rattle.std.specs.Prelude.{◌==◌, ◌||◌, cond, is_some, not}
use Rattle.std.specs.List.{list_all, list_any}
use Rattle.std.proofs.lemmas.Bool.{and_from, and_parts, cases_Bool, false_from_ne_true, not-true, not_from_false, or_left, true≢false}
use Rattle.pte.specs.Address.{level_of, top_level, vpn_of}
use Rattle.walk.specs.Leads.{Tables}
use Rattle.walk.proofs.Paths.{leads-start}
use Rattle.tlb.specs.declared.store.Entry.{Entry}
use Rattle.watch.specs.declared.trace.Frames.{Frames}
use Rattle.watch.specs.declared.trace.Record.{Record}
use Rattle.watch.specs.declared.trace.Record.TheVariants.{GiveOut}
use Rattle.watch.specs.declared.trace.Verdict.TheVariants.{Reuse}
use Rattle.watch.specs.Trace.{Trace, index_of, is_among, is_root, is_used, words_after, words_of}
use Rattle.watch.specs.Holding.{HasLeaf, Translation}
use Rattle.watch.specs.Staleness.{IsMapped, IsRootFor}
use Rattle.watch.specs.Computed.{is_mapped}
use Rattle.watch.specs.ComputedTraces.{has_verdict, is_current, is_stale}
use Rattle.watch.proofs.ComputedTraces.{current_iff}
use Rattle.watch_engine.specs.declared.held.Held.{Held}
use Rattle.watch_engine.specs.declared.held.LastLive.{LastLive}
use Rattle.watch_engine.specs.declared.left.Left.{Left}
use Rattle.watch_engine.specs.declared.open.OpenClaim.{OpenClaim}
use Rattle.watch_engine.specs.declared.open.OpenFence.{OpenFence}
use Rattle.watch_engine.specs.Held.{is_current_by, is_exposed_by, marked_if, remembered_all, settled_unless_stale, stale_since, stays as root_stays, translation_of, with_state, without_frames}
use Rattle.watch_engine.specs.State.{given_all, rechecked, since_of}
use Rattle.watch_engine.specs.Left.{IsLeftAt, has_its_root}
use Rattle.watch_engine.specs.Seen.{AreSeen, PassesAny}
use Rattle.watch_engine.specs.Follows.{AreHeld, IsKnown}
use Rattle.watch_engine.specs.Standing.{AreRoots, IsLeftWithin, Stands}
use Rattle.watch_tables.specs.Through.{Passes}
use Rattle.watch_tables.specs.Words.{AreFilled}
use Rattle.watch_engine.proofs.Changes.{PassesIn, Stays, filled, stays_or_passes}
use Rattle.watch_engine.proofs.Leaving.{any_weaker, each_kept, filter_each, filter_in, filter_out}
use Rattle.watch_engine.proofs.Lists.{KeepsKey, filter_same, state_keeps}
use Rattle.watch_engine.proofs.MemoryChanges.{IsChange, changed_ages, changed_are}
use Rattle.watch_engine.proofs.Moments.{held_stale, stale_some}
use Rattle.watch_engine.proofs.Rechecks.{given_since, unless_stale}
use Rattle.watch_engine.proofs.Records.{all_pass, marked_known, quiet_given, reused_by}
use Rattle.watch_engine.proofs.SpaceRoots.{all_stay, current_same, roots_current, roots_left}
use Rattle.watch_engine.proofs.Standings.{more_records}
use Rattle.watch_engine.proofs.Steps.{After, given_at}
use Rattle.watch_engine.specs.View.{PassesAt, View}

passes-at : (v : View) (root : ℕ) (e : Entry) (address : ℕ) → PassesAt v address root e → (addresses : List ℕ) (k : ℕ) → k < length addresses → get_or addresses k address ≡ address → PassesAny v addresses root e
passes-at v root e address p [] k within is = absurd (omega arith)
passes-at v root e address p (a ∷ addresses) zero within is = inl (subst (λ b. PassesAt v b root e) (sym is) p)
passes-at v root e address p (a ∷ addresses) (suc k) within is = inr (passes-at v root e address p addresses k (omega arith) is)

-- words that are not other than 0 are 0
not-other : (o : Option ℕ) → ((o ≡ Some 0 → ⊥) → ⊥) → o ≡ Some 0
not-other None f = absurd (f (λ e. cc))
not-other (Some zero) f = refl
not-other (Some (suc n)) f = absurd (f (λ e. cc))

twice : (f g : Held → Held) (held : List Held) → map f (map g held) ≡ map (λ i. f (g i)) held
twice f g [] = refl
twice f g (i ∷ held) = ap (λ is. f (g i) ∷ is) (twice f g held)

-- where all roots stay, so do all spaces that were left
pub all_rooted : {trace : Trace} {v : View} {held : List Held} {fences : List OpenFence} {claims : List OpenClaim}
    → Stands trace v held fences claims → (frames : Frames) (these : List ℕ) → these ≡ without_frames frames v.satps v.roots
    → (keeps : Bool) → keeps ≡ list_all (root_stays frames v.satps) v.roots → cond keeps v.left (filter (has_its_root these) v.left) ≡ filter (has_its_root these) v.left
all_rooted at frames these are false all = refl
all_rooted {trace = trace} {v = v} at frames these are true all =
    let same : these ≡ v.roots = are ∙ all_stay (root_stays frames v.satps) v.roots (sym all) in
    sym (each_kept (IsLeftWithin trace v.drops) (has_its_root these) (λ l w. ap (list_any (λ r. r == l.space.root)) same ∙ (at.spaces l.space.root ∙ w.root)) v.left at.leaving)

module _ {trace : Trace} {v : View} {held : List Held} {fences : List OpenFence} {claims : List OpenClaim}
    (at : Stands trace v held fences claims) (by : ℕ) (frames : Frames) (new : Tables) (ages : ℕ → ℕ → ℕ) (clears : new ≡ words_after (GiveOut by frames) v.words)
    (others : (t i : ℕ) → is_among frames t ≡ false → ages t i ≡ v.since t i) (addresses : List ℕ)
    (filled_are : AreFilled v.words frames addresses)
    (these : List ℕ) (these_are : these ≡ without_frames frames v.satps v.roots) where
  abbrev newest : Record
  newest = GiveOut by frames

  abbrev is_in : ℕ → ℕ → Bool
  is_in t i = is_among frames t

  abbrev Goes : ℕ → Entry → Type 0
  Goes = PassesAny v addresses

  abbrev kept : List Left
  kept = filter (has_its_root these) v.left

  agree : (t i : ℕ) → is_in t i ≡ false → new t i ≡ v.words t i
  agree t i h = (λ j. clears j t i) ∙ ap (λ b. cond b (Some 0) (v.words t i)) h

  spaces : AreRoots (newest ∷ trace) these
  spaces = subst (AreRoots (newest ∷ trace)) (sym these_are) (roots_left trace by frames v.satps v.roots at.satp at.spaces)

  memory : new ≡ words_of (newest ∷ trace)
  memory = clears ∙ ap (words_after newest) at.memory

  goes : (root : ℕ) (e : Entry) → HasLeaf v.scheme v.words root e → PassesIn v.scheme v.words new is_in agree root e.page.base (level_of e.page.size) → Goes root e
  goes root e leaf passes =
      let there = filled_are.each passes.table (vpn_of e.page.base passes.at) passes.within (filled v.scheme v.words root e leaf passes.at passes.table passes.from passes.before) in
      let p : Passes v.scheme v.words root passes.table (vpn_of e.page.base passes.at) e.page = record { at = passes.at; from = passes.from; asked = refl; leads = passes.before } in
      passes-at v root e there.address
      (subst (λ t. Passes v.scheme v.words root t (index_of there.address) e.page) (sym there.frame) (subst (λ n. Passes v.scheme v.words root passes.table n e.page) (sym there.place) p))
      addresses there.among.0 there.among.1 there.among.2

  root-stays : (root : ℕ) (e : Entry) → IsTrue (is_root trace root) → Stays v.scheme v.words new is_in agree root e → IsTrue (is_root (newest ∷ trace) root)
  root-stays root e is stays =
      let level : level_of e.page.size ≤ top_level v.scheme = stays.leaf.page.level in
      let other = (stays.path (top_level v.scheme) root level (leads-start v.scheme new root e.page.base)).0 in
      and_from _ _ (or_left (not (is_among frames root)) (is_used trace root) (not_from_false (is_among frames root) other)) is

  is_change : IsChange at newest is_in new ages Goes kept
  is_change = record {
    agree = agree;
    same = others;
    late = λ t i h filled. absurd (filled ((λ j. clears j t i) ∙ ap (λ b. cond b (Some 0) (v.words t i)) h));
    memory = memory;
    satp_same = λ hart. refl;
    none = λ hart x. refl;
    goes = goes;
    root_stays = root-stays;
    out = λ Q a. any_weaker (λ l. Q l × (has_its_root these l ≡ true)) Q (λ l h. h.0) v.left (filter_out Q (has_its_root these) v.left a);
    into = λ Q a. filter_in Q (has_its_root these) v.left (any_weaker (λ l. Q l × IsTrue (is_root (newest ∷ trace) l.space.root)) (λ l. Q l × (has_its_root these l ≡ true)) (λ l h. (h.0, spaces l.space.root ∙ h.1)) v.left a);
    each = filter_each (IsLeftWithin trace v.drops) (IsLeftWithin (newest ∷ trace) v.drops) (has_its_root these)
        (λ l w t. record { root = sym (spaces l.space.root) ∙ t; within = let less = w.within in omega arith; fences = w.fences }) v.left at.leaving;
  }

  abbrev mark : Held → Held
  mark = marked_if Reuse (is_exposed_by frames)

  tests : (x : Translation) → is_current_by (is_mapped v.scheme new) these x ≡ is_current v.scheme (newest ∷ trace) x
  tests x = ap (λ w. is_current_by (is_mapped v.scheme w) these x) memory ∙ roots_current v.scheme (newest ∷ trace) these spaces x

  abbrev settle : Held → Held
  settle i = settled_unless_stale (is_current_by (is_mapped v.scheme new) these (translation_of i)) (v.count + 1) i

  -- what the tables have was there before
  before : (root : ℕ) (x : Translation) → IsMapped v.scheme new (record x { root = root }) → IsMapped v.scheme v.words (record x { root = root })
  before root x m =
      let e : Entry = record x.entry { flags = m.flags } in
      let leaf : HasLeaf v.scheme v.words root e =
      elim (stays_or_passes v.scheme new v.words is_in (λ t i h. sym (agree t i h)) root e m.leaf) [
        | inl stays ↦ stays.leaf
        | inr passes ↦
            let i : ℕ = vpn_of e.page.base passes.at in
            let none : new passes.table i ≡ Some 0 = (λ j. clears j passes.table i) ∙ ap (λ b. cond b (Some 0) (v.words passes.table i)) passes.within in
            absurd (filled v.scheme new root e m.leaf passes.at passes.table passes.from passes.before none)
      ] in
      record { flags = m.flags; permit = m.permit; leaf = leaf }

  current-before : (x : Translation) → is_current v.scheme (newest ∷ trace) x ≡ true → is_current v.scheme trace x ≡ true
  current-before x h =
      let c = (current_iff v.scheme (newest ∷ trace) x).0 h in
      let counts : IsRootFor trace x c.root = elim c.counts [
        | inl own ↦ inl own
        | inr g ↦ inr (g.0, (and_parts (not (is_among frames c.root) || is_used trace c.root) (is_root trace c.root) g.1).1)
      ] in
      (current_iff v.scheme trace x).1 (record {
        root = c.root;
        counts = counts;
        mapped = subst (λ w. IsMapped v.scheme w (record x { root = c.root })) at.memory
            (before c.root x (subst (λ w. IsMapped v.scheme w (record x { root = c.root })) (sym memory) c.mapped));
      })

  stale-still : (i : Held) → IsKnown v.scheme trace i → is_some (stale_since i) ≡ true → is_current v.scheme (newest ∷ trace) (translation_of i) ≡ false
  stale-still i known some =
      let x : Translation = translation_of i in
      let stale : is_stale v.scheme trace i.hart x ≡ true = sym (stale_some v.scheme trace i.hart x) ∙ (ap is_some (sym known.since) ∙ some) in
      let gone : is_current v.scheme trace x ≡ false = not-true (is_current v.scheme trace x) (sym (held_stale v.scheme trace i.hart x known.held) ∙ stale) in
      false_from_ne_true _ (λ h. true≢false (sym (current-before x h) ∙ gone))

  out_stands : (seen : List LastLive) → AreSeen v Goes seen → (f : Held → Held) → KeepsKey f → ((i : Held) → IsKnown v.scheme trace i → f i ≡ After v.scheme newest trace i)
      → (now : List Held) → now ≡ map f (remembered_all seen held) → Stands (newest ∷ trace) (record v { words = new; since = ages; roots = these; left = kept; count = v.count + 1 }) now fences claims
  out_stands seen all f keeps after now is = record {
    memory = memory;
    ages = changed_ages at newest is_in new ages Goes kept is_change;
    harts = at.harts;
    satp = at.satp;
    spaces = spaces;
    leaving = is_change.each;
    are = subst (AreHeld v.scheme (newest ∷ trace) (IsLeftAt v.scheme new ages v.drops kept))
        (ap (map f) (filter_same (remembered_all seen held)) ∙ sym is)
        (changed_are at newest is_in new ages Goes kept is_change seen all (all_pass v.scheme trace) f keeps (λ i h dead. true≢false h) after);
    fence = at.fence;
    claim = at.claim;
    records = more_records at newest;
  }

  -- all are settled
  mark-state : (i : Held) → IsKnown v.scheme trace i → (mark i).state ≡ given_all (given_at v.scheme newest trace i.hart (translation_of i)) i.state
  mark-state i known = ap (λ (m : Held). m.state) (marked_known v.scheme trace Reuse (is_exposed_by frames) (has_verdict v.scheme Reuse newest trace i.hart (translation_of i)) i (reused_by v.scheme trace by frames i known))

  settled-after-out : (i : Held) → IsKnown v.scheme trace i → settle (mark i) ≡ After v.scheme newest trace i
  settled-after-out i known =
      let n : v.count + 1 ≡ length (newest ∷ trace) = more_records at newest in
      let x : Translation = translation_of i in
      let same_since : stale_since (mark i) ≡ stale_since i = ap since_of (mark-state i known) ∙ given_since (given_at v.scheme newest trace i.hart x) i.state in
      ap (λ s. with_state s i)
      (unless_stale (is_current_by (is_mapped v.scheme new) these x) (v.count + 1) (mark i).state (λ some. tests x ∙ stale-still i known (ap is_some (sym same_since) ∙ some))
      ∙ (λ j. rechecked (tests x j) (n j) (mark-state i known j)))

  -- nothing has changed
  module _ (empty : addresses ≡ []) (all : list_all (root_stays frames v.satps) v.roots ≡ true) where
    same-word : (t i : ℕ) → new t i ≡ v.words t i
    same-word t i =
        elim (cases_Bool (is_among frames t)) [
          | inl here ↦
              let zero_word : v.words t i ≡ Some 0 = not-other (v.words t i) (λ filled.
              let at = filled_are.each t i here filled in
              let within = at.among.1 in
              let none : length addresses ≡ 0 = ap length empty in
              omega arith) in
              (λ j. clears j t i) ∙ (ap (λ b. cond b (Some 0) (v.words t i)) here ∙ sym zero_word)
          | inr other ↦ agree t i other
        ]

    same-roots : (root : ℕ) → is_root trace root ≡ is_root (newest ∷ trace) root
    same-roots root = sym (at.spaces root) ∙ (ap (list_any (λ r. r == root)) (sym (these_are ∙ all_stay (root_stays frames v.satps) v.roots all)) ∙ spaces root)

    same-words : words_of trace ≡ words_of (newest ∷ trace)
    same-words = sym at.memory ∙ ((λ j t i. sym (same-word t i) j) ∙ memory)

    same-current : (x : Translation) → is_current v.scheme (newest ∷ trace) x ≡ is_current v.scheme trace x
    same-current x =
        current_same v.scheme trace (newest ∷ trace) x same-roots
        (λ root counts. (
          (λ m. subst (λ w. IsMapped v.scheme w (record x { root = root })) same-words m),
          (λ m. subst (λ w. IsMapped v.scheme w (record x { root = root })) (sym same-words) m),
        ))

    quiet-after-out : (i : Held) → IsKnown v.scheme trace i → mark i ≡ After v.scheme newest trace i
    quiet-after-out i known =
        ap (λ s. with_state s i) (mark-state i known) ∙ quiet_given v.scheme trace newest i (same-current (translation_of i)) known

  pub frames_stand : (seen : List LastLive) → AreSeen v Goes seen → (now : List Held)
      → (now ≡ map settle (map mark (remembered_all seen held))) ⊎ ((addresses ≡ []) × (list_all (root_stays frames v.satps) v.roots ≡ true) × (now ≡ map mark (remembered_all seen held)))
      → Stands (newest ∷ trace) (record v { words = new; since = ages; roots = these; left = kept; count = v.count + 1 }) now fences claims
  frames_stand seen all now (inl is) = out_stands seen all (λ i. settle (mark i)) (state_keeps (λ i. (settle (mark i)).state)) settled-after-out now (is ∙ twice settle mark (remembered_all seen held))
  frames_stand seen all now (inr (empty, stay, is)) = out_stands seen all mark (state_keeps (λ i. (mark i).state)) (quiet-after-out empty stay) now is
