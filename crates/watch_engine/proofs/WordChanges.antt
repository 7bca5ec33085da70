-- What a store of a word leaves.
use Rattle.std.proofs.Common.{◌≡◌, ℕ, Bool, true, false, ◌+◌, ◌*◌, ◌<◌, ◌≤◌, zero, suc, Some, List, [], ◌∷◌, length, get_or, IsTrue, ap, sym, ◌∙◌, subst, refl, inl, inr, arith}
use Rattle.std.specs.Prelude.{◌==◌, ◌&&◌, ◌||◌, ◌↔◌, cond}
use Rattle.std.specs.List.{list_any}
use Rattle.std.proofs.lemmas.Bool.{and_parts, and_from, eq-eqb, eqb-true, not-false, or_left, or_right, true≢false}
use Rattle.pte.specs.declared.flags.PteFlags.{PteFlags}
use Rattle.pte.specs.Address.{level_of, top_level, vpn_of}
use Rattle.walk.specs.Leads.{Leads, Tables, word_at}
use Rattle.walk.specs.Maps.{page_number}
use Rattle.walk.specs.Stores.{stored}
use Rattle.tlb.specs.declared.store.Entry.{Entry}
use Rattle.watch.specs.declared.trace.Record.{Record}
use Rattle.watch.specs.declared.trace.Record.TheVariants.{Store}
use Rattle.watch.specs.Trace.{Trace, index_of, is_root, words_of}
use Rattle.watch.specs.Holding.{HasLeaf, Translation}
use Rattle.watch.specs.Staleness.{IsMapped, IsRootFor}
use Rattle.watch.specs.Computed.{is_mapped}
use Rattle.watch.specs.ComputedTraces.{is_current, is_live, is_live_in}
use Rattle.watch_tables.specs.Ways.{vpn_from}
use Rattle.watch_tables.proofs.Numbers.{vpn-split}
use Rattle.watch_engine.specs.declared.held.Held.{Held}
use Rattle.watch_engine.specs.declared.held.LastLive.{LastLive}
use Rattle.watch_engine.specs.declared.open.OpenClaim.{OpenClaim}
use Rattle.watch_engine.specs.declared.open.OpenFence.{OpenFence}
use Rattle.watch_tables.specs.declared.way.Way.{Way}
use Rattle.watch_engine.specs.Held.{is_current_by, remembered_all, translation_of, with_state}
use Rattle.watch_engine.specs.State.{rechecked}
use Rattle.watch_engine.specs.Left.{IsLeftAt}
use Rattle.watch_engine.specs.Seen.{AreSeen}
use Rattle.watch_engine.specs.Touched.{all_settled, is_below, is_kept_after, is_touched, is_touched_on, settled, settled_if}
use Rattle.watch_engine.specs.Follows.{AreHeld, IsKnown}
use Rattle.watch_engine.specs.Standing.{IsLeftWithin, Stands}
use Rattle.watch_engine.proofs.Changes.{PassesIn, stays_or_passes}
use Rattle.watch_engine.proofs.Leaving.{any_weaker, each_weaker}
use Rattle.watch_engine.proofs.Lists.{from_at_most, state_keeps}
use Rattle.watch_engine.proofs.MemoryChanges.{IsChange, changed_ages, changed_are}
use Rattle.watch_engine.proofs.Records.{quiet, settled_after}
use Rattle.watch_engine.proofs.SpaceRoots.{current_same, roots_current}
use Rattle.watch_engine.proofs.Standings.{more_records}
use Rattle.watch_engine.proofs.Steps.{After}
use Rattle.watch_engine.specs.View.{AreWaysTo, PassesAt, View, is_live_for}

way-any : (test : Way → Bool) (w : Way) (ways : List Way) (k : ℕ) → k < length ways → get_or ways k w ≡ w → test w ≡ true → list_any test ways ≡ true
way-any test w [] k within is h = absurd (omega arith)
way-any test w (v ∷ ways) zero within is h = or_left (test v) (list_any test ways) (ap test is ∙ h)
way-any test w (v ∷ ways) (suc k) within is h = or_right (test v) (list_any test ways) (way-any test w ways k (omega arith) is h)

module _ {trace : Trace} {v : View} {held : List Held} {fences : List OpenFence} {claims : List OpenClaim}
    (at : Stands trace v held fences claims) (by address word : ℕ) (new : Tables) (ages : ℕ → ℕ → ℕ) (stores : new ≡ stored v.words (page_number address) (index_of address) word)
    (others : (t i : ℕ) → ¬ ((t ≡ page_number address) × (i ≡ index_of address)) → ages t i ≡ v.since t i) (counted : ¬ (word ≡ 0) → ages (page_number address) (index_of address) ≡ v.count + 1) where
  abbrev newest : Record
  newest = Store by address word

  abbrev next : View
  next = record v { words = new; since = ages; count = v.count + 1 }

  abbrev is_in : ℕ → ℕ → Bool
  is_in t i = (t == page_number address) && (i == index_of address)

  abbrev Goes : ℕ → Entry → Type 0
  Goes = PassesAt v address

  at-place : (t i : ℕ) → is_in t i ≡ true → (t ≡ page_number address) × (i ≡ index_of address)
  at-place t i h = let p = and_parts (t == page_number address) (i == index_of address) h in (eqb-true _ _ p.0, eqb-true _ _ p.1)

  agree : (t i : ℕ) → is_in t i ≡ false → new t i ≡ v.words t i
  agree t i h = (λ j. stores j t i) ∙ ap (λ b. cond b (Some word) (v.words t i)) h

  elsewhere : (t i : ℕ) → is_in t i ≡ false → ages t i ≡ v.since t i
  elsewhere t i h = others t i (λ same. true≢false (sym (and_from _ _ (eq-eqb t (page_number address) same.0) (eq-eqb i (index_of address) same.1)) ∙ h))

  late : (t i : ℕ) → is_in t i ≡ true → ¬ (new t i ≡ Some 0) → (v.count < ages t i) × (ages t i ≤ v.count + 1)
  late t i h filled =
      let here = at-place t i h in
      let is : new t i ≡ Some word = (λ j. stores j t i) ∙ ap (λ b. cond b (Some word) (v.words t i)) h in
      let one : ages (page_number address) (index_of address) ≡ v.count + 1 = counted (λ z. filled (is ∙ ap Some z)) in
      let mine : ages t i ≡ v.count + 1 = (λ j. ages (here.0 j) (here.1 j)) ∙ one in
      (omega arith, omega arith)

  goes : (root : ℕ) (e : Entry) → PassesIn v.scheme v.words new is_in agree root e.page.base (level_of e.page.size) → Goes root e
  goes root e passes =
      let here = at-place passes.table (vpn_of e.page.base passes.at) passes.within in
      record {
        at = passes.at;
        from = passes.from;
        asked = here.1;
        leads = subst (λ n. Leads v.scheme v.words root e.page.base passes.at (page_number address) (v.words (page_number address) n)) here.1
            (subst (λ t. Leads v.scheme v.words root e.page.base passes.at t (word_at v.words e.page.base passes.at t)) here.0 passes.before);
      }

  memory : new ≡ words_of (newest ∷ trace)
  memory = stores ∙ ap (λ w. stored w (page_number address) (index_of address) word) at.memory

  is_change : IsChange at newest is_in new ages Goes v.left
  is_change = record {
    agree = agree;
    same = elsewhere;
    late = late;
    memory = memory;
    satp_same = λ hart. refl;
    none = λ hart x. refl;
    goes = λ root e leaf passes. goes root e passes;
    root_stays = λ root e root_is stays. root_is;
    out = λ Q a. a;
    into = λ Q a. any_weaker (λ l. Q l × IsTrue (is_root (newest ∷ trace) l.space.root)) Q (λ l h. h.0) v.left a;
    each = each_weaker (IsLeftWithin trace v.drops) (IsLeftWithin (newest ∷ trace) v.drops) (λ l w. record { root = w.root; within = let less = w.within in omega arith; fences = w.fences }) v.left at.leaving;
  }

  module _ (ways : List Way) (are : AreWaysTo v address ways) where
    -- what goes through the word is touched
    touched-by : (x : Translation) (root level table : ℕ) → IsRootFor trace x root → level_of x.entry.page.size ≤ level → is_in table (vpn_of x.entry.page.base level) ≡ true → Leads v.scheme v.words root x.entry.page.base level table (word_at v.words x.entry.page.base level table)
        → is_touched v.scheme v.roots (index_of address) ways x ≡ true
    touched-by x root level table counts from within leads =
        let here = at-place table (vpn_of x.entry.page.base level) within in
        let base : ℕ = x.entry.page.base in
        let there = are.each root base level (subst (λ t. Leads v.scheme v.words root base level t (word_at v.words base level t)) here.0 leads) in
        let split : vpn_from v.scheme level base ≡ vpn_from v.scheme (level + 1) base * 512 + vpn_of base level = vpn-split v.scheme level base leads.level in
        let vpn : vpn_from v.scheme there.way.level base ≡ there.way.vpn * 512 + index_of address =
        ap (λ l. vpn_from v.scheme l base) there.level_is ∙ (split ∙ (λ j. sym there.vpn_is j * 512 + here.1 j)) in
        let level_is = there.level_is in
        let top : level ≤ top_level v.scheme = leads.level in
        let below : is_below v.scheme (index_of address) x.entry.page there.way ≡ true = and_from _ _ (from_at_most there.way.level (top_level v.scheme) (omega arith)) (and_from _ _ (from_at_most (level_of x.entry.page.size) there.way.level (omega arith)) (eq-eqb _ _ vpn)) in
        let of_root : ((there.way.root == x.root) || (x.entry.global && list_any (λ r. r == there.way.root) v.roots)) ≡ true = elim counts [
          | inl own ↦ or_left _ _ (eq-eqb _ _ (there.root_is ∙ own.1))
          | inr g ↦ or_right (there.way.root == x.root) _ (and_from _ _ g.0 (at.spaces there.way.root ∙ (ap (is_root trace) there.root_is ∙ g.1)))
        ] in
        way-any (is_touched_on v.scheme v.roots (index_of address) x) there.way ways there.among.0 there.among.1 there.among.2 (and_from _ _ below of_root)

    -- what is not touched is mapped as before
    same-leaf : (x : Translation) (root : ℕ) (flags : PteFlags) → IsRootFor trace x root → is_touched v.scheme v.roots (index_of address) ways x ≡ false → HasLeaf v.scheme v.words root (record x.entry { flags = flags }) ↔ HasLeaf v.scheme new root (record x.entry { flags = flags })
    same-leaf x root flags counts untouched = (
      (λ leaf. elim (stays_or_passes v.scheme v.words new is_in agree root (record x.entry { flags = flags }) leaf) [
        | inl stays ↦ stays.leaf
        | inr passes ↦ absurd (true≢false (sym (touched-by x root passes.at passes.table counts passes.from passes.within passes.before) ∙ untouched))
      ]),
      (λ leaf. elim (stays_or_passes v.scheme new v.words is_in (λ t i h. sym (agree t i h)) root (record x.entry { flags = flags }) leaf) [
        | inl stays ↦ stays.leaf
        | inr passes ↦ absurd (true≢false (sym (touched-by x root passes.at passes.table counts passes.from passes.within passes.after) ∙ untouched))
      ]),
    )

    same-mapped : (x : Translation) (root : ℕ) → IsRootFor trace x root → is_touched v.scheme v.roots (index_of address) ways x ≡ false → IsMapped v.scheme v.words (record x { root = root }) ↔ IsMapped v.scheme new (record x { root = root })
    same-mapped x root counts untouched = (
      (λ m. record { flags = m.flags; permit = m.permit; leaf = (same-leaf x root m.flags counts untouched).0 m.leaf }),
      (λ m. record { flags = m.flags; permit = m.permit; leaf = (same-leaf x root m.flags counts untouched).1 m.leaf }),
    )

    same-current : (x : Translation) → is_touched v.scheme v.roots (index_of address) ways x ≡ false → is_current v.scheme (newest ∷ trace) x ≡ is_current v.scheme trace x
    same-current x untouched =
        current_same v.scheme trace (newest ∷ trace) x (λ root. refl)
        (λ root counts. subst (λ w. IsMapped v.scheme w (record x { root = root }) ↔ IsMapped v.scheme (words_of (newest ∷ trace)) (record x { root = root })) at.memory
        (subst (λ w. IsMapped v.scheme v.words (record x { root = root }) ↔ IsMapped v.scheme w (record x { root = root })) memory (same-mapped x root counts untouched)))

    abbrev change : Held → Held
    change = settled next (index_of address) ways

    tests : (x : Translation) → is_current_by (is_mapped v.scheme new) v.roots x ≡ is_current v.scheme (newest ∷ trace) x
    tests x = ap (λ w. is_current_by (is_mapped v.scheme w) v.roots x) memory ∙ roots_current v.scheme (newest ∷ trace) v.roots at.spaces x

    after : (i : Held) → IsKnown v.scheme trace i → change i ≡ After v.scheme newest trace i
    after i known =
        let x : Translation = translation_of i in
        let n : v.count + 1 ≡ length (newest ∷ trace) = more_records at newest in
        let go : (t : Bool) → is_touched v.scheme v.roots (index_of address) ways x ≡ t → settled_if t (is_current_by (is_mapped v.scheme new) v.roots x) (v.count + 1) i ≡ After v.scheme newest trace i =
        λ t. elim t as (λ t. is_touched v.scheme v.roots (index_of address) ways x ≡ t → settled_if t (is_current_by (is_mapped v.scheme new) v.roots x) (v.count + 1) i ≡ After v.scheme newest trace i) [
          | true ↦ λ h. (λ j. with_state (rechecked (tests x j) (n j) i.state) i) ∙ settled_after v.scheme trace (is_current v.scheme (newest ∷ trace) x) (length (newest ∷ trace)) i
          | false ↦ λ h. quiet v.scheme trace newest i refl (same-current x h) known
        ] in
        go (is_touched v.scheme v.roots (index_of address) ways x) refl

    gone : (i : Held) → is_kept_after next (index_of address) ways i ≡ false → is_live v.scheme (newest ∷ trace) i.hart (translation_of i) ≡ false → ⊥
    gone i h dead =
        let x : Translation = translation_of i in
        let both = not-false (is_touched v.scheme v.roots (index_of address) ways x && is_live_for next i.hart x) h in
        let live = (and_parts (is_touched v.scheme v.roots (index_of address) ways x) _ both).1 in
        true≢false (sym live ∙ ((λ j. is_live_in v.scheme (memory j) (at.satp i.hart j) x) ∙ dead))

    pub store_stands : (seen : List LastLive) → AreSeen v Goes seen → (now : List Held) → now ≡ all_settled next (index_of address) ways (remembered_all seen held)
        → Stands (newest ∷ trace) next now fences claims
    store_stands seen all now is = record {
      memory = memory;
      ages = changed_ages at newest is_in new ages Goes v.left is_change;
      harts = at.harts;
      satp = at.satp;
      spaces = at.spaces;
      leaving = is_change.each;
      are = subst (AreHeld v.scheme (newest ∷ trace) (IsLeftAt v.scheme new ages v.drops v.left)) (sym is)
          (changed_are at newest is_in new ages Goes v.left is_change seen all (is_kept_after next (index_of address) ways) change
          (state_keeps (λ i. (change i).state)) gone after);
      fence = at.fence;
      claim = at.claim;
      records = more_records at newest;
    }
