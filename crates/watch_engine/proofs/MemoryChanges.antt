-- What a change of memory leaves of what is known.
use Rattle.std.proofs.Common.{◌≡◌, ℕ, Bool, true, false, ◌+◌, ◌<◌, ◌≤◌, ◌⊎◌, Some, List, ◌∷◌, length, map, filter, IsTrue, sym, ◌∙◌, subst, refl, inl, inr, arith}
use Rattle.std.proofs.lemmas.Bool.{true≢false}
use Rattle.pte.specs.Address.{level_of}
use Rattle.walk.specs.Leads.{Tables}
use Rattle.tlb.specs.declared.store.Entry.{Entry}
use Rattle.watch.specs.declared.trace.Record.{Record}
use Rattle.watch.specs.Trace.{Trace, is_root, satp_of, words_of}
use Rattle.watch.specs.Holding.{HasLeaf, Translation}
use Rattle.watch.specs.ComputedTraces.{is_current, is_dropped, is_live}
use Rattle.watch.proofs.ComputedTraces.{live_iff}
use Rattle.watch_engine.specs.declared.held.Held.{Held}
use Rattle.watch_engine.specs.declared.held.LastLive.{LastLive}
use Rattle.watch_engine.specs.declared.left.Left.{Left}
use Rattle.watch_engine.specs.declared.open.OpenClaim.{OpenClaim}
use Rattle.watch_engine.specs.declared.open.OpenFence.{OpenFence}
use Rattle.watch_engine.specs.Held.{IsNormalized, knows, remembered_all, translation_of}
use Rattle.watch_engine.specs.Left.{AnyLeft, EachLeft, IsLeftAt, IsLeftHeld}
use Rattle.watch_engine.specs.Seen.{AreSeen, IsLiveIn}
use Rattle.watch_engine.specs.Follows.{AreHeld, IsKnown}
use Rattle.watch_engine.specs.Standing.{AreSince, IsLeftWithin, Stands}
use Rattle.watch_engine.proofs.Changes.{PassesIn, Stays, since_stays, stays_or_passes, was_there}
use Rattle.watch_engine.proofs.Leaving.{any_member, any_out, any_with}
use Rattle.watch_engine.proofs.Lists.{KeepsKey}
use Rattle.watch_engine.proofs.Remembering.{listed_known, remembered_are}
use Rattle.watch_engine.proofs.Standings.{all_good, current_of, live_as, to_live}
use Rattle.watch_engine.proofs.Steps.{After, held-on, step}
use Rattle.watch_engine.specs.View.{IsLeftIn, View}

module _ {trace : Trace} {v : View} {held : List Held} {fences : List OpenFence} {claims : List OpenClaim}
    (at : Stands trace v held fences claims) (newest : Record) (is_in : ℕ → ℕ → Bool) (new : Tables) (ages : ℕ → ℕ → ℕ) (Goes : ℕ → Entry → Type 0) (kept : List Left) where
  -- the words at some places change, and what goes by them is that whose path passes one of the places
  pub record IsChange : Type 1 where
    pub agree : (t i : ℕ) → is_in t i ≡ false → new t i ≡ v.words t i
    pub same : (t i : ℕ) → is_in t i ≡ false → ages t i ≡ v.since t i
    pub late : (t i : ℕ) → is_in t i ≡ true → ¬ (new t i ≡ Some 0) → (v.count < ages t i) × (ages t i ≤ v.count + 1)
    pub memory : new ≡ words_of (newest ∷ trace)
    pub satp_same : (hart : ℕ) → satp_of (newest ∷ trace) hart ≡ satp_of trace hart
    pub none : (hart : ℕ) (x : Translation) → is_dropped v.scheme newest trace hart x ≡ false
    pub goes : (root : ℕ) (e : Entry) → HasLeaf v.scheme v.words root e → PassesIn v.scheme v.words new is_in agree root e.page.base (level_of e.page.size) → Goes root e
    pub root_stays : (root : ℕ) (e : Entry) → IsTrue (is_root trace root) → Stays v.scheme v.words new is_in agree root e → IsTrue (is_root (newest ∷ trace) root)
    pub out : (Q : Left → Type 0) → AnyLeft Q kept → AnyLeft Q v.left
    pub into : (Q : Left → Type 0) → AnyLeft (λ l. Q l × IsTrue (is_root (newest ∷ trace) l.space.root)) v.left → AnyLeft Q kept
    pub each : EachLeft (IsLeftWithin (newest ∷ trace) v.drops) kept

  module _ (is : IsChange) where
    pub changed_ages : AreSince (newest ∷ trace) new ages
    changed_ages = record {
      within = λ t i filled.
          let n = at.records in
          let go : (b : Bool) → is_in t i ≡ b → ages t i ≤ length (newest ∷ trace) =
          λ b. elim b as (λ b. is_in t i ≡ b → ages t i ≤ length (newest ∷ trace)) [
            | true ↦ λ h. let l = is.late t i h filled in let young = l.1 in omega arith
            | false ↦ λ h.
                let old = at.ages.within t i (λ z. filled (is.agree t i h ∙ z)) in
                let one = is.same t i h in
                omega arith
          ] in
          go (is_in t i) refl;
    }

    module _ (seen : List LastLive) (all : AreSeen v Goes seen) (p : Held → Bool) (f : Held → Held) (keeps : KeepsKey f)
        (gone : (i : Held) → p i ≡ false → is_live v.scheme (newest ∷ trace) i.hart (translation_of i) ≡ false → ⊥)
        (after : (i : Held) → IsKnown v.scheme trace i → f i ≡ After v.scheme newest trace i) where
      abbrev New : ℕ → Translation → ℕ → Type 0
      New = IsLeftAt v.scheme new ages v.drops kept

      abbrev Old : ℕ → Translation → ℕ → Type 0
      Old = IsLeftIn v

      abbrev now : List Held
      now = remembered_all seen held

      -- what is held since a space was left, with the root that counts
      abbrev Held_in : Tables → (ℕ → ℕ → ℕ) → ℕ → Translation → ℕ → Left → Type 0
      Held_in w s hart x n l = (l.left ≡ n) × IsLeftHeld v.scheme w s v.drops l hart x

      was : (hart : ℕ) (x : Translation) (n : ℕ) (l : Left) → IsLeftWithin trace v.drops l → Held_in new ages hart x n l → Held_in v.words v.since hart x n l
      was hart x n l within (last, held) =
          let count_is = at.records in
          let old = was_there v.scheme v.words new is_in is.agree l.space.root x.entry v.since ages is.same l.left
          (λ t i h filled. let l = is.late t i h filled in let young = l.0 in let less = within.within in omega arith) held.leaf held.unchanged in
          (last, record { by = held.by; belongs = held.belongs; leaf = old.leaf; unchanged = old.unchanged; kept = held.kept })

      left-before : (hart : ℕ) (x : Translation) (n : ℕ) → New hart x n → Old hart x n
      left-before hart x n new_left =
          let m = any_member (λ l. Held_in new ages hart x n l × IsLeftWithin trace v.drops l) v.left (any_with (Held_in new ages hart x n) (IsLeftWithin trace v.drops) v.left at.leaving (is.out (Held_in new ages hart x n) new_left)) in
          m.among (Held_in v.words v.since hart x n) (was hart x n m.one m.has.1 m.has.0)

      left-current : (hart : ℕ) (x : Translation) (n : ℕ) → New hart x n → is_current v.scheme (newest ∷ trace) x ≡ true
      left-current hart x n new_left =
          any_out (λ l. Held_in new ages hart x n l × IsLeftWithin (newest ∷ trace) v.drops l) (is_current v.scheme (newest ∷ trace) x ≡ true)
          (λ l h. current_of v.scheme (newest ∷ trace) l.space x h.1.root h.0.1.belongs (subst (λ w. HasLeaf v.scheme w l.space.root x.entry) is.memory h.0.1.leaf))
          kept (any_with (Held_in new ages hart x n) (IsLeftWithin (newest ∷ trace) v.drops) kept is.each new_left)

      live-still : (hart : ℕ) (x : Translation) (l : IsLiveIn v hart x) → Stays v.scheme v.words new is_in is.agree l.of.root x.entry → is_live v.scheme (newest ∷ trace) hart x ≡ true
      live-still hart x l stays =
          (live_iff v.scheme (newest ∷ trace) hart x).1 (record {
            space = l.of;
            satp = is.satp_same hart ∙ (sym (at.satp hart) ∙ l.satp);
            belongs = l.belongs;
            leaf = subst (λ w. HasLeaf v.scheme w l.of.root x.entry) is.memory stays.leaf;
          })

      live-known : (hart : ℕ) (x : Translation) → IsNormalized x → is_live v.scheme trace hart x ≡ true → is_live v.scheme (newest ∷ trace) hart x ≡ false → (knows hart x (length trace) now ≡ true) ⊎ New hart x (length trace)
      live-known hart x norm live dead =
          let l = to_live at hart x live in
          elim (stays_or_passes v.scheme v.words new is_in is.agree l.of.root x.entry l.leaf) [
            | inl stays ↦ absurd (true≢false (sym (live-still hart x l stays) ∙ dead))
            | inr passes ↦ inl (subst (λ n. knows hart x n now ≡ true) at.records (listed_known hart x v.count seen held (all.live hart x norm l (is.goes l.of.root x.entry l.leaf passes))))
          ]

      left-still : (hart : ℕ) (x : Translation) (n : ℕ) → IsNormalized x → Old hart x n → is_live v.scheme trace hart x ≡ false → (knows hart x n now ≡ true) ⊎ New hart x n
      left-still hart x n norm old not_live =
          let m = any_member (λ l. Held_in v.words v.since hart x n l × IsLeftWithin trace v.drops l) v.left (any_with (Held_in v.words v.since hart x n) (IsLeftWithin trace v.drops) v.left at.leaving old) in
          let h = m.has.0.1 in
          elim (stays_or_passes v.scheme v.words new is_in is.agree m.one.space.root x.entry h.leaf) [
            | inl stays ↦
                let there : Held_in new ages hart x n m.one = (
                  m.has.0.0,
                  record {
                    by = h.by;
                    belongs = h.belongs;
                    leaf = stays.leaf;
                    unchanged = since_stays v.scheme v.words new is_in is.agree m.one.space.root x.entry v.since ages is.same stays m.one.left h.unchanged;
                    kept = h.kept;
                  },
                ) in
                inr (is.into (Held_in new ages hart x n) (m.among (λ l. Held_in new ages hart x n l × IsTrue (is_root (newest ∷ trace) l.space.root)) (there, is.root_stays m.one.space.root x.entry m.has.1.root stays)))
            | inr passes ↦
                inl (listed_known hart x n seen held (all.kept hart x n norm (live_as at hart x ∙ not_live)
                (m.among (λ l. (l.left ≡ n) × IsLeftHeld v.scheme v.words v.since v.drops l hart x × Goes l.space.root x.entry) (m.has.0.0, h, is.goes m.one.space.root x.entry h.leaf passes))))
          ]

      pub changed_are : AreHeld v.scheme (newest ∷ trace) New (map f (filter p now))
      changed_are =
          step v.scheme newest trace Old New now p f (record {
            keeps = keeps;
            left = λ hart x n l. (left-before hart x n l, is.none hart x, left-current hart x n l);
            live = live-known;
            stays = λ hart x n norm old not_live last dead none. left-still hart x n norm old not_live;
            kept = λ i known t. held-on v.scheme newest trace i.hart (translation_of i) known.held (is.none i.hart (translation_of i));
            dropped = λ i known last t dead. absurd (gone i t dead);
            after = λ i known h. after i known;
          }) (remembered_are v.scheme trace Old seen held (all_good at seen all.each) at.are)
