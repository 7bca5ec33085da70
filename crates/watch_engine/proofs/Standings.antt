-- Where a watch stands, and what is remembered.
use Rattle.std.proofs.Common.{◌≡◌, ℕ, true, false, ◌+◌, ◌≤◌, zero, suc, Option, None, List, [], ◌∷◌, ◌++◌, length, get_or, take, drop, IsTrue, ap, sym, ◌∙◌, subst, refl, inl, inr, arith}
use Rattle.std.specs.Prelude.{OnErr, Result, Ok, Err, ◌||◌}
use Rattle.std.specs.List.{list_any}
use Rattle.std.proofs.lemmas.Bool.{true≢false}
use Rattle.std.proofs.lemmas.List.Folds.{list_any-append}
use Rattle.pte.specs.declared.scheme.Scheme.{Scheme}
use Rattle.pte.specs.Address.{vpn_of}
use Rattle.tlb.specs.declared.store.Entry.{Entry}
use Rattle.watch.specs.declared.trace.Record.{Record}
use Rattle.watch.specs.declared.trace.Space.{Space}
use Rattle.watch.specs.Trace.{Trace, is_root, satp_of, words_of}
use Rattle.watch.specs.Holding.{BelongsTo, HasLeaf, Translation}
use Rattle.watch.specs.ComputedTraces.{is_current, is_live, is_live_in}
use Rattle.watch.proofs.ComputedTraces.{current_iff, live_iff}
use Rattle.watch.proofs.GlobalTests.{live-is_current, live-is_held}
use Rattle.watch.proofs.Roots.{leaf-current, space-counts}
use Rattle.watch_engine.specs.declared.held.Held.{Held}
use Rattle.watch_engine.specs.declared.held.LastLive.{LastLive}
use Rattle.watch_engine.specs.declared.left.Left.{Left}
use Rattle.watch_engine.specs.declared.left.PastFence.{PastFence}
use Rattle.watch_engine.specs.declared.open.OpenClaim.{OpenClaim}
use Rattle.watch_engine.specs.declared.open.OpenFence.{OpenFence}
use Rattle.watch_engine.specs.Held.{last_translation, remembered_all}
use Rattle.watch_engine.specs.Left.{EachLeft, IsLeftAt, is_taken_since, takes}
use Rattle.watch_engine.specs.Seen.{EachSeen, IsLiveIn, IsSeen}
use Rattle.watch_engine.specs.Open.{IsOpenClaim, IsOpenFence, newest_claim, newest_fence}
use Rattle.watch_engine.specs.Follows.{AreHeld, IsHeldFrom}
use Rattle.watch_engine.specs.Standing.{AreRoots, IsLeftWithin, Stands}
use Rattle.watch_tables.specs.Paths.{IsUnchangedSince}
use Rattle.watch_engine.proofs.Changes.{filled}
use Rattle.watch_engine.proofs.Gathering.{each_seen}
use Rattle.watch_engine.proofs.Moments.{live_now}
use Rattle.watch_engine.proofs.Remembering.{IsGood, remembered_are, take_seen}
use Rattle.watch_engine.specs.View.{IsLeftIn, View, is_live_for}

-- what a hart can fill from a root that counts is current
pub current_of : (scheme : Scheme) (trace : Trace) (space : Space) (x : Translation) → IsTrue (is_root trace space.root) → BelongsTo space x → HasLeaf scheme (words_of trace) space.root x.entry → is_current scheme trace x ≡ true
current_of scheme trace space x root belongs leaf = (current_iff scheme trace x).1 (leaf-current scheme trace space.root x (space-counts trace space x root belongs) leaf)

-- what a fence more drops
pub drop_pushed : (k : ℕ) (drops : List PastFence) (d : PastFence) → k ≤ length drops → drop k (drops ++ d ∷ []) ≡ drop k drops ++ d ∷ []
drop_pushed zero drops d within = refl
drop_pushed (suc k) [] d within = absurd (omega arith)
drop_pushed (suc k) (f ∷ drops) d within = drop_pushed k drops d (omega arith)

pub drop_end : (drops : List PastFence) → drop (length drops) drops ≡ []
drop_end [] = refl
drop_end (f ∷ drops) = drop_end drops

pub taken_pushed : (scheme : Scheme) (drops : List PastFence) (d : PastFence) (l : Left) (e : Entry) → l.fences ≤ length drops → is_taken_since scheme (drops ++ d ∷ []) l e ≡ (is_taken_since scheme drops l e || (takes scheme l e d || false))
taken_pushed scheme drops d l e within = ap (list_any (takes scheme l e)) (drop_pushed l.fences drops d within) ∙ list_any-append (takes scheme l e) (drop l.fences drops) (d ∷ [])

module _ {trace : Trace} {v : View} {held : List Held} {fences : List OpenFence} {claims : List OpenClaim}
    (at : Stands trace v held fences claims) where
  abbrev pub IsLeft : ℕ → Translation → ℕ → Type 0
  IsLeft = IsLeftIn v

  pub from_live : (hart : ℕ) (x : Translation) → IsLiveIn v hart x → is_live v.scheme trace hart x ≡ true
  from_live hart x l =
      (live_iff v.scheme trace hart x).1 (record {
        space = l.of;
        satp = sym (at.satp hart) ∙ l.satp;
        belongs = l.belongs;
        leaf = subst (λ w. HasLeaf v.scheme w l.of.root x.entry) at.memory l.leaf;
      })

  pub to_live : (hart : ℕ) (x : Translation) → is_live v.scheme trace hart x ≡ true → IsLiveIn v hart x
  to_live hart x h =
      let l = (live_iff v.scheme trace hart x).0 h in
      record {
        of = l.space;
        satp = at.satp hart ∙ l.satp;
        belongs = l.belongs;
        leaf = subst (λ w. HasLeaf v.scheme w l.space.root x.entry) (sym at.memory) l.leaf;
      }

  pub live_as : (hart : ℕ) (x : Translation) → is_live_for v hart x ≡ is_live v.scheme trace hart x
  live_as hart x = λ j. is_live_in v.scheme (at.memory j) (at.satp hart j) x

  -- what is live is held from now
  pub live_from : (hart : ℕ) (x : Translation) (n : ℕ) → is_live v.scheme trace hart x ≡ true → n ≤ length trace → IsHeldFrom v.scheme trace hart x n
  live_from hart x n live less = record {
    held = live-is_held v.scheme trace hart x live;
    last = subst (λ m. n ≤ m) (sym (live_now v.scheme trace hart x live)) less;
    current = live-is_current v.scheme trace hart x live;
  }

  pub seen_good : (s : LastLive) → IsSeen v s → IsGood v.scheme trace s
  seen_good s (inl (live, now)) =
      let n = at.records in
      live_from s.hart (last_translation s) s.last_live (from_live s.hart (last_translation s) live) (omega arith)
  seen_good s (inr l) = at.are.left s.hart (last_translation s) s.last_live l

  -- all words of a path are what they are since now
  pub since_now : (root : ℕ) (e : Entry) → HasLeaf v.scheme v.words root e → IsUnchangedSince v.scheme v.words v.since root e v.count
  since_now root e leaf = record {
    unchanged = λ level table from leads.
        let young = at.ages.within table (vpn_of e.page.base level) (filled v.scheme v.words root e leaf level table from leads) in
        let n = at.records in
        omega arith;
  }

  pub with_held : (new : List Held) → AreHeld v.scheme trace IsLeft new → Stands trace v new fences claims
  with_held new are = record { memory = at.memory; ages = at.ages; harts = at.harts; satp = at.satp; spaces = at.spaces; leaving = at.leaving; are = are; fence = at.fence; claim = at.claim; records = at.records }

  pub all_good : (seen : List LastLive) → EachSeen (IsSeen v) seen → EachSeen (IsGood v.scheme trace) seen
  all_good seen each = each_seen (IsSeen v) (IsGood v.scheme trace) seen_good seen each

  pub some_remembered : (seen : List LastLive) → EachSeen (IsSeen v) seen → (n : ℕ) (new : List Held) → new ≡ remembered_all (take n seen) held → Stands trace v new fences claims
  some_remembered seen each n new is =
      with_held new (subst (AreHeld v.scheme trace IsLeft) (sym is) (remembered_are v.scheme trace IsLeft (take n seen) held (take_seen (IsGood v.scheme trace) n seen (all_good seen each)) at.are))

  pub all_remembered : (seen : List LastLive) → EachSeen (IsSeen v) seen → (new : List Held) → new ≡ remembered_all seen held → Stands trace v new fences claims
  all_remembered seen each new is =
      with_held new (subst (AreHeld v.scheme trace IsLeft) (sym is) (remembered_are v.scheme trace IsLeft seen held (all_good seen each) at.are))

  pub more_records : (newest : Record) → v.count + 1 ≡ length (newest ∷ trace)
  more_records newest = let n = at.records in omega arith

  -- records that change no word, no satp and no root
  pub plain_stands : (newest : Record) (after : List Held) (kept : List Left) (dropped : List PastFence) (begun : List OpenFence) (claimed : List OpenClaim) → words_of (newest ∷ trace) ≡ words_of trace → ((hart : ℕ) → satp_of (newest ∷ trace) hart ≡ satp_of trace hart)
      → ((root : ℕ) → is_root (newest ∷ trace) root ≡ is_root trace root) → EachLeft (IsLeftWithin (newest ∷ trace) dropped) kept → AreHeld v.scheme (newest ∷ trace) (IsLeftAt v.scheme v.words v.since dropped kept) after
      → ((token : ℕ) → IsOpenFence (newest ∷ trace) token (newest_fence token None begun)) → ((token : ℕ) → IsOpenClaim (newest ∷ trace) token (newest_claim token None claimed))
      → Stands (newest ∷ trace) (record v { left = kept; drops = dropped; count = v.count + 1 }) after begun claimed
  plain_stands newest after kept dropped begun claimed words_same satp_same root_same leaving are fence claim = record {
    memory = at.memory ∙ sym words_same;
    ages = record { within = λ t i filled. let old = at.ages.within t i filled in omega arith };
    harts = at.harts;
    satp = λ hart. at.satp hart ∙ sym (satp_same hart);
    spaces = λ root. at.spaces root ∙ sym (root_same root);
    leaving = leaving;
    are = are;
    fence = fence;
    claim = claim;
    records = more_records newest;
  }

-- nothing is seen yet
pub new_stands : (v : View) (held : List Held) (fences : List OpenFence) (claims : List OpenClaim) → v.words ≡ words_of [] → v.satps ≡ [] → v.roots ≡ [] → held ≡ [] → v.left ≡ [] → fences ≡ [] → claims ≡ [] → v.count ≡ 0
    → Stands [] v held fences claims
new_stands v held fences claims memory none-satps none-roots none-held none-left none-fences none-claims none-counted = record {
  memory = memory;
  ages = record { within = λ t i filled. absurd (filled (λ j. memory j t i)) };
  harts = subst (λ (ss : List (Option Space)). length ss ≤ 256) (sym none-satps) (omega arith);
  satp = λ hart. ap (λ (ss : List (Option Space)). get_or ss hart None) none-satps;
  spaces = subst (AreRoots []) (sym none-roots) (λ root. refl);
  leaving = subst (EachLeft (IsLeftWithin [] v.drops)) (sym none-left) tt;
  are = subst (λ (h : List Held). AreHeld v.scheme [] (IsLeftIn v) h) (sym none-held)
      (subst (λ (ls : List Left). AreHeld v.scheme [] (IsLeftAt v.scheme v.words v.since v.drops ls) []) (sym none-left)
      (record { each = tt; left = λ hart x n l. absurd l; all = λ hart x norm h dead. absurd (true≢false (sym h ∙ dead)) }));
  fence = λ token. subst (λ (fs : List OpenFence). IsOpenFence [] token (newest_fence token None fs)) (sym none-fences) refl;
  claim = λ token. subst (λ (cs : List OpenClaim). IsOpenClaim [] token (newest_claim token None cs)) (sym none-claims) refl;
  records = none-counted;
}

pub on_err : {T E : Type 0} (r : Result T E) (P : Type 0) → P → OnErr r P
on_err (Ok x) P p = tt
on_err (Err e) P p = p
