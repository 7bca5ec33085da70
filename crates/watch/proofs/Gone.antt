-- What is stale, and what a record makes stale.
use Rattle.std.proofs.Common.{◌≡◌, ℕ, Bool, true, false, Option, Some, None, [], ◌∷◌, ◌++◌, IsTrue, sym, ◌∙◌, subst, refl, inl, inr, arith}
use Rattle.std.specs.Prelude.{◌||◌, not}
use Rattle.std.specs.List.{AllPass, list_all}
use Rattle.std.proofs.lemmas.Bool.{eq-eqb, and_parts, not-true, or_right, true≢false}
use Rattle.std.proofs.lemmas.List.Sums.{list_all-from_AllPass}
use Rattle.pte.specs.declared.scheme.Scheme.{Scheme}
use Rattle.tlb.specs.declared.store.Entry.{Entry}
use Rattle.watch.specs.declared.trace.Record.{Record}
use Rattle.watch.specs.declared.trace.Record.TheVariants.{Satp, Fence, RemoteBegin, RemoteEnd, GiveOut}
use Rattle.watch.specs.declared.trace.RemoteFence.{RemoteFence}
use Rattle.watch.specs.declared.trace.Space.{Space}
use Rattle.watch.specs.Trace.{Trace, has_root, is_root, is_root_after, is_used, stores, words_of, fence_of, satp_of, satp_after, writes_satp, has_written_satp}
use Rattle.watch.specs.Holding.{Translation, HasLeaf, LiveSince, MayHold, names}
use Rattle.watch.specs.Staleness.{Permit, IsMapped, IsRootFor, IsCurrent, Stale, Exposed, HasFencedAll}
use Rattle.watch.proofs.Held.{words-kept}
use Rattle.watch.proofs.Leaves.{same_leaf}
use Rattle.watch.proofs.Roots.{live-current}

-- what is mapped under a root that counts for it is current
pub mapped-current : (scheme : Scheme) (trace : Trace) (root : ℕ) (x : Translation) → IsRootFor trace x root → IsMapped scheme (words_of trace) (record x { root = root }) → IsCurrent scheme trace x
mapped-current scheme trace root x counts mapped = record { root = root; counts = counts; mapped = mapped }

-- a record that stores no word takes no root away
root-kept : (newest : Record) (frame : ℕ) (used old : Bool) → stores newest ≡ false → IsTrue old → IsTrue (is_root_after frame newest used old)
root-kept (Satp of space) frame used old none is = or_right (has_root space frame) old is
root-kept (GiveOut of frames) frame used old none is = cc
root-kept _ frame used old none is = is

counts-kept : (newest : Record) (trace : Trace) (x : Translation) (root : ℕ) → stores newest ≡ false → IsRootFor trace x root → IsRootFor (newest ∷ trace) x root
counts-kept newest trace x root none (inl own) = inl own
counts-kept newest trace x root none (inr g) = inr (g.0, root-kept newest root (is_used trace root) (is_root trace root) none g.1)

pub current-kept : (scheme : Scheme) (newest : Record) (trace : Trace) (x : Translation) → stores newest ≡ false → IsCurrent scheme trace x → IsCurrent scheme (newest ∷ trace) x
current-kept scheme newest trace x none c = record {
  root = c.root;
  counts = counts-kept newest trace x c.root none c.counts;
  mapped = subst (λ w. IsMapped scheme w (record x { root = c.root })) (sym (words-kept newest (words_of trace) none)) c.mapped;
}

-- what is stale was held before
pub stale-held : (scheme : Scheme) (newest : Record) (trace : Trace) (hart : ℕ) (x : Translation) → Stale scheme (newest ∷ trace) hart x → MayHold scheme trace hart x
stale-held scheme newest trace hart x stale =
    elim stale.held [
      | inl live ↦ absurd (stale.gone (live-current scheme (newest ∷ trace) hart x live))
      | inr h ↦ h.0
    ]

-- and, if no word is stored, stale
pub stale-before : (scheme : Scheme) (newest : Record) (trace : Trace) (hart : ℕ) (x : Translation) → stores newest ≡ false → Stale scheme (newest ∷ trace) hart x → Stale scheme trace hart x
stale-before scheme newest trace hart x none stale = record {
  held = stale-held scheme newest trace hart x stale;
  gone = λ c. stale.gone (current-kept scheme newest trace x none c);
}

-- of a page that has no leaf now, or another, what may be held is stale
pub unmapped-stale : (scheme : Scheme) (trace : Trace) (hart : ℕ) (x : Translation) → MayHold scheme trace hart x
    → ((root : ℕ) (e : Entry) → IsRootFor trace x root → e.page ≡ x.entry.page → ¬ HasLeaf scheme (words_of trace) root e) → Stale scheme trace hart x
unmapped-stale scheme trace hart x held none = record { held = held; gone = λ c. none c.root (record x.entry { flags = c.mapped.flags }) c.counts refl c.mapped.leaf }

pub changed-stale : (scheme : Scheme) (trace : Trace) (hart : ℕ) (x : Translation) → MayHold scheme trace hart x
    → ((root : ℕ) (now : Entry) → IsRootFor trace x root → now.page ≡ x.entry.page → HasLeaf scheme (words_of trace) root now
    → ¬ ((now.ppn ≡ x.entry.ppn) × (now.global ≡ x.entry.global) × Permit now.flags x.entry.flags))
    → Stale scheme trace hart x
changed-stale scheme trace hart x held differs = record {
  held = held;
  gone = λ c. differs c.root (record x.entry { flags = c.mapped.flags }) c.counts refl c.mapped.leaf (refl, refl, c.mapped.permit);
}

own-root : (trace : Trace) (x : Translation) (root : ℕ) → x.entry.global ≡ false → IsRootFor trace x root → root ≡ x.root
own-root trace x root local (inl own) = own.1
own-root trace x root local (inr g) = absurd (true≢false (sym g.0 ∙ local))

pub own-stale : (scheme : Scheme) (trace : Trace) (hart : ℕ) (x : Translation) (now : Entry) → x.entry.global ≡ false → MayHold scheme trace hart x → HasLeaf scheme (words_of trace) x.root now → now.page ≡ x.entry.page
    → ¬ ((now.ppn ≡ x.entry.ppn) × Permit now.flags x.entry.flags) → Stale scheme trace hart x
own-stale scheme trace hart x now local held leaf page differs = record {
  held = held;
  gone = λ c.
      let old : Entry = record x.entry { flags = c.mapped.flags } in
      let there : HasLeaf scheme (words_of trace) x.root old = subst (λ r. HasLeaf scheme (words_of trace) r old) (own-root trace x c.root local c.counts) c.mapped.leaf in
      let same = same_leaf scheme (words_of trace) x.root now old leaf there page in
      differs (same.ppn, subst (λ f. Permit f x.entry.flags) (sym same.flags) c.mapped.permit);
}

-- after a fence of all and no store, what may be held is current
all-current : (scheme : Scheme) (hart : ℕ) (earlier later : Trace) (x : Translation) → list_all (λ (r : Record). not (stores r)) later ≡ true → MayHold scheme (later ++ Fence hart None None ∷ earlier) hart x
    → IsCurrent scheme (later ++ Fence hart None None ∷ earlier) x
all-current scheme hart earlier [] x kept (inl live) = live-current scheme (Fence hart None None ∷ earlier) hart x live
all-current scheme hart earlier [] x kept (inr h) = absurd (h.1 (refl, refl))
all-current scheme hart earlier (newest ∷ later) x kept (inl live) = live-current scheme (newest ∷ later ++ Fence hart None None ∷ earlier) hart x live
all-current scheme hart earlier (newest ∷ later) x kept (inr h) =
    let parts = and_parts (not (stores newest)) (list_all (λ (r : Record). not (stores r)) later) kept in
    current-kept scheme newest (later ++ Fence hart None None ∷ earlier) x (not-true (stores newest) parts.0) (all-current scheme hart earlier later x parts.1 h.0)

pub nothing_stale : (scheme : Scheme) (trace : Trace) (hart : ℕ) (x : Translation) → HasFencedAll trace hart → ¬ Stale scheme trace hart x
nothing_stale scheme trace hart x fenced stale =
    let there : MayHold scheme (fenced.later ++ Fence hart None None ∷ fenced.earlier) hart x = subst (λ t. MayHold scheme t hart x) fenced.split stale.held in
    let current = all-current scheme hart fenced.earlier fenced.later x (list_all-from_AllPass (λ (r : Record). not (stores r)) fenced.later fenced.kept) there in
    stale.gone (subst (λ t. IsCurrent scheme t x) (sym fenced.split) current)

-- a hart that has not written satp holds nothing
kept-none : (newest : Record) (hart : ℕ) (old : Option Space) → writes_satp hart newest ≡ false → old ≡ None → satp_after hart newest old ≡ None
kept-none (Satp of space) hart old none is = grind arith
kept-none _ hart old none is = is

or_false : (a b : Bool) → (a || b) ≡ false → (a ≡ false) × (b ≡ false)
or_false true b e = cc
or_false false b e = (refl, e)

no_satp : (trace : Trace) (hart : ℕ) → has_written_satp trace hart ≡ false → satp_of trace hart ≡ None
no_satp [] hart none = refl
no_satp (newest ∷ trace) hart none =
    let parts = or_false (writes_satp hart newest) (has_written_satp trace hart) none in
    kept-none newest hart (satp_of trace hart) parts.0 (no_satp trace hart parts.1)

pub nothing_held : (scheme : Scheme) (trace : Trace) (hart : ℕ) (x : Translation) → has_written_satp trace hart ≡ false → ¬ MayHold scheme trace hart x
nothing_held scheme [] hart x none live = let e = live.satp in cc
nothing_held scheme (newest ∷ trace) hart x none (inl live) = let e = live.satp in let n = no_satp (newest ∷ trace) hart none in cc
nothing_held scheme (newest ∷ trace) hart x none (inr h) = nothing_held scheme trace hart x (or_false (writes_satp hart newest) (has_written_satp trace hart) none).1 h.0

each-fenced : (scheme : Scheme) (trace : Trace) (hart : ℕ) (x : Translation) → (written : Bool) → has_written_satp trace hart ≡ written → (written ≡ true → HasFencedAll trace hart) → ¬ Stale scheme trace hart x
each-fenced scheme trace hart x true is fenced stale = nothing_stale scheme trace hart x (fenced refl) stale
each-fenced scheme trace hart x false is fenced stale = nothing_held scheme trace hart x is stale.held

-- where each hart that has written satp has fenced all since, nothing is stale
pub none_stale : (scheme : Scheme) (trace : Trace) → ((hart : ℕ) → has_written_satp trace hart ≡ true → HasFencedAll trace hart) → (hart : ℕ) (x : Translation) → ¬ Stale scheme trace hart x
none_stale scheme trace fenced hart x stale = each-fenced scheme trace hart x (has_written_satp trace hart) refl (fenced hart) stale

pub nothing_exposed : (scheme : Scheme) (trace : Trace) → ((hart : ℕ) → has_written_satp trace hart ≡ true → HasFencedAll trace hart) → (hart frame : ℕ) → ¬ Exposed scheme trace hart frame
nothing_exposed scheme trace fenced hart frame e = none_stale scheme trace fenced hart e.translation e.stale

-- a remote fence of all with no store since it began leaves nothing stale either
since-current : (scheme : Scheme) (by token : ℕ) (fence : RemoteFence) (hart : ℕ) (x : Translation) (earlier during : Trace) → list_all (λ (r : Record). not (stores r)) during ≡ true
    → LiveSince scheme token (during ++ RemoteBegin by token fence ∷ earlier) hart x → IsCurrent scheme (during ++ RemoteBegin by token fence ∷ earlier) x
since-current scheme by token fence hart x earlier [] kept (inl live) = live-current scheme (RemoteBegin by token fence ∷ earlier) hart x live
since-current scheme by token fence hart x earlier [] kept (inr h) = let e = eq-eqb token token refl in let n = h.0 in cc
since-current scheme by token fence hart x earlier (newest ∷ during) kept (inl live) = live-current scheme (newest ∷ during ++ RemoteBegin by token fence ∷ earlier) hart x live
since-current scheme by token fence hart x earlier (newest ∷ during) kept (inr h) =
    let parts = and_parts (not (stores newest)) (list_all (λ (r : Record). not (stores r)) during) kept in
    current-kept scheme newest (during ++ RemoteBegin by token fence ∷ earlier) x (not-true (stores newest) parts.0) (since-current scheme by token fence hart x earlier during parts.1 h.1)

pub remote_nothing_stale : (scheme : Scheme) (by ender token : ℕ) (fence : RemoteFence) (hart : ℕ) (x : Translation) (earlier during : Trace) → fence_of (during ++ RemoteBegin by token fence ∷ earlier) token ≡ Some fence
    → fence.range ≡ None → fence.asid ≡ None → IsTrue (names fence hart) → AllPass (λ (r : Record). not (stores r)) during → ¬ Stale scheme (RemoteEnd ender token ∷ during ++ RemoteBegin by token fence ∷ earlier) hart x
remote_nothing_stale scheme by ender token fence hart x earlier during begun everywhere every named kept stale =
    let flat = list_all-from_AllPass (λ (r : Record). not (stores r)) during kept in
    elim stale.held [
      | inl live ↦ stale.gone (live-current scheme _ hart x live)
      | inr h ↦
          h.1 (record {
            fence = fence;
            begun = begun;
            named = named;
            covered = rw (everywhere, every) refl;
            not_live = λ since.
                stale.gone (current-kept scheme (RemoteEnd ender token) (during ++ RemoteBegin by token fence ∷ earlier) x refl (since-current scheme by token fence hart x earlier during flat since));
          })
    ]
