-- The root and the ASID of what is global change nothing.
use Rattle.std.proofs.Common.{◌≡◌, ℕ, Bool, true, false, Option, Some, None, [], ◌∷◌, IsTrue, ap, sym, ◌∙◌, refl, inl, inr}
use Rattle.std.specs.Prelude.{◌↔◌, ◌==◌, ◌&&◌, ◌||◌, not}
use Rattle.std.proofs.lemmas.Bool.{true≢false}
use Rattle.pte.specs.declared.scheme.Scheme.{Scheme}
use Rattle.pte.specs.Address.{holds}
use Rattle.walk.specs.Leads.{Tables}
use Rattle.tlb.specs.declared.store.Entry.{Entry}
use Rattle.tlb.specs.Fence.{is_fenced, is_of_address, is_of_space}
use Rattle.watch.specs.declared.trace.Frames.{Frames}
use Rattle.watch.specs.declared.trace.Record.{Record}
use Rattle.watch.specs.declared.trace.Record.TheVariants.{Fence, RemoteEnd, GiveOut, GiveBack, ClaimEnd, Use}
use Rattle.watch.specs.declared.trace.RemoteFence.{RemoteFence}
use Rattle.watch.specs.declared.trace.Verdict.{Verdict}
use Rattle.watch.specs.declared.trace.Verdict.TheVariants.{Free, Reuse, Claimed, Used}
use Rattle.watch.specs.Trace.{Trace}
use Rattle.watch.specs.Holding.{Drops, HasLeaf, Live, LiveSince, MayHold, Translation, is_covered, reaches}
use Rattle.watch.specs.Staleness.{IsCurrent, IsRootFor, Stale}
use Rattle.watch.specs.Verdicts.{IsBroken, IsExposed, IsGiven, IsNew, Serves, StaleSince, TakenForGone, TakesForGone, WasGiven, is_of_root}

-- the same translation but for its root and its ASID
abbrev pub placed : ℕ → ℕ → Translation → Translation
placed root asid x = record { root = root; entry = record x.entry { asid = asid } }

-- tests that do not depend on either
not_and : (global a b : Bool) → IsTrue global → (not global && a) ≡ (not global && b)
not_and true a b g = refl
not_and false a b g = cc

and_not : (global a b : Bool) → IsTrue global → (a && not global) ≡ (b && not global)
and_not true true true g = refl
and_not true true false g = refl
and_not true false true g = refl
and_not true false false g = refl
and_not false a b g = cc

or_same : (global a b : Bool) → IsTrue global → (global || a) ≡ (global || b)
or_same true a b g = refl
or_same false a b g = cc

space-placed : (rs2 : ℕ) (x : Translation) (root asid : ℕ) → IsTrue x.entry.global → is_of_space rs2 x.entry ≡ is_of_space rs2 (placed root asid x).entry
space-placed rs2 x root asid g = not_and x.entry.global _ _ g

fence-placed : (scheme : Scheme) (rs1 rs2 : Option ℕ) (x : Translation) (root asid : ℕ) → IsTrue x.entry.global → is_fenced scheme rs1 rs2 x.entry ≡ is_fenced scheme rs1 rs2 (placed root asid x).entry
fence-placed scheme None None x root asid g = refl
fence-placed scheme None (Some rs2) x root asid g = space-placed rs2 x root asid g
fence-placed scheme (Some rs1) None x root asid g = refl
fence-placed scheme (Some rs1) (Some rs2) x root asid g = ap (λ b. is_of_address scheme rs1 x.entry && b) (space-placed rs2 x root asid g)

covered-placed : (scheme : Scheme) (fence : RemoteFence) (x : Translation) (root asid : ℕ) → IsTrue x.entry.global → is_covered scheme fence x.entry ≡ is_covered scheme fence (placed root asid x).entry
covered-placed scheme fence x root asid g = ap (λ b. reaches fence.range x.entry.page && b) (fence-placed scheme None fence.asid x root asid g)

root-placed : (of : Option ℕ) (x : Translation) (root asid : ℕ) → IsTrue x.entry.global → is_of_root of x ≡ is_of_root of (placed root asid x)
root-placed None x root asid g = refl
root-placed (Some of) x root asid g = and_not x.entry.global _ _ g

-- live, dropped and held
leaf-placed : (scheme : Scheme) (words : Tables) (root asid : ℕ) (e : Entry) → HasLeaf scheme words root e → HasLeaf scheme words root (record e { asid = asid })
leaf-placed scheme words root asid e leaf = record { table = leaf.table; word = leaf.word; page = leaf.page; leads = leaf.leads; kind = leaf.kind; aligned = leaf.aligned; global = leaf.global }

module _ (scheme : Scheme) (hart : ℕ) where
  live-placed : (trace : Trace) (x : Translation) (root asid : ℕ) → IsTrue x.entry.global → Live scheme trace hart x → Live scheme trace hart (placed root asid x)
  live-placed trace x root asid g live = record { space = live.space; satp = live.satp; belongs = inl g; leaf = leaf-placed scheme _ live.space.root asid x.entry live.leaf }

  since-placed : (token : ℕ) (trace : Trace) (x : Translation) (root asid : ℕ) → IsTrue x.entry.global → LiveSince scheme token trace hart x → LiveSince scheme token trace hart (placed root asid x)
  since-placed token [] x root asid g h = absurd h
  since-placed token (newest ∷ trace) x root asid g (inl live) = inl (live-placed (newest ∷ trace) x root asid g live)
  since-placed token (newest ∷ trace) x root asid g (inr h) = inr (h.0, since-placed token trace x root asid g h.1)

  drops-placed : (newest : Record) (trace : Trace) (x : Translation) (root asid : ℕ) → IsTrue x.entry.global → Drops scheme newest trace hart x → Drops scheme newest trace hart (placed root asid x)
  drops-placed (Fence of rs1 rs2) trace x root asid g d = (d.0, sym (fence-placed scheme rs1 rs2 x root asid g) ∙ d.1)
  drops-placed (RemoteEnd of token) trace x root asid g d = record {
    fence = d.fence;
    begun = d.begun;
    named = d.named;
    covered = sym (covered-placed scheme d.fence x root asid g) ∙ d.covered;
    not_live = λ since. d.not_live (since-placed token trace (placed root asid x) x.root x.entry.asid g since);
  }
  drops-placed _ trace x root asid g d = absurd d

  held-placed : (trace : Trace) (x : Translation) (root asid : ℕ) → IsTrue x.entry.global → MayHold scheme trace hart x → MayHold scheme trace hart (placed root asid x)
  held-placed [] x root asid g live = live-placed [] x root asid g live
  held-placed (newest ∷ trace) x root asid g (inl live) = inl (live-placed (newest ∷ trace) x root asid g live)
  held-placed (newest ∷ trace) x root asid g (inr h) =
      inr (held-placed trace x root asid g h.0, (λ d. h.1 (drops-placed newest trace (placed root asid x) x.root x.entry.asid g d)))

  -- current and stale
  counts-placed : (trace : Trace) (x : Translation) (root asid of : ℕ) → IsTrue x.entry.global → IsRootFor trace x of → IsRootFor trace (placed root asid x) of
  counts-placed trace x root asid of g (inl own) = absurd (true≢false (sym g ∙ own.0))
  counts-placed trace x root asid of g (inr any) = inr any

  current-placed : (trace : Trace) (x : Translation) (root asid : ℕ) → IsTrue x.entry.global → IsCurrent scheme trace x → IsCurrent scheme trace (placed root asid x)
  current-placed trace x root asid g c = record {
    root = c.root;
    counts = counts-placed trace x root asid c.root g c.counts;
    mapped = record {
      flags = c.mapped.flags;
      permit = c.mapped.permit;
      leaf = leaf-placed scheme _ c.root asid (record x.entry { flags = c.mapped.flags }) c.mapped.leaf;
    };
  }

  stale-placed : (trace : Trace) (x : Translation) (root asid : ℕ) → IsTrue x.entry.global → Stale scheme trace hart x → Stale scheme trace hart (placed root asid x)
  stale-placed trace x root asid g s = record { held = held-placed trace x root asid g s.held; gone = λ c. s.gone (current-placed trace (placed root asid x) x.root x.entry.asid g c) }

  stale-since-placed : (Old New : Record → Trace → Type 0) → ((newest : Record) (before : Trace) → Old newest before → New newest before) → (trace : Trace) (x : Translation) (root asid : ℕ) → IsTrue x.entry.global → StaleSince scheme Old trace hart x
      → StaleSince scheme New trace hart (placed root asid x)
  stale-since-placed Old New moves [] x root asid g s = absurd s
  stale-since-placed Old New moves (newest ∷ trace) x root asid g (s, inl now) = (stale-placed (newest ∷ trace) x root asid g s, inl (moves newest trace now))
  stale-since-placed Old New moves (newest ∷ trace) x root asid g (s, inr before) = (stale-placed (newest ∷ trace) x root asid g s, inr (stale-since-placed Old New moves trace x root asid g before))

  -- verdicts
  exposed-placed : (frames : Frames) (trace : Trace) (x : Translation) (root asid : ℕ) → IsTrue x.entry.global → IsExposed scheme frames trace hart x → IsExposed scheme frames trace hart (placed root asid x)
  exposed-placed frames trace x root asid g e = record { frame = e.frame; among = e.among; of_page = e.of_page; stale = stale-placed trace x root asid g e.stale }

  broken-placed : (token : ℕ) (trace : Trace) (x : Translation) (root asid : ℕ) → IsTrue x.entry.global → IsBroken scheme token trace hart x → IsBroken scheme token trace hart (placed root asid x)
  broken-placed token trace x root asid g b = record {
    claim = b.claim;
    begun = b.begun;
    claimed = ap (λ t. t && reaches b.claim.range x.entry.page) (sym (root-placed b.claim.root x root asid g)) ∙ b.claimed;
    stale = stale-since-placed _ _ (λ newest before is. is) trace x root asid g b.stale;
  }

  takes-placed : (newest : Record) (trace : Trace) (x : Translation) (root asid : ℕ) → IsTrue x.entry.global → TakesForGone scheme newest trace hart x → TakesForGone scheme newest trace hart (placed root asid x)
  takes-placed (GiveBack of frames) trace x root asid g t = exposed-placed frames trace x root asid g t
  takes-placed (ClaimEnd of token) trace x root asid g t = broken-placed token trace x root asid g t
  takes-placed _ trace x root asid g t = absurd t

  taken-placed : (trace : Trace) (x : Translation) (root asid : ℕ) → IsTrue x.entry.global → TakenForGone scheme trace hart x → TakenForGone scheme trace hart (placed root asid x)
  taken-placed trace x root asid g t = stale-since-placed _ _ (λ newest before is. takes-placed newest before x root asid g is) trace x root asid g t

  serves-placed : (trace : Trace) (address : ℕ) (x : Translation) (root asid : ℕ) → IsTrue x.entry.global → Serves trace hart address x → Serves trace hart address (placed root asid x)
  serves-placed trace address x root asid g s = record { space = s.space; satp = s.satp; «match» = ap (λ b. holds x.entry.page address && b) (or_same x.entry.global (asid == s.space.asid) (x.entry.asid == s.space.asid) g) ∙ s.«match» }

  free-placed : (newest : Record) (trace : Trace) (x : Translation) (root asid : ℕ) → IsTrue x.entry.global → IsGiven scheme Free newest trace hart x → IsGiven scheme Free newest trace hart (placed root asid x)
  free-placed (GiveBack of frames) trace x root asid g h = exposed-placed frames trace x root asid g h
  free-placed _ trace x root asid g h = absurd h

  reuse-placed : (newest : Record) (trace : Trace) (x : Translation) (root asid : ℕ) → IsTrue x.entry.global → IsGiven scheme Reuse newest trace hart x → IsGiven scheme Reuse newest trace hart (placed root asid x)
  reuse-placed (GiveOut of frames) trace x root asid g h = exposed-placed frames trace x root asid g h
  reuse-placed _ trace x root asid g h = absurd h

  claimed-placed : (newest : Record) (trace : Trace) (x : Translation) (root asid : ℕ) → IsTrue x.entry.global → IsGiven scheme Claimed newest trace hart x → IsGiven scheme Claimed newest trace hart (placed root asid x)
  claimed-placed (ClaimEnd of token) trace x root asid g h = broken-placed token trace x root asid g h
  claimed-placed _ trace x root asid g h = absurd h

  used-placed : (newest : Record) (trace : Trace) (x : Translation) (root asid : ℕ) → IsTrue x.entry.global → IsGiven scheme Used newest trace hart x → IsGiven scheme Used newest trace hart (placed root asid x)
  used-placed (Use of address) trace x root asid g h = (h.0, taken-placed trace x root asid g h.1, serves-placed trace address x root asid g h.2)
  used-placed _ trace x root asid g h = absurd h

  given-placed : (verdict : Verdict) (newest : Record) (trace : Trace) (x : Translation) (root asid : ℕ) → IsTrue x.entry.global → IsGiven scheme verdict newest trace hart x → IsGiven scheme verdict newest trace hart (placed root asid x)
  given-placed Free newest trace x root asid g h = free-placed newest trace x root asid g h
  given-placed Reuse newest trace x root asid g h = reuse-placed newest trace x root asid g h
  given-placed Claimed newest trace x root asid g h = claimed-placed newest trace x root asid g h
  given-placed Used newest trace x root asid g h = used-placed newest trace x root asid g h

  was-placed : (verdict : Verdict) (trace : Trace) (x : Translation) (root asid : ℕ) → IsTrue x.entry.global → WasGiven scheme verdict trace hart x → WasGiven scheme verdict trace hart (placed root asid x)
  was-placed verdict trace x root asid g h = stale-since-placed _ _ (λ newest before is. given-placed verdict newest before x root asid g is) trace x root asid g h

-- both ways
module _ (scheme : Scheme) (trace : Trace) (hart : ℕ) (x : Translation) (root asid : ℕ) (g : IsTrue x.entry.global) where
  pub live_placed : Live scheme trace hart (placed root asid x) ↔ Live scheme trace hart x
  live_placed = (live-placed scheme hart trace (placed root asid x) x.root x.entry.asid g, live-placed scheme hart trace x root asid g)

  pub held_placed : MayHold scheme trace hart (placed root asid x) ↔ MayHold scheme trace hart x
  held_placed = (held-placed scheme hart trace (placed root asid x) x.root x.entry.asid g, held-placed scheme hart trace x root asid g)

  pub current_placed : IsCurrent scheme trace (placed root asid x) ↔ IsCurrent scheme trace x
  current_placed = (current-placed scheme hart trace (placed root asid x) x.root x.entry.asid g, current-placed scheme hart trace x root asid g)

  pub stale_placed : Stale scheme trace hart (placed root asid x) ↔ Stale scheme trace hart x
  stale_placed = (stale-placed scheme hart trace (placed root asid x) x.root x.entry.asid g, stale-placed scheme hart trace x root asid g)

  pub since_placed : (token : ℕ) → LiveSince scheme token trace hart (placed root asid x) ↔ LiveSince scheme token trace hart x
  since_placed token = (since-placed scheme hart token trace (placed root asid x) x.root x.entry.asid g, since-placed scheme hart token trace x root asid g)

  pub drops_placed : (newest : Record) → Drops scheme newest trace hart (placed root asid x) ↔ Drops scheme newest trace hart x
  drops_placed newest = (drops-placed scheme hart newest trace (placed root asid x) x.root x.entry.asid g, drops-placed scheme hart newest trace x root asid g)

  pub given_placed : (verdict : Verdict) (newest : Record) → IsGiven scheme verdict newest trace hart (placed root asid x) ↔ IsGiven scheme verdict newest trace hart x
  given_placed verdict newest = (given-placed scheme hart verdict newest trace (placed root asid x) x.root x.entry.asid g, given-placed scheme hart verdict newest trace x root asid g)

  pub was_placed : (verdict : Verdict) → WasGiven scheme verdict trace hart (placed root asid x) ↔ WasGiven scheme verdict trace hart x
  was_placed verdict = (was-placed scheme hart verdict trace (placed root asid x) x.root x.entry.asid g, was-placed scheme hart verdict trace x root asid g)

  not-placed : (A B : Type 0) → A ↔ B → (¬ A) ↔ (¬ B)
  not-placed A B same = ((λ n b. n (same.1 b)), (λ n a. n (same.0 a)))

  pub new_placed : (verdict : Verdict) → IsNew scheme verdict trace hart (placed root asid x) ↔ IsNew scheme verdict trace hart x
  new_placed Used = ((λ u. u), (λ u. u))
  new_placed Free = not-placed _ _ (was_placed Free)
  new_placed Reuse = not-placed _ _ (was_placed Reuse)
  new_placed Claimed = not-placed _ _ (was_placed Claimed)
