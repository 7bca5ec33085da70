-- What a record adds to what a hart may hold, and what it takes.
use Rattle.std.proofs.Common.{◌≡◌, ℕ, Bool, true, false, Option, Some, [], ◌∷◌, ◌++◌, IsTrue, ap, sym, ◌∙◌, subst, refl, inl, inr, arith}
use Rattle.std.specs.Prelude.{◌⊎◌, ◌↔◌, ◌==◌, if◌then◌else◌}
use Rattle.std.proofs.lemmas.Bool.{eqb-true, eq-eqb}
use Rattle.pte.specs.declared.scheme.Scheme.{Scheme}
use Rattle.walk.specs.Leads.{Tables}
use Rattle.watch.specs.declared.trace.Record.{Record}
use Rattle.watch.specs.declared.trace.Record.TheVariants.{Store, Satp, Fence, RemoteEnd, GiveOut}
use Rattle.watch.specs.declared.trace.Space.{Space}
use Rattle.watch.specs.declared.trace.RemoteFence.{RemoteFence}
use Rattle.watch.specs.Trace.{Trace, stores, words_after, words_of, satp_after, satp_of, hart_of, fence_of}
use Rattle.watch.specs.Holding.{Translation, HasLeaf, Live, Drops, MayHold, HeldSince, is_named, names, is_fence_for}

-- a record that stores no word leaves the memory
pub words-kept : (newest : Record) (words : Tables) → stores newest ≡ false → words_after newest words ≡ words
words-kept (Store hart address word) words none = cc
words-kept (GiveOut hart frames) words none = cc
words-kept _ words none = refl

-- a record of another hart leaves a hart's satp
skipped : (of hart : ℕ) (space old : Option Space) → (of ≡ hart → ⊥) → (if of == hart then space else old) ≡ old
skipped of hart space old other = grind (arith, eqb-true)

pub satp-kept : (newest : Record) (hart : ℕ) (old : Option Space) → (hart_of newest ≡ hart → ⊥) → satp_after hart newest old ≡ old
satp-kept (Satp of space) hart old other = skipped of hart space old other
satp-kept _ hart old other = refl

-- what is live may be held
pub live-held : (scheme : Scheme) (trace : Trace) (hart : ℕ) (x : Translation) → Live scheme trace hart x → MayHold scheme trace hart x
live-held scheme [] hart x live = live
live-held scheme (newest ∷ trace) hart x live = inl live

-- what is not dropped stays
pub kept-held : (scheme : Scheme) (newest : Record) (trace : Trace) (hart : ℕ) (x : Translation) → MayHold scheme trace hart x → ¬ Drops scheme newest trace hart x → MayHold scheme (newest ∷ trace) hart x
kept-held scheme newest trace hart x held stays = inr (held, stays)

-- nothing smaller has what is live and keeps what is not dropped
pub least : (scheme : Scheme) (is_in : Trace → ℕ → Translation → Bool) → ((trace : Trace) (hart : ℕ) (x : Translation) → Live scheme trace hart x → IsTrue (is_in trace hart x))
    → ((newest : Record) (trace : Trace) (hart : ℕ) (x : Translation) → IsTrue (is_in trace hart x) → ¬ Drops scheme newest trace hart x → IsTrue (is_in (newest ∷ trace) hart x))
    → (trace : Trace) (hart : ℕ) (x : Translation) → MayHold scheme trace hart x → IsTrue (is_in trace hart x)
least scheme is_in fills keeps [] hart x live = fills [] hart x live
least scheme is_in fills keeps (newest ∷ trace) hart x (inl live) = fills (newest ∷ trace) hart x live
least scheme is_in fills keeps (newest ∷ trace) hart x (inr h) = keeps newest trace hart x (least scheme is_in fills keeps trace hart x h.0) h.1

-- a record that is no fence for the hart drops nothing of it
named-of : (found : Option RemoteFence) (fence : RemoteFence) (hart : ℕ) → found ≡ Some fence → IsTrue (names fence hart) → is_named found hart ≡ true
named-of found fence hart is named = ap (λ f. is_named f hart) is ∙ named

pub drops-fence : (scheme : Scheme) (newest : Record) (trace : Trace) (hart : ℕ) (x : Translation) → Drops scheme newest trace hart x → is_fence_for newest trace hart ≡ true
drops-fence scheme (Fence of rs1 rs2) trace hart x d = eq-eqb of hart d.0
drops-fence scheme (RemoteEnd of token) trace hart x d = named-of (fence_of trace token) d.fence hart d.begun d.named
drops-fence scheme _ trace hart x d = absurd d

pub no-fence_no-drop : (scheme : Scheme) (newest : Record) (trace : Trace) (hart : ℕ) (x : Translation) → is_fence_for newest trace hart ≡ false → ¬ Drops scheme newest trace hart x
no-fence_no-drop scheme newest trace hart x none d = let is : is_fence_for newest trace hart ≡ true = drops-fence scheme newest trace hart x d in cc

pub not_taken : (scheme : Scheme) (newest : Record) (trace : Trace) (hart : ℕ) (x : Translation) → is_fence_for newest trace hart ≡ false → MayHold scheme trace hart x → MayHold scheme (newest ∷ trace) hart x
not_taken scheme newest trace hart x none held = inr (held, no-fence_no-drop scheme newest trace hart x none)

-- a record of another hart that stores no word adds nothing
pub live-before : (scheme : Scheme) (newest : Record) (trace : Trace) (hart : ℕ) (x : Translation) → (hart_of newest ≡ hart → ⊥) → stores newest ≡ false → Live scheme (newest ∷ trace) hart x → Live scheme trace hart x
live-before scheme newest trace hart x other none live = record {
  space = live.space;
  satp = sym (satp-kept newest hart (satp_of trace hart) other) ∙ live.satp;
  belongs = live.belongs;
  leaf = subst (λ w. HasLeaf scheme w live.space.root x.entry) (words-kept newest (words_of trace) none) live.leaf;
}

pub nothing_added : (scheme : Scheme) (newest : Record) (trace : Trace) (hart : ℕ) (x : Translation) → (hart_of newest ≡ hart → ⊥) → stores newest ≡ false → MayHold scheme (newest ∷ trace) hart x → MayHold scheme trace hart x
nothing_added scheme newest trace hart x other none (inl live) = live-held scheme trace hart x (live-before scheme newest trace hart x other none live)
nothing_added scheme newest trace hart x other none (inr h) = h.0

-- what may be held was live at some moment, and no record since has dropped it
cons_split : (newest : Record) (later after : Trace) (r : Record) (before : Trace) → newest ∷ later ≡ after ++ r ∷ before
    → ((newest ≡ r) × (later ≡ before)) ⊎ ((rest : Trace) × (later ≡ rest ++ r ∷ before))
cons_split newest later [] r before e = inl ((cc), (cc))
cons_split newest later (first ∷ rest) r before e = inr (rest, (cc))

none_split : (after : Trace) (r : Record) (before : Trace) → [] ≡ after ++ r ∷ before → ⊥
none_split [] r before e = cc
none_split (first ∷ rest) r before e = cc

pub held-since : (scheme : Scheme) (trace : Trace) (hart : ℕ) (x : Translation) → MayHold scheme trace hart x → HeldSince scheme trace hart x
held-since scheme [] hart x live = record { later = []; earlier = []; split = refl; live = live; kept = λ after newest before e. absurd (none_split after newest before e) }
held-since scheme (newest ∷ trace) hart x (inl live) = record { later = []; earlier = newest ∷ trace; split = refl; live = live; kept = λ after r before e. absurd (none_split after r before e) }
held-since scheme (newest ∷ trace) hart x (inr h) =
    let was = held-since scheme trace hart x h.0 in
    record {
      later = newest ∷ was.later;
      earlier = was.earlier;
      split = ap (λ t. newest ∷ t) was.split;
      live = was.live;
      kept = λ after r before e d.
          elim (cons_split newest was.later after r before e) [
            | inl same ↦
                h.1 (subst (λ t. Drops scheme newest t hart x) (ap (λ l. l ++ was.earlier) (sym same.1) ∙ sym was.split)
                (subst (λ q. Drops scheme q (before ++ was.earlier) hart x) (sym same.0) d))
            | inr more ↦ was.kept more.0 r before more.1 d
          ];
    }

since-held : (scheme : Scheme) (later earlier : Trace) (hart : ℕ) (x : Translation) → Live scheme earlier hart x
    → ((after : Trace) (newest : Record) (before : Trace) → later ≡ after ++ newest ∷ before → ¬ Drops scheme newest (before ++ earlier) hart x) → MayHold scheme (later ++ earlier) hart x
since-held scheme [] earlier hart x live kept = live-held scheme earlier hart x live
since-held scheme (newest ∷ later) earlier hart x live kept =
    inr (since-held scheme later earlier hart x live (λ after r before e. kept (newest ∷ after) r before (ap (λ t. newest ∷ t) e)), kept [] newest later refl)

pub held_since : (scheme : Scheme) (trace : Trace) (hart : ℕ) (x : Translation) → MayHold scheme trace hart x ↔ HeldSince scheme trace hart x
held_since scheme trace hart x = (
  held-since scheme trace hart x,
  (λ s. subst (λ t. MayHold scheme t hart x) (sym s.split) (since-held scheme s.later s.earlier hart x s.live s.kept)),
)
