-- The root in a hart's satp is the root of an address space, so what is live is current.
use Rattle.std.proofs.Common.{◌≡◌, ℕ, Bool, true, false, Option, Some, None, [], ◌∷◌, IsTrue, ap, sym, ◌∙◌, subst, refl, inl, inr}
use Rattle.std.specs.Prelude.{◌⊎◌, ◌↔◌, ◌==◌, ◌||◌, not, if◌then◌else◌}
use Rattle.std.specs.List.{list_any}
use Rattle.std.proofs.lemmas.Bool.{and_from, and_parts, eq-eqb, eqb-true, not-true, or_cases, or_left, or_right, true≢false}
use Rattle.pte.specs.declared.scheme.Scheme.{Scheme}
use Rattle.pte.specs.declared.flags.PteFlags.{PteFlags}
use Rattle.walk.specs.Leads.{Tables}
use Rattle.watch.specs.declared.trace.Frames.{Frames}
use Rattle.watch.specs.declared.trace.Record.TheVariants.{Satp, GiveOut}
use Rattle.watch.specs.declared.trace.Space.{Space}
use Rattle.watch.specs.Trace.{Trace, has_root, hart_of, is_among, is_root, is_used, satp_after, satp_of, words_of}
use Rattle.watch.specs.Holding.{BelongsTo, HasLeaf, Live, Translation}
use Rattle.watch.specs.Staleness.{IsCurrent, IsMapped, IsRootFor, Permit}

-- a hart that has a space in its satp wrote it
written-by : (of hart : ℕ) (space old : Option Space) (now : Space) (b : Bool) → (of == hart) ≡ b → (if b then space else old) ≡ Some now → ((of ≡ hart) × (space ≡ Some now)) ⊎ (old ≡ Some now)
written-by of hart space old now true is e = inl (eqb-true of hart is, e)
written-by of hart space old now false is e = inr e

written : (of hart : ℕ) (space old : Option Space) (now : Space) → satp_after hart (Satp of space) old ≡ Some now → ((of ≡ hart) × (space ≡ Some now)) ⊎ (old ≡ Some now)
written of hart space old now e = written-by of hart space old now (of == hart) refl e

some_record : (trace : Trace) (hart : ℕ) (space : Space) (test : ℕ → Bool) → satp_of trace hart ≡ Some space → IsTrue (test hart) → IsTrue (list_any (λ made. test (hart_of made)) trace)
some_record [] hart space test is passes = cc
some_record (Satp of new ∷ trace) hart space test is passes =
    elim (written of hart new (satp_of trace hart) space is) [
      | inl now ↦ or_left (test of) _ (ap test now.0 ∙ passes)
      | inr before ↦ or_right (test of) _ (some_record trace hart space test before passes)
    ]
some_record (newest ∷ trace) hart space test is passes = or_right (test (hart_of newest)) _ (some_record trace hart space test is passes)

satp-used : (trace : Trace) (hart : ℕ) (space : Space) → satp_of trace hart ≡ Some space → IsTrue (is_used trace space.root)
satp-used trace hart space is =
    some_record trace hart space (λ h. has_root (satp_of trace h) space.root) is (ap (λ s. has_root s space.root) is ∙ eq-eqb space.root space.root refl)

-- the root in a satp is a root
pub satp-root : (trace : Trace) (hart : ℕ) (space : Space) → satp_of trace hart ≡ Some space → IsTrue (is_root trace space.root)
satp-root [] hart space is = cc
satp-root (Satp of new ∷ trace) hart space is =
    elim (written of hart new (satp_of trace hart) space is) [
      | inl now ↦ or_left (has_root new space.root) _ (ap (λ s. has_root s space.root) now.1 ∙ eq-eqb space.root space.root refl)
      | inr before ↦ or_right (has_root new space.root) _ (satp-root trace hart space before)
    ]
satp-root (GiveOut of frames ∷ trace) hart space is =
    and_from (not (is_among frames space.root) || is_used trace space.root) _
    (or_right (not (is_among frames space.root)) _ (satp-used trace hart space is)) (satp-root trace hart space is)
satp-root (newest ∷ trace) hart space is = satp-root trace hart space is

-- a root that is used is in the satp of some hart
root-of : (o : Option Space) (frame : ℕ) → IsTrue (has_root o frame) → (space : Space) × (o ≡ Some space) × (space.root ≡ frame)
root-of None frame h = cc
root-of (Some space) frame h = (space, refl, eqb-true space.root frame h)

used-by : (trace : Trace) (frame : ℕ) (older : Trace) → IsTrue (list_any (λ made. has_root (satp_of trace (hart_of made)) frame) older) → (hart : ℕ) × (space : Space) × (satp_of trace hart ≡ Some space) × (space.root ≡ frame)
used-by trace frame [] h = cc
used-by trace frame (made ∷ older) h =
    elim (or_cases (has_root (satp_of trace (hart_of made)) frame) _ h) [
      | inl now ↦ let at = root-of (satp_of trace (hart_of made)) frame now in (hart_of made, at.0, at.1, at.2)
      | inr before ↦ used-by trace frame older before
    ]

pub used_iff : (trace : Trace) (frame : ℕ) → IsTrue (is_used trace frame) ↔ ((hart : ℕ) × (space : Space) × (satp_of trace hart ≡ Some space) × (space.root ≡ frame))
used_iff trace frame = (used-by trace frame trace, (λ at. subst (λ f. IsTrue (is_used trace f)) at.3 (satp-used trace at.0 at.1 at.2)))

given-out : (by : ℕ) (frames : Frames) (trace : Trace) (frame : ℕ) → IsTrue (is_among frames frame) → IsTrue (is_root (GiveOut by frames ∷ trace) frame)
    → (hart : ℕ) × (space : Space) × (satp_of trace hart ≡ Some space) × (space.root ≡ frame)
given-out by frames trace frame among root =
    elim (or_cases (not (is_among frames frame)) (is_used trace frame) (and_parts (not (is_among frames frame) || is_used trace frame) _ root).0) [
      | inl other ↦ absurd (true≢false (sym among ∙ not-true (is_among frames frame) other))
      | inr used ↦ used-by trace frame trace used
    ]

pub given_out : (by : ℕ) (frames : Frames) (trace : Trace) (frame : ℕ) → IsTrue (is_among frames frame)
    → IsTrue (is_root (GiveOut by frames ∷ trace) frame) ↔ ((hart : ℕ) × (space : Space) × (satp_of trace hart ≡ Some space) × (space.root ≡ frame))
given_out by frames trace frame among = (
  given-out by frames trace frame among,
  (λ at. subst (λ f. IsTrue (is_root (GiveOut by frames ∷ trace) f)) at.3 (satp-root (GiveOut by frames ∷ trace) at.0 at.1 at.2)),
)

-- what the tables have is mapped
pub Permit-same : (flags : PteFlags) → Permit flags flags
Permit-same flags = record { user = refl; read = λ h. h; write = λ h. h; execute = λ h. h }

pub leaf-mapped : (scheme : Scheme) (words : Tables) (x : Translation) → HasLeaf scheme words x.root x.entry → IsMapped scheme words x
leaf-mapped scheme words x leaf = record { flags = x.entry.flags; permit = Permit-same x.entry.flags; leaf = leaf }

-- and current, under each root that counts for it
pub leaf-current : (scheme : Scheme) (trace : Trace) (root : ℕ) (x : Translation) → IsRootFor trace x root → HasLeaf scheme (words_of trace) root x.entry → IsCurrent scheme trace x
leaf-current scheme trace root x counts leaf = record {
  root = root;
  counts = counts;
  mapped = leaf-mapped scheme (words_of trace) (record x { root = root }) leaf;
}

-- the root of the space that a translation is of counts for it
own_root : (space : Space) (x : Translation) → x.entry.global ≡ false → BelongsTo space x → space.root ≡ x.root
own_root space x local (inl global) = absurd (true≢false (sym global ∙ local))
own_root space x local (inr own) = ap (λ (s : Space). s.root) own

counts-by : (trace : Trace) (space : Space) (x : Translation) (global : Bool) → x.entry.global ≡ global → IsTrue (is_root trace space.root) → BelongsTo space x → IsRootFor trace x space.root
counts-by trace space x true is root belongs = inr (is, root)
counts-by trace space x false is root belongs = inl (is, own_root space x is belongs)

pub space-counts : (trace : Trace) (space : Space) (x : Translation) → IsTrue (is_root trace space.root) → BelongsTo space x → IsRootFor trace x space.root
space-counts trace space x root belongs = counts-by trace space x x.entry.global refl root belongs

-- what is live is current
pub live-current : (scheme : Scheme) (trace : Trace) (hart : ℕ) (x : Translation) → Live scheme trace hart x → IsCurrent scheme trace x
live-current scheme trace hart x live =
    leaf-current scheme trace live.space.root x (space-counts trace live.space x (satp-root trace hart live.space live.satp) live.belongs) live.leaf
