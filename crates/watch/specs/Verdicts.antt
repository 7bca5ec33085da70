-- The moments at which a hart may still use a translation that the kernel took for gone.
use Rattle.std.specs.Prelude.{ℕ, Bool, true, ◌≡◌, ◌==◌, ◌&&◌, ◌⊎◌, not, [], ◌∷◌, length}
use Rattle.std.specs.Prelude.{Option, Some, None, IsTrue}
use Rattle.pte.specs.declared.scheme.Scheme.{Scheme}
use Rattle.tlb.specs.Entries.{is_match}
use Rattle.watch.specs.declared.trace.Record.{Record}
use Rattle.watch.specs.declared.trace.Record.TheVariants.{GiveOut, GiveBack, ClaimEnd, Use}
use Rattle.watch.specs.declared.trace.Claim.{Claim}
use Rattle.watch.specs.declared.trace.Frames.{Frames}
use Rattle.watch.specs.declared.trace.Space.{Space}
use Rattle.watch.specs.declared.trace.Verdict.{Verdict}
use Rattle.watch.specs.declared.trace.Verdict.TheVariants.{Free, Reuse, Claimed, Used}
use Rattle.watch.specs.Trace.{Trace, is_among, satp_of, claim_of, begins_claim}
use Rattle.watch.specs.Holding.{Translation, reaches}
use Rattle.watch.specs.Staleness.{Stale, is_frame_of}

-- one of the frames is given back, or out, while the hart may hold the stale translation to it
pub record IsExposed (scheme : Scheme) (frames : Frames) (trace : Trace) (hart : ℕ)
    (x : Translation) : Type 0 where
  pub frame : ℕ
  pub among : IsTrue (is_among frames frame)
  pub of_page : IsTrue (is_frame_of x.entry frame)
  pub stale : Stale scheme trace hart x

-- the claim is of the translation: of one root, what is not global
abbrev pub is_of_root : Option ℕ → Translation → Bool
is_of_root None x = true
is_of_root (Some root) x = (x.root == root) && not x.entry.global

abbrev pub is_claimed : Claim → Translation → Bool
is_claimed claim x = is_of_root claim.root x && reaches claim.range x.entry.page

-- it happened at some record, and the hart may have held the translation as stale ever since
abbrev pub StaleSince : Scheme → (Record → Trace → Type 0) → Trace → ℕ → Translation → Type 0
StaleSince scheme Happens [] hart x = ⊥
StaleSince scheme Happens (newest ∷ trace) hart x =
    Stale scheme (newest ∷ trace) hart x
    × (Happens newest trace ⊎ StaleSince scheme Happens trace hart x)

-- the claim under the token is of what the hart may hold, stale since before the claim began
pub record IsBroken (scheme : Scheme) (token : ℕ) (trace : Trace) (hart : ℕ)
    (x : Translation) : Type 0 where
  pub claim : Claim
  pub begun : claim_of trace token ≡ Some claim
  pub claimed : IsTrue (is_claimed claim x)
  pub stale :
      StaleSince scheme (λ newest before. IsTrue (begins_claim token newest)) trace hart x

-- at the record the kernel takes the translation for gone, and the hart may hold it: a frame of it
-- is given back, or a claim of it ends
abbrev pub TakesForGone : Scheme → Record → Trace → ℕ → Translation → Type 0
TakesForGone scheme (GiveBack of frames) trace hart x = IsExposed scheme frames trace hart x
TakesForGone scheme (ClaimEnd of token) trace hart x = IsBroken scheme token trace hart x
TakesForGone scheme _ trace hart x = ⊥

abbrev pub TakenForGone : Scheme → Trace → ℕ → Translation → Type 0
TakenForGone scheme trace hart x =
    StaleSince scheme (λ newest before. TakesForGone scheme newest before hart x) trace hart x

-- the hart may use it for an access to the address: its page has the address, and it is global or
-- of the ASID in satp
pub record Serves (trace : Trace) (hart address : ℕ) (x : Translation) : Type 0 where
  pub space : Space
  pub satp : satp_of trace hart ≡ Some space
  pub «match» : IsTrue (is_match space.asid address x.entry)

-- the verdict is given at the record, of a translation that the hart may hold
abbrev pub IsGiven : Scheme → Verdict → Record → Trace → ℕ → Translation → Type 0
IsGiven scheme Free (GiveBack of frames) trace hart x = IsExposed scheme frames trace hart x
IsGiven scheme Reuse (GiveOut of frames) trace hart x = IsExposed scheme frames trace hart x
IsGiven scheme Claimed (ClaimEnd of token) trace hart x = IsBroken scheme token trace hart x
IsGiven scheme Used (Use of address) trace hart x =
    (of ≡ hart) × TakenForGone scheme trace hart x × Serves trace hart address x
IsGiven scheme _ _ trace hart x = ⊥

-- it was given at some record, and the translation has been stale since
abbrev pub WasGiven : Scheme → Verdict → Trace → ℕ → Translation → Type 0
WasGiven scheme verdict trace hart x =
    StaleSince scheme (λ newest before. IsGiven scheme verdict newest before hart x) trace hart x

-- each use is a verdict of its own; any other is new once, for as long as the translation is stale
abbrev pub IsNew : Scheme → Verdict → Trace → ℕ → Translation → Type 0
IsNew scheme Used trace hart x = Unit {0}
IsNew scheme verdict trace hart x = ¬ WasGiven scheme verdict trace hart x

-- the verdict is given at the record that has this many records before it
abbrev pub IsGivenAt : Scheme → Trace → ℕ → Verdict → ℕ → Translation → Type 0
IsGivenAt scheme [] number verdict hart x = ⊥
IsGivenAt scheme (newest ∷ trace) number verdict hart x =
    ((length trace ≡ number) × IsGiven scheme verdict newest trace hart x)
    ⊎ IsGivenAt scheme trace number verdict hart x
