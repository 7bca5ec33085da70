-- Whether a hart may hold a translation, whether it is stale, and whether a verdict is given,
-- computed record by record.
use Rattle.std.specs.Prelude.{ℕ, Bool, true, false, [], ◌∷◌, Option, Some, None}
use Rattle.std.specs.Prelude.{◌+◌, ◌==◌, ◌&&◌, ◌||◌, not, nat_lt}
use Rattle.pte.specs.declared.scheme.Scheme.{Scheme}
use Rattle.pte.specs.Address.{pages_of}
use Rattle.walk.specs.Leads.{Tables}
use Rattle.tlb.specs.declared.store.Entry.{Entry}
use Rattle.tlb.specs.Entries.{is_match}
use Rattle.tlb.specs.Fence.{is_fenced}
use Rattle.watch.specs.declared.trace.Claim.{Claim}
use Rattle.watch.specs.declared.trace.Frames.{Frames}
use Rattle.watch.specs.declared.trace.Record.{Record}
use Rattle.watch.specs.declared.trace.Record.TheVariants.{Satp, Fence, RemoteEnd, GiveOut, GiveBack, ClaimEnd, Use}
use Rattle.watch.specs.declared.trace.RemoteFence.{RemoteFence}
use Rattle.watch.specs.declared.trace.Space.{Space}
use Rattle.watch.specs.declared.trace.Verdict.{Verdict}
use Rattle.watch.specs.declared.trace.Verdict.TheVariants.{Free, Reuse, Claimed, Used}
use Rattle.watch.specs.Trace.{Trace, begins_claim, begins_fence, claim_of, fence_of, is_root, satp_of, words_of}
use Rattle.watch.specs.Holding.{Translation, is_covered, names}
use Rattle.watch.specs.Verdicts.{is_claimed}
use Rattle.watch.specs.Computed.{has_leaf, is_mapped}

-- live
abbrev pub belongs_to : Space → Translation → Bool
belongs_to space x = x.entry.global || ((space.root == x.root) && (space.asid == x.entry.asid))

abbrev pub is_live_in : Scheme → Tables → Option Space → Translation → Bool
is_live_in scheme words None x = false
is_live_in scheme words (Some space) x =
    belongs_to space x && has_leaf scheme words space.root x.entry

abbrev pub is_live : Scheme → Trace → ℕ → Translation → Bool
is_live scheme trace hart x = is_live_in scheme (words_of trace) (satp_of trace hart) x

abbrev pub is_live_since : Scheme → ℕ → Trace → ℕ → Translation → Bool
is_live_since scheme token [] hart x = false
is_live_since scheme token (newest ∷ trace) hart x =
    is_live scheme (newest ∷ trace) hart x
    || (not (begins_fence token newest) && is_live_since scheme token trace hart x)

-- dropped
abbrev pub is_dropped_by : Scheme → Option RemoteFence → ℕ → Trace → ℕ → Translation → Bool
is_dropped_by scheme None token trace hart x = false
is_dropped_by scheme (Some fence) token trace hart x =
    names fence hart
    && (is_covered scheme fence x.entry && not (is_live_since scheme token trace hart x))

abbrev pub is_dropped : Scheme → Record → Trace → ℕ → Translation → Bool
is_dropped scheme (Fence of rs1 rs2) trace hart x =
    (of == hart) && is_fenced scheme rs1 rs2 x.entry
is_dropped scheme (RemoteEnd of token) trace hart x =
    is_dropped_by scheme (fence_of trace token) token trace hart x
is_dropped scheme _ trace hart x = false

-- held
abbrev pub is_held : Scheme → Trace → ℕ → Translation → Bool
is_held scheme [] hart x = is_live scheme [] hart x
is_held scheme (newest ∷ trace) hart x =
    is_live scheme (newest ∷ trace) hart x
    || (is_held scheme trace hart x && not (is_dropped scheme newest trace hart x))

-- current
abbrev pub under : Translation → ℕ → Translation
under x root = record x { root = root }

abbrev pub in_space : (ℕ → Bool) → Record → Bool
in_space test (Satp of (Some space)) = test space.root
in_space test _ = false

-- some address space has a root that passes the test
abbrev pub in_any_space : (ℕ → Bool) → Trace → Bool
in_any_space test [] = false
in_any_space test (newest ∷ trace) = in_space test newest || in_any_space test trace

abbrev pub is_shared : Scheme → Trace → Translation → ℕ → Bool
is_shared scheme trace x root =
    is_root trace root && is_mapped scheme (words_of trace) (under x root)

-- under its own root or, where it is global, under that of any address space
abbrev pub is_current : Scheme → Trace → Translation → Bool
is_current scheme trace x =
    (not x.entry.global && is_mapped scheme (words_of trace) x)
    || (x.entry.global && in_any_space (is_shared scheme trace x) trace)

-- stale
abbrev pub is_stale : Scheme → Trace → ℕ → Translation → Bool
is_stale scheme trace hart x = is_held scheme trace hart x && not (is_current scheme trace x)

-- verdicts
abbrev pub shares : Frames → Entry → Bool
shares frames e =
    nat_lt frames.first (e.ppn + pages_of e.page.size)
    && (nat_lt e.ppn (frames.first + frames.count) && nat_lt 0 frames.count)

abbrev pub is_exposed : Scheme → Frames → Trace → ℕ → Translation → Bool
is_exposed scheme frames trace hart x = shares frames x.entry && is_stale scheme trace hart x

abbrev pub is_stale_since :
    Scheme → (Record → Trace → Bool) → Trace → ℕ → Translation → Bool
is_stale_since scheme happens [] hart x = false
is_stale_since scheme happens (newest ∷ trace) hart x =
    is_stale scheme (newest ∷ trace) hart x
    && (happens newest trace || is_stale_since scheme happens trace hart x)

abbrev pub is_stale_since_claim : Scheme → ℕ → Trace → ℕ → Translation → Bool
is_stale_since_claim scheme token trace hart x =
    is_stale_since scheme (λ newest before. begins_claim token newest) trace hart x

abbrev pub is_broken_of : Scheme → Option Claim → ℕ → Trace → ℕ → Translation → Bool
is_broken_of scheme None token trace hart x = false
is_broken_of scheme (Some claim) token trace hart x =
    is_claimed claim x && is_stale_since_claim scheme token trace hart x

abbrev pub is_broken : Scheme → ℕ → Trace → ℕ → Translation → Bool
is_broken scheme token trace hart x =
    is_broken_of scheme (claim_of trace token) token trace hart x

abbrev pub takes : Scheme → Record → Trace → ℕ → Translation → Bool
takes scheme (GiveBack of frames) trace hart x = is_exposed scheme frames trace hart x
takes scheme (ClaimEnd of token) trace hart x = is_broken scheme token trace hart x
takes scheme _ trace hart x = false

abbrev pub is_taken : Scheme → Trace → ℕ → Translation → Bool
is_taken scheme trace hart x =
    is_stale_since scheme (λ newest before. takes scheme newest before hart x) trace hart x

abbrev pub is_served_in : Option Space → ℕ → Translation → Bool
is_served_in None address x = false
is_served_in (Some space) address x = is_match space.asid address x.entry

abbrev pub is_free : Scheme → Record → Trace → ℕ → Translation → Bool
is_free scheme (GiveBack of frames) trace hart x = is_exposed scheme frames trace hart x
is_free scheme _ trace hart x = false

abbrev pub is_reuse : Scheme → Record → Trace → ℕ → Translation → Bool
is_reuse scheme (GiveOut of frames) trace hart x = is_exposed scheme frames trace hart x
is_reuse scheme _ trace hart x = false

abbrev pub is_claim : Scheme → Record → Trace → ℕ → Translation → Bool
is_claim scheme (ClaimEnd of token) trace hart x = is_broken scheme token trace hart x
is_claim scheme _ trace hart x = false

abbrev pub is_use : Scheme → Record → Trace → ℕ → Translation → Bool
is_use scheme (Use of address) trace hart x =
    (of == hart)
    && (is_taken scheme trace hart x && is_served_in (satp_of trace hart) address x)
is_use scheme _ trace hart x = false

abbrev pub has_verdict : Scheme → Verdict → Record → Trace → ℕ → Translation → Bool
has_verdict scheme Free newest trace hart x = is_free scheme newest trace hart x
has_verdict scheme Reuse newest trace hart x = is_reuse scheme newest trace hart x
has_verdict scheme Claimed newest trace hart x = is_claim scheme newest trace hart x
has_verdict scheme Used newest trace hart x = is_use scheme newest trace hart x

-- whether it is new
abbrev pub has_held : Scheme → Verdict → Trace → ℕ → Translation → Bool
has_held scheme verdict trace hart x =
    is_stale_since scheme (λ newest before. has_verdict scheme verdict newest before hart x) trace
    hart x

abbrev pub is_new : Scheme → Verdict → Trace → ℕ → Translation → Bool
is_new scheme Used trace hart x = true
is_new scheme Free trace hart x = not (has_held scheme Free trace hart x)
is_new scheme Reuse trace hart x = not (has_held scheme Reuse trace hart x)
is_new scheme Claimed trace hart x = not (has_held scheme Claimed trace hart x)
