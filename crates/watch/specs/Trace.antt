-- What a trace leaves: the words of memory, the satp of each hart, and what has begun and not ended
-- under a token. A trace is a list of records, the newest first.
use Rattle.std.specs.Prelude.{ℕ, Bool, true, false, ◌+◌, ◌/◌, ◌%◌, ◌==◌, ◌&&◌, ◌||◌, not, if◌then◌else◌}
use Rattle.std.specs.Prelude.{nat_le, nat_lt, List, [], ◌∷◌, Option, Some, None}
use Rattle.std.specs.List.{list_any}
use Rattle.pte.specs.declared.address.PageSize.TheVariants.{Kib4}
use Rattle.pte.specs.Address.{bytes_of}
use Rattle.walk.specs.Leads.{Tables}
use Rattle.walk.specs.Maps.{page_number}
use Rattle.walk.specs.Stores.{stored}
use Rattle.watch.specs.declared.trace.Record.{Record}
use Rattle.watch.specs.declared.trace.Record.TheVariants.{Store, Satp, Fence, RemoteBegin, RemoteEnd, GiveOut, GiveBack, ClaimBegin, ClaimEnd, Use}
use Rattle.watch.specs.declared.trace.Space.{Space}
use Rattle.watch.specs.declared.trace.Frames.{Frames}
use Rattle.watch.specs.declared.trace.RemoteFence.{RemoteFence}
use Rattle.watch.specs.declared.trace.Claim.{Claim}

abbrev pub Trace : Type 0
Trace = List Record

abbrev pub hart_of : Record → ℕ
hart_of (Store hart address word) = hart
hart_of (Satp hart space) = hart
hart_of (Fence hart rs1 rs2) = hart
hart_of (RemoteBegin hart token fence) = hart
hart_of (RemoteEnd hart token) = hart
hart_of (GiveOut hart frames) = hart
hart_of (GiveBack hart frames) = hart
hart_of (ClaimBegin hart token claim) = hart
hart_of (ClaimEnd hart token) = hart
hart_of (Use hart address) = hart

-- the frame is one of these
abbrev pub is_among : Frames → ℕ → Bool
is_among frames ppn = nat_le frames.first ppn && nat_lt ppn (frames.first + frames.count)

-- the index of the word at a physical address in the table that its frame is
abbrev pub index_of : ℕ → ℕ
index_of address = address % bytes_of Kib4 / 8

-- the words of memory: each is 0 until one is stored there, and 0 again in a frame that is given out
abbrev pub words_after : Record → Tables → Tables
words_after (Store hart address word) words =
    stored words (page_number address) (index_of address) word
words_after (GiveOut hart frames) words =
    λ ppn index. if is_among frames ppn then Some 0 else words ppn index
words_after _ words = words

abbrev pub words_of : Trace → Tables
words_of [] = λ ppn index. Some 0
words_of (newest ∷ trace) = words_after newest (words_of trace)

-- the record may change a word of memory
abbrev pub stores : Record → Bool
stores (Store hart address word) = true
stores (GiveOut hart frames) = true
stores _ = false

-- the address space in a hart's satp (4.1.11); None before its first write, and in the mode Bare
abbrev pub satp_after : ℕ → Record → Option Space → Option Space
satp_after hart (Satp of space) old = if of == hart then space else old
satp_after hart _ old = old

abbrev pub satp_of : Trace → ℕ → Option Space
satp_of [] hart = None
satp_of (newest ∷ trace) hart = satp_after hart newest (satp_of trace hart)

-- the frame is the root table of the address space
abbrev pub has_root : Option Space → ℕ → Bool
has_root None frame = false
has_root (Some space) frame = space.root == frame

-- some hart's satp has the frame as its root
abbrev pub is_used : Trace → ℕ → Bool
is_used trace frame = list_any (λ made. has_root (satp_of trace (hart_of made)) frame) trace

-- the frame is the root table of an address space: it was written to a satp, and has not been given
-- out since while no hart's satp had it
abbrev pub is_root_after : ℕ → Record → Bool → Bool → Bool
is_root_after frame (Satp hart space) used old = has_root space frame || old
is_root_after frame (GiveOut hart frames) used old = (not (is_among frames frame) || used) && old
is_root_after frame _ used old = old

abbrev pub is_root : Trace → ℕ → Bool
is_root [] frame = false
is_root (newest ∷ trace) frame =
    is_root_after frame newest (is_used trace frame) (is_root trace frame)

-- the remote fence that has begun under a token and not ended
abbrev pub fence_after : ℕ → Record → Option RemoteFence → Option RemoteFence
fence_after token (RemoteBegin hart of fence) old = if of == token then Some fence else old
fence_after token (RemoteEnd hart of) old = if of == token then None else old
fence_after token _ old = old

abbrev pub fence_of : Trace → ℕ → Option RemoteFence
fence_of [] token = None
fence_of (newest ∷ trace) token = fence_after token newest (fence_of trace token)

abbrev pub begins_fence : ℕ → Record → Bool
begins_fence token (RemoteBegin hart of fence) = of == token
begins_fence token _ = false

-- the claim that has begun under a token and not ended
abbrev pub claim_after : ℕ → Record → Option Claim → Option Claim
claim_after token (ClaimBegin hart of claim) old = if of == token then Some claim else old
claim_after token (ClaimEnd hart of) old = if of == token then None else old
claim_after token _ old = old

abbrev pub claim_of : Trace → ℕ → Option Claim
claim_of [] token = None
claim_of (newest ∷ trace) token = claim_after token newest (claim_of trace token)

abbrev pub begins_claim : ℕ → Record → Bool
begins_claim token (ClaimBegin hart of claim) = of == token
begins_claim token _ = false

-- the hart has written satp
abbrev pub writes_satp : ℕ → Record → Bool
writes_satp hart (Satp of space) = of == hart
writes_satp hart _ = false

abbrev pub has_written_satp : Trace → ℕ → Bool
has_written_satp [] hart = false
has_written_satp (newest ∷ trace) hart = writes_satp hart newest || has_written_satp trace hart
