-- What harts may hold and the tables do not tell: a list of translations, each with its hart.
use Rattle.std.specs.Prelude.{ℕ, Bool, true, false, not, ◌+◌, ◌≡◌, ◌==◌, ◌&&◌, ◌||◌, nat_le, nat_lt, if◌then◌else◌}
use Rattle.std.specs.Prelude.{List, [], ◌∷◌, filter, map, Option, Some, None, is_some}
use Rattle.std.specs.List.{list_any}
use Rattle.pte.specs.declared.scheme.Scheme.{Scheme}
use Rattle.pte.specs.Address.{level_of, pages_of}
use Rattle.tlb.specs.declared.store.Entry.{Entry}
use Rattle.tlb.specs.Entries.{is_match}
use Rattle.tlb.specs.Fence.{is_fenced}
use Rattle.watch.specs.declared.trace.Frames.{Frames}
use Rattle.watch.specs.declared.trace.Space.{Space}
use Rattle.watch.specs.declared.trace.Verdict.{Verdict}
use Rattle.watch.specs.declared.trace.Verdict.TheVariants.{Free, Claimed}
use Rattle.watch.specs.Trace.{has_root, is_among}
use Rattle.watch.specs.Holding.{Translation, is_covered, names}
use Rattle.watch.specs.Computed.{is_same}
use Rattle.watch.specs.Verdicts.{is_claimed}
use Rattle.watch_tables.specs.Ways.{later}
use Rattle.watch_engine.specs.declared.held.Held.{Held}
use Rattle.watch_engine.specs.declared.held.LastLive.{LastLive}
use Rattle.watch_engine.specs.declared.open.OpenClaim.{OpenClaim}
use Rattle.watch_engine.specs.declared.open.OpenFence.{OpenFence}
use Rattle.watch_engine.specs.declared.state.State.{State}
use Rattle.watch_engine.specs.declared.state.State.TheVariants.{Current}
use Rattle.watch_engine.specs.State.{given_too, has_had, rechecked, since_of}

abbrev pub is_same_entry : Entry → Entry → Bool
is_same_entry a b =
    (a.asid == b.asid)
    && (is_same a.global b.global
    && ((a.page.base == b.page.base)
    && ((level_of a.page.size == level_of b.page.size)
    && ((a.ppn == b.ppn) && (a.flags.0 == b.flags.0)))))

-- what is global is of all address spaces: in place of its root and its ASID it has 0
abbrev pub own : Bool → ℕ → ℕ
own true n = 0
own false n = n

-- the translation of an address space with this leaf
abbrev pub translation_in : Space → Entry → Translation
translation_in space e =
    record {
      root = own e.global space.root;
      entry = record e { asid = own e.global space.asid };
    }

-- a translation, with 0 in place of what says nothing
abbrev pub normalized : Translation → Translation
normalized x = translation_in (record { root = x.root; asid = x.entry.asid }) x.entry

abbrev pub IsNormalized : Translation → Type 0
IsNormalized x = normalized x ≡ x

abbrev pub translation_of : Held → Translation
translation_of i = record { root = i.root; entry = i.entry }

abbrev pub with_state : State → Held → Held
with_state s i = record i { state = s }

-- the number of records since which it is stale
abbrev pub stale_since : Held → Option ℕ
stale_since i = since_of i.state

-- it has had the verdict since then, of those that are given once
abbrev pub is_given : Verdict → Held → Bool
is_given verdict i = has_had verdict i.state

abbrev pub last_translation : LastLive → Translation
last_translation s = record { root = s.root; entry = s.entry }

-- it is the translation, held by the hart
abbrev pub is_of : ℕ → Translation → Held → Bool
is_of hart x i = (i.hart == hart) && ((i.root == x.root) && is_same_entry i.entry x.entry)

-- a leaf that was live for the hart in the space, last after so many records
abbrev pub last_live_in : ℕ → Space → Entry → ℕ → LastLive
last_live_in hart space e last =
    record {
      hart = hart;
      root = own e.global space.root;
      entry = record e { asid = own e.global space.asid };
      last_live = last;
    }

-- what was live, as one that may be held
abbrev pub held_from : LastLive → Held
held_from s =
    record {
      hart = s.hart;
      root = s.root;
      entry = s.entry;
      last_live = s.last_live;
      state = Current;
    }

-- with a translation that was live
abbrev pub remembered : LastLive → List Held → List Held
remembered s [] = held_from s ∷ []
remembered s (i ∷ held) =
    if is_of s.hart (last_translation s) i
    then record i { last_live = later i.last_live s.last_live } ∷ held
    else i ∷ remembered s held

abbrev pub remembered_all : List LastLive → List Held → List Held
remembered_all [] held = held
remembered_all (s ∷ seen) held = remembered_all seen (remembered s held)

-- it is known that the hart may hold the translation, live last after so many records or more
abbrev pub knows : ℕ → Translation → ℕ → List Held → Bool
knows hart x last held = list_any (λ i. is_of hart x i && nat_le last i.last_live) held

abbrev pub is_listed : ℕ → Translation → ℕ → List LastLive → Bool
is_listed hart x last seen =
    list_any (λ s. is_of hart x (held_from s) && nat_le last s.last_live) seen

-- since when it has been stale, after a record that leaves it stale or not
abbrev pub since_after : Bool → ℕ → Option ℕ → Option ℕ
since_after false now since = None
since_after true now None = Some now
since_after true now (Some since) = Some since

-- the tables of its root have it or, where it is global, those of one of the roots
abbrev pub is_current_by : (Translation → Bool) → List ℕ → Translation → Bool
is_current_by test roots x =
    (not x.entry.global && test x)
    || (x.entry.global && list_any (λ root. test (record x { root = root })) roots)

-- the root of a space that a hart goes to is among them now, if it was not
abbrev pub AreEntered : Option Space → List ℕ → List ℕ → Type 0
AreEntered space old new =
    (root : ℕ) → list_any (λ r. r == root) new
    ≡ (has_root space root || list_any (λ r. r == root) old)

-- one root is among them that was not
abbrev pub IsWith : ℕ → List ℕ → List ℕ → Type 0
IsWith root old new = (test : ℕ → Bool) → list_any test new ≡ (list_any test old || test root)

-- without the frames that are given out, but for those in a satp
abbrev pub is_root_in : List (Option Space) → ℕ → Bool
is_root_in satps frame = list_any (λ space. has_root space frame) satps

abbrev pub stays : Frames → List (Option Space) → ℕ → Bool
stays frames satps root = not (is_among frames root) || is_root_in satps root

abbrev pub without_frames : Frames → List (Option Space) → List ℕ → List ℕ
without_frames frames satps roots = filter (stays frames satps) roots

-- it is global and stale, and the tables of the root have it
abbrev pub is_found : (Translation → Bool) → ℕ → Held → Bool
is_found test root i =
    is_some (stale_since i) && (i.entry.global && test (record { root = root; entry = i.entry }))

-- after a hart has come to a new root: what its tables have is stale no more
abbrev pub found_again : (Translation → Bool) → ℕ → Held → Held
found_again test root i = with_state (if is_found test root i then Current else i.state) i

abbrev pub all_found_again : (Translation → Bool) → Option ℕ → List Held → List Held
all_found_again test None held = held
all_found_again test (Some root) held = map (found_again test root) held

-- after a record that can only take from what the tables have: what is stale stays so
abbrev pub settled_unless_stale : Bool → ℕ → Held → Held
settled_unless_stale mapped now i =
    with_state (if is_some (stale_since i) then i.state else rechecked mapped now i.state) i

-- after a verdict, if the test passes it
abbrev pub marked_if : Verdict → (Held → Bool) → Held → Held
marked_if verdict test i =
    with_state (if test i then given_too verdict i.state else i.state) i

-- one of the frames is one that the entry's page is mapped to
abbrev pub shares : Frames → Entry → Bool
shares frames e =
    nat_lt frames.first (e.ppn + pages_of e.page.size)
    && (nat_lt e.ppn (frames.first + frames.count) && nat_lt 0 frames.count)

-- it is stale, and to one of the frames
abbrev pub is_exposed_by : Frames → Held → Bool
is_exposed_by frames i = is_some (stale_since i) && shares frames i.entry

-- it has been stale since a moment no later than this one
abbrev pub is_by : Option ℕ → ℕ → Bool
is_by None moment = false
is_by (Some since) moment = nat_le since moment

-- the claim is of it, and it has been stale since before that began
abbrev pub is_claimed_by : Option OpenClaim → Held → Bool
is_claimed_by None i = false
is_claimed_by (Some o) i = is_claimed o.claim (translation_of i) && is_by (stale_since i) o.begun

-- its hart may use it for an access to the address, in the space in its satp
abbrev pub is_served_in : Option Space → ℕ → Held → Bool
is_served_in None address i = false
is_served_in (Some space) address i = is_match space.asid address i.entry

-- its hart uses it after it was taken for gone
abbrev pub is_used_by : ℕ → Option Space → ℕ → Held → Bool
is_used_by hart space address i =
    (hart == i.hart)
    && ((is_given Free i || is_given Claimed i) && is_served_in space address i)

-- a fence of the hart leaves it
abbrev pub outlives_fence : Scheme → ℕ → Option ℕ → Option ℕ → Held → Bool
outlives_fence scheme hart rs1 rs2 i = not ((hart == i.hart) && is_fenced scheme rs1 rs2 i.entry)

-- the end of a remote fence leaves it
abbrev pub is_taken_by : Scheme → Option OpenFence → Held → Bool
is_taken_by scheme None i = false
is_taken_by scheme (Some o) i =
    names o.fence i.hart && (is_covered scheme o.fence i.entry && nat_lt i.last_live o.begun)

abbrev pub outlives_remote : Scheme → Option OpenFence → Held → Bool
outlives_remote scheme fence i = not (is_taken_by scheme fence i)

abbrev pub Each : (Held → Type 0) → List Held → Type 0
Each P [] = Unit {0}
Each P (i ∷ held) = P i × Each P held
