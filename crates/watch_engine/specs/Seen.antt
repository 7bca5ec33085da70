-- What is remembered of leaves before a word on their paths changes: whom they are live for, and who
-- may hold them since it left their space.
use Rattle.std.specs.Prelude.{ℕ, Bool, not, ◌≡◌, ◌+◌, ◌⊎◌, ◌==◌, ◌&&◌, nat_le, if◌then◌else◌}
use Rattle.std.specs.Prelude.{List, [], ◌∷◌, ◌++◌, Option, None, Some, drop, false, get_or, true}
use Rattle.tlb.specs.declared.store.Entry.{Entry}
use Rattle.watch.specs.declared.trace.Space.{Space}
use Rattle.watch.specs.Holding.{BelongsTo, HasLeaf, Translation}
use Rattle.watch_engine.specs.declared.held.LastLive.{LastLive}
use Rattle.watch_engine.specs.declared.left.Left.{Left}
use Rattle.watch_tables.specs.declared.leaf.RootLeaf.{RootLeaf}
use Rattle.watch_engine.specs.Held.{IsNormalized, is_listed, last_live_in, last_translation}
use Rattle.watch_engine.specs.Left.{AnyLeft, IsLeftHeld, is_taken_since}
use Rattle.watch_engine.specs.View.{IsLeftIn, PassesAt, View, is_live_for}

-- the leaf, if the hart can fill it now
abbrev pub live_for : ℕ → RootLeaf → ℕ → Option Space → List LastLive
live_for now leaf hart None = []
live_for now leaf hart (Some space) =
    if space.root == leaf.root then last_live_in hart space leaf.entry now ∷ [] else []

abbrev pub with_live : ℕ → RootLeaf → ℕ → List (Option Space) → List LastLive → List LastLive
with_live now leaf hart [] seen = seen
with_live now leaf hart (s ∷ satps) seen =
    with_live now leaf (hart + 1) satps (seen ++ live_for now leaf hart s)

-- the leaf, as the hart had it last in the space that it left
abbrev pub last_of : RootLeaf → Left → LastLive
last_of leaf l = last_live_in l.hart l.space leaf.entry l.left

-- the leaf, if the hart may hold it since it left the space, and cannot fill it now
abbrev pub is_kept : View → RootLeaf → Left → Bool
is_kept v leaf l =
    (l.space.root == leaf.root)
    && (nat_le leaf.since l.left
    && (not (is_live_for v l.hart (last_translation (last_of leaf l)))
    && not (is_taken_since v.scheme v.drops l (last_of leaf l).entry)))

abbrev pub kept_for : View → RootLeaf → Left → List LastLive
kept_for v leaf l = if is_kept v leaf l then last_of leaf l ∷ [] else []

abbrev pub with_kept : View → RootLeaf → List Left → List LastLive → List LastLive
with_kept v leaf [] seen = seen
with_kept v leaf (l ∷ left) seen = with_kept v leaf left (seen ++ kept_for v leaf l)

-- for each hart, of these spaces
abbrev pub with_leaf : View → RootLeaf → List Left → List LastLive → List LastLive
with_leaf v leaf left seen = with_kept v leaf left (with_live v.count leaf 0 v.satps seen)

abbrev pub with_leaves : View → List RootLeaf → List LastLive → List LastLive
with_leaves v [] seen = seen
with_leaves v (leaf ∷ leaves) seen = with_leaves v leaves (with_leaf v leaf v.left seen)

-- the leaves between two places of a list have been added: those from the first on add to what was before
-- what those from the second on add to what is now
abbrev pub AreAddedUpTo : View → List RootLeaf → ℕ → ℕ → List LastLive → List LastLive → Type 0
AreAddedUpTo v leaves start end old new =
    with_leaves v (drop end leaves) new ≡ with_leaves v (drop start leaves) old

abbrev pub EachSeen : (LastLive → Type 0) → List LastLive → Type 0
EachSeen P [] = Unit {0}
EachSeen P (s ∷ seen) = P s × EachSeen P seen

-- the hart can fill the translation now
pub record IsLiveIn (v : View) (hart : ℕ) (x : Translation) : Type 0 where
  pub of : Space
  pub satp : get_or v.satps hart None ≡ Some of
  pub belongs : BelongsTo of x
  pub leaf : HasLeaf v.scheme v.words of.root x.entry

-- it is live now, or it was live last when the hart left a space
abbrev pub IsSeen : View → LastLive → Type 0
IsSeen v s =
    (IsLiveIn v s.hart (last_translation s) × (s.last_live ≡ v.count))
    ⊎ IsLeftIn v s.hart (last_translation s) s.last_live

-- the hart left the space after so many records, and may hold the translation since, which goes
abbrev pub GoesLeft : View → (ℕ → Entry → Type 0) → ℕ → Translation → ℕ → Left → Type 0
GoesLeft v Goes hart x n l =
    (l.left ≡ n) × IsLeftHeld v.scheme v.words v.since v.drops l hart x × Goes l.space.root x.entry

-- each of these is so, and all are there of which the root and the entry have the property: what is
-- live, and what is not and was left
pub record AreSeen (v : View) (Goes : ℕ → Entry → Type 0) (seen : List LastLive) : Type 0 where
  pub each : EachSeen (IsSeen v) seen
  pub live :
      (hart : ℕ) (x : Translation) → IsNormalized x → (l : IsLiveIn v hart x) → Goes l.of.root x.entry
      → is_listed hart x v.count seen ≡ true
  pub kept :
      (hart : ℕ) (x : Translation) (n : ℕ) → IsNormalized x → is_live_for v hart x ≡ false
      → AnyLeft (GoesLeft v Goes hart x n) v.left → is_listed hart x n seen ≡ true

-- the same of what is added to a list
pub record AreAdded (v : View) (Goes : ℕ → Entry → Type 0) (old new : List LastLive) : Type 0 where
  pub each : EachSeen (IsSeen v) old → EachSeen (IsSeen v) new
  pub still :
      (hart : ℕ) (x : Translation) (n : ℕ) → is_listed hart x n old ≡ true
      → is_listed hart x n new ≡ true
  pub live :
      (hart : ℕ) (x : Translation) → IsNormalized x → (l : IsLiveIn v hart x) → Goes l.of.root x.entry
      → is_listed hart x v.count new ≡ true
  pub kept :
      (hart : ℕ) (x : Translation) (n : ℕ) → IsNormalized x → is_live_for v hart x ≡ false
      → AnyLeft (GoesLeft v Goes hart x n) v.left → is_listed hart x n new ≡ true

-- the path of the entry's page passes through the word at one of the addresses
abbrev pub PassesAny : View → List ℕ → ℕ → Entry → Type 0
PassesAny v [] root e = ⊥
PassesAny v (address ∷ addresses) root e = PassesAt v address root e ⊎ PassesAny v addresses root e
