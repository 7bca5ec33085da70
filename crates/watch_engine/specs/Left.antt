-- What harts may hold of address spaces that they have left: what the tables still have, and have had
-- since then without a change, and no fence has dropped (privileged manual 4.2.1).
use Rattle.std.specs.Prelude.{ℕ, Bool, false, not, ◌≡◌, ◌==◌, ◌&&◌, ◌⊎◌, nat_le, nat_lt, if◌then◌else◌}
use Rattle.std.specs.Prelude.{List, [], ◌∷◌, ◌++◌, drop, filter, Option, None, Some, is_some}
use Rattle.std.specs.List.{list_any}
use Rattle.pte.specs.declared.scheme.Scheme.{Scheme}
use Rattle.walk.specs.Leads.{Tables}
use Rattle.tlb.specs.declared.store.Entry.{Entry}
use Rattle.tlb.specs.Fence.{is_fenced}
use Rattle.watch.specs.declared.trace.Space.{Space}
use Rattle.watch.specs.Holding.{BelongsTo, HasLeaf, Translation, is_covered, names}
use Rattle.watch_engine.specs.declared.left.Left.{Left}
use Rattle.watch_engine.specs.declared.left.PastFence.{PastFence}
use Rattle.watch_engine.specs.declared.left.PastFence.TheVariants.{Own, Remote}
use Rattle.watch_engine.specs.declared.open.OpenFence.{OpenFence}
use Rattle.watch_tables.specs.Paths.{IsUnchangedSince}

-- the fence drops the entry from what the hart left then: one of the hart itself does, and one that
-- others asked for if the hart had left the space before that began
abbrev pub takes : Scheme → Left → Entry → PastFence → Bool
takes scheme l e (Own of rs1 rs2) = (of == l.hart) && is_fenced scheme rs1 rs2 e
takes scheme l e (Remote fence begun) =
    names fence l.hart && (is_covered scheme fence e && nat_lt l.left begun)

-- a fence since the hart left the space has dropped the entry
abbrev pub is_taken_since : Scheme → List PastFence → Left → Entry → Bool
is_taken_since scheme drops l e = list_any (takes scheme l e) (drop l.fences drops)

-- the hart may hold the translation since it left the space
pub record IsLeftHeld (scheme : Scheme) (words : Tables) (since : ℕ → ℕ → ℕ)
    (drops : List PastFence) (l : Left) (hart : ℕ) (x : Translation) : Type 0 where
  pub by : l.hart ≡ hart
  pub belongs : BelongsTo l.space x
  pub leaf : HasLeaf scheme words l.space.root x.entry
  pub unchanged : IsUnchangedSince scheme words since l.space.root x.entry l.left
  pub kept : is_taken_since scheme drops l x.entry ≡ false

abbrev pub AnyLeft : (Left → Type 0) → List Left → Type 0
AnyLeft P [] = ⊥
AnyLeft P (l ∷ left) = P l ⊎ AnyLeft P left

abbrev pub EachLeft : (Left → Type 0) → List Left → Type 0
EachLeft P [] = Unit {0}
EachLeft P (l ∷ left) = P l × EachLeft P left

-- it may hold it since it left a space after so many records
abbrev pub IsLeftAt : Scheme → Tables → (ℕ → ℕ → ℕ) → List PastFence → List Left → ℕ → Translation → ℕ → Type 0
IsLeftAt scheme words since drops left hart x n =
    AnyLeft (λ l. (l.left ≡ n) × IsLeftHeld scheme words since drops l hart x) left

-- with one more, behind all whose root is no greater
abbrev pub added : Left → List Left → List Left
added one [] = one ∷ []
added one (l ∷ left) =
    if nat_le l.space.root one.space.root then l ∷ added one left else one ∷ l ∷ left

-- the space that a hart leaves, after so many records and fences
abbrev pub left_of : ℕ → Option Space → ℕ → ℕ → Option Left
left_of hart None now fences = None
left_of hart (Some space) now fences = Some (record { hart = hart; space = space; left = now; fences = fences })

-- with it, if there is one
abbrev pub with_left : Option Left → List Left → List Left
with_left None left = left
with_left (Some one) left = added one left

abbrev pub is_space : Option Space → Space → Bool
is_space None space = false
is_space (Some s) space = (s.root == space.root) && (s.asid == space.asid)

-- it is of another hart or of another space
abbrev pub is_other : ℕ → Option Space → Left → Bool
is_other hart space l = not ((l.hart == hart) && is_space space l.space)

-- it is of the hart, and its space has the ASID
abbrev pub is_of : ℕ → ℕ → Left → Bool
is_of hart asid l = (l.hart == hart) && (asid == l.space.asid)

-- after a fence of a hart, and after the end of a remote fence
abbrev pub is_of_other : ℕ → Left → Bool
is_of_other hart l = not (l.hart == hart)

abbrev pub is_full : Option ℕ → Option ℕ → Bool
is_full rs1 rs2 = not (is_some rs1) && not (is_some rs2)

abbrev pub left_after_fence : ℕ → Option ℕ → Option ℕ → List Left → List Left
left_after_fence hart rs1 rs2 left =
    if is_full rs1 rs2 then filter (is_of_other hart) left else left

abbrev pub fences_after : ℕ → Option ℕ → Option ℕ → List PastFence → List PastFence
fences_after hart rs1 rs2 drops = if is_full rs1 rs2 then drops else drops ++ Own hart rs1 rs2 ∷ []

abbrev pub ended : Option OpenFence → List PastFence → List PastFence
ended None drops = drops
ended (Some o) drops = drops ++ Remote o.fence o.begun ∷ []

-- its root is one of these
abbrev pub has_its_root : List ℕ → Left → Bool
has_its_root roots l = list_any (λ r. r == l.space.root) roots
