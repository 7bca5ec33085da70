-- Where a watch stands after a trace.
use Rattle.std.specs.Prelude.{ℕ, ◌≡◌, ◌≤◌, ◌==◌, List, Some, None, IsTrue, get_or, length}
use Rattle.std.specs.List.{list_any}
use Rattle.walk.specs.Leads.{Tables}
use Rattle.watch.specs.Trace.{Trace, is_root, satp_of, words_of}
use Rattle.watch_engine.specs.declared.held.Held.{Held}
use Rattle.watch_engine.specs.declared.left.Left.{Left}
use Rattle.watch_engine.specs.declared.left.PastFence.{PastFence}
use Rattle.watch_engine.specs.declared.open.OpenClaim.{OpenClaim}
use Rattle.watch_engine.specs.declared.open.OpenFence.{OpenFence}
use Rattle.watch_engine.specs.Open.{IsOpenClaim, IsOpenFence, newest_claim, newest_fence}
use Rattle.watch_engine.specs.Left.{EachLeft}
use Rattle.watch_engine.specs.Follows.{AreHeld}
use Rattle.watch_engine.specs.View.{IsLeftIn, View}

-- how many harts there may be: a record has the number of one in 8 bits
abbrev pub hart_limit : ℕ
hart_limit = 256

-- these are the roots of address spaces
abbrev pub AreRoots : Trace → List ℕ → Type 0
AreRoots trace roots = (root : ℕ) → list_any (λ r. r == root) roots ≡ is_root trace root

-- each word that is not 0 has been what it is since a record of the trace
pub record AreSince (trace : Trace) (words : Tables) (since : ℕ → ℕ → ℕ) : Type 0 where
  pub within : (table index : ℕ) → ¬ (words table index ≡ Some 0) → since table index ≤ length trace

-- a space that was left has its root still, and was left within the trace
pub record IsLeftWithin (trace : Trace) (drops : List PastFence) (l : Left) : Type 0 where
  pub root : IsTrue (is_root trace l.space.root)
  pub within : l.left ≤ length trace
  pub fences : l.fences ≤ length drops

pub record Stands (trace : Trace) (v : View) (held : List Held) (fences : List OpenFence)
    (claims : List OpenClaim) : Type 0 where
  pub memory : v.words ≡ words_of trace
  pub ages : AreSince trace v.words v.since
  pub harts : length v.satps ≤ hart_limit
  pub satp : (hart : ℕ) → get_or v.satps hart None ≡ satp_of trace hart
  pub spaces : AreRoots trace v.roots
  pub leaving : EachLeft (IsLeftWithin trace v.drops) v.left
  pub are : AreHeld v.scheme trace (IsLeftIn v) held
  pub fence : (token : ℕ) → IsOpenFence trace token (newest_fence token None fences)
  pub claim : (token : ℕ) → IsOpenClaim trace token (newest_claim token None claims)
  pub records : v.count ≡ length trace
