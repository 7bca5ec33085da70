-- What a whole walk answers, by the words that its own loads found.
use Rattle.std.specs.Prelude.{ℕ, ◌≡◌, ◌+◌, ◌⊎◌, ◌<◌, ◌≤◌, List, [], ◌∷◌, ◌++◌, length, slice_index, Some, Result, Ok, Err}
use Rattle.pte.specs.declared.permission.Access.{Access}
use Rattle.pte.specs.declared.permission.Ctx.{Ctx}
use Rattle.pte.specs.Address.{IsCanonical, level_count, top_level, vpn_of}
use Rattle.walk.specs.declared.found_or_trap.Found.{Found}
use Rattle.walk.specs.declared.found_or_trap.Trap.{Trap}
use Rattle.walk.specs.declared.found_or_trap.Why.TheVariants.{NotCanonical}
use Rattle.walk.specs.Answer.{page_trap}
use Rattle.walk.specs.Leads.{Tables}
use Rattle.walk.specs.Stage.{Stage}
use Rattle.walk.specs.Outcome.{Outcome}
use Rattle.spaces.specs.Layout.{Layout, first_window_slot, root_ppn}
use Rattle.spaces.specs.Held.{memory_words}
use Rattle.tlb.specs.declared.store.Entry.{Entry}
use Rattle.tlb.specs.Answer.{entry_of}
use Rattle.views.specs.declared.view.View.{View}
use Rattle.views.specs.Rule.{Has, memory_of}
use Rattle.views.specs.OnBoard.{HasReads}
use Rattle.views.specs.Turns.{asid_at, walked}

-- a walk changes nothing of what the hart edits
pub record IsSameHome (v w : View) : Type 0 where
  pub config : w.config ≡ v.config
  pub next : w.next ≡ v.next
  pub hart : w.hart ≡ v.hart
  pub words : w.words ≡ v.words
  pub holders : w.holders ≡ v.holders
  pub used : w.used ≡ v.used
  pub stores : w.stores ≡ v.stores
  pub versions : w.versions ≡ v.versions
  pub orders : w.orders ≡ v.orders
  pub cell_steps : w.cell_steps ≡ v.cell_steps

-- the root is that of a space at home, and the address lies outside the window
pub record IsHomePath (l : Layout) (v : View) (root va s : ℕ) : Type 0 where
  pub has : s < length l.homes
  pub home : slice_index l.homes s ≡ v.hart
  pub root_is : root ≡ root_ppn l s
  pub outside : vpn_of va (top_level l.scheme) < first_window_slot l

-- the entries after a walk, whose leaf is filled in
abbrev pub with_found : ℕ → List Entry → Result Found Trap → List Entry
with_found asid entries (Ok found) = entries ++ entry_of asid found ∷ []
with_found asid entries (Err trap) = entries

-- The views of a hart through a walk from this root, load by load. After each load there is a state
-- of the board in which the view is that of the hart's seat, and the tables have all that the walk
-- read.
pub data Loads (v : View) (root : ℕ) : View → Type 0 where
  first : (st : Stage) (word : ℕ) (w : View) → w ≡ walked v root st [] word → HasReads w
      → Loads v root w
  further : (u : View) (st : Stage) (word : ℕ) (w : View) → Loads v root u → u.walk ≡ Some st
      → w ≡ walked u root st u.reads word → HasReads w → Loads v root w

-- The answer follows from the words that the walk's own loads found, which the view holds: in each
-- memory that has them this is the answer. As many loads are counted as words are held, so each word
-- is one that a load of this call found (`EachReadIsOfAnOwnLoad`), and at most one a level. What is
-- found is filled in. A home reads back its own stores.
pub record AnswersByLoads (l : Layout) (v : View) (root va : ℕ) (access : Access) (ctx : Ctx)
    (answer : Result Found Trap) (w : View) : Type 0 where
  pub own_loads : Loads v root w
  pub each_memory : (words : Tables) → Has words w.reads
      → Outcome l.scheme words root va access ctx answer
  pub read_back : (s : ℕ) → IsHomePath l v root va s
      → Outcome l.scheme (memory_words (memory_of l v)) root va access ctx answer
  pub count : w.loads ≡ v.loads + length w.reads
  pub few : length w.reads ≤ level_count l.scheme
  pub entries : w.entries ≡ with_found (asid_at v.config root) v.entries answer
  pub home : IsSameHome v w

-- a walk makes loads for a canonical address alone
abbrev pub Walked : Layout → View → ℕ → ℕ → Access → Ctx → Result Found Trap → View → Type 0
Walked l v root va access ctx answer w =
    ((¬ IsCanonical l.scheme va) × (answer ≡ Err (page_trap access NotCanonical)) × (w ≡ v))
    ⊎ (IsCanonical l.scheme va × AnswersByLoads l v root va access ctx answer w)
