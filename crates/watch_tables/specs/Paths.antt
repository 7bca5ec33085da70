-- The tables and leaves that a path leads to (privileged manual 4.3.2, virtual address translation
-- process, steps 1 to 6; 4.3.1, G).
use Rattle.std.specs.Prelude.{ℕ, Bool, ◌≡◌, ◌≤◌, ◌+◌, ◌%◌, ◌==◌, ◌||◌, ◌↔◌, if◌then◌else◌, Option, Some}
use Rattle.std.specs.Prelude.{◌&&◌, not, None, IsTrue, true, false}
use Rattle.pte.specs.declared.scheme.Scheme.{Scheme}
use Rattle.pte.specs.declared.entry.Kind.{Kind}
use Rattle.pte.specs.declared.entry.Kind.TheVariants as kinds
use Rattle.pte.specs.Address.{Span, level_of, vpn_of}
use Rattle.pte.specs.Entry.{kind_of, is_global, is_valid}
use Rattle.walk.specs.Leads.{Tables, word_at, Leads, IsGlobalAt}
use Rattle.tlb.specs.declared.store.Entry.{Entry}
use Rattle.watch.specs.Staleness.{Permit}
use Rattle.watch_tables.specs.declared.leaf.Leaf.{Leaf}
use Rattle.watch_tables.specs.declared.path.Reached.{Reached}

-- the kind of a word of memory; outside memory nothing is valid
abbrev pub kind_in : Option ℕ → Kind
kind_in None = kinds.Invalid
kind_in (Some word) = kind_of word

-- the pointers of the address lead to the table at this level, and global says whether G is on one
-- of them
pub record IsReached (scheme : Scheme) (words : Tables) (root va level : ℕ)
    (at : Reached) : Type 0 where
  pub leads : Leads scheme words root va level at.table (word_at words va level at.table)
  pub global : IsTrue at.global ↔ IsGlobalAt scheme words root va (level + 1)

-- each word on the path of the address, from the root's down to that of the level, was stored within
-- the first `count` records
pub record IsPathSince (scheme : Scheme) (words : Tables) (since : ℕ → ℕ → ℕ)
    (root va level count : ℕ) : Type 0 where
  pub unchanged : (at table : ℕ) → level ≤ at
      → Leads scheme words root va at table (word_at words va at table)
      → since table (vpn_of va at) ≤ count

-- the same of the path of an entry's page
abbrev pub IsUnchangedSince : Scheme → Tables → (ℕ → ℕ → ℕ) → ℕ → Entry → ℕ → Type 0
IsUnchangedSince scheme words since root e count =
    IsPathSince scheme words since root e.page.base (level_of e.page.size) count

-- the table that an entry of a kind points to, behind pointers of which one has G or none has
abbrev pub pointed_from : Bool → Kind → Option Reached
pointed_from global kinds.Invalid = None
pointed_from global kinds.Reserved = None
pointed_from global (kinds.Table ppn on_it) = Some (record { table = ppn; global = global || on_it })
pointed_from global (kinds.Leaf ppn flags) = None

-- an entry of a kind may be a leaf or a pointer
abbrev pub is_leading : Kind → Bool
is_leading kinds.Invalid = false
is_leading kinds.Reserved = false
is_leading (kinds.Table ppn global) = true
is_leading (kinds.Leaf ppn flags) = true

-- the word may be a leaf or a pointer without G: V is set, and G is clear
abbrev pub lacks_g : ℕ → Bool
lacks_g word = is_valid word && not (is_global word)

-- the leaf that an entry of a kind is, for a page of this many pages of 4 KiB, if it is aligned
abbrev pub leaf_from : Bool → ℕ → Kind → Option Leaf
leaf_from global pages kinds.Invalid = None
leaf_from global pages kinds.Reserved = None
leaf_from global pages (kinds.Table ppn on_it) = None
leaf_from global pages (kinds.Leaf ppn flags) =
    if ppn % pages == 0
    then Some (record { ppn = ppn; flags = flags; global = global || is_global flags.0 })
    else None

-- what a leaf has of an entry
abbrev pub leaf_of : Entry → Leaf
leaf_of e = record { ppn = e.ppn; flags = e.flags; global = e.global }

-- the entry for the leaf of a page
abbrev pub entry_at : Span → Leaf → Entry
entry_at page leaf =
    record {
      asid = 0;
      global = leaf.global;
      page = page;
      ppn = leaf.ppn;
      flags = leaf.flags;
    }

-- the leaf has the entry's PPN and at least its rights, and is as global as it is
pub record IsAtLeast (leaf : Leaf) (e : Entry) : Type 0 where
  pub ppn : leaf.ppn ≡ e.ppn
  pub global : leaf.global ≡ e.global
  pub permit : Permit leaf.flags e.flags
