-- Which paths pass through a word (privileged manual 4.3.2, virtual address translation process,
-- steps 1 to 4).
use Rattle.std.specs.Prelude.{ℕ, Bool, ◌≡◌, ◌<◌, ◌≤◌, false, true, List}
use Rattle.std.specs.List.{Contains}
use Rattle.pte.specs.declared.scheme.Scheme.{Scheme}
use Rattle.pte.specs.Address.{Span, level_of, vpn_of}
use Rattle.walk.specs.Leads.{Tables, Leads, word_at}
use Rattle.tlb.specs.declared.store.Entry.{Entry}
use Rattle.watch.specs.Holding.{HasLeaf}
use Rattle.watch_tables.specs.declared.leaf.RootLeaf.{RootLeaf}

-- the path of the page passes through the word at this index of the table
pub record Passes (scheme : Scheme) (words : Tables) (root table index : ℕ) (page : Span) : Type 0 where
  pub at : ℕ
  pub from : level_of page.size ≤ at
  pub asked : vpn_of page.base at ≡ index
  pub leads : Leads scheme words root page.base at table (words table index)

-- the path of the page passes through no word of a set
pub record PassesNone (scheme : Scheme) (words : Tables) (is_in : ℕ → ℕ → Bool) (root : ℕ)
    (page : Span) : Type 0 where
  pub none : (at table : ℕ) → level_of page.size ≤ at
      → Leads scheme words root page.base at table (word_at words page.base at table)
      → is_in table (vpn_of page.base at) ≡ false

-- the path of the page passes through a word of a set, and through none above it
pub record PassesFirst (scheme : Scheme) (words : Tables) (is_in : ℕ → ℕ → Bool) (root : ℕ)
    (page : Span) : Type 0 where
  pub table : ℕ
  pub index : ℕ
  pub passes : Passes scheme words root table index page
  pub of_set : is_in table index ≡ true
  pub above : (at other : ℕ) → passes.at < at
      → Leads scheme words root page.base at other (word_at words page.base at other)
      → is_in other (vpn_of page.base at) ≡ false

-- the tables of the root have the leaf, with ASID 0, and its path passes through the word
pub record IsLeafThrough (scheme : Scheme) (words : Tables) (root table index : ℕ)
    (e : Entry) : Type 0 where
  pub asid : e.asid ≡ 0
  pub leaf : HasLeaf scheme words root e
  pub passes : Passes scheme words root table index e.page

-- some leaf of the list is this entry of this root
pub record HasRootLeaf (leaves : List RootLeaf) (root : ℕ) (e : Entry) : Type 0 where
  pub since : ℕ
  pub among : Contains leaves (record { root = root; entry = e; since = since })
