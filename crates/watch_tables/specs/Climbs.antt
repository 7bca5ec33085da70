-- The ways to a table, found from the table up.
use Rattle.std.specs.Prelude.{ℕ, ◌≡◌, ◌+◌, ◌-◌, ◌*◌, ◌/◌, ◌%◌, ◌^◌, ◌<◌, ◌≤◌, ◌⊎◌, ◌↔◌, ◌||◌}
use Rattle.std.specs.Prelude.{IsTrue, Some, List}
use Rattle.pte.specs.declared.scheme.Scheme.{Scheme}
use Rattle.pte.specs.declared.scheme.TheConstants.{LEVEL_BITS}
use Rattle.pte.specs.declared.address.TheConstants.{TABLE_LENGTH}
use Rattle.pte.specs.declared.entry.Kind.TheVariants.{Table}
use Rattle.pte.specs.Address.{level_bytes, top_level}
use Rattle.pte.specs.Entry.{kind_of}
use Rattle.walk.specs.Leads.{Tables, Leads, IsGlobalAt, word_at}
use Rattle.watch_tables.specs.declared.way.Way.{Way}
use Rattle.watch_tables.specs.declared.pointers.Pointer.{Pointer}
use Rattle.watch_tables.specs.Paths.{IsPathSince}
use Rattle.watch_tables.specs.Ways.{HasWay, later, vpn_from}

-- the word with the pointer's number points to the table
pub record IsPointer (words : Tables) (since : ℕ → ℕ → ℕ) (table : ℕ)
    (pointer : Pointer) : Type 0 where
  pub entry : ℕ
  pub is : words (pointer.number / TABLE_LENGTH) (pointer.number % TABLE_LENGTH) ≡ Some entry
  pub kind : kind_of entry ≡ Table table pointer.global
  pub since_is : since (pointer.number / TABLE_LENGTH) (pointer.number % TABLE_LENGTH) ≡ pointer.since

-- VPN[height] to VPN[level + 1] of an address, as one number
abbrev pub vpn_between : ℕ → ℕ → ℕ → ℕ
vpn_between level height va = va / level_bytes (level + 1) % 2 ^ (LEVEL_BITS * (height - level))

-- the address leads from the root to the table at the height from which the way goes on, and has the
-- VPNs of the way
pub record ComesTo (scheme : Scheme) (words : Tables) (root va height : ℕ) (way : Way) : Type 0 where
  pub vpn : vpn_between way.level height va ≡ way.vpn
  pub leads : Leads scheme words root va height way.root (word_at words va height way.root)

-- whatever comes to the table at the height goes on by the way: down to its end, by these pointers
pub record IsWayDown (scheme : Scheme) (words : Tables) (since : ℕ → ℕ → ℕ) (height : ℕ)
    (way : Way) : Type 0 where
  pub level : way.level ≤ height
  pub of_scheme : height ≤ top_level scheme
  pub vpn : way.vpn < 2 ^ (LEVEL_BITS * (height - way.level))
  pub leads : (root va : ℕ) → ComesTo scheme words root va height way
      → Leads scheme words root va way.level way.at.table (word_at words va way.level way.at.table)
  pub global : (root va : ℕ) → ComesTo scheme words root va height way
      → IsGlobalAt scheme words root va (way.level + 1)
      ↔ (IsTrue way.at.global ⊎ IsGlobalAt scheme words root va (height + 1))
  pub since_is : (root va count : ℕ) → ComesTo scheme words root va height way
      → IsPathSince scheme words since root va (way.level + 1) count
      ↔ ((way.since ≤ count) × IsPathSince scheme words since root va (height + 1) count)

-- the way with a pointer to its table above it
abbrev pub way_by : Way → ℕ → Pointer → Way
way_by way height pointer =
    record {
      root = pointer.number / TABLE_LENGTH;
      level = way.level;
      vpn = pointer.number % TABLE_LENGTH * 2 ^ (LEVEL_BITS * (height - way.level)) + way.vpn;
      at = record { table = way.at.table; global = way.at.global || pointer.global };
      since = later way.since pointer.since;
    }

-- some way has the root, the way's level, and the VPNs of the address above it
abbrev pub HasWayBy : Scheme → List Way → Way → ℕ → ℕ → Type 0
HasWayBy scheme ways way root va = HasWay ways root way.level (vpn_from scheme (way.level + 1) va)
