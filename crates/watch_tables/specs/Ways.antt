-- The ways by which addresses come to a table (privileged manual 4.3.2, virtual address translation
-- process, steps 1 to 4; 4.4.1 and 4.5.1, VPN).
use Rattle.std.specs.Prelude.{ℕ, ◌≡◌, ◌+◌, ◌-◌, ◌*◌, ◌/◌, ◌%◌, ◌^◌, ◌<◌, ◌≤◌, ◌==◌, ◌↔◌}
use Rattle.std.specs.Prelude.{Option, None, List, false, nat_lt, if◌then◌else◌}
use Rattle.std.specs.List.{Contains}
use Rattle.std.specs.Option.{option_map}
use Rattle.pte.specs.declared.scheme.Scheme.{Scheme}
use Rattle.pte.specs.declared.scheme.TheConstants.{LEVEL_BITS}
use Rattle.pte.specs.declared.address.TheConstants.{TABLE_LENGTH}
use Rattle.pte.specs.declared.entry.Kind.{Kind}
use Rattle.pte.specs.Address.{Span, level_bytes, level_count, level_of, top_level}
use Rattle.walk.specs.Leads.{Tables, Leads, word_at}
use Rattle.watch_tables.specs.declared.way.Way.{Way}
use Rattle.watch_tables.specs.Paths.{IsPathSince, IsReached, pointed_from}

-- VPN[LEVELS - 1] to VPN[i] of an address, as one number
abbrev pub vpn_from : Scheme → ℕ → ℕ → ℕ
vpn_from scheme i va = va / level_bytes i % 2 ^ (LEVEL_BITS * (level_count scheme - i))

-- the level is one of the scheme, and above it an address may have these VPNs
pub record IsInLevels (scheme : Scheme) (way : Way) : Type 0 where
  pub level : way.level ≤ top_level scheme
  pub vpn : way.vpn < 2 ^ (LEVEL_BITS * (top_level scheme - way.level))

-- each address with these VPNs above the level leads from the root to the table of the way
pub record IsWay (scheme : Scheme) (words : Tables) (since : ℕ → ℕ → ℕ) (way : Way) : Type 0 where
  pub levels : IsInLevels scheme way
  pub reached : (va : ℕ) → vpn_from scheme (way.level + 1) va ≡ way.vpn
      → IsReached scheme words way.root va way.level way.at
  pub since_is : (va count : ℕ) → vpn_from scheme (way.level + 1) va ≡ way.vpn
      → (way.since ≤ count) ↔ IsPathSince scheme words since way.root va (way.level + 1) count

-- some way has this root, this level and these VPNs above it
pub record HasWay (ways : List Way) (root level vpn : ℕ) : Type 0 where
  pub way : Way
  pub among : Contains ways way
  pub root_is : way.root ≡ root
  pub level_is : way.level ≡ level
  pub vpn_is : way.vpn ≡ vpn

-- the ways are those by which addresses come to the table
pub record AreWays (scheme : Scheme) (words : Tables) (since : ℕ → ℕ → ℕ) (table : ℕ)
    (ways : List Way) : Type 0 where
  pub sound : (way : Way) → Contains ways way
      → IsWay scheme words since way × (way.at.table ≡ table)
  pub each : (root va level : ℕ)
      → Leads scheme words root va level table (word_at words va level table)
      → HasWay ways root level (vpn_from scheme (level + 1) va)

-- the page lies below the word at this index of the table that the way leads to
pub record IsBelow (scheme : Scheme) (way : Way) (index : ℕ) (page : Span) : Type 0 where
  pub of_scheme : way.level ≤ top_level scheme
  pub level : level_of page.size ≤ way.level
  pub vpn : vpn_from scheme way.level page.base ≡ way.vpn * TABLE_LENGTH + index

-- the later of two numbers of records
abbrev pub later : ℕ → ℕ → ℕ
later a b = if nat_lt a b then b else a

-- the way from a table to itself, as one of this level
abbrev pub way_to : ℕ → ℕ → Way
way_to table level =
    record {
      root = table;
      level = level;
      vpn = 0;
      at = record { table = table; global = false };
      since = 0;
    }

-- the way on from an entry of a kind, at an index of the table
abbrev pub way_from : Way → ℕ → Kind → ℕ → Option Way
way_from way index kind since =
    if way.level == 0
    then None
    else option_map (λ at. record {
      root = way.root;
      level = way.level - 1;
      vpn = way.vpn * TABLE_LENGTH + index;
      at = at;
      since = later way.since since;
    }) (pointed_from way.at.global kind)
