-- The limits of a configuration, and their test.
use Rattle.std.specs.Prelude.{ℕ, ◌≡◌, ◌+◌, ◌<◌, ◌≤◌, ◌^◌, Bool, true, ◌==◌, ◌&&◌, not, nat_le, nat_lt, IsTrue, All, List, [], ◌∷◌, length, find, Option}
use Rattle.std.specs.List.{list_all, list_any}
use Rattle.pte.specs.declared.TheConstants.{MAX_CAPACITY, MAX_HARTS}
use Rattle.pte.specs.declared.entry.TheConstants.{PPN_BITS}
use Rattle.spaces.specs.declared.configuration.Config.{Config}
use Rattle.spaces.specs.declared.configuration.Space.{Space}
use Rattle.spaces.specs.declared.configuration.TheConstants.{MAX_SPACES, MAX_WINDOW}
use Rattle.spaces.specs.declared.faults.Limit.{Limit}
use Rattle.spaces.specs.declared.faults.Limit.TheVariants as limits
use Rattle.spaces.specs.Layout.{layout_of, frame_count}

-- no space has the ASID of one after it
abbrev pub asids_differ : List Space → Bool
asids_differ [] = true
asids_differ (s ∷ ss) = not (list_any (λ other. other.asid == s.asid) ss) && asids_differ ss

-- the configuration is within the limits, its number of frames within this one
pub record MeetsLimits (frames : ℕ) (c : Config) : Type 0 where
  pub some_hart : 1 ≤ c.harts
  pub harts : c.harts ≤ MAX_HARTS
  pub some_space : 1 ≤ length c.spaces.items
  pub spaces : length c.spaces.items ≤ MAX_SPACES
  pub homes : All (λ s. s.home < c.harts) c.spaces.items
  pub asids : IsTrue (asids_differ c.spaces.items)
  pub some_window : 1 ≤ c.window
  pub window : c.window ≤ MAX_WINDOW
  pub spares : length c.spares.items ≡ c.harts
  pub frames_fit : frame_count (layout_of c) ≤ frames
  pub ppns_fit : c.base + frame_count (layout_of c) ≤ 2 ^ PPN_BITS
  pub some_capacity : 1 ≤ c.capacity
  pub capacity : c.capacity ≤ MAX_CAPACITY

-- the number is from 1 to this
abbrev pub is_from_one : ℕ → ℕ → Bool
is_from_one most n = nat_le 1 n && nat_le n most

-- the same as a test (law `limits_are_checked`)
unfoldable pub is_within_limits : ℕ → Config → Bool
is_within_limits frames c =
    is_from_one MAX_HARTS c.harts
    && (is_from_one MAX_SPACES (length c.spaces.items)
    && (is_from_one MAX_WINDOW c.window
    && (is_from_one MAX_CAPACITY c.capacity
    && ((length c.spares.items == c.harts)
    && (list_all (λ s. nat_lt s.home c.harts) c.spaces.items
    && (asids_differ c.spaces.items
    && (nat_le (frame_count (layout_of c)) frames
    && nat_le (c.base + frame_count (layout_of c)) (2 ^ PPN_BITS))))))))

-- each limit by itself
abbrev pub holds_limit : ℕ → Config → Limit → Bool
holds_limit frames c limits.Harts = is_from_one MAX_HARTS c.harts
holds_limit frames c limits.Spaces = is_from_one MAX_SPACES (length c.spaces.items)
holds_limit frames c limits.Homes = list_all (λ s. nat_lt s.home c.harts) c.spaces.items
holds_limit frames c limits.Asids = asids_differ c.spaces.items
holds_limit frames c limits.Window = is_from_one MAX_WINDOW c.window
holds_limit frames c limits.Ppns = nat_le (c.base + frame_count (layout_of c)) (2 ^ PPN_BITS)
holds_limit frames c limits.Spares = length c.spares.items == c.harts
holds_limit frames c limits.Frames = nat_le (frame_count (layout_of c)) frames
holds_limit frames c limits.Capacity = is_from_one MAX_CAPACITY c.capacity

-- all of them, in the order of the fields
abbrev pub in_order : List Limit
in_order =
    limits.Harts ∷ limits.Spaces ∷ limits.Homes ∷ limits.Asids ∷ limits.Window ∷ limits.Ppns
    ∷ limits.Spares ∷ limits.Frames ∷ limits.Capacity ∷ []

-- the first that does not hold
abbrev pub broken_limit : ℕ → Config → Option Limit
broken_limit frames c = find (λ limit. not (holds_limit frames c limit)) in_order
