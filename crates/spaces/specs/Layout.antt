-- How table memory is laid out in frames: the tables of the kernel window, the roots of the spaces,
-- then each hart's spare frames. A frame is a physical page, named by its PPN.
use Rattle.std.specs.Prelude.{ℕ, Bool, ◌+◌, ◌-◌, ◌/◌, ◌<◌, ◌&&◌, List, length, map, sum, take, slice_index, nat_le, nat_lt}
use Rattle.pte.specs.declared.scheme.Scheme.{Scheme}
use Rattle.pte.specs.declared.address.TheConstants.{TABLE_LENGTH}
use Rattle.spaces.specs.declared.configuration.Config.{Config}
use Rattle.spaces.specs.declared.places.Place.{Place}
use Rattle.spaces.specs.declared.places.Place.TheVariants.{Space, Kernel}

-- the scheme, the number of the window's slots, the PPN of the first frame, the home of each space,
-- and each hart's number of spare frames
pub record Layout : Type 0 where
  pub scheme : Scheme
  pub window : ℕ
  pub base : ℕ
  pub homes : List ℕ
  pub spares : List ℕ

-- the layout of a configuration, and how many frames it has
abbrev pub layout_of : Config → Layout
layout_of c =
    record {
      scheme = c.scheme;
      window = c.window;
      base = c.base;
      homes = map (λ s. s.home) c.spaces.items;
      spares = c.spares.items;
    }

abbrev pub frame_count : Layout → ℕ
frame_count l = l.window + length l.homes + sum l.spares

-- the table of slot k of the window, the root of space s, and the first spare frame of hart h
abbrev pub window_ppn : Layout → ℕ → ℕ
window_ppn l k = l.base + k

abbrev pub root_ppn : Layout → ℕ → ℕ
root_ppn l s = l.base + l.window + s

abbrev pub spare_ppn : Layout → ℕ → ℕ
spare_ppn l h = l.base + l.window + length l.homes + sum (take h l.spares)

-- the frame is one of table memory; it is a root
abbrev pub is_frame : Layout → ℕ → Bool
is_frame l ppn = nat_le l.base ppn && nat_lt ppn (l.base + frame_count l)

abbrev pub is_root : Layout → ℕ → Bool
is_root l ppn = nat_le (root_ppn l 0) ppn && nat_lt ppn (root_ppn l (length l.homes))

-- the slots of a root below this one are the user's half, and the last ones are the window
abbrev pub user_slots : ℕ
user_slots = TABLE_LENGTH / 2

abbrev pub first_window_slot : Layout → ℕ
first_window_slot l = TABLE_LENGTH - l.window

-- the place exists
abbrev pub HasPlace : Layout → Place → Type 0
HasPlace l (Space s) = s < length l.homes
HasPlace l Kernel = Unit {0}

-- the hart that alone stores to the place's tables
abbrev pub home_of : Layout → Place → ℕ
home_of l (Space s) = slice_index l.homes s
home_of l Kernel = 0
