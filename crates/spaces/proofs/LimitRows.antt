-- Worked rows, computed from the definitions alone: the limit that each of these configurations
-- breaks first.
use Rattle.std.proofs.Common.{◌≡◌, ℕ, List, [], ◌∷◌, Option, Some, None, refl}
use Rattle.pte.specs.declared.scheme.Scheme.TheVariants.{Sv48}
use Rattle.spaces.specs.declared.configuration.Config.{Config}
use Rattle.spaces.specs.declared.configuration.Space.{Space}
use Rattle.spaces.specs.declared.configuration.TheConstants.{MAX_FRAMES, MAX_LIVE_FRAMES}
use Rattle.spaces.specs.declared.faults.Limit.{Limit}
use Rattle.spaces.specs.declared.faults.Limit.TheVariants.{Harts, Spaces, Homes, Asids, Window, Ppns, Spares, Frames, Capacity}
use Rattle.spaces.specs.Defaults.{default_for}
use Rattle.spaces.specs.Limits.{broken_limit}

abbrev two : Config
two = default_for 2

abbrev told : Config → Option Limit
told c = broken_limit MAX_FRAMES c

-- two harts with these spaces, and with these spare frames
abbrev with_spaces : List Space → Config
with_spaces spaces = record two { spaces = record { items = spaces } }

abbrev with_spares : List ℕ → Config
with_spares spares = record two { spares = record { items = spares } }

-- 508 spare frames, one space and a window of three slots are 512 frames
largest : told (record two { spares = record { items = 508 ∷ 0 ∷ [] }; window = 3 }) ≡ None
largest = refl

of_sv48 : told (record two { scheme = Sv48; capacity = 64 }) ≡ None
of_sv48 = refl

last_ppn : told (record two { base = 17592186044398 }) ≡ None
last_ppn = refl

no_hart : told (default_for 0) ≡ Some Harts
no_hart = refl

nine_harts : told (default_for 9) ≡ Some Harts
nine_harts = refl

no_space : told (with_spaces []) ≡ Some Spaces
no_space = refl

home_of_no_hart : told (with_spaces (record { home = 2; asid = 1 } ∷ [])) ≡ Some Homes
home_of_no_hart = refl

one_asid_twice : told (with_spaces (record { home = 0; asid = 7 } ∷ record { home = 1; asid = 7 } ∷ [])) ≡ Some Asids
one_asid_twice = refl

no_slot : told (record two { window = 0 }) ≡ Some Window
no_slot = refl

five_slots : told (record two { window = 5 }) ≡ Some Window
five_slots = refl

ppn_too_large : told (record two { base = 17592186044399 }) ≡ Some Ppns
ppn_too_large = refl

one_number_for_two : told (with_spares (8 ∷ [])) ≡ Some Spares
one_number_for_two = refl

too_many_frames : told (with_spares (508 ∷ 3 ∷ [])) ≡ Some Frames
too_many_frames = refl

too_many_live_frames : broken_limit MAX_LIVE_FRAMES (with_spares (90 ∷ 5 ∷ [])) ≡ Some Frames
too_many_live_frames = refl

capacity_65 : told (record two { capacity = 65 }) ≡ Some Capacity
capacity_65 = refl

-- the first of two
harts_before_capacity : told (record (default_for 9) { capacity = 0 }) ≡ Some Harts
harts_before_capacity = refl

ppns_before_frames : told (record two { base = 17592186044416; spares = record { items = 600 ∷ 0 ∷ [] } }) ≡ Some Ppns
ppns_before_frames = refl
