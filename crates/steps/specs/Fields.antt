-- What the words of a step write.
use Rattle.std.specs.Prelude.{ℕ, ◌^◌, ◌%◌, ◌==◌, ◌&&◌, Bool, true, bit_and, bit_or, nat_lt, nat_le, codes, List, [], ◌∷◌, length, take, drop, Option, Some, None, option_and_then, option_map, unwrap_or, Result, Ok, Err, slice_set, if◌then◌else◌}
use Rattle.std.specs.List.{fold, slice_split}
use Rattle.std.specs.Option.{option_or}
use Rattle.std.specs.Str.{bytes_eq}
use Rattle.pte.specs.Address.{bytes_of, is_canonical, level_of, Span, top_level}
use Rattle.pte.specs.declared.TheConstants.{ASID_BITS, MAX_HARTS}
use Rattle.pte.specs.declared.address.PageSize.{PageSize}
use Rattle.pte.specs.declared.address.PageSize.TheVariants.{Kib4, Mib2, Gib1, Gib512}
use Rattle.pte.specs.declared.scheme.Scheme.{Scheme}
use Rattle.pte.specs.declared.flags.PteFlags.{PteFlags}
use Rattle.spaces.specs.declared.places.Place.{Place}
use Rattle.spaces.specs.declared.places.Place.TheVariants as places
use Rattle.shoot.specs.HartSet.{byte_of, no_harts}
use Rattle.history.specs.declared.event.Scope.{Scope}
use Rattle.history.specs.declared.event.Scope.TheVariants as scopes
use Rattle.steps.specs.declared.fault.StepFault.{StepFault}
use Rattle.steps.specs.declared.fault.StepFault.TheVariants.{NoSuchHart, NotPage}
use Rattle.steps.specs.declared.fields.NamedHarts.{NamedHarts}
use Rattle.steps.specs.declared.fields.PageWord.{PageWord}
use Rattle.steps.specs.Num.{num_of}
use Rattle.steps.specs.StepFaults.{asked, ◌>>=◌}

-- ---- numbers

-- a number below a limit
abbrev pub number_below : ℕ → List ℕ → Option ℕ
number_below limit word =
    option_and_then (λ n. if nat_lt n limit then Some n else None) (num_of word)

abbrev pub ticket_of : List ℕ → Option ℕ
ticket_of word = number_below (2 ^ 32) word

abbrev pub space_of : List ℕ → Option ℕ
space_of word = number_below (2 ^ 8) word

abbrev pub asid_of : List ℕ → Option ℕ
asid_of word = number_below (2 ^ ASID_BITS) word

-- ---- a number, or a name in its place

-- `k` for the kernel window
abbrev pub place_of : List ℕ → Option Place
place_of word =
    if bytes_eq word (codes "k") then Some places.Kernel
    else option_map places.Space (space_of word)

abbrev pub scope_of : List ℕ → Option Scope
scope_of word =
    if bytes_eq word (codes "all") then Some scopes.All else option_map scopes.Space (space_of word)

-- the register x0, or another that holds the number
abbrev pub register_of : List ℕ → Option (Option ℕ)
register_of word = if bytes_eq word (codes "x0") then Some None else option_map Some (num_of word)

-- ---- pages

abbrev pub page_after : List ℕ → PageSize → List ℕ → Option PageWord
page_after prefix size word =
    if bytes_eq (take (length prefix) word) prefix
    then
    option_map (λ base. record { base = base; size = size })
    (num_of (drop (length prefix) word))
    else None

-- a size, a colon and the address, whatever it is
abbrev pub sized_page_of : List ℕ → Option PageWord
sized_page_of word =
    option_or
    (option_or
    (option_or (page_after (codes "4K:") Kib4 word) (page_after (codes "2M:") Mib2 word))
    (page_after (codes "1G:") Gib1 word)) (page_after (codes "512G:") Gib512 word)

-- the scheme has pages of that size
abbrev pub has_size : Scheme → PageWord → Bool
has_size scheme page = nat_le (level_of page.size) (top_level scheme)

-- the same of a size that the scheme has
abbrev pub page_of : Scheme → List ℕ → Option PageWord
page_of scheme word =
    option_and_then (λ page. if has_size scheme page then Some page else None) (sized_page_of word)

-- the address is canonical and a multiple of the size (privileged manual 4.4.1 and 4.5.1)
abbrev pub is_page : Scheme → PageWord → Bool
is_page scheme page = is_canonical scheme page.base && (page.base % bytes_of page.size == 0)

abbrev pub page_at : Scheme → PageWord → Result Span StepFault
page_at scheme page =
    if is_page scheme page then Ok (record { base = page.base; size = page.size }) else Err NotPage

-- ---- flags

-- the bit of a letter: r, w, x, u, g, a, d
abbrev pub flag_of : ℕ → Option ℕ
flag_of letter =
    if letter == 114 then Some 0x02 else if letter == 119 then Some 0x04
    else if letter == 120 then Some 0x08 else if letter == 117 then Some 0x10
    else if letter == 103 then Some 0x20 else if letter == 97 then Some 0x40
    else if letter == 100 then Some 0x80 else None

-- the bits of the letters and those that are set already, of which no letter may be
abbrev pub with_letters : ℕ → List ℕ → Option ℕ
with_letters bits [] = Some bits
with_letters bits (letter ∷ letters) =
    option_and_then
    (λ bit. if bit_and bits bit == 0 then with_letters (bit_or bits bit) letters else None)
    (flag_of letter)

abbrev pub bits_of : List ℕ → Option ℕ
bits_of [] = None
bits_of word = if bytes_eq word (codes "-") then Some 0 else with_letters 0 word

abbrev pub flags_of : List ℕ → Option PteFlags
flags_of word = option_map (λ bits. record { 0 = bits }) (bits_of word)

-- ---- harts

-- one of this many harts
abbrev pub among : ℕ → ℕ → Result ℕ StepFault
among harts hart = if nat_lt hart harts then Ok hart else Err NoSuchHart

-- what stands between commas
abbrev pub parts_of : List ℕ → List (List ℕ)
parts_of word = slice_split (λ byte. byte == 44) word

-- the harts that are in the set already, and these
abbrev pub with_harts : List Bool → List ℕ → List Bool
with_harts set [] = set
with_harts set (hart ∷ harts) = with_harts (slice_set set hart true) harts

-- ---- harts that are named, whether they exist or not
-- (the set of those that can be, and the greatest number)

abbrev pub nobody : NamedHarts
nobody = record { set = no_harts; greatest = None }

-- a number that no hart can have is in no set
abbrev pub with_hart : NamedHarts → ℕ → NamedHarts
with_hart named hart =
    let most = unwrap_or named.greatest 0 in
    record {
      set = if nat_lt hart MAX_HARTS then slice_set named.set hart true else named.set;
      greatest = Some (if nat_lt hart most then most else hart);
    }

-- the harts of the parts that were read, and that of one part more
abbrev pub with_part : Option NamedHarts → List ℕ → Option NamedHarts
with_part named part =
    option_and_then (λ hart. option_map (λ (n : NamedHarts). with_hart n hart) named) (num_of part)

-- numbers of harts with commas between them
abbrev pub listed_of : List ℕ → Option NamedHarts
listed_of word = fold with_part (Some nobody) (parts_of word)

-- the same, or `-` for none
abbrev pub named_of : List ℕ → Option NamedHarts
named_of word = if bytes_eq word (codes "-") then Some nobody else listed_of word

-- all of them exist
abbrev pub are_there : ℕ → Option ℕ → Bool
are_there harts None = true
are_there harts (Some greatest) = nat_lt greatest harts

-- bit h for hart h, if all of them exist
abbrev pub named_among : ℕ → NamedHarts → Result ℕ StepFault
named_among harts named =
    if are_there harts named.greatest then Ok (byte_of named.set) else Err NoSuchHart

-- ---- words that a scheme or the harts may refuse

-- the number of a hart that exists
abbrev pub hart_in : ℕ → List ℕ → Result ℕ StepFault
hart_in harts word = asked (num_of word) >>= among harts

abbrev pub page_in : Scheme → List ℕ → Result Span StepFault
page_in scheme word = asked (page_of scheme word) >>= page_at scheme

abbrev pub named_in : ℕ → List ℕ → Result ℕ StepFault
named_in harts word = asked (named_of word) >>= named_among harts
