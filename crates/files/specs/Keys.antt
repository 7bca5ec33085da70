-- What the keys of a document give.
use Rattle.std.specs.Prelude.{◌≡◌, ◌⊎◌, ℕ, Bool, nat_lt, false, List, [], ◌∷◌, map, Option, Some, None, option_and_then, option_map, Result, Ok, Err, if◌then◌else◌, Vec}
use Rattle.std.specs.declared.alloc.Global.{Global}
use denote.Ref.{Bor}
use Rattle.std.specs.List.{list_any}
use Rattle.std.specs.Option.{ok_or}
use Rattle.std.specs.Ordering.{nat_cmp, is_lt}
use Rattle.std.specs.Cmp.Lexicographic.{slice_cmp}
use Rattle.std.specs.Str.{bytes_eq}
use Rattle.toml.specs.Data.{Data, as_str, as_array, Items, no_items, item, Members, no_members, member, get_member}
use Rattle.steps.specs.Num.{num_of}
use Rattle.steps.specs.Words.{words_of}
use Rattle.files.specs.Faults.{Failure, wrong_key}
use Rattle.files.specs.KeyTable.{default_of, kind_of, name_of}
use Rattle.files.specs.declared.key_table.Key.{Key}

-- ---- unknown keys

abbrev pub is_known : List (List ℕ) → List ℕ → Bool
is_known known key = list_any (bytes_eq key) known

-- the first text comes before the second by bytes
abbrev pub is_before : List ℕ → List ℕ → Bool
is_before a b = is_lt (slice_cmp nat_cmp a b)

abbrev pub lesser : List ℕ → Option (List ℕ) → Option (List ℕ)
lesser key None = Some key
lesser key (Some other) = if is_before other key then Some other else Some key

-- the least key by bytes that is not known
abbrev pub least_unknown : List (List ℕ) → Members → Option (List ℕ)
least_unknown known no_members = None
least_unknown known (member key d ms) =
    if is_known known key then least_unknown known ms else lesser key (least_unknown known ms)

abbrev pub fails_if : Option (List ℕ) → Result (Unit {0}) Failure
fails_if None = Ok tt
fails_if (Some key) = Err (wrong_key key)

abbrev pub known_only : List (List ℕ) → Members → Result (Unit {0}) Failure
known_only known ms = fails_if (least_unknown known ms)

-- the key is one of the members'
abbrev pub HasKey : List ℕ → Members → Type 0
HasKey key no_members = ⊥
HasKey key (member k d ms) = (key ≡ k) ⊎ HasKey key ms

-- a key of the members that is not known, and no other such key comes before it
pub record IsLeastUnknown (known : List (List ℕ)) (ms : Members) (key : List ℕ) : Type 0 where
  pub has : HasKey key ms
  pub unknown : is_known known key ≡ false
  pub least : (other : List ℕ) → HasKey other ms → is_known known other ≡ false
      → is_before other key ≡ false

-- ---- values

abbrev pub member_of : Key → Members → Option Data
member_of key ms = get_member (name_of key) ms

abbrev pub wrong_value : Key → Failure
wrong_value key = wrong_key (name_of key)

-- what `read` makes of the value at a key, or the default where there is none
abbrev pub value_or : {X : Type 0} → Key → X → (Data → Option X) → Option Data → Result X Failure
value_or key default read None = Ok default
value_or key default read (Some d) = ok_or (read d) (wrong_value key)

abbrev pub value_at : {X : Type 0} → Key → X → (Data → Option X) → Members → Result X Failure
value_at key default read ms = value_or key default read (member_of key ms)

-- what is read at a key is the default of its row of the table where the key is absent
abbrev pub IsDefaultIfAbsent : Key → Members → Result ℕ Failure → Type 0
IsDefaultIfAbsent key ms read =
    member_of key ms ≡ None → option_map Ok (default_of (kind_of key)) ≡ Some read

-- each of them, or nothing where there is one that f refuses
abbrev pub each : {X Y : Type 0} → (X → Option Y) → List X → Option (List Y)
each f [] = Some []
each f (x ∷ xs) = option_and_then (λ y. option_map (λ ys. y ∷ ys) (each f xs)) (f x)

abbrev pub one_word : List (List ℕ) → Option (List ℕ)
one_word (word ∷ []) = Some word
one_word _ = None

-- the number that a text of one word writes
abbrev pub one_number : List ℕ → Option ℕ
one_number text = option_and_then num_of (one_word (words_of text))

abbrev pub below : ℕ → ℕ → Option ℕ
below limit n = if nat_lt n limit then Some n else None

abbrev pub listed : Items → List Data
listed no_items = []
listed (item d ds) = d ∷ listed ds

-- the texts of an array that has nothing else
abbrev pub texts_of : Data → Option (List (List ℕ))
texts_of d = option_and_then (λ ds. each as_str (listed ds)) (as_array d)

abbrev pub texts_at : Key → Members → Result (List (List ℕ)) Failure
texts_at key ms = value_at key [] texts_of ms

-- the texts that references point to
abbrev pub text_views : Vec (Bor (List ℕ)) Global → List (List ℕ)
text_views v = map (λ text. text.now) v.items
