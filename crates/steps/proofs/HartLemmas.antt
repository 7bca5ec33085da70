-- The harts that a word names: read one after another, and as a list of numbers.
use Rattle.std.proofs.Common.{◌≡◌, ℕ, ◌≤◌, ◌&&◌, Bool, true, false, nat_lt, codes, List, [], ◌∷◌, length, Option, Some, None, option_map, option_and_then, Result, Ok, Err, refl, sym, ◌∙◌, arith, slice_set, if◌then◌else◌}
use Rattle.std.specs.List.{fold, list_all}
use Rattle.std.specs.Str.{bytes_eq}
use Rattle.std.proofs.lemmas.Bool.Decides.{nat_tests}
use Rattle.std.proofs.lemmas.List.{length-set, set_past}
use Rattle.shoot.specs.HartSet.{byte_of, no_harts}
use Rattle.pte.specs.declared.TheConstants.{MAX_HARTS}
use Rattle.steps.specs.declared.fault.StepFault.{StepFault}
use Rattle.steps.specs.declared.fault.StepFault.TheVariants.{NoSuchHart}
use Rattle.steps.specs.declared.fields.NamedHarts.{NamedHarts}
use Rattle.steps.specs.Fields.{are_there, listed_of, named_among, named_of, nobody, parts_of, with_hart, with_harts, with_part}
use Rattle.steps.specs.Num.{num_of}
use Rattle.steps.specs.StepFaults.{asked, ◌>>=◌}

-- ---- a list of numbers, and the set of it

abbrev pub nums_of : List (List ℕ) → Option (List ℕ)
nums_of [] = Some []
nums_of (part ∷ parts) = option_and_then (λ n. option_map (λ ns. n ∷ ns) (nums_of parts)) (num_of part)

abbrev pub all_there : ℕ → List ℕ → Bool
all_there harts named = list_all (λ hart. nat_lt hart harts) named

-- the set of them, if all of them exist
abbrev pub set_among : ℕ → List ℕ → Result (List Bool) StepFault
set_among harts named = if all_there harts named then Ok (with_harts no_harts named) else Err NoSuchHart

abbrev pub set_in : ℕ → List ℕ → Result (List Bool) StepFault
set_in harts word = asked (nums_of (parts_of word)) >>= set_among harts

abbrev pub named_in : ℕ → List ℕ → Result ℕ StepFault
named_in harts word = if bytes_eq word (codes "-") then Ok 0 else set_in harts word >>= λ set. Ok (byte_of set)

-- ---- one after another

abbrev with_all : NamedHarts → List ℕ → NamedHarts
with_all named [] = named
with_all named (hart ∷ harts) = with_all (with_hart named hart) harts

-- once a part is no number, it stays so
unread_on : (parts : List (List ℕ)) → fold with_part None parts ≡ None → (n : Option ℕ)
    → fold with_part (option_and_then (λ hart. option_map (λ (x : NamedHarts). with_hart x hart) None) n) parts ≡ None
unread_on parts h None = h
unread_on parts h (Some n) = h

stays_unread : (parts : List (List ℕ)) → fold with_part None parts ≡ None
stays_unread [] = refl
stays_unread (part ∷ parts) = unread_on parts (stays_unread parts) (num_of part)

abbrev Folds : NamedHarts → List (List ℕ) → Type 0
Folds named parts = fold with_part (Some named) parts ≡ option_map (with_all named) (nums_of parts)

and_more : (named : NamedHarts) (hart : ℕ) (o : Option (List ℕ)) → option_map (with_all (with_hart named hart)) o ≡ option_map (with_all named) (option_map (λ ns. hart ∷ ns) o)
and_more named hart None = refl
and_more named hart (Some ns) = refl

by_num : (named : NamedHarts) (parts : List (List ℕ)) (n : Option ℕ) → ((x : NamedHarts) → Folds x parts)
    → fold with_part (option_and_then (λ hart. option_map (λ (x : NamedHarts). with_hart x hart) (Some named)) n) parts
    ≡ option_map (with_all named) (option_and_then (λ m. option_map (λ ns. m ∷ ns) (nums_of parts)) n)
by_num named parts None ih = stays_unread parts
by_num named parts (Some m) ih = ih (with_hart named m) ∙ and_more named m (nums_of parts)

folds : (named : NamedHarts) (parts : List (List ℕ)) → Folds named parts
folds named [] = refl
folds named (part ∷ parts) = by_num named parts (num_of part) (λ x. folds x parts)

-- ---- the greatest number says whether all exist

most_by : (harts hart most : ℕ) (b : Bool) → nat_lt hart most ≡ b → nat_lt (if b then most else hart) harts ≡ (nat_lt most harts && nat_lt hart harts)
most_by harts hart most true e = grind (arith, nat_tests)
most_by harts hart most false e = grind (arith, nat_tests)

one_more : (harts hart : ℕ) (greatest : Option ℕ) (set : List Bool)
    → are_there harts (with_hart (record { set = set; greatest = greatest }) hart).greatest ≡ (are_there harts greatest && nat_lt hart harts)
one_more harts hart None set = by_test (nat_lt hart 0) refl
  where
    by_test : (b : Bool) → nat_lt hart 0 ≡ b → nat_lt (if b then 0 else hart) harts ≡ nat_lt hart harts
    by_test true e = grind (arith, nat_tests)
    by_test false e = refl
one_more harts hart (Some most) set = most_by harts hart most (nat_lt hart most) refl

and_true : (a : Bool) → a ≡ (a && true)
and_true true = refl
and_true false = refl

and_assoc : (a b c : Bool) → ((a && b) && c) ≡ (a && (b && c))
and_assoc true b c = refl
and_assoc false b c = refl

there_all : (harts : ℕ) (named : NamedHarts) (ns : List ℕ) → are_there harts (with_all named ns).greatest ≡ (are_there harts named.greatest && all_there harts ns)
there_all harts named [] = and_true (are_there harts named.greatest)
there_all harts named (hart ∷ ns) =
    there_all harts (with_hart named hart) ns
    ∙ rw (one_more harts hart named.greatest named.set) (and_assoc (are_there harts named.greatest) (nat_lt hart harts) (all_there harts ns))

-- ---- a number that no hart can have is in no set

not_less : (hart most : ℕ) → nat_lt hart most ≡ false → most ≤ hart
not_less hart most e = grind (arith, nat_tests)

set_by : (hart : ℕ) (set : List Bool) (b : Bool) → nat_lt hart MAX_HARTS ≡ b → length set ≡ MAX_HARTS → (if b then slice_set set hart true else set) ≡ slice_set set hart true
set_by hart set true e long = refl
set_by hart set false e long = let out : length set ≤ hart = rw long (not_less hart MAX_HARTS e) in sym (set_past set hart true out)

sets_all : (named : NamedHarts) (ns : List ℕ) → length named.set ≡ MAX_HARTS → (with_all named ns).set ≡ with_harts named.set ns
sets_all named [] long = refl
sets_all named (hart ∷ ns) long =
    let same = set_by hart named.set (nat_lt hart MAX_HARTS) refl long in
    sets_all (with_hart named hart) ns (rw same (length-set named.set hart true ∙ long)) ∙ rw same refl

-- ---- both readings are the same

if_there : (b : Bool) (set : List Bool) → (if b then Ok (byte_of set) else Err NoSuchHart) ≡ ((if b then Ok set else Err NoSuchHart) >>= λ s. Ok (byte_of s))
if_there true set = refl
if_there false set = refl

nobody_is : byte_of no_harts ≡ 0
unfolding byte_of
nobody_is = refl

by_nums : (harts : ℕ) (o : Option (List ℕ)) → (asked (option_map (with_all nobody) o) >>= named_among harts) ≡ ((asked o >>= set_among harts) >>= λ s. Ok (byte_of s))
by_nums harts None = refl
by_nums harts (Some ns) = rw (there_all harts nobody ns, sets_all nobody ns refl) (if_there (all_there harts ns) (with_harts no_harts ns))

by_dash : (harts : ℕ) (word : List ℕ) (b : Bool)
    → (asked (if b then Some nobody else listed_of word) >>= named_among harts) ≡ (if b then Ok 0 else set_in harts word >>= λ s. Ok (byte_of s))
by_dash harts word true = rw nobody_is refl
by_dash harts word false = rw (folds nobody (parts_of word)) (by_nums harts (nums_of (parts_of word)))

pub named_read : (harts : ℕ) (word : List ℕ) → (asked (named_of word) >>= named_among harts) ≡ named_in harts word
named_read harts word = by_dash harts word (bytes_eq word (codes "-"))
