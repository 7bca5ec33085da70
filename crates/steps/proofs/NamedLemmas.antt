-- Sets of harts in the steps of `run`: what the reader finds is what the grammar says.
use Rattle.std.proofs.Common.{◌≡◌, ℕ, ◌==◌, Bool, true, false, nat_lt, codes, List, [], ◌∷◌, ◌++◌, Option, Some, None, option_map, Ok, Err, refl, sym, ap, subst, ◌∙◌, inl, inr, if◌then◌else◌}
use Rattle.std.specs.List.{list_all}
use Rattle.std.specs.Str.{bytes_eq}
use Rattle.std.proofs.lemmas.Bool.{and_parts, eqb-true}
use Rattle.std.proofs.lemmas.List.Elements.{All-from_recursion}
use Rattle.std.proofs.lemmas.List.Splits.{slice_split_at, slice_split_none}
use Rattle.std.proofs.lemmas.Option.{same_Some}
use Rattle.std.proofs.lemmas.Slice.Eq.{bytes_eq-Decides}
use Rattle.shoot.specs.HartSet.{byte_of, no_harts}
use Rattle.steps.specs.declared.fault.StepFault.TheVariants.{NotStep, NoSuchHart}
use Rattle.steps.specs.declared.fields.NamedHarts.{NamedHarts}
use Rattle.steps.specs.Fields.{named_among, named_of, parts_of, with_harts}
use Rattle.steps.specs.Num.{num_of}
use Rattle.steps.specs.StepGrammar.{IsPart, WritesBelow, WritesHarts, WritesNamed}
use Rattle.steps.specs.StepFaults.{asked, ◌>>=◌}
use Rattle.steps.proofs.FieldLemmas.{lt_from_test, lt_test, not_Ok, same_Ok}
use Rattle.steps.proofs.GrammarLemmas.{num_of-writes, writes-num_of}
use Rattle.steps.proofs.HartLemmas.{named_in, named_read, nums_of, set_among, set_in}
use Rattle.steps.proofs.WordLemmas.{option_and_then-Some, option_map-Some}

abbrev is_comma : ℕ → Bool
is_comma byte = byte == 44

-- ---- the parts of a word

abbrev HasParts : List ℕ → List (List ℕ) → Type 0
HasParts word [] = ⊥
HasParts word (part ∷ []) = (word ≡ part) × IsPart part
HasParts word (part ∷ next ∷ more) = (rest : List ℕ) × (word ≡ part ++ 44 ∷ rest) × IsPart part × HasParts rest (next ∷ more)

parts_of-has : (parts : List (List ℕ)) (word : List ℕ) → HasParts word parts → parts_of word ≡ parts
parts_of-has [] word h = absurd h
parts_of-has (part ∷ []) word h = ap parts_of h.0 ∙ slice_split_none is_comma part (All-from_recursion _ part h.1)
parts_of-has (part ∷ next ∷ more) word (rest, is, good, has) =
    ap parts_of is ∙ slice_split_at is_comma part 44 rest (All-from_recursion _ part good) refl ∙ ap (λ ps. part ∷ ps) (parts_of-has (next ∷ more) rest has)

with_letter : (b : ℕ) (word part : List ℕ) (parts : List (List ℕ)) → is_comma b ≡ false → HasParts word (part ∷ parts) → HasParts (b ∷ word) ((b ∷ part) ∷ parts)
with_letter b word part [] e h = (ap (λ w. b ∷ w) h.0, (e, h.1))
with_letter b word part (next ∷ more) e (rest, is, good, has) = (rest, ap (λ w. b ∷ w) is, (e, good), has)

with_comma : (b : ℕ) (word part : List ℕ) (parts : List (List ℕ)) → is_comma b ≡ true → HasParts word (part ∷ parts) → HasParts (b ∷ word) ([] ∷ part ∷ parts)
with_comma b word part parts e h = (word, ap (λ c. c ∷ word) (eqb-true b 44 e), tt, h)

first_byte : (b : ℕ) (word : List ℕ) (v : Bool) → is_comma b ≡ v → (part : List ℕ) × (parts : List (List ℕ)) × HasParts word (part ∷ parts)
    → (part : List ℕ) × (parts : List (List ℕ)) × HasParts (b ∷ word) (part ∷ parts)
first_byte b word true e (part, parts, h) = ([], part ∷ parts, with_comma b word part parts e h)
first_byte b word false e (part, parts, h) = (b ∷ part, parts, with_letter b word part parts e h)

some_parts : (word : List ℕ) → (part : List ℕ) × (parts : List (List ℕ)) × HasParts word (part ∷ parts)
some_parts [] = ([], [], (refl, tt))
some_parts (b ∷ word) = first_byte b word (is_comma b) refl (some_parts word)

has-parts_of : (word : List ℕ) → HasParts word (parts_of word)
has-parts_of word = let h = some_parts word in subst (HasParts word) (sym (parts_of-has (h.0 ∷ h.1) word h.2)) h.2

-- ---- the numbers of the parts

abbrev are_there : ℕ → List ℕ → Bool
are_there harts named = list_all (λ hart. nat_lt hart harts) named

abbrev AreRead : ℕ → List ℕ → List ℕ → Type 0
AreRead harts word named = (nums_of (parts_of word) ≡ Some named) × (are_there harts named ≡ true)

harts-read : (harts : ℕ) (named : List ℕ) (word : List ℕ) → WritesHarts harts word named → AreRead harts word named
harts-read harts [] word h = absurd h
harts-read harts (hart ∷ []) word h =
    (ap nums_of (slice_split_none is_comma word (All-from_recursion _ word h.1)) ∙ rw (num_of-writes word hart h.0.0) refl, rw (lt_test hart harts h.0.1) refl)
harts-read harts (hart ∷ next ∷ more) word (part, rest, is, writes, good, rests) =
    let read = harts-read harts (next ∷ more) rest rests in (
      ap nums_of (ap parts_of is ∙ slice_split_at is_comma part 44 rest (All-from_recursion _ part good) refl) ∙ rw (num_of-writes part hart writes.0, read.0) refl,
      rw (lt_test hart harts writes.1) read.1,
    )

longer : (harts : ℕ) (word part rest : List ℕ) (m : ℕ) (ns : List ℕ) → word ≡ part ++ 44 ∷ rest → WritesBelow harts part m → IsPart part → WritesHarts harts rest ns → WritesHarts harts word (m ∷ ns)
longer harts word part rest m [] is writes good more = absurd more
longer harts word part rest m (n ∷ ns) is writes good more = (part, rest, is, writes, good, more)

writes_parts : (harts : ℕ) (parts : List (List ℕ)) (word named : List ℕ) → HasParts word parts → nums_of parts ≡ Some named → are_there harts named ≡ true → WritesHarts harts word named
writes_parts harts [] word named has h there = absurd has
writes_parts harts (part ∷ []) word named has h there =
    let n = option_and_then-Some (λ n. option_map (λ ns. n ∷ ns) (nums_of [])) (num_of part) named h in
    let is : n.0 ∷ [] ≡ named = same_Some _ _ n.1.1 in
    let below = lt_from_test n.0 harts (and_parts _ _ (subst (λ ns. are_there harts ns ≡ true) (sym is) there)).0 in
    subst (WritesHarts harts word) is
    ((subst (λ w. WritesBelow harts w n.0) (sym has.0) (writes-num_of part n.0 n.1.0, below)), subst IsPart (sym has.0) has.1)
writes_parts harts (part ∷ next ∷ more) word named (rest, is, good, has) h there =
    let n = option_and_then-Some (λ n. option_map (λ ns. n ∷ ns) (nums_of (next ∷ more))) (num_of part) named h in
    let ns = option_map-Some (λ ns. n.0 ∷ ns) (nums_of (next ∷ more)) named n.1.1 in
    let tests = and_parts _ _ (subst (λ xs. are_there harts xs ≡ true) (sym ns.1.1) there) in
    subst (WritesHarts harts word) ns.1.1
    (longer harts word part rest n.0 ns.0 is (writes-num_of part n.0 n.1.0, lt_from_test n.0 harts tests.0) good (writes_parts harts (next ∷ more) rest ns.0 has ns.1.0 tests.1))

-- ---- the set

dash_unread : (named : List ℕ) → nums_of (parts_of (codes "-")) ≡ Some named → ⊥
dash_unread named h = cc

named_by : (harts : ℕ) (word named : List ℕ) (b : Bool) → bytes_eq word (codes "-") ≡ b → AreRead harts word named
    → (if b then Ok 0 else set_in harts word >>= λ set. Ok (byte_of set)) ≡ Ok (byte_of (with_harts no_harts named))
named_by harts word named true e h = absurd (dash_unread named (ap (λ w. nums_of (parts_of w)) (sym ((bytes_eq-Decides word (codes "-")).0 e)) ∙ h.0))
named_by harts word named false e h = rw (h.0, h.1) refl

named_in-writes : (harts : ℕ) (word : List ℕ) (set : ℕ) → WritesNamed harts word set → named_in harts word ≡ Ok set
named_in-writes harts word set (inl h) = ap (named_in harts) h.0 ∙ ap Ok (sym h.1)
named_in-writes harts word set (inr (named, writes, is)) = named_by harts word named (bytes_eq word (codes "-")) refl (harts-read harts named word writes) ∙ ap Ok (sym is)

set_by_test : (harts : ℕ) (named : List ℕ) (set : ℕ) (b : Bool) → are_there harts named ≡ b
    → ((if b then Ok (with_harts no_harts named) else Err NoSuchHart) >>= λ s. Ok (byte_of s)) ≡ Ok set → (are_there harts named ≡ true) × (byte_of (with_harts no_harts named) ≡ set)
set_by_test harts named set true e h = (e, same_Ok _ _ _ refl h)
set_by_test harts named set false e h = absurd (not_Ok _ NoSuchHart set refl h)

set_by_option : (harts : ℕ) (word : List ℕ) (set : ℕ) (o : Option (List ℕ)) → nums_of (parts_of word) ≡ o
    → ((asked o >>= set_among harts) >>= λ s. Ok (byte_of s)) ≡ Ok set → (named : List ℕ) × AreRead harts word named × (byte_of (with_harts no_harts named) ≡ set)
set_by_option harts word set None e h = absurd (not_Ok _ NotStep set refl h)
set_by_option harts word set (Some named) e h = let t = set_by_test harts named set (are_there harts named) refl h in (named, (e, t.0), t.1)

writes_by : (harts : ℕ) (word : List ℕ) (set : ℕ) (b : Bool) → bytes_eq word (codes "-") ≡ b
    → (if b then Ok 0 else set_in harts word >>= λ s. Ok (byte_of s)) ≡ Ok set → WritesNamed harts word set
writes_by harts word set true e h = inl ((bytes_eq-Decides word (codes "-")).0 e, sym (same_Ok _ _ _ refl h))
writes_by harts word set false e h =
    let r = set_by_option harts word set (nums_of (parts_of word)) refl h in
    inr (r.0, writes_parts harts (parts_of word) word r.0 (has-parts_of word) r.1.0 r.1.1, sym r.2)

writes-named_in : (harts : ℕ) (word : List ℕ) (set : ℕ) → named_in harts word ≡ Ok set → WritesNamed harts word set
writes-named_in harts word set h = writes_by harts word set (bytes_eq word (codes "-")) refl h

-- the harts that a word names, where all of them exist
pub record IsNamed (harts : ℕ) (word : List ℕ) (set : ℕ) : Type 0 where
  pub named : NamedHarts
  pub read : named_of word ≡ Some named
  pub there : named_among harts named ≡ Ok set

named_by_option : (harts : ℕ) (word : List ℕ) (set : ℕ) (o : Option NamedHarts) → named_of word ≡ o → (asked o >>= named_among harts) ≡ Ok set → IsNamed harts word set
named_by_option harts word set None e h = absurd (not_Ok _ NotStep set refl h)
named_by_option harts word set (Some named) e h = record { named = named; read = e; there = h }

pub named-writes : (harts : ℕ) (word : List ℕ) (set : ℕ) → WritesNamed harts word set → IsNamed harts word set
named-writes harts word set h = named_by_option harts word set (named_of word) refl (named_read harts word ∙ named_in-writes harts word set h)

pub writes-named : (harts : ℕ) (word : List ℕ) (named : NamedHarts) (set : ℕ) → named_of word ≡ Some named → named_among harts named ≡ Ok set → WritesNamed harts word set
writes-named harts word named set read there =
    writes-named_in harts word set (sym (named_read harts word) ∙ ap (λ o. asked o >>= named_among harts) read ∙ there)
