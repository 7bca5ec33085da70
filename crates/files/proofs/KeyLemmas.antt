-- The least unknown key: its law, and that it is the first of a map's keys.
use Rattle.std.proofs.Common.{◌≡◌, ℕ, Bool, true, false, not, List, [], ◌∷◌, Option, Some, None, option_map, String, Global, string_bytes, string_cmp, find, Bor, Less, Greater, nat_cmp, refl, ap, subst, ◌∙◌, inl, inr}
use Rattle.std.specs.Cmp.{IsStrictWeakOrder}
use Rattle.std.specs.Cmp.Lexicographic.{slice_cmp}
use Rattle.std.specs.List.{AllByRecursion}
use Rattle.std.specs.List.Sorted.{IsStrictlySortedBy}
use Rattle.std.specs.Map.{keys_of}
use Rattle.std.specs.Ordering.{ordering_reverse}
use Rattle.std.proofs.lemmas.Bool.{cases_Bool}
use Rattle.std.proofs.lemmas.Cmp.{nat_list_cmp_total}
use Rattle.std.proofs.lemmas.List.MinMax.{ranks_by}
use Rattle.std.proofs.lemmas.Option.{same_Some}
use Rattle.toml.specs.Data.{Data, Members, no_members, member}
use Rattle.toml.specs.View.{members_view}
use Rattle.toml.proofs.Views.{Entry}
use Rattle.files.specs.Keys.{HasKey, is_before, is_known, IsLeastUnknown, least_unknown, lesser}

texts_ordered : IsStrictWeakOrder is_before
texts_ordered = ranks_by nat_list_cmp_total (λ (text : List ℕ). text)

not_before_itself : (text : List ℕ) → is_before text text ≡ false
not_before_itself text = elim (cases_Bool (is_before text text)) [ inl e ↦ texts_ordered.one_way text text e | inr e ↦ e ]

lesser_is_some : (key other : List ℕ) (b : Bool) → is_before other key ≡ b → lesser key (Some other) ≡ None → ⊥
lesser_is_some key other true e h = let bad : Some other ≡ None = rw e at h in cc
lesser_is_some key other false e h = let bad : Some key ≡ None = rw e at h in cc

some_least : (key : List ℕ) (o : Option (List ℕ)) → lesser key o ≡ None → ⊥
some_least key None h = cc
some_least key (Some other) h = lesser_is_some key other (is_before other key) refl h

none_step : (known : List (List ℕ)) (k : List ℕ) (d : Data) (ms : Members) (b : Bool) → is_known known k ≡ b → least_unknown known (member k d ms) ≡ None → (b ≡ true) × (least_unknown known ms ≡ None)
none_step known k d ms true e h = (refl, rw e at h)
none_step known k d ms false e h = absurd (some_least k (least_unknown known ms) (rw e at h))

-- where none is found, all are known
pub none_unknown : (known : List (List ℕ)) (ms : Members) → least_unknown known ms ≡ None → (key : List ℕ) → is_known known key ≡ false → ¬ HasKey key ms
none_unknown known no_members h key unknown has = has
none_unknown known (member k d ms) h key unknown (inl is) =
    let step = none_step known k d ms (is_known known k) refl h in
    let bad : is_known known key ≡ true = ap (is_known known) is ∙ step.0 in
    cc
none_unknown known (member k d ms) h key unknown (inr has) =
    none_unknown known ms (none_step known k d ms (is_known known k) refl h).1 key unknown has

-- no unknown key of the members comes before this one
abbrev NoneBefore : List (List ℕ) → Members → List ℕ → Type 0
NoneBefore known ms key = (other : List ℕ) → HasKey other ms → is_known known other ≡ false → is_before other key ≡ false

none_before_first : (known : List (List ℕ)) (k : List ℕ) (d : Data) (ms : Members) → NoneBefore known ms k → NoneBefore known (member k d ms) k
none_before_first known k d ms rest other (inl is) h = rw is (not_before_itself k)
none_before_first known k d ms rest other (inr has) h = rest other has h

none_before_later : (known : List (List ℕ)) (k : List ℕ) (d : Data) (ms : Members) (key : List ℕ) → is_before k key ≡ false → NoneBefore known ms key → NoneBefore known (member k d ms) key
none_before_later known k d ms key first rest other (inl is) h = rw is first
none_before_later known k d ms key first rest other (inr has) h = rest other has h

none_before_known : (known : List (List ℕ)) (k : List ℕ) (d : Data) (ms : Members) (key : List ℕ) → is_known known k ≡ true → NoneBefore known ms key → NoneBefore known (member k d ms) key
none_before_known known k d ms key e rest other (inl is) h = let bad : is_known known other ≡ true = ap (is_known known) is ∙ e in cc
none_before_known known k d ms key e rest other (inr has) h = rest other has h

first_is_least : (known : List (List ℕ)) (k : List ℕ) (d : Data) (ms : Members) → is_known known k ≡ false → NoneBefore known ms k → IsLeastUnknown known (member k d ms) k
first_is_least known k d ms unknown rest = record { has = inl refl; unknown = unknown; least = none_before_first known k d ms rest }

later_is_least : (known : List (List ℕ)) (k : List ℕ) (d : Data) (ms : Members) (key : List ℕ) → is_before k key ≡ false → IsLeastUnknown known ms key → IsLeastUnknown known (member k d ms) key
later_is_least known k d ms key first rest = record { has = inr rest.has; unknown = rest.unknown; least = none_before_later known k d ms key first rest.least }

-- the lesser of an unknown key and of the least of the rest
lesser_least : (known : List (List ℕ)) (k : List ℕ) (d : Data) (ms : Members) (other key : List ℕ) (b : Bool) → is_known known k ≡ false → IsLeastUnknown known ms other
    → is_before other k ≡ b → lesser k (Some other) ≡ Some key → IsLeastUnknown known (member k d ms) key
lesser_least known k d ms other key true unknown rest e h =
    let is : other ≡ key = same_Some _ _ (rw e at h) in
    subst (IsLeastUnknown known (member k d ms)) is (later_is_least known k d ms other (texts_ordered.one_way other k e) rest)
lesser_least known k d ms other key false unknown rest e h =
    let is : k ≡ key = same_Some _ _ (rw e at h) in
    subst (IsLeastUnknown known (member k d ms)) is
    (first_is_least known k d ms unknown (λ another has no. texts_ordered.chain another other k (rest.least another has no) e))

by_rest : (known : List (List ℕ)) (k : List ℕ) (d : Data) (ms : Members) (key : List ℕ) (o : Option (List ℕ)) → is_known known k ≡ false → least_unknown known ms ≡ o
    → ((other : List ℕ) → least_unknown known ms ≡ Some other → IsLeastUnknown known ms other) → lesser k o ≡ Some key → IsLeastUnknown known (member k d ms) key
by_rest known k d ms key None unknown e rest h =
    subst (IsLeastUnknown known (member k d ms)) (same_Some _ _ h)
    (first_is_least known k d ms unknown (λ other has no. absurd (none_unknown known ms e other no has)))
by_rest known k d ms key (Some other) unknown e rest h = lesser_least known k d ms other key (is_before other k) unknown (rest other e) refl h

past_known : (known : List (List ℕ)) (k : List ℕ) (d : Data) (ms : Members) (key : List ℕ) → is_known known k ≡ true → IsLeastUnknown known ms key → IsLeastUnknown known (member k d ms) key
past_known known k d ms key e rest = record { has = inr rest.has; unknown = rest.unknown; least = none_before_known known k d ms key e rest.least }

by_first : (known : List (List ℕ)) (k : List ℕ) (d : Data) (ms : Members) (key : List ℕ) (b : Bool) → is_known known k ≡ b
    → ((other : List ℕ) → least_unknown known ms ≡ Some other → IsLeastUnknown known ms other) → least_unknown known (member k d ms) ≡ Some key → IsLeastUnknown known (member k d ms) key
by_first known k d ms key true e rest h = past_known known k d ms key e (rest key (rw e at h))
by_first known k d ms key false e rest h = by_rest known k d ms key (least_unknown known ms) e refl rest (rw e at h)

-- what is found is the least unknown key
pub found_is_least : (known : List (List ℕ)) (ms : Members) (key : List ℕ) → least_unknown known ms ≡ Some key → IsLeastUnknown known ms key
found_is_least known no_members key h = cc
found_is_least known (member k d ms) key h = by_first known k d ms key (is_known known k) refl (found_is_least known ms) h

-- ---- a map's keys ascend, so its first unknown key is the least

abbrev pub is_known_key : List (List ℕ) → String Global → Bool
is_known_key known key = is_known known (string_bytes key)

comes_after : (first : List ℕ) (es : List Entry) → AllByRecursion (λ y. slice_cmp nat_cmp first (string_bytes y) ≡ Less) (keys_of es)
    → (key : List ℕ) → HasKey key (members_view es) → is_before key first ≡ false
comes_after first [] h key has = absurd has
comes_after first (e ∷ es) h key (inl is) =
    let above : slice_cmp nat_cmp (string_bytes e.0) first ≡ Greater =
    nat_list_cmp_total.antisymm (string_bytes e.0) first ∙ ap ordering_reverse h.0 in
    rw (is, above)
comes_after first (e ∷ es) h key (inr has) = comes_after first es h.1 key has

stays_first : (known : List (List ℕ)) (first : List ℕ) (es : List Entry) (o : Option (List ℕ)) → AllByRecursion (λ y. slice_cmp nat_cmp first (string_bytes y) ≡ Less) (keys_of es)
    → least_unknown known (members_view es) ≡ o → lesser first o ≡ Some first
stays_first known first es None h e = refl
stays_first known first es (Some other) h e =
    rw (comes_after first es h other (found_is_least known (members_view es) other e).has)

abbrev First : List (List ℕ) → List Entry → Type 0
First known es = least_unknown known (members_view es) ≡ option_map string_bytes (find (λ key. not (is_known_key known key)) (keys_of es))

one_more : (known : List (List ℕ)) (e : Entry) (es : List Entry) → AllByRecursion (λ y. slice_cmp nat_cmp (string_bytes e.0) (string_bytes y) ≡ Less) (keys_of es)
    → First known es → (b : Bool) → is_known_key known e.0 ≡ b → First known (e ∷ es)
one_more known e es above rest true h = rw h rest
one_more known e es above rest false h = rw h (stays_first known (string_bytes e.0) es (least_unknown known (members_view es)) above refl)

pub least_unknown-find : (known : List (List ℕ)) (es : List Entry) → IsStrictlySortedBy string_cmp (keys_of es) → First known es
unfolding IsStrictlySortedBy
least_unknown-find known [] sorted = refl
least_unknown-find known (e ∷ es) sorted = one_more known e es sorted.0 (least_unknown-find known es sorted.1) (is_known_key known e.0) refl

pub option_map-now : (r : Option (Bor (String Global))) → option_map (λ key. string_bytes key.now) r ≡ option_map string_bytes (option_map (λ key. key.now) r)
option_map-now None = refl
option_map-now (Some x) = refl
