-- Walks along the places of a key: what is not on them has other keys.
use Rattle.std.proofs.Common.{◌≡◌, ℕ, Bool, true, false, zero, suc, ◌+◌, ◌-◌, ◌<◌, ◌≤◌, List, [], ◌∷◌, length, map, take, drop, get_or, Option, Some, None, ◌++◌, ap, sym, subst, ◌∙◌, refl, arith, inl, inr, add-one}
use Rattle.std.specs.Prelude.{◌==◌, ◌&&◌, ◌||◌, ◌⊎◌, cond, if◌then◌else◌}
use Rattle.std.specs.List.{list_any}
use Rattle.std.proofs.lemmas.Bool.{cases_Bool, eq-eqb, eqb-false, eqb-true, false_from_ne_true, true≢false}
use Rattle.std.proofs.lemmas.List.{drop_all, drop_more, get_or-map, length-map, length-take-le, take_all}
use Rattle.watch_engine.specs.declared.held.Held.{Held}
use Rattle.std.proofs.Math.Seq.{take-suc}
use Rattle.watch_engine.specs.Chains.{IsFirst, IsNext, bucket_of, last_place}
use Rattle.watch_engine.specs.Places.{place_in}
use Rattle.watch_engine.proofs.LastPlaces.{last_below, last_here, last_passes, last_within}

pub here : (f : Held → ℕ) (k : ℕ) (items : List Held) (n : ℕ) (d : Held) → n < length items → (f (get_or items n d) == k) ≡ true → last_place k (take (suc n) (map f items)) ≡ suc n
here f k items n d h fits =
    let long : length (map f items) ≡ length items = length-map items f in
    let is : suc n - 1 ≡ n = omega arith in
    last_here k (map f items) (suc n) (omega arith) (omega arith) (ap (λ (m : ℕ). get_or (map f items) m 0) is ∙ (get_or-map f items n d 0 h ∙ eqb-true _ _ fits))

pub below : (f : Held → ℕ) (k : ℕ) (items : List Held) (n : ℕ) (d : Held) → n < length items → (f (get_or items n d) == k) ≡ false → last_place k (take (suc n) (map f items)) ≡ last_place k (take n (map f items))
below f k items n d h differs =
    let long : length (map f items) ≡ length items = length-map items f in
    let is : suc n - 1 ≡ n = omega arith in
    last_below k (map f items) (suc n) (omega arith) (omega arith)
    (λ e. true≢false (sym (eq-eqb _ _ (sym (get_or-map f items n d 0 h) ∙ (ap (λ (m : ℕ). get_or (map f items) m 0) (sym is) ∙ e))) ∙ differs))
    ∙ ap (λ (m : ℕ). last_place k (take m (map f items))) is

pub and_no : (b : Bool) → (b && false) ≡ false
and_no true = refl
and_no false = refl

pub or_parts : (a b : Bool) → (a || b) ≡ false → (a ≡ false) × (b ≡ false)
or_parts true b e = absurd (true≢false e)
or_parts false b e = (refl, e)

-- of the items with the key
abbrev pub keyed : (Held → ℕ) → ℕ → (Held → Bool) → Held → Bool
keyed f k c i = (f i == k) && c i

-- none is behind the last place of the key among the first n, where none is behind these
none_after : (f : Held → ℕ) (k : ℕ) (c : Held → Bool) (items : List Held) (d : Held) (n : ℕ) → n ≤ length items → list_any (keyed f k c) (drop n items) ≡ false
    → list_any (keyed f k c) (drop (last_place k (take n (map f items))) items) ≡ false
none_after f k c items d zero h none = none
none_after f k c items d (suc n) h none =
    elim (cases_Bool (f (get_or items n d) == k)) [
      | inl fits ↦ subst (λ (m : ℕ). list_any (keyed f k c) (drop m items) ≡ false) (sym (here f k items n d (omega arith) fits)) none
      | inr differs ↦
          (let other : keyed f k c (get_or items n d) ≡ false = ap (λ (b : Bool). b && c (get_or items n d)) differs in
          let next : n + 1 ≡ suc n = omega arith in
          let from : list_any (keyed f k c) (drop n items) ≡ false =
          ap (list_any (keyed f k c)) (drop_more items n d (omega arith))
          ∙ ((λ j. other j || list_any (keyed f k c) (drop (next j) items)) ∙ none) in
          subst (λ (m : ℕ). list_any (keyed f k c) (drop m items) ≡ false) (sym (below f k items n d (omega arith) differs)) (none_after f k c items d n (omega arith) from))
    ]

-- a walk for the items with a key that a test passes is at a place: none is from there on
pub record IsAt (f : Held → ℕ) (k : ℕ) (c : Held → Bool) (items : List Held) (at : ℕ) : Type 0 where
  pub within : at ≤ length items
  pub key : 0 < at → get_or (map f items) (at - 1) 0 ≡ k
  pub none : list_any (keyed f k c) (drop at items) ≡ false

at_last : (f : Held → ℕ) (k : ℕ) (c : Held → Bool) (items : List Held) (d : Held) (n : ℕ) → n ≤ length items → list_any (keyed f k c) (drop n items) ≡ false
    → (at : ℕ) → at ≡ last_place k (take n (map f items)) → IsAt f k c items at
at_last f k c items d n h none at is =
    let long : length (map f items) ≡ length items = length-map items f in
    let low : last_place k (take n (map f items)) ≤ n = last_within (λ j. j == k) (map f items) n (omega arith) in
    record {
      within = omega arith;
      key = subst (λ (m : ℕ). 0 < m → get_or (map f items) (m - 1) 0 ≡ k) (sym is) (λ some. eqb-true _ _ (last_passes (λ j. j == k) (map f items) n (omega arith) some));
      none = subst (λ (m : ℕ). list_any (keyed f k c) (drop m items) ≡ false) (sym is) (none_after f k c items d n h none);
    }

pub start : (f : Held → ℕ) (k : ℕ) (c : Held → Bool) (items : List Held) (at : ℕ) → at ≡ last_place k (map f items) → IsAt f k c items at
start f k c [] at is = record { within = omega arith; key = λ some. absurd (omega arith); none = ap (λ (m : ℕ). list_any (keyed f k c) (drop m [])) is }
start f k c (i ∷ items) at is =
    let long : length (map f (i ∷ items)) ≡ length (i ∷ items) = length-map (i ∷ items) f in
    at_last f k c (i ∷ items) i (length (i ∷ items)) (omega arith) (ap (list_any (keyed f k c)) (drop_all (length (i ∷ items)) (i ∷ items) (omega arith))) at
    (is ∙ ap (last_place k) (sym (take_all (length (i ∷ items)) (map f (i ∷ items)) (omega arith))))

pub next : (f : Held → ℕ) (k : ℕ) (c : Held → Bool) (items : List Held) (at : ℕ) (d : Held) → IsAt f k c items at → 0 < at → c (get_or items (at - 1) d) ≡ false
    → (older : ℕ) → older ≡ last_place (get_or (map f items) (at - 1) 0) (take (at - 1) (map f items)) → IsAt f k c items older
next f k c items at d w some misses older is =
    let i : Held = get_or items (at - 1) d in
    let on : at - 1 + 1 ≡ at = omega arith in
    let none : list_any (keyed f k c) (drop (at - 1) items) ≡ false =
    ap (list_any (keyed f k c)) (drop_more items (at - 1) d (omega (arith, w.within)))
    ∙ ((λ j. ((f i == k) && misses j) || list_any (keyed f k c) (drop (on j) items))
    ∙ ((λ j. and_no (f i == k) j || list_any (keyed f k c) (drop at items)) ∙ w.none)) in
    at_last f k c items d (at - 1) (omega (arith, w.within)) none older (is ∙ (λ j. last_place (w.key some j) (take (at - 1) (map f items))))

keyed_here : (f : Held → ℕ) (c : Held → Bool) (i : Held) (k : ℕ) → f i ≡ k → c i ≡ true → keyed f k c i ≡ true
keyed_here f c i k e is = (λ j. eq-eqb _ _ e j && is j)

pub smaller : (items : List Held) (f : Held → ℕ) (at older : ℕ) → 0 < at → at ≤ length items → older ≡ last_place (get_or (map f items) (at - 1) 0) (take (at - 1) (map f items)) → older < at
smaller items f at older some h is =
    let long : length (map f items) ≡ length items = length-map items f in
    let low : last_place (get_or (map f items) (at - 1) 0) (take (at - 1) (map f items)) ≤ at - 1 = last_within (λ j. j == get_or (map f items) (at - 1) 0) (map f items) (at - 1) (omega arith) in
    omega arith

-- what has one of some keys, or one more, where each of these has none that the test passes
pub none_among : (f : Held → ℕ) (c : Held → Bool) (count : ℕ) (key : ℕ → ℕ) (large : ℕ) (items : List Held)
    → ((n : ℕ) → n < count → list_any (keyed f (key n) c) items ≡ false)
    → list_any (keyed f large c) items ≡ false
    → ((i : Held) → c i ≡ true → ((n : ℕ) × (n < count) × (f i ≡ key n)) ⊎ (f i ≡ large))
    → list_any c items ≡ false
none_among f c count key large [] each last are = refl
none_among f c count key large (i ∷ items) each last are =
    let rest : list_any c items ≡ false = none_among f c count key large items (λ n h. (or_parts _ _ (each n h)).1) (or_parts _ _ last).1 are in
    elim (cases_Bool (c i)) [
      | inr misses ↦ ap (λ (b : Bool). b || list_any c items) misses ∙ rest
      | inl is ↦ absurd (elim (are i is) [
        | inl n ↦ true≢false (sym (keyed_here f c i (key n.0) n.2 is) ∙ (or_parts _ _ (each n.0 n.1)).0)
        | inr e ↦ true≢false (sym (keyed_here f c i large e is) ∙ (or_parts _ _ last).0)
      ])
    ]

-- the first of two answers that is there
abbrev pub first_or : Option ℕ → Option ℕ → Option ℕ
first_or None b = b
first_or (Some n) b = Some n

place_snoc : (t : Held → Bool) (from : ℕ) (items : List Held) (i : Held) → place_in t from (items ++ i ∷ []) ≡ first_or (place_in t from items) (if t i then Some (from + length items) else None)
place_snoc t from [] i = ap (λ (n : ℕ). if t i then Some n else None) (omega arith)
place_snoc t from (j ∷ items) i =
    let go : (b : Bool) → cond b (Some from) (place_in t (from + 1) (items ++ i ∷ [])) ≡ first_or (cond b (Some from) (place_in t (from + 1) items)) (if t i then Some (from + length (j ∷ items)) else None) =
    λ b. elim b as (λ b. cond b (Some from) (place_in t (from + 1) (items ++ i ∷ [])) ≡ first_or (cond b (Some from) (place_in t (from + 1) items)) (if t i then Some (from + length (j ∷ items)) else None)) [
      | true ↦ refl
      | false ↦ place_snoc t (from + 1) items i ∙ ap (λ (n : ℕ). first_or (place_in t (from + 1) items) (if t i then Some n else None)) (omega arith)
    ] in
    go (t j)

first_of_three : (a : Option ℕ) (b : Bool) (n : ℕ) (c : Option ℕ) → first_or (first_or a (if b then Some n else None)) c ≡ first_or a (if b then Some n else c)
first_of_three (Some m) b n c = refl
first_of_three None true n c = refl
first_of_three None false n c = refl

-- one more is looked at
pub place_more : (t : Held → Bool) (items : List Held) (n : ℕ) (d : Held) (after : Option ℕ) → n < length items
    → first_or (place_in t 0 (take (suc n) items)) after ≡ first_or (place_in t 0 (take n items)) (if t (get_or items n d) then Some n else after)
place_more t items n d after h =
    ap (λ (l : List Held). first_or (place_in t 0 l) after) (take-suc items n d h)
    ∙ (ap (λ (o : Option ℕ). first_or o after) (place_snoc t 0 (take n items) (get_or items n d))
    ∙ (ap (λ (m : ℕ). first_or (first_or (place_in t 0 (take n items)) (if t (get_or items n d) then Some m else None)) after) (omega (arith, length-take-le n items (omega arith)))
    ∙ first_of_three (place_in t 0 (take n items)) (t (get_or items n d)) n after))

or_none_first : (a : Option ℕ) → first_or a None ≡ a
or_none_first None = refl
or_none_first (Some n) = refl

-- what a test passes has the key, so none is after its last place
place_from : (f : Held → ℕ) (k : ℕ) (t : Held → Bool) → ((i : Held) → t i ≡ true → f i ≡ k) → (items : List Held) (d : Held) (n : ℕ) → n ≤ length items
    → place_in t 0 (take n items) ≡ place_in t 0 (take (last_place k (take n (map f items))) items)
place_from f k t goes items d zero h = refl
place_from f k t goes items d (suc n) h =
    elim (cases_Bool (f (get_or items n d) == k)) [
      | inl fits ↦ ap (λ (m : ℕ). place_in t 0 (take m items)) (sym (here f k items n d (omega arith) fits))
      | inr differs ↦
          (let other : t (get_or items n d) ≡ false = false_from_ne_true _ (λ is. true≢false (sym (eq-eqb _ _ (goes _ is)) ∙ differs)) in
          sym (or_none_first (place_in t 0 (take (suc n) items)))
          ∙ (place_more t items n d None (omega arith)
          ∙ (ap (λ (b : Bool). first_or (place_in t 0 (take n items)) (if b then Some n else None)) other
          ∙ (or_none_first (place_in t 0 (take n items))
          ∙ (place_from f k t goes items d n (omega arith)
          ∙ ap (λ (m : ℕ). place_in t 0 (take m items)) (sym (below f k items n d (omega arith) differs)))))))
    ]

-- up to here and up to there are the same first ones, if the last place of the key is the same
place_same : (f : Held → ℕ) (k : ℕ) (t : Held → Bool) → ((i : Held) → t i ≡ true → f i ≡ k) → (items : List Held) (n m : ℕ) → n ≤ length items → m ≤ length items
    → last_place k (take n (map f items)) ≡ last_place k (take m (map f items)) → place_in t 0 (take n items) ≡ place_in t 0 (take m items)
place_same f k t goes [] n m h low same = (λ j. place_in t 0 (take_all n [] (omega arith) j)) ∙ sym (λ j. place_in t 0 (take_all m [] (omega arith) j))
place_same f k t goes (i ∷ items) n m h low same =
    place_from f k t goes (i ∷ items) i n h
    ∙ (ap (λ (last : ℕ). place_in t 0 (take last (i ∷ items))) same
    ∙ sym (place_from f k t goes (i ∷ items) i m low))

no_some : (n : ℕ) → Some n ≡ None → ⊥
no_some n e = cc

-- where a test misses and one place is not it, the rest tells
cond_none : (b : Bool) (n : ℕ) (o : Option ℕ) → cond b (Some n) o ≡ None → (b ≡ false) × (o ≡ None)
cond_none true n o e = absurd (no_some n e)
cond_none false n o e = (refl, e)

-- the first is here, if none is before
place_at : (t : Held → Bool) (from : ℕ) (items : List Held) (n : ℕ) (d : Held) → n < length items → place_in t from (take n items) ≡ None
    → t (get_or items n d) ≡ true → place_in t from items ≡ Some (from + n)
place_at t from [] n d h none is = absurd (omega arith)
place_at t from (i ∷ items) zero d h none is = ap (λ (b : Bool). cond b (Some from) (place_in t (from + 1) items)) is ∙ ap (λ (n : ℕ). Some n) (omega arith)
place_at t from (i ∷ items) (suc n) d h none is =
    let parts = cond_none (t i) from _ none in
    ap (λ (b : Bool). cond b (Some from) (place_in t (from + 1) items)) parts.0
    ∙ (place_at t (from + 1) items n d (omega arith) parts.1 is
    ∙ ap (λ (n : ℕ). Some n) (omega arith))

-- of fewer items none is either
place_fewer : (t : Held → Bool) (from : ℕ) (items : List Held) (n m : ℕ) → n ≤ m → place_in t from (take m items) ≡ None → place_in t from (take n items) ≡ None
place_fewer t from items zero m h none = refl
place_fewer t from [] (suc n) m h none = refl
place_fewer t from (i ∷ items) (suc n) zero h none = absurd (omega arith)
place_fewer t from (i ∷ items) (suc n) (suc m) h none =
    let parts = cond_none (t i) from _ none in
    ap (λ (b : Bool). cond b (Some from) (place_in t (from + 1) (take n items))) parts.0 ∙ place_fewer t (from + 1) items n m (omega arith) parts.1

-- a walk for the first item that a test passes, by turns from the front and along a chain of the key's bucket: none
-- is before `front`, and from `at` on the first is `after`
pub record Looks (buckets : ℕ) (f : Held → ℕ) (k : ℕ) (t : Held → Bool) (items : List Held) (at front : ℕ) (after : Option ℕ) : Type 0 where
  pub within : at ≤ length items
  pub bucket : 0 < at → bucket_of buckets (get_or (map f items) (at - 1) 0) ≡ bucket_of buckets k
  pub is : place_in t 0 items ≡ first_or (place_in t 0 (take at items)) after
  pub none : place_in t 0 (take front items) ≡ None

pub looks_first : (buckets : ℕ) (f : Held → ℕ) (k : ℕ) (t : Held → Bool) → ((i : Held) → t i ≡ true → f i ≡ k) → (items : List Held) (at : ℕ)
    → IsFirst buckets (map f items) k at → Looks buckets f k t items at 0 None
looks_first buckets f k t goes items at first =
    let long : length (map f items) ≡ length items = length-map items f in
    record {
      within = omega (arith, first.within);
      bucket = first.bucket;
      is =
          (λ j. place_in t 0 (sym (take_all (length items) items (omega arith)) j))
          ∙ (place_same f k t goes items (length items) at (omega arith) (omega (arith, first.within))
          (ap (last_place k) (take_all (length items) (map f items) (omega arith)) ∙ sym first.same)
          ∙ sym (or_none_first (place_in t 0 (take at items))));
      none = refl;
    }

pub looks_on : (buckets : ℕ) (f : Held → ℕ) (k : ℕ) (t : Held → Bool) → ((i : Held) → t i ≡ true → f i ≡ k) → (items : List Held) (at front : ℕ) (d e : Held) (after : Option ℕ)
    → Looks buckets f k t items at front after → front < at → t (get_or items front e) ≡ false
    → (older : ℕ) → IsNext buckets (map f items) at older
    → Looks buckets f k t items older (front + 1) (if t (get_or items (at - 1) d) then Some (at - 1) else after)
looks_on buckets f k t goes items zero front d e after w some misses older next = absurd (omega arith)
looks_on buckets f k t goes items (suc n) front d e after w some misses older next =
    let long : length (map f items) ≡ length items = length-map items f in
    let back : suc n - 1 ≡ n = omega arith in
    let h : n < length items = omega (arith, w.within) in
    let last : last_place k (take n (map f items)) ≡ last_place k (take older (map f items)) =
    ap (λ (m : ℕ). last_place k (take m (map f items))) (sym back) ∙ next.same k (sym (w.bucket (omega arith))) in
    record {
      within = omega (arith, next.within);
      bucket = λ more. next.bucket more ∙ w.bucket (omega arith);
      is =
          w.is
          ∙ (place_more t items n d after h
          ∙ (ap (λ (m : ℕ). first_or (place_in t 0 (take n items)) (if t (get_or items m d) then Some m else after)) (sym back)
          ∙ ap (λ (o : Option ℕ). first_or o (if t (get_or items (suc n - 1) d) then Some (suc n - 1) else after)) (place_same f k t goes items n older (omega arith) (omega (arith, next.within)) last)));
      none =
          ap (λ (m : ℕ). place_in t 0 (take m items)) (add-one front)
          ∙ (sym (or_none_first (place_in t 0 (take (suc front) items)))
          ∙ (place_more t items front e None (omega arith)
          ∙ (ap (λ (b : Bool). first_or (place_in t 0 (take front items)) (if b then Some front else None)) misses
          ∙ (or_none_first (place_in t 0 (take front items)) ∙ w.none))));
    }

-- what is found at the front is the first
pub looks_here : (buckets : ℕ) (f : Held → ℕ) (k : ℕ) (t : Held → Bool) (items : List Held) (at front : ℕ) (d : Held) (after : Option ℕ)
    → Looks buckets f k t items at front after → front < at → t (get_or items front d) ≡ true → place_in t 0 items ≡ Some front
looks_here buckets f k t items at front d after w some is = place_at t 0 items front d (omega (arith, w.within)) w.none is ∙ ap (λ (n : ℕ). Some n) (omega arith)

-- where both ways meet, what was found along the chain is the first
pub looks_done : (buckets : ℕ) (f : Held → ℕ) (k : ℕ) (t : Held → Bool) (items : List Held) (at front : ℕ) (after : Option ℕ)
    → Looks buckets f k t items at front after → at ≤ front → place_in t 0 items ≡ after
looks_done buckets f k t items at front after w met = w.is ∙ ap (λ (o : Option ℕ). first_or o after) (place_fewer t 0 items at front met w.none)

pub below_or_is : (n m : ℕ) → n < m + 1 → (n < m) ⊎ (n ≡ m)
below_or_is n m h = elim (cases_Bool (n == m)) [
  | inl is ↦ inr (eqb-true _ _ is)
  | inr differs ↦ (let other = eqb-false _ _ differs in inl (omega arith))
]
