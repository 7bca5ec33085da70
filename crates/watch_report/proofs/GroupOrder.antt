-- The order of groups: those with more findings first, else as they began.
use Rattle.std.proofs.Common.{◌≡◌, ℕ, ◌+◌, ◌<◌, suc, Bool, true, false, List, [], ◌∷◌, cond, get_or, length, refl, sym, ◌∙◌, ap, subst, inl, inr, not, arith}
use Rattle.std.specs.Prelude.{◌&&◌, nat_lt}
use Rattle.std.specs.Cmp.{IsStrictWeakOrder}
use Rattle.std.specs.List.{filter}
use Rattle.std.specs.List.Sorted.{IsSortedBy, IsStableBy, ties}
use Rattle.std.specs.Ordering.{is_lt, nat_cmp}
use Rattle.std.proofs.lemmas.Bool.{and_parts, both_ways, cases_Bool, not-true}
use Rattle.std.proofs.lemmas.Bool.Decides.{nat_tests}
use Rattle.std.proofs.lemmas.List.Sorted.{IsStrictWeakOrder-by_number, IsStrictWeakOrder-flip, sorted_far}
use Rattle.watch_report.specs.declared.note_group.NoteGroup.{NoteGroup}
use Rattle.watch_report.specs.NoteGroups.{by_findings, placed_group}

-- ---- a stable order is unique

module _ {X : Type 0} (lt : X → X → Bool) (o : IsStrictWeakOrder lt) where
  -- none of these comes before x
  abbrev Behind : X → List X → Type 0
  Behind x [] = Unit {0}
  Behind x (y ∷ ys) = (lt y x ≡ false) × Behind x ys

  -- none comes before one in front of it
  abbrev pub Ordered : List X → Type 0
  Ordered [] = Unit {0}
  Ordered (x ∷ xs) = Behind x xs × Ordered xs

  pub itself : (x : X) → lt x x ≡ false
  itself x = elim (cases_Bool (lt x x)) [ inl is ↦ o.one_way x x is | inr is ↦ is ]

  alike : (x : X) → ties lt x x ≡ true
  alike x = ap (λ b. not b && not b) (itself x)

  behind_from : (x : X) (xs : List X) → ((j : ℕ) (d : X) → j < length xs → lt (get_or xs j d) x ≡ false) → Behind x xs
  behind_from x [] h = tt
  behind_from x (y ∷ ys) h = (h 0 y (omega arith), behind_from x ys (λ j d less. h (suc j) d (omega (arith, less))))

  pub ordered_from_sorted : (xs : List X) → IsSortedBy lt xs → Ordered xs
  ordered_from_sorted [] up = tt
  ordered_from_sorted (x ∷ xs) up = (
    behind_from x xs (λ j d less. sorted_far lt o (x ∷ xs) up 0 (suc j) d (omega arith) (omega (arith, less))),
    ordered_from_sorted xs (λ k d low less.
        let next : suc (k + 1) ≡ suc k + 1 = omega arith in
        ap (λ n. lt (get_or (x ∷ xs) n d) (get_or xs k d)) next ∙ up (suc k) d (omega arith) (omega (arith, less))),
  )

  picked_by : (b : Bool) (x y : X) (us : List X) (z : X) (rest : List X) → lt y x ≡ false → (us ≡ z ∷ rest → lt z x ≡ false) → cond b (y ∷ us) us ≡ z ∷ rest → lt z x ≡ false
  picked_by true x y us z rest behind more is = let first : y ≡ z = cc in ap (λ v. lt v x) (sym first) ∙ behind
  picked_by false x y us z rest behind more is = more is

  -- one that a test picks from these does not come before x
  picked : (p : X → Bool) (x : X) (ys : List X) (z : X) (rest : List X) → Behind x ys → filter p ys ≡ z ∷ rest → lt z x ≡ false
  picked p x [] z rest behind is = absurd cc
  picked p x (y ∷ ys) z rest behind is = picked_by (p y) x y (filter p ys) z rest behind.0 (picked p x ys z rest behind.1) is

  front : (x : X) (xs : List X) → filter (ties lt x) (x ∷ xs) ≡ x ∷ filter (ties lt x) xs
  front x xs = ap (λ b. cond b (x ∷ filter (ties lt x) xs) (filter (ties lt x) xs)) (alike x)

  -- the first of one does not come behind the first of the other
  not_before : (y z : X) (ys zs : List X) → Ordered (y ∷ ys) → filter (ties lt z) (y ∷ ys) ≡ filter (ties lt z) (z ∷ zs) → lt z y ≡ false
  not_before y z ys zs order same =
      picked (ties lt z) y (y ∷ ys) z (filter (ties lt z) zs) (itself y, order.0) (same ∙ front z zs)

  dropped : (b : Bool) (y : X) (us vs : List X) → cond b (y ∷ us) us ≡ cond b (y ∷ vs) vs → us ≡ vs
  dropped true y us vs is = cc
  dropped false y us vs is = is

  pub one_order : (ys zs : List X) → Ordered ys → Ordered zs → ((x : X) → filter (ties lt x) ys ≡ filter (ties lt x) zs) → ys ≡ zs
  one_order [] [] one two same = refl
  one_order [] (z ∷ zs) one two same = absurd (let none : [] ≡ z ∷ filter (ties lt z) zs = same z ∙ front z zs in cc)
  one_order (y ∷ ys) [] one two same = absurd (let none : y ∷ filter (ties lt y) ys ≡ [] = sym (front y ys) ∙ same y in cc)
  one_order (y ∷ ys) (z ∷ zs) one two same =
      let right : lt z y ≡ false = not_before y z ys zs one (same z) in
      let left : lt y z ≡ false = not_before z y zs ys two (sym (same y)) in
      let tie : ties lt y z ≡ true = λ j. not (left j) && not (right j) in
      let heads : y ∷ filter (ties lt y) ys ≡ z ∷ filter (ties lt y) zs =
      sym (front y ys) ∙ (same y ∙ ap (λ b. cond b (z ∷ filter (ties lt y) zs) (filter (ties lt y) zs)) tie) in
      let first : y ≡ z = cc in
      let rest : ys ≡ zs = one_order ys zs one.1 two.1 (λ x.
      dropped (ties lt x y) y (filter (ties lt x) ys) (filter (ties lt x) zs)
      (same x ∙ ap (λ v. cond (ties lt x v) (v ∷ filter (ties lt x) zs) (filter (ties lt x) zs)) (sym first))) in
      λ j. first j ∷ rest j

-- ---- groups

abbrev pub comes_first : NoteGroup → NoteGroup → Bool
comes_first a b = nat_lt b.findings a.findings

pub comes_strictly : IsStrictWeakOrder comes_first
comes_strictly = IsStrictWeakOrder-flip _ (IsStrictWeakOrder-by_number (λ (g : NoteGroup). g.findings))

chained : (x g : NoteGroup) (groups : List NoteGroup) → comes_first g x ≡ false → Behind comes_first comes_strictly g groups → Behind comes_first comes_strictly x groups
chained x g [] late behind = tt
chained x g (next ∷ groups) late behind = (comes_strictly.chain next g x behind.0 late, chained x g groups late behind.1)

behind_by : (b : Bool) (x g next : NoteGroup) (groups : List NoteGroup) → comes_first g x ≡ false → Behind comes_first comes_strictly x (next ∷ groups)
    → Behind comes_first comes_strictly x (placed_group g groups) → Behind comes_first comes_strictly x (cond b (next ∷ placed_group g groups) (g ∷ next ∷ groups))
behind_by true x g next groups late behind more = (behind.0, more)
behind_by false x g next groups late behind more = (late, behind)

behind_placed : (x g : NoteGroup) (groups : List NoteGroup) → comes_first g x ≡ false → Behind comes_first comes_strictly x groups → Behind comes_first comes_strictly x (placed_group g groups)
behind_placed x g [] late behind = (late, tt)
behind_placed x g (next ∷ groups) late behind = behind_by (comes_first next g) x g next groups late behind (behind_placed x g groups late behind.1)

placed_by : (b : Bool) (g next : NoteGroup) (groups : List NoteGroup) → comes_first next g ≡ b → Ordered comes_first comes_strictly (next ∷ groups)
    → Ordered comes_first comes_strictly (placed_group g groups) → Ordered comes_first comes_strictly (cond b (next ∷ placed_group g groups) (g ∷ next ∷ groups))
placed_by true g next groups e order more = (behind_placed next g groups (comes_strictly.one_way next g e) order.0, more)
placed_by false g next groups e order more = ((e, chained g next groups e order.0), order)

placed_ordered : (g : NoteGroup) (groups : List NoteGroup) → Ordered comes_first comes_strictly groups → Ordered comes_first comes_strictly (placed_group g groups)
placed_ordered g [] order = (tt, tt)
placed_ordered g (next ∷ groups) order = placed_by (comes_first next g) g next groups refl order (placed_ordered g groups order.1)

all_ordered : (groups : List NoteGroup) → Ordered comes_first comes_strictly (by_findings groups)
all_ordered [] = tt
all_ordered (g ∷ groups) = placed_ordered g (by_findings groups) (all_ordered groups)

module _ (x : NoteGroup) where
  abbrev like : NoteGroup → Bool
  like g = ties comes_first x g

  -- of two that are alike none comes before the other
  apart : (next g : NoteGroup) → comes_first next g ≡ true → like next ≡ true → like g ≡ true → ⊥
  apart next g e left right =
      let of_next = and_parts _ _ left in
      let of_g = and_parts _ _ right in
      both_ways (comes_first next g) (comes_strictly.chain next x g (not-true _ of_next.1) (not-true _ of_g.0)) e

  swapped : (b c : Bool) (next g : NoteGroup) (rest : List NoteGroup) → (b ≡ true → c ≡ true → ⊥)
      → cond b (next ∷ cond c (g ∷ rest) rest) (cond c (g ∷ rest) rest) ≡ cond c (g ∷ cond b (next ∷ rest) rest) (cond b (next ∷ rest) rest)
  swapped true true next g rest h = absurd (h refl refl)
  swapped true false next g rest h = refl
  swapped false true next g rest h = refl
  swapped false false next g rest h = refl

  alike_by : (b : Bool) (g next : NoteGroup) (groups : List NoteGroup) → comes_first next g ≡ b → filter like (placed_group g groups) ≡ filter like (g ∷ groups)
      → filter like (cond b (next ∷ placed_group g groups) (g ∷ next ∷ groups)) ≡ filter like (g ∷ next ∷ groups)
  alike_by true g next groups e rest =
      ap (λ (rest : List NoteGroup). cond (like next) (next ∷ rest) rest) rest
      ∙ swapped (like next) (like g) next g (filter like groups) (apart next g e)
  alike_by false g next groups e rest = refl

  placed_alike : (g : NoteGroup) (groups : List NoteGroup) → filter like (placed_group g groups) ≡ filter like (g ∷ groups)
  placed_alike g [] = refl
  placed_alike g (next ∷ groups) = alike_by (comes_first next g) g next groups refl (placed_alike g groups)

  all_alike : (groups : List NoteGroup) → filter like (by_findings groups) ≡ filter like groups
  all_alike [] = refl
  all_alike (g ∷ groups) =
      placed_alike g (by_findings groups) ∙ ap (λ (rest : List NoteGroup). cond (like g) (g ∷ rest) rest) (all_alike groups)

-- ---- what a stable sort gives

is_lt_is : (a b : ℕ) → is_lt (nat_cmp a b) ≡ nat_lt a b
is_lt_is a b = grind (arith, nat_tests)

abbrev pub by_cmp : NoteGroup → NoteGroup → Bool
by_cmp a b = is_lt (nat_cmp b.findings a.findings)

same_test : by_cmp ≡ comes_first
same_test = λ j a b. is_lt_is b.findings a.findings j

pub sorted_groups : (groups sorted : List NoteGroup) → IsSortedBy by_cmp sorted → IsStableBy by_cmp groups sorted → sorted ≡ by_findings groups
sorted_groups groups sorted up stable =
    one_order comes_first comes_strictly sorted (by_findings groups)
    (ordered_from_sorted comes_first comes_strictly sorted (subst (λ (lt : NoteGroup → NoteGroup → Bool). IsSortedBy lt sorted) same_test up))
    (all_ordered groups)
    (λ x. subst (λ (lt : NoteGroup → NoteGroup → Bool). IsStableBy lt groups sorted) same_test stable x ∙ sym (all_alike x groups))
