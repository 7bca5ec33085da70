-- Each finding is counted once: in one group, and with one reach.
use Rattle.std.proofs.Common.{◌≡◌, ◌∙◌, ℕ, ◌+◌, Bool, true, false, List, [], ◌∷◌, ◌++◌, ap, cond, length, map, sym, inl, inr, refl, arith}
use Rattle.std.specs.Prelude.{nat_lt, reverse}
use Rattle.std.specs.List.{sum_by}
use Rattle.std.specs.Str.{bytes_eq}
use Rattle.std.proofs.lemmas.Bool.{cases_Bool}
use Rattle.std.proofs.lemmas.List.{length-reverse}
use Rattle.std.proofs.lemmas.List.Sums.{sum_by-append}
use Rattle.std.proofs.lemmas.Slice.Eq.{bytes_eq-Decides}
use Rattle.watch_causes.specs.declared.reach.Reach.{Reach}
use Rattle.watch_causes.specs.declared.reach.Reach.TheVariants.{Used, Reachable, NotReached}
use Rattle.watch_report.specs.declared.found.Found.{Found}
use Rattle.watch_report.specs.declared.note_group.NoteGroup.{NoteGroup}
use Rattle.watch_causes.specs.Tallies.{more_if}
use Rattle.watch_report.specs.NoteGroups.{by_findings, counts_of, first_records, group_by, groups_so_far, is_empty, is_not_reached, is_reachable, is_used, note_of, of_note, placed_group}
use Rattle.watch_report.specs.NoteLaws as laws

sum_front : {X : Type 0} (f : X → ℕ) (x : X) (xs : List X) → sum_by f (x ∷ xs) ≡ f x + sum_by f xs
sum_front f x xs = let front : sum_by f ((x ∷ []) ++ xs) ≡ sum_by f (x ∷ []) + sum_by f xs = sum_by-append f (x ∷ []) xs in omega (arith, front)

-- ---- reaches

one_reach : (r : Reach) (u v w n : ℕ) → u + v + w ≡ n → more_if (is_used r) u + more_if (is_reachable r) v + more_if (is_not_reached r) w ≡ n + 1
one_reach Used u v w n is = omega (arith, is)
one_reach Reachable u v w n is = omega (arith, is)
one_reach NotReached u v w n is = omega (arith, is)

pub reaches : laws.each_has_a_reach
reaches [] = refl
reaches (f ∷ founds) = one_reach f.reach _ _ _ _ (reaches founds)

-- ---- groups

abbrev findings : NoteGroup → ℕ
findings g = g.findings

all_counted : (founds : List Found) → (counts_of founds).findings ≡ length founds
all_counted [] = refl
all_counted (f ∷ founds) = let rest : (counts_of founds).findings ≡ length founds = all_counted founds in omega (arith, rest)

sum_by_test : (b : Bool) (g next : NoteGroup) (groups : List NoteGroup) → sum_by findings (placed_group g groups) ≡ g.findings + sum_by findings groups
    → sum_by findings (cond b (next ∷ placed_group g groups) (g ∷ next ∷ groups)) ≡ g.findings + sum_by findings (next ∷ groups)
sum_by_test true g next groups rest =
    let front = sum_front findings next (placed_group g groups) in
    let back = sum_front findings next groups in
    omega (arith, front, rest, back)
sum_by_test false g next groups rest = sum_front findings g (next ∷ groups)

placed_sum : (g : NoteGroup) (groups : List NoteGroup) → sum_by findings (placed_group g groups) ≡ g.findings + sum_by findings groups
placed_sum g [] = sum_front findings g []
placed_sum g (next ∷ groups) = sum_by_test (nat_lt g.findings next.findings) g next groups (placed_sum g groups)

ordered_sum : (groups : List NoteGroup) → sum_by findings (by_findings groups) ≡ sum_by findings groups
ordered_sum [] = refl
ordered_sum (g ∷ groups) =
    let placed = placed_sum g (by_findings groups) in
    let rest = ordered_sum groups in
    let front = sum_front findings g groups in
    omega (arith, placed, rest, front)

module _ (notes : ℕ → List ℕ) where
  -- how many of these records have the note
  abbrev with_note : List ℕ → List ℕ → ℕ
  with_note by ns = sum_by (λ n. cond (bytes_eq (notes n) by) 1 0) ns

  -- how many findings have the notes of these records
  abbrev found_by : List ℕ → List Found → ℕ
  found_by ns founds = sum_by (λ n. length (of_note notes (notes n) founds)) ns

  -- the notes of findings so far are those of the records, once each
  once_by : (b : Bool) (own : List Found) (by : List ℕ) (ns : List ℕ) (n c : ℕ) → c ≡ cond (bytes_eq (notes n) by) 1 0
      → with_note by (cond b (ns ++ n ∷ []) ns) ≡ cond b (with_note by ns + c) (with_note by ns)
  once_by true own by ns n c is =
      let more = sum_by-append (λ n. cond (bytes_eq (notes n) by) 1 0) ns (n ∷ []) in
      omega (arith, more, is)
  once_by false own by ns n c is = refl

  with_it : (own : List Found) (m : ℕ) → m ≡ cond (is_empty own) 0 1 → cond (is_empty own) (m + 1) m ≡ 1
  with_it [] m is = omega (arith, is)
  with_it (f ∷ own) m is = is

  without : (b : Bool) (m : ℕ) → cond b (m + 0) m ≡ m
  without true m = omega arith
  without false m = refl

  once : (founds : List Found) (by : List ℕ) → with_note by (first_records notes founds) ≡ cond (is_empty (of_note notes by founds)) 0 1
  once [] by = refl
  once (g ∷ before) by =
      elim (cases_Bool (bytes_eq (note_of notes g) by)) [
        | inl is ↦
            let same : note_of notes g ≡ by = (bytes_eq-Decides (note_of notes g) by).0 is in
            let own : List Found = of_note notes (note_of notes g) before in
            let it : with_note by (first_records notes before) ≡ cond (is_empty own) 0 1 =
            once before by ∙ ap (λ (n : List ℕ). cond (is_empty (of_note notes n before)) 0 1) (sym same) in
            once_by (is_empty own) own by (first_records notes before) g.begun.warning.stale_since 1 (sym (ap (λ (b : Bool). cond b 1 0) is))
            ∙ (with_it own (with_note by (first_records notes before)) it
            ∙ sym (ap (λ (b : Bool). cond (is_empty (cond b (g ∷ of_note notes by before) (of_note notes by before))) 0 1) is))
        | inr other ↦
            let own : List Found = of_note notes (note_of notes g) before in
            once_by (is_empty own) own by (first_records notes before) g.begun.warning.stale_since 0 (sym (ap (λ (b : Bool). cond b 1 0) other))
            ∙ (without (is_empty own) (with_note by (first_records notes before))
            ∙ (once before by
            ∙ sym (ap (λ (b : Bool). cond (is_empty (cond b (g ∷ of_note notes by before) (of_note notes by before))) 0 1) other)))
      ]

  either_way : (a b : List ℕ) → bytes_eq a b ≡ bytes_eq b a
  either_way a b =
      elim (cases_Bool (bytes_eq a b)) [
        | inl is ↦ is ∙ sym ((bytes_eq-Decides b a).1 (sym ((bytes_eq-Decides a b).0 is)))
        | inr other ↦
            elim (cases_Bool (bytes_eq b a)) [
              | inl is ↦ (bytes_eq-Decides a b).1 (sym ((bytes_eq-Decides b a).0 is)) ∙ sym is
              | inr also ↦ other ∙ sym also
            ]
      ]

  longer : (b : Bool) (f : Found) (own : List Found) → length (cond b (f ∷ own) own) ≡ length own + cond b 1 0
  longer true f own = omega arith
  longer false f own = omega arith

  -- one more finding is counted with each record of its note
  one_more : (ns : List ℕ) (f : Found) (founds : List Found) → found_by ns (f ∷ founds) ≡ found_by ns founds + with_note (note_of notes f) ns
  one_more [] f founds = refl
  one_more (n ∷ ns) f founds =
      let all = sum_front (λ n. length (of_note notes (notes n) (f ∷ founds))) n ns in
      let before = sum_front (λ n. length (of_note notes (notes n) founds)) n ns in
      let marked = sum_front (λ n. cond (bytes_eq (notes n) (note_of notes f)) 1 0) n ns in
      let first : length (of_note notes (notes n) (f ∷ founds)) ≡ length (of_note notes (notes n) founds) + cond (bytes_eq (notes n) (note_of notes f)) 1 0 =
      longer (bytes_eq (note_of notes f) (notes n)) f (of_note notes (notes n) founds)
      ∙ ap (λ (b : Bool). length (of_note notes (notes n) founds) + cond b 1 0) (either_way (note_of notes f) (notes n)) in
      let rest = one_more ns f founds in
      omega (arith, all, before, marked, first, rest)

  none_new : (own : List Found) (ns : List ℕ) (n : ℕ) (founds : List Found) → of_note notes (notes n) founds ≡ own → found_by (cond (is_empty own) (ns ++ n ∷ []) ns) founds ≡ found_by ns founds
  none_new [] ns n founds is =
      let more = sum_by-append (λ n. length (of_note notes (notes n) founds)) ns (n ∷ []) in
      let none : length (of_note notes (notes n) founds) ≡ 0 = ap length is in
      omega (arith, more, none)
  none_new (f ∷ own) ns n founds is = refl

  all_found : (founds : List Found) → found_by (first_records notes founds) founds ≡ length founds
  all_found [] = refl
  all_found (f ∷ founds) =
      let ns : List ℕ = first_records notes (f ∷ founds) in
      let own : List Found = of_note notes (note_of notes f) founds in
      let more = one_more ns f founds in
      let mine : with_note (note_of notes f) ns ≡ 1 =
      once (f ∷ founds) (note_of notes f)
      ∙ ap (λ (b : Bool). cond (is_empty (cond b (f ∷ own) own)) 0 1) ((bytes_eq-Decides (note_of notes f) (note_of notes f)).1 refl) in
      let old = none_new own (first_records notes founds) f.begun.warning.stale_since founds refl in
      let rest = all_found founds in
      omega (arith, more, mine, old, rest)

  group_sum : (ns : List ℕ) (founds : List Found) → sum_by findings (map (group_by notes founds) ns) ≡ found_by ns founds
  group_sum [] founds = refl
  group_sum (n ∷ ns) founds =
      let front = sum_front findings (group_by notes founds n) (map (group_by notes founds) ns) in
      let all = sum_front (λ n. length (of_note notes (notes n) founds)) n ns in
      let first = all_counted (of_note notes (notes n) founds) in
      let rest = group_sum ns founds in
      omega (arith, front, all, first, rest)

pub groups : laws.notes_add_up
groups notes founds =
    ordered_sum (groups_so_far notes (reverse founds))
    ∙ (group_sum notes (first_records notes (reverse founds)) (reverse founds)
    ∙ (all_found notes (reverse founds) ∙ length-reverse founds))

pub ruleset sums = (reaches, groups)
