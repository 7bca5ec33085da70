-- What a drop of one slot, and a fill of one, make of the entries by age.
use Rattle.std.proofs.Common.{◌≡◌, sym, ◌∙◌, ap, refl, ℕ, zero, suc, ◌+◌, ◌-◌, ◌<◌, ◌≤◌, Bool, true, false, Option, Some, None, List, [], ◌∷◌, ◌++◌, map, length, filter, arith, set}
use Rattle.std.specs.Prelude.{slice_get, slice_index}
use Rattle.std.specs.List.{cons_option, filter_map, range_with_len}
use Rattle.std.proofs.lemmas.List.Elements.{All-from_recursion}
use Rattle.std.proofs.lemmas.Option.{slice_get_past}
use Rattle.pte.specs.Address.{IsPage}
use Rattle.tlb.specs.declared.store.Entry.{Entry}
use Rattle.tlb.specs.declared.banks.Banks.{Banks}
use Rattle.tlb.specs.Banks.{InUse, IsBanks, by_age, entries_of}
use Rattle.tlb.specs.Entries.{IsTlb, filled}
use Rattle.tlb.specs.Slots.{IsRanking, closed_up, slot_of}
use Rattle.tlb.proofs.ByAge.{each_given, filter_kept, length_of_all, nth_given, same_from, split, without_failing}
use Rattle.tlb.proofs.Keeping.{filled_when_full, filled_with_room}
use Rattle.tlb.proofs.Ranking.{age_at, closed_above, closed_below, moved_slot}

pub slice_get-set_same : {A : Type 0} (xs : List A) (k : ℕ) (x : A) → k < length xs → slice_get (set xs k x) k ≡ Some x
slice_get-set_same [] k x h = absurd (omega arith)
slice_get-set_same (y ∷ xs) zero x h = refl
slice_get-set_same (y ∷ xs) (suc k) x h = slice_get-set_same xs k x (omega arith)

pub slice_get-set_other : {A : Type 0} (xs : List A) (k j : ℕ) (x : A) → (k ≡ j → ⊥) → slice_get (set xs k x) j ≡ slice_get xs j
slice_get-set_other [] k j x apart = refl
slice_get-set_other (y ∷ xs) zero zero x apart = absurd (apart refl)
slice_get-set_other (y ∷ xs) zero (suc j) x apart = refl
slice_get-set_other (y ∷ xs) (suc k) zero x apart = refl
slice_get-set_other (y ∷ xs) (suc k) (suc j) x apart = slice_get-set_other xs k j x (λ e. apart (ap suc e))

pub got : {A : Type 0} (xs : List A) (k : ℕ) → k < length xs → (x : A) × (slice_get xs k ≡ Some x)
got [] k h = absurd (omega arith)
got (x ∷ xs) zero h = (x, refl)
got (x ∷ xs) (suc k) h = got xs k (omega arith)

module _ (held : List Entry) (ages : List ℕ) (ranks : IsRanking ages) where
  -- the entry of an age
  abbrev of_age : ℕ → Option Entry
  of_age age = slice_get held (slot_of ages age)

  module _ (dropped after : ℕ) (e : Entry) (within : dropped + suc after ≤ 16) (is : of_age dropped ≡ Some e) where
    abbrev of_age_now : ℕ → Option Entry
    of_age_now age = slice_get held (slot_of (map (closed_up dropped) ages) age)

    small : dropped < 16
    small = omega (arith, within)

    older : (k : ℕ) → 0 ≤ k → k < 0 + dropped → of_age_now k ≡ of_age (k + 0)
    older k from below =
        let same : k + 0 ≡ k = omega arith in
        rw same (ap (slice_get held) (ap (slot_of (map (closed_up dropped) ages)) (sym (closed_below dropped k (omega arith))) ∙ moved_slot ages dropped ranks small k (omega (arith, within))))

    younger : (k : ℕ) → dropped ≤ k → k < dropped + after → of_age_now k ≡ of_age (k + 1)
    younger k from below = ap (slice_get held) (ap (slot_of (map (closed_up dropped) ages)) (sym (closed_above dropped k from)) ∙ moved_slot ages dropped ranks small (k + 1) (omega (arith, within)))

    -- the entries with and without it
    pub with_dropped : by_age held ages (dropped + suc after) ≡ filter_map of_age (range_with_len 0 dropped) ++ e ∷ filter_map of_age (range_with_len (dropped + 1) after)
    with_dropped = split of_age dropped (suc after) ∙ ap (λ o. filter_map of_age (range_with_len 0 dropped) ++ cons_option o (filter_map of_age (range_with_len (dropped + 1) after))) is

    pub without_dropped : by_age held (map (closed_up dropped) ages) (dropped + after) ≡ filter_map of_age (range_with_len 0 dropped) ++ filter_map of_age (range_with_len (dropped + 1) after)
    without_dropped =
        split of_age_now dropped after
        ∙ ap (λ es. es ++ filter_map of_age_now (range_with_len dropped after)) (same_from of_age_now of_age dropped 0 0 older)
        ∙ ap (λ es. filter_map of_age (range_with_len 0 dropped) ++ es) (same_from of_age_now of_age after dropped 1 younger)

  -- an entry that fails a test goes, and the others that pass it stay
  pub drop_filtered : (p : Entry → Bool) (slot count : ℕ) (e : Entry) → slot < 16 → slice_index ages slot < count + 1 → count < 16 → slice_get held slot ≡ Some e → p e ≡ false
      → filter p (by_age held (map (closed_up (slice_index ages slot)) ages) count) ≡ filter p (by_age held ages (count + 1))
  drop_filtered p slot count e there in_use full is fails =
      let g : ℕ = slice_index ages slot in
      let after : ℕ = count - g in
      let at : of_age g ≡ Some e = ap (slice_get held) (ranks.once slot there) ∙ is in
      let within : g + suc after ≤ 16 = omega arith in
      let before : count + 1 ≡ g + suc after = omega arith in
      let now : count ≡ g + after = omega arith in
      ap (λ n. filter p (by_age held (map (closed_up g) ages) n)) now ∙ ap (filter p) (without_dropped g after e within at)
      ∙ sym (ap (λ n. filter p (by_age held ages n)) before ∙ ap (filter p) (with_dropped g after e within at) ∙ without_failing p _ _ e fails)

  -- the oldest of 16 goes
  pub drop_oldest : (e : Entry) → of_age 0 ≡ Some e → by_age held ages 16 ≡ e ∷ by_age held (map (closed_up 0) ages) 15
  drop_oldest e is = with_dropped 0 15 e (omega arith) is ∙ ap (λ (es : List Entry). e ∷ es) (sym (without_dropped 0 15 e (omega arith) is))

  module _ (long : length held ≡ 16) where
    gives : (age : ℕ) → age < 16 → (e : Entry) × (of_age age ≡ Some e)
    gives age within = got held (slot_of ages age) (omega (arith, ranks.each age within, long))

    pub length_by_age : (count : ℕ) → count ≤ 16 → length (by_age held ages count) ≡ count
    length_by_age count within = length_of_all of_age count 0 (λ k from below. gives k (omega arith))

    -- the entry that is put into the slot of the next age is the youngest
    pub youngest_added : (count : ℕ) (e : Entry) → count < 16 → by_age (set held (slot_of ages count) e) ages (count + 1) ≡ by_age held ages count ++ e ∷ []
    youngest_added count e room =
        let slot = slot_of ages count in
        let there : slot < length held = omega (arith, ranks.each count room, long) in
        let of_age_now : ℕ → Option Entry = λ age. slice_get (set held slot e) (slot_of ages age) in
        let same : (k : ℕ) → 0 ≤ k → k < 0 + count → of_age_now k ≡ of_age (k + 0) =
        λ k from below.
        let apart : slot ≡ slot_of ages k → ⊥ =
        λ one. let age : count ≡ k = sym (age_at ages count ranks room) ∙ ap (slice_index ages) one ∙ age_at ages k ranks (omega arith) in omega arith in
        let plus : k + 0 ≡ k = omega arith in
        rw plus (slice_get-set_other held slot (slot_of ages k) e apart) in
        let last : filter_map of_age_now (range_with_len count 1) ≡ e ∷ [] = rw (slice_get-set_same held slot e there) refl in
        split of_age_now count 1 ∙ ap (λ es. es ++ filter_map of_age_now (range_with_len count 1)) (same_from of_age_now of_age count 0 0 same) ∙ ap (λ es. by_age held ages count ++ es) last

-- ---- the entries of banks
module _ (b : Banks) (is : IsBanks b) where
  -- they are as many as are counted
  pub length-entries_of : length (entries_of b) ≡ b.count
  length-entries_of = length_by_age b.held b.ages is.ages is.held b.count is.count

  -- the entry of an age, which is its place among them, is in the slot of that age
  pub entry_of_age : (age : ℕ) → age < b.count → slice_get (entries_of b) age ≡ slice_get b.held (slot_of b.ages age)
  entry_of_age age below =
      let start : 0 + age ≡ age = omega arith in
      nth_given (λ n. slice_get b.held (slot_of b.ages n)) b.count 0 age (λ k from less. gives b.held b.ages is.ages is.held k (omega (arith, is.count))) below
      ∙ ap (λ n. slice_get b.held (slot_of b.ages n)) start

  pub no_entry_of_age : (age : ℕ) → b.count ≤ age → slice_get (entries_of b) age ≡ None
  no_entry_of_age age above = slice_get_past (entries_of b) age (omega (arith, length-entries_of))

  -- the slot of an age, if it is in use, holds an entry of a page
  page_at : (age : ℕ) (e : Entry) → 0 ≤ age → age < 0 + b.count → slice_get b.held (slot_of b.ages age) ≡ Some e → IsPage e.page
  page_at age e from below at = (is.slots (slot_of b.ages age) e at).page (omega (arith, age_at b.ages age is.ages (omega (arith, is.count)), below))

  pub IsTlb-entries_of : IsTlb (entries_of b)
  IsTlb-entries_of = record {
    size = omega (arith, length-entries_of, is.count);
    pages = All-from_recursion (λ e. IsPage e.page) (entries_of b) (each_given (λ age. slice_get b.held (slot_of b.ages age)) (λ e. IsPage e.page) b.count 0 page_at);
  }

  -- with room a fill adds the entry
  pub filled_room : (e : Entry) → b.count < 16 → filled (entries_of b) e ≡ entries_of b ++ e ∷ []
  filled_room e room = filled_with_room (entries_of b) e (omega (arith, length-entries_of))

  -- and of 16 the oldest goes first
  pub filled_full : (e : Entry) → b.count ≡ 16 → filled (entries_of b) e ≡ by_age b.held (map (closed_up 0) b.ages) 15 ++ e ∷ []
  filled_full e full =
      let oldest = got b.held (slot_of b.ages 0) (omega (arith, is.ages.each 0, is.held)) in
      let others = by_age b.held (map (closed_up 0) b.ages) 15 in
      let parts : entries_of b ≡ oldest.0 ∷ others = ap (by_age b.held b.ages) full ∙ drop_oldest b.held b.ages is.ages oldest.0 oldest.1 in
      let many : length others + 1 ≡ 16 = omega (arith, length-entries_of, ap length parts) in
      ap (λ es. filled es e) parts ∙ filled_when_full oldest.0 e others many

-- the entries of banks after a drop, by what the drop says
pub entries_after_drop : (b now : Banks) (dropped count : ℕ) → now.held ≡ b.held → now.ages ≡ map (closed_up dropped) b.ages → now.count ≡ count → entries_of now ≡ by_age b.held (map (closed_up dropped) b.ages) count
entries_after_drop b now dropped count held ages many = λ i. by_age (held i) (ages i) (many i)

-- where no entry in use passes a test, all stay
pub none_dropped : (p : Entry → Bool) (b : Banks) → IsBanks b → ((k : ℕ) (e : Entry) → k < 16 → InUse b k → slice_get b.held k ≡ Some e → p e ≡ true) → filter p (entries_of b) ≡ entries_of b
none_dropped p b is stays =
    filter_kept p (entries_of b)
    (each_given (λ age. slice_get b.held (slot_of b.ages age)) (λ e. p e ≡ true) b.count 0
    (λ age e from below at.
    let small : age < 16 = omega (arith, is.count) in
    stays (slot_of b.ages age) e (is.ages.each age small) (omega (arith, age_at b.ages age is.ages small)) at))
