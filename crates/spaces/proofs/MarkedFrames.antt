-- The marks of unused frames, over the changes of what the frames are in use for.
use Rattle.std.proofs.Common.{◌≡◌, ◌≢◌, ℕ, zero, suc, ◌+◌, ◌-◌, ◌<◌, ◌≤◌, Bool, true, false, cond, List, Option, Some, None, length, replicate, sum, take, set, slice_get, length-set, refl, ap, sym, ◌∙◌, inl, inr, arith}
use Rattle.std.specs.Prelude.{is_none, nat_lt, slice_index, ◌&&◌}
use Rattle.std.proofs.lemmas.Bool.{cases_eq, le-leb, lt-ltb, true≢false}
use Rattle.spaces.specs.declared.places.Place.{Place}
use Rattle.spaces.specs.Layout.{frame_count, spare_ppn}
use Rattle.spaces.specs.Held.{Held, held_at, holders_of, spare_of}
use Rattle.spaces.specs.Holders.{first_unused}
use Rattle.spaces.specs.UnusedFrames.{AreMarked, IsLowest, IsLowestMarked, is_unused_in}
use Rattle.spaces.proofs.Lists.{slice_get-set_same, slice_get-set_other}
use Rattle.spaces.proofs.Unused.{is-found, is-none-found}

-- at the opening nothing is in use
none-held : (count n : ℕ) → is_none (held_at (slice_get (replicate count None) n)) ≡ true
none-held zero n = refl
none-held (suc count) zero = refl
none-held (suc count) (suc n) = none-held count n

pub fresh : (marks : ℕ → Bool) (holders : List (Option Place)) (count : ℕ) → holders ≡ replicate count None → length holders ≤ 512
    → ((n : ℕ) → n < 512 → marks n ≡ true) → AreMarked marks holders
fresh marks holders count e few all n less =
    all n (omega (arith, less, few)) ∙ sym (ap (λ (l : List (Option Place)). is_none (held_at (slice_get l n))) e ∙ none-held count n)

-- one frame gets another holder, or none
pub changed : (marks new : ℕ → Bool) (holders : List (Option Place)) (frame : ℕ) (holder : Option Place) → AreMarked marks holders
    → new frame ≡ is_none holder → ((n : ℕ) → n ≢ frame → new n ≡ marks n) → AreMarked new (set holders frame holder)
changed marks new holders frame holder old here others n less = elim (cases_eq n frame) [
  | inl same ↦
      let within : frame < length holders = (let long = length-set holders frame holder in omega (arith, less, same, long)) in
      ap new same ∙ here ∙ sym (ap (λ k. is_none (held_at (slice_get (set holders frame holder) k))) same ∙ ap (λ o. is_none (held_at o)) (slice_get-set_same holders frame holder within))
  | inr apart ↦
      let within : n < length holders = (let long = length-set holders frame holder in omega (arith, less, long)) in
      others n apart ∙ old n within ∙ sym (ap (λ o. is_none (held_at o)) (slice_get-set_other holders frame n holder (λ e. apart (sym e))))
]

-- the PPN of a frame by its number
abbrev pub frame-at : ℕ → Option ℕ → Option ℕ
frame-at base None = None
frame-at base (Some n) = Some (base + n)

-- the lowest marked frame of a home is its lowest unused one
module _ (m : Held) (marks : ℕ → Bool) (marked : AreMarked marks m.holders) (long : length m.holders ≡ frame_count m.layout)
    (first count : ℕ) (fits : first + count ≤ frame_count m.layout) where
  mark-of : (f : ℕ) → m.layout.base ≤ f → f < m.layout.base + frame_count m.layout → marks (f - m.layout.base) ≡ is_none (holders_of m f)
  mark-of f from below =
      marked (f - m.layout.base) (omega (arith, from, below, long))
      ∙ sym (ap (λ b. is_none (cond b (held_at (slice_get m.holders (f - m.layout.base))) None))
      (ap (λ b. b && nat_lt f (m.layout.base + frame_count m.layout)) (le-leb m.layout.base f from) ∙ lt-ltb f (m.layout.base + frame_count m.layout) below))

  none-by : {A : Type 0} (o : Option A) → is_none o ≡ true → o ≡ None
  none-by None e = refl
  none-by (Some x) e = absurd (true≢false (sym e))

  unused-one : (n : ℕ) → IsLowestMarked marks first (first + count) n → first_unused (holders_of m) count (m.layout.base + first) ≡ Some (m.layout.base + n)
  unused-one n is =
      let low = is.low in
      let high = is.high in
      let back : m.layout.base + n - m.layout.base ≡ n = omega arith in
      is-found (holders_of m) count (m.layout.base + first) (m.layout.base + n) (record {
        low = omega (arith, low);
        high = omega (arith, high);
        unused = none-by (holders_of m (m.layout.base + n)) (sym (mark-of (m.layout.base + n) (omega arith) (omega (arith, high, fits))) ∙ ap marks back ∙ is.marked);
        first = λ f from below none.
            let mark = is.lowest (f - m.layout.base) (omega (arith, from)) (omega (arith, from, below)) in
            true≢false (sym (ap is_none none) ∙ sym (mark-of f (omega (arith, from)) (omega (arith, below, high, fits))) ∙ mark);
      })

  unused-none : ((k : ℕ) → first ≤ k → k < first + count → marks k ≡ false) → first_unused (holders_of m) count (m.layout.base + first) ≡ None
  unused-none none = is-none-found (holders_of m) count (m.layout.base + first) (λ f from below held.
      let mark = none (f - m.layout.base) (omega (arith, from)) (omega (arith, from, below)) in
      true≢false (sym (ap is_none held) ∙ sym (mark-of f (omega (arith, from)) (omega (arith, below, fits))) ∙ mark))

  pub spare-is : (found : Option ℕ) → IsLowest marks first (first + count) found → frame-at m.layout.base found ≡ first_unused (holders_of m) count (m.layout.base + first)
  spare-is None is = sym (unused-none is)
  spare-is (Some n) is = sym (unused-one n is)

-- so the lowest frame that is in use for nothing, among those of a hart, is its lowest unused spare
-- frame
pub spare-found : (m now : Held) (first count h : ℕ) (found : Option ℕ) → m ≡ now → length m.holders ≡ frame_count m.layout → first + count ≤ frame_count m.layout
    → first ≡ m.layout.window + length m.layout.homes + sum (take h m.layout.spares) → count ≡ slice_index m.layout.spares h
    → IsLowest (is_unused_in m.holders) first (first + count) found → frame-at m.layout.base found ≡ spare_of now h
spare-found m now first count h found e long fits from many is =
    let at : m.layout.base + first ≡ spare_ppn m.layout h = omega (arith, from) in
    spare-is m (is_unused_in m.holders) (λ n below. refl) long first count fits found is
    ∙ ap (λ k. first_unused (holders_of m) k (m.layout.base + first)) many
    ∙ ap (λ k. first_unused (holders_of m) (slice_index m.layout.spares h) k) at
    ∙ ap (λ (x : Held). spare_of x h) e
