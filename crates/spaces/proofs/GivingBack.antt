-- Giving back the frames of a space, word by word and frame by frame.
use Rattle.std.proofs.Common.{◌≡◌, ℕ, zero, suc, ◌+◌, ◌-◌, ◌*◌, ◌/◌, ◌%◌, ◌<◌, ◌≤◌, cond, eqb, ◌&&◌, ◌||◌, Bool, true, false, List, [], ◌∷◌, Option, Some, None, length, ap, sym, ◌∙◌, subst, refl, inl, inr, arith}
use Rattle.std.specs.Prelude.{slice_get, nat_le, nat_lt}
use Rattle.std.proofs.Math.Path.{fun_ext}
use Rattle.std.proofs.lemmas.Bool.{cases_eq, cases_lt, lt-ltb, le-ltb, le-leb, lt-leb, eq-eqb, ne_eqb, and_from, and_left, and_right}
use Rattle.std.specs.Prelude.{Vec}
use Rattle.std.proofs.lemmas.List.{with_items_is}
use Rattle.std.specs.Vec.{with_items}
use Rattle.pte.specs.declared.address.TheConstants.{TABLE_LENGTH}
use Rattle.walk.specs.Leads.{Tables}
use Rattle.spaces.specs.declared.places.Place.{Place}
use Rattle.spaces.specs.declared.places.Place.TheVariants.{Space}
use Rattle.spaces.specs.Layout.{frame_count, is_frame, root_ppn, user_slots}
use Rattle.spaces.specs.Opening.{is_word}
use Rattle.spaces.specs.Held.{Held, IsMemory, held_at, holders_of, is_own_at, word_index, memory_words}
use Rattle.spaces.specs.Holders.{Holders, is_held_for, is_word_of, zero_word, emptied, given_back}
use Rattle.spaces.specs.Effects.{EmptiesSpace}
use Rattle.spaces.specs.Tree.{IsTree}
use Rattle.spaces.proofs.WordLists.{in-memory}
use Rattle.spaces.proofs.Emptying.{tree-emptied, empties-space}

later : (n at : ℕ) → (at ≡ n → ⊥) → nat_lt n at ≡ nat_lt n (at + 1)
later n at apart = elim (cases_lt n at) [
  | inl less ↦ lt-ltb n at less ∙ sym (lt-ltb n (at + 1) (omega arith))
  | inr from ↦ le-ltb n at from ∙ sym (le-ltb n (at + 1) (omega (arith, apart-less from)))
]
  where
    apart-less : at ≤ n → at < n
    apart-less from = elim (cases_eq at n) [ inl same ↦ absurd (apart same) | inr other ↦ omega arith ]

-- what was done as far as a number, and one more
module _ {A : Type 0} (xs ys : ℕ → A) (change : A → A) (own : ℕ → Bool) (at : ℕ) where
  abbrev Done : ℕ → (ℕ → A) → Type 0
  Done to zs = (n : ℕ) → zs n ≡ cond (nat_lt n to && own n) (change (xs n)) (xs n)

  pub keeps-done : Done at ys → own at ≡ false → Done (at + 1) ys
  keeps-done done none n = elim (cases_eq at n) [
    | inl same ↦ done n ∙ subst (λ k. cond (nat_lt k at && own k) (change (xs k)) (xs k) ≡ cond (nat_lt k (at + 1) && own k) (change (xs k)) (xs k)) same
        (ap (λ b. cond (b && own at) (change (xs at)) (xs at)) (le-ltb at at (omega arith)) ∙ sym (ap (λ b. cond (b && own at) (change (xs at)) (xs at)) (lt-ltb at (at + 1) (omega arith)) ∙ ap (λ b. cond b (change (xs at)) (xs at)) none))
    | inr apart ↦ done n ∙ ap (λ b. cond (b && own n) (change (xs n)) (xs n)) (later n at apart)
  ]

  pub more-done : (zs : ℕ → A) → Done at ys → own at ≡ true → zs at ≡ change (xs at) → ((n : ℕ) → (at ≡ n → ⊥) → zs n ≡ ys n) → Done (at + 1) zs
  more-done zs done is here others n = elim (cases_eq at n) [
    | inl same ↦ subst (λ k. zs k ≡ cond (nat_lt k (at + 1) && own k) (change (xs k)) (xs k)) same
        (here ∙ sym (ap (λ b. cond (b && own at) (change (xs at)) (xs at)) (lt-ltb at (at + 1) (omega arith)) ∙ ap (λ b. cond b (change (xs at)) (xs at)) is))
    | inr apart ↦ others n apart ∙ done n ∙ ap (λ b. cond (b && own n) (change (xs n)) (xs n)) (later n at apart)
  ]

  pub all-done : Done at ys → (n : ℕ) → (at ≤ n → change (xs n) ≡ xs n) → ys n ≡ cond (own n) (change (xs n)) (xs n)
  all-done done n past = elim (cases_lt n at) [
    | inl less ↦ done n ∙ ap (λ b. cond (b && own n) (change (xs n)) (xs n)) (lt-ltb n at less)
    | inr from ↦ done n ∙ ap (λ b. cond (b && own n) (change (xs n)) (xs n)) (le-ltb n at from) ∙ sym (ap (λ x. cond (own n) x (xs n)) (past from) ∙ same (own n))
  ]
    where
      same : (b : Bool) → cond b (xs n) (xs n) ≡ xs n
      same true = refl
      same false = refl

pub get-past : {A : Type 0} (xs : List A) (n : ℕ) → length xs ≤ n → slice_get xs n ≡ None
get-past [] n from = refl
get-past (x ∷ xs) zero from = absurd (omega arith)
get-past (x ∷ xs) (suc n) from = get-past xs n (omega arith)

-- the words are cleared of the frames before one
module _ (xs : ℕ → Option ℕ) (own : ℕ → Bool) where
  abbrev Cleared : ℕ → (ℕ → Option ℕ) → Type 0
  Cleared to ws = (n : ℕ) → ws n ≡ cond (nat_lt (n / TABLE_LENGTH) to && own (n / TABLE_LENGTH)) (zero_word (xs n)) (xs n)

  module _ (ys : ℕ → Option ℕ) (at : ℕ) (done : Cleared at ys) where
    pub keeps-cleared : own at ≡ false → Cleared (at + 1) ys
    keeps-cleared none n = done n ∙ ap (λ b. cond b (zero_word (xs n)) (xs n)) (elim (cases_eq at (n / TABLE_LENGTH)) [
      | inl same ↦ let other : own (n / TABLE_LENGTH) ≡ false = sym (ap own same) ∙ none in and_right _ _ other ∙ sym (and_right _ _ other)
      | inr apart ↦ ap (λ b. b && own (n / TABLE_LENGTH)) (later (n / TABLE_LENGTH) at apart)
    ])

    pub more-cleared : (zs : ℕ → Option ℕ) (first count : ℕ) → own at ≡ true → first ≡ at * TABLE_LENGTH → count ≡ TABLE_LENGTH
        → ((n : ℕ) → zs n ≡ cond (nat_lt n (first + count) && nat_le first n) (zero_word (ys n)) (ys n)) → Cleared (at + 1) zs
    more-cleared zs first count held f c is n = elim (cases_eq at (n / TABLE_LENGTH)) [
      | inl same ↦
          let before : ys n ≡ xs n = done n ∙ ap (λ b. cond (b && own (n / TABLE_LENGTH)) (zero_word (xs n)) (xs n)) (le-ltb (n / TABLE_LENGTH) at (omega (arith, same))) in
          let inside : (nat_lt n (first + count) && nat_le first n) ≡ true =
          and_from _ _ (lt-ltb n (first + count) (omega (arith, f, c, same))) (le-leb first n (omega (arith, f, same)))
          in
          is n ∙ ap (λ b. cond b (zero_word (ys n)) (ys n)) inside ∙ ap zero_word before
          ∙ sym (ap (λ b. cond b (zero_word (xs n)) (xs n)) (and_from _ _ (lt-ltb (n / TABLE_LENGTH) (at + 1) (omega (arith, same))) (sym (ap own same) ∙ held)))
      | inr apart ↦
          is n ∙ ap (λ b. cond b (zero_word (ys n)) (ys n)) (outside apart) ∙ done n
          ∙ ap (λ b. cond (b && own (n / TABLE_LENGTH)) (zero_word (xs n)) (xs n)) (later (n / TABLE_LENGTH) at apart)
    ]
      where
        outside : (at ≡ n / TABLE_LENGTH → ⊥) → (nat_lt n (first + count) && nat_le first n) ≡ false
        outside apart = elim (cases_lt n first) [
          | inl less ↦ and_right _ _ (lt-leb first n less)
          | inr from ↦ elim (cases_lt n (first + count)) [
            | inl to ↦ absurd (apart (omega (arith, f, c, from, to)))
            | inr past ↦ and_left _ _ (le-ltb n (first + count) past)
          ]
        ]

    -- once the user half of a root is cleared too, of which there are no words past the frames
    pub all-cleared : (zs : ℕ → Option ℕ) (root first count : ℕ) → first ≡ root * TABLE_LENGTH → count ≡ user_slots
        → ((n : ℕ) → at ≤ n / TABLE_LENGTH → xs n ≡ None)
        → ((n : ℕ) → zs n ≡ cond (nat_lt n (first + count) && nat_le first n) (zero_word (ys n)) (ys n))
        → (n : ℕ) → zs n ≡ cond ((eqb (n / TABLE_LENGTH) root && nat_lt (n % TABLE_LENGTH) user_slots) || own (n / TABLE_LENGTH)) (zero_word (xs n)) (xs n)
    all-cleared zs root first count f c past is n =
        is n ∙ ap (λ y. cond (nat_lt n (first + count) && nat_le first n) (zero_word y) y) frames
        ∙ twice (nat_lt n (first + count) && nat_le first n) (own (n / TABLE_LENGTH)) (xs n)
        ∙ ap (λ b. cond (b || own (n / TABLE_LENGTH)) (zero_word (xs n)) (xs n)) half
      where
        twice : (a b : Bool) (o : Option ℕ) → cond a (zero_word (cond b (zero_word o) o)) (cond b (zero_word o) o) ≡ cond (a || b) (zero_word o) o
        twice true true None = refl
        twice true true (Some w) = refl
        twice true false o = refl
        twice false b o = refl

        same-none : (a b : Bool) (o : Option ℕ) → o ≡ None → cond a (zero_word o) o ≡ cond b (zero_word o) o
        same-none true true o e = refl
        same-none true false o e = rw e refl
        same-none false true o e = rw e refl
        same-none false false o e = refl

        frames : ys n ≡ cond (own (n / TABLE_LENGTH)) (zero_word (xs n)) (xs n)
        frames = done n ∙ elim (cases_lt (n / TABLE_LENGTH) at) [
          | inl less ↦ ap (λ b. cond (b && own (n / TABLE_LENGTH)) (zero_word (xs n)) (xs n)) (lt-ltb (n / TABLE_LENGTH) at less)
          | inr from ↦ same-none _ _ (xs n) (past n from)
        ]

        half : (nat_lt n (first + count) && nat_le first n) ≡ (eqb (n / TABLE_LENGTH) root && nat_lt (n % TABLE_LENGTH) user_slots)
        half = elim (cases_eq (n / TABLE_LENGTH) root) [
          | inl same ↦ elim (cases_lt (n % TABLE_LENGTH) user_slots) [
            | inl low ↦ and_from _ _ (lt-ltb n (first + count) (omega (arith, f, c, same, low))) (le-leb first n (omega (arith, f, same)))
                ∙ sym (and_from _ _ (eq-eqb (n / TABLE_LENGTH) root same) (lt-ltb (n % TABLE_LENGTH) user_slots low))
            | inr high ↦ and_left _ _ (le-ltb n (first + count) (omega (arith, f, c, same, high))) ∙ sym (and_right _ _ (le-ltb (n % TABLE_LENGTH) user_slots high))
          ]
          | inr apart ↦ elim (cases_lt n first) [
            | inl less ↦ and_right _ _ (lt-leb first n less) ∙ sym (and_left _ _ (ne_eqb (n / TABLE_LENGTH) root apart))
            | inr from ↦ elim (cases_lt n (first + count)) [
              | inl to ↦ absurd (apart (omega (arith, f, c, from, to)))
              | inr beyond ↦ and_left _ _ (le-ltb n (first + count) beyond) ∙ sym (and_left _ _ (ne_eqb (n / TABLE_LENGTH) root apart))
            ]
          ]
        ]

-- the words and the holders of a memory, by its lists
module _ (m : Held) (ws : List ℕ) (hs : List (Option Place)) (s : ℕ)
    (words : (n : ℕ) → slice_get ws n ≡ cond (is_own_at m.holders (m.layout.window + s) s n) (zero_word (slice_get m.words n)) (slice_get m.words n))
    (holders : (n : ℕ) → held_at (slice_get hs n) ≡ given_back (held_at (slice_get m.holders n)) s) where
  abbrev new : Held
  new = record { layout = m.layout; words = ws; holders = hs }

  frame-same : (f : ℕ) → m.layout.base ≤ f → eqb (f - m.layout.base) (m.layout.window + s) ≡ eqb f (root_ppn m.layout s)
  frame-same f from = elim (cases_eq (f - m.layout.base) (m.layout.window + s)) [
    | inl same ↦ eq-eqb (f - m.layout.base) (m.layout.window + s) same ∙ sym (eq-eqb f (root_ppn m.layout s) (omega (arith, same)))
    | inr other ↦ ne_eqb (f - m.layout.base) (m.layout.window + s) other ∙ sym (ne_eqb f (root_ppn m.layout s) (λ e. other (omega (arith, e))))
  ]

  own-same : (f i : ℕ) → is_word m.layout f i ≡ true → is_own_at m.holders (m.layout.window + s) s (word_index m.layout f i) ≡ is_word_of m.layout (holders_of m) s f i
  own-same f i is =
      let at = in-memory m.layout f i is in
      let frame : word_index m.layout f i / TABLE_LENGTH ≡ f - m.layout.base = omega (arith, at.index) in
      let slot : word_index m.layout f i % TABLE_LENGTH ≡ i = omega (arith, at.index) in
      let there : is_frame m.layout f ≡ true = ap (λ b. b && nat_lt f (m.layout.base + frame_count m.layout)) (le-leb m.layout.base f at.from) ∙ lt-ltb f (m.layout.base + frame_count m.layout) at.to in
      ap (λ x. (eqb x (m.layout.window + s) && nat_lt (word_index m.layout f i % TABLE_LENGTH) user_slots) || is_held_for (held_at (slice_get m.holders x)) (Space s)) frame
      ∙ ap (λ x. (eqb (f - m.layout.base) (m.layout.window + s) && nat_lt x user_slots) || is_held_for (held_at (slice_get m.holders (f - m.layout.base))) (Space s)) slot
      ∙ ap (λ b. (b && nat_lt i user_slots) || is_held_for (held_at (slice_get m.holders (f - m.layout.base))) (Space s)) (frame-same f at.from)
      ∙ sym (ap (λ b. (eqb f (root_ppn m.layout s) && nat_lt i user_slots) || is_held_for (cond b (held_at (slice_get m.holders (f - m.layout.base))) None) (Space s)) there)

  none-same : (b : Bool) → None ≡ cond b (zero_word None) None
  none-same true = refl
  none-same false = refl

  pub words-emptied : (f i : ℕ) → memory_words new f i ≡ emptied m.layout (holders_of m) s (memory_words m) f i
  unfolding memory_words
  words-emptied f i = by_word (is_word m.layout f i) refl
    where
      by_word : (b : Bool) → is_word m.layout f i ≡ b
          → cond b (slice_get ws (word_index m.layout f i)) None
          ≡ cond (is_word_of m.layout (holders_of m) s f i) (zero_word (cond b (slice_get m.words (word_index m.layout f i)) None)) (cond b (slice_get m.words (word_index m.layout f i)) None)
      by_word true is = words (word_index m.layout f i)
          ∙ ap (λ b. cond b (zero_word (slice_get m.words (word_index m.layout f i))) (slice_get m.words (word_index m.layout f i))) (own-same f i is)
      by_word false is = none-same (is_word_of m.layout (holders_of m) s f i)

  pub holders-left : (f : ℕ) → holders_of new f ≡ given_back (holders_of m f) s
  holders-left f = by_frame (is_frame m.layout f)
    where
      by_frame : (b : Bool) → cond b (held_at (slice_get hs (f - m.layout.base))) None ≡ given_back (cond b (held_at (slice_get m.holders (f - m.layout.base))) None) s
      by_frame true = holders (f - m.layout.base)
      by_frame false = refl

  module _ (is : IsMemory m) (has : s < length m.layout.homes) (words-length : length ws ≡ length m.words) (holders-length : length hs ≡ length m.holders) where
    tables : memory_words new ≡ emptied m.layout (holders_of m) s (memory_words m)
    tables = fun_ext (λ f. fun_ext (λ i. words-emptied f i))

    pub memory-left : IsMemory new
    memory-left = record {
      layout = is.layout;
      words = words-length ∙ is.words;
      holders = holders-length ∙ is.holders;
      tree =
          subst (λ (x : Holders). IsTree m.layout (memory_words new) x) (fun_ext (λ f. sym (holders-left f)))
          (subst (λ (x : Tables). IsTree m.layout x (λ f. given_back (holders_of m f) s)) (sym tables)
          (tree-emptied m.layout is.layout (memory_words m) (holders_of m) is.tree s has));
    }

    pub space-emptied : EmptiesSpace m.layout s (memory_words m) (memory_words new)
    space-emptied = subst (λ (x : Tables). EmptiesSpace m.layout s (memory_words m) x) (sym tables) (empties-space m.layout is.layout (memory_words m) (holders_of m) is.tree s has)

-- all of it, where the memory is seen as another value
pub record Left (m now : Held) (ws : List ℕ) (hs : List (Option Place)) (s : ℕ) : Type 0 where
  pub memory : IsMemory (record { layout = m.layout; words = ws; holders = hs })
  pub words : (f i : ℕ) → memory_words (record { layout = m.layout; words = ws; holders = hs }) f i ≡ emptied now.layout (holders_of now) s (memory_words now) f i
  pub holders : (f : ℕ) → holders_of (record { layout = m.layout; words = ws; holders = hs }) f ≡ given_back (holders_of now f) s
  pub empties : EmptiesSpace now.layout s (memory_words now) (memory_words (record { layout = m.layout; words = ws; holders = hs }))

pub left-of : (m now : Held) (ws : List ℕ) (hs : List (Option Place)) (s : ℕ) → m ≡ now → IsMemory m → s < length now.layout.homes
    → length ws ≡ length m.words → length hs ≡ length m.holders
    → ((n : ℕ) → slice_get ws n ≡ cond (is_own_at m.holders (m.layout.window + s) s n) (zero_word (slice_get m.words n)) (slice_get m.words n))
    → ((n : ℕ) → held_at (slice_get hs n) ≡ given_back (held_at (slice_get m.holders n)) s)
    → Left m now ws hs s
left-of m now ws hs s e is has lw lh words holders =
    let here : s < length m.layout.homes = subst (λ (x : Held). s < length x.layout.homes) (sym e) has in
    record {
      memory = memory-left m ws hs s words holders is here lw lh;
      words = λ f i. words-emptied m ws hs s words holders f i ∙ ap (λ (x : Held). emptied x.layout (holders_of x) s (memory_words x) f i) e;
      holders = λ f. holders-left m ws hs s words holders f ∙ ap (λ (x : Held). given_back (holders_of x f) s) e;
      empties = subst (λ (x : Held). EmptiesSpace x.layout s (memory_words x) (memory_words (record { layout = m.layout; words = ws; holders = hs }))) e (space-emptied m ws hs s words holders is here lw lh);
    }

-- the same of lists and a number that are equal
pub own-lists : (ws ws' : List ℕ) (hs hs' : List (Option Place)) (root root' s n : ℕ) (o : Option ℕ) → ws ≡ ws' → hs ≡ hs' → root ≡ root'
    → o ≡ cond (is_own_at hs root s n) (zero_word (slice_get ws n)) (slice_get ws n) → o ≡ cond (is_own_at hs' root' s n) (zero_word (slice_get ws' n)) (slice_get ws' n)
own-lists ws ws' hs hs' root root' s n o e f g is =
    is
    ∙ ap (λ l. cond (is_own_at hs root s n) (zero_word (slice_get l n)) (slice_get l n)) e
    ∙ ap (λ l. cond (is_own_at l root s n) (zero_word (slice_get ws' n)) (slice_get ws' n)) f
    ∙ ap (λ k. cond (is_own_at hs' k s n) (zero_word (slice_get ws' n)) (slice_get ws' n)) g

-- the list that the loop leaves, written back
pub left-list : {Z : Type 0} (v : Vec ℕ Z) (ws ws' : List ℕ) (hs hs' : List (Option Place)) (root root' s : ℕ)
    → ws ≡ v.items → hs ≡ hs' → root ≡ root' → length ws' ≡ v.len → length ws' ≡ length ws
    → ((n : ℕ) → slice_get ws' n ≡ cond (is_own_at hs root s n) (zero_word (slice_get ws n)) (slice_get ws n))
    → (length (with_items v ws').items ≡ length v.items)
    × ((n : ℕ) → slice_get (with_items v ws').items n ≡ cond (is_own_at hs' root' s n) (zero_word (slice_get v.items n)) (slice_get v.items n))
left-list v ws ws' hs hs' root root' s e f r lv lw words =
    let a = with_items_is v ws' lv in (
      ap (λ l. length l) a ∙ lw ∙ ap (λ l. length l) e,
      (λ n. own-lists ws v.items hs hs' root root' s n _ e f r (ap (λ l. slice_get l n) a ∙ words n)),
    )
