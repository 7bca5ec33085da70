-- What giving back and a store leave, word by word and frame by frame.
use Rattle.std.proofs.Common.{◌≡◌, ℕ, ◌≤◌, Bool, true, false, cond, Option, Some, None, IsSome, refl, ap, ◌∙◌, inl, inr, eqb}
use Rattle.std.specs.Prelude.{◌≢◌, ◌&&◌, ◌||◌, nat_lt}
use Rattle.std.proofs.lemmas.Bool.{cases_Bool, cases_eq, eq-eqb, ne_eqb, lt-ltb, le-ltb}
use Rattle.walk.specs.Leads.{Tables}
use Rattle.walk.specs.Pointers.{pointed}
use Rattle.spaces.specs.declared.places.Place.{Place}
use Rattle.spaces.specs.declared.places.Place.TheVariants.{Space}
use Rattle.spaces.specs.Layout.{Layout, root_ppn, user_slots}
use Rattle.spaces.specs.Edits.{Store}
use Rattle.spaces.specs.Holders.{Holders, is_held_for, is_word_of, zero_word, emptied, given_back}
use Rattle.spaces.specs.Applied.{points_at, holders_after}
use Rattle.spaces.specs.Effects.{EmptiesWords, GivesBack, TakesFrame}
use Rattle.spaces.proofs.Emptying.{zero-some, held-is, given-same}

held-for : (o : Option Place) (s : ℕ) → o ≡ Some (Space s) → is_held_for o (Space s) ≡ true
held-for o s e = rw e (eq-eqb s s refl)

not-held : (o : Option Place) (s : ℕ) → o ≢ Some (Space s) → is_held_for o (Space s) ≡ false
not-held o s other = elim (cases_Bool (is_held_for o (Space s))) [ inl t ↦ absurd (other (held-is o s t)) | inr f ↦ f ]

or-true : (b : Bool) → (b || true) ≡ true
or-true true = refl
or-true false = refl

module _ (l : Layout) (holders : Holders) (s : ℕ) (words : Tables) where
  own : (ppn i : ℕ) → is_word_of l holders s ppn i ≡ true → IsSome (words ppn i) → emptied l holders s words ppn i ≡ Some 0
  own ppn i is there = ap (λ b. cond b (zero_word (words ppn i)) (words ppn i)) is ∙ zero-some (words ppn i) there

  not-root : (ppn i : ℕ) → (ppn ≡ root_ppn l s → user_slots ≤ i) → (eqb ppn (root_ppn l s) && nat_lt i user_slots) ≡ false
  not-root ppn i out = elim (cases_eq ppn (root_ppn l s)) [
    | inl same ↦ ap (λ b. b && nat_lt i user_slots) (eq-eqb ppn (root_ppn l s) same) ∙ le-ltb i user_slots (out same)
    | inr other ↦ ap (λ b. b && nat_lt i user_slots) (ne_eqb ppn (root_ppn l s) other)
  ]

  none-stays : (b : Bool) (o : Option ℕ) → o ≡ None → cond b (zero_word o) o ≡ None
  none-stays true o e = ap zero_word e
  none-stays false o e = e

  pub words-emptied : EmptiesWords l s holders words (emptied l holders s words)
  words-emptied = record {
    frames = λ ppn i held there. own ppn i (ap (λ b. (eqb ppn (root_ppn l s) && nat_lt i user_slots) || b) (held-for (holders ppn) s held) ∙ or-true (eqb ppn (root_ppn l s) && nat_lt i user_slots)) there;
    root = λ i low there. own (root_ppn l s) i
        (ap (λ b. (b && nat_lt i user_slots) || is_held_for (holders (root_ppn l s)) (Space s)) (eq-eqb (root_ppn l s) (root_ppn l s) refl)
        ∙ ap (λ b. b || is_held_for (holders (root_ppn l s)) (Space s)) (lt-ltb i user_slots low)) there;
    others = λ ppn i other out.
        ap (λ b. cond b (zero_word (words ppn i)) (words ppn i))
        (ap (λ b. b || is_held_for (holders ppn) (Space s)) (not-root ppn i out) ∙ not-held (holders ppn) s other);
    none_more = λ ppn i e. none-stays (is_word_of l holders s ppn i) (words ppn i) e;
  }

pub frames-left : (holders : Holders) (s : ℕ) → GivesBack s holders (λ f. given_back (holders f) s)
frames-left holders s = record {
  unused = λ ppn held. ap (λ b. cond b None (holders ppn)) (held-for (holders ppn) s held);
  others = λ ppn other. given-same (holders ppn) s other;
}

points : (o : Option ℕ) (ppn : ℕ) → o ≡ Some ppn → points_at o ppn ≡ true
points o ppn e = rw e (eq-eqb ppn ppn refl)

points-not : (o : Option ℕ) (ppn : ℕ) → o ≢ Some ppn → points_at o ppn ≡ false
points-not None ppn other = refl
points-not (Some table) ppn other = ne_eqb table ppn (λ e. other (ap Some e))

pub frame-taken : (holders : Holders) (place : Place) (store : Store) → TakesFrame place store.word holders (holders_after holders place store)
frame-taken holders place store = record {
  taken = λ ppn e. ap (λ b. cond b (Some place) (holders ppn)) (points (pointed (Some store.word)) ppn e);
  others = λ ppn other. ap (λ b. cond b (Some place) (holders ppn)) (points-not (pointed (Some store.word)) ppn other);
}
