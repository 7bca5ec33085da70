-- Nothing is reported twice: the entries of a TLB differ, and so do the harts, the steps, and what
-- becomes stale from what is used.
use Rattle.std.proofs.Common.{refl, ◌≡◌, ℕ, ◌+◌, ◌<◌, ◌≤◌, Bool, true, false, List, [], get_or, ◌∷◌, ◌++◌, length, Option, Some, None, slice_get, ap, sym, ◌∙◌, subst, ◌⊎◌, inl, inr, arith}
use Rattle.std.specs.Prelude.{All, ◌↔◌, Contains}
use Rattle.std.proofs.lemmas.Bool.{false≢true}
use Rattle.std.proofs.lemmas.Option.{slice_get_within, get_or_from_slice_get}
use Rattle.std.proofs.lemmas.List.Elements.{All-contains, All-weaker, Contains-get_or}
use Rattle.std.proofs.lemmas.List.Quantifiers.{all_pairs_push}
use Rattle.tlb.specs.declared.store.Entry.{Entry}
use Rattle.history.specs.Setup.{Setup}
use Rattle.history.specs.Turns.{History}
use Rattle.stepcore.specs.State.{State, hart_at}
use Rattle.stepcore.specs.Stands.{Stands}
use Rattle.stale.specs.declared.changes.Change.{Change}
use Rattle.stale.specs.declared.hits.StaleUse.{StaleUse}
use Rattle.stale.specs.declared.items.StaleAt.{StaleAt}
use Rattle.stale.specs.declared.items.StaleItem.{StaleItem}
use Rattle.stale.specs.declared.items.StaleItem.TheVariants.{Became, Used}
use Rattle.stale.specs.declared.report.Opening.{Opening}
use Rattle.stale.specs.Leaves.{IsHeld}
use Rattle.stale.specs.Told.{became_of, AddsOnce, AreBefore, AreDifferent, AreOfOne, AreOfOneStep, HoldOnce, InOrderTo, IsOfChange, IsOfEntries, IsOfEntry, IsOfHarts, IsOfUse, TellsOnce}
use Rattle.stale.proofs.Adding.{ToldEntries, ToldHarts}
use Rattle.stale.proofs.Differing.{entries_differ}
use Rattle.stale.proofs.Stepping.{some_entry}

pub once_push : (IsNew : StaleAt → Type 0) (xs ys : List StaleAt) (x : StaleAt) → ys ≡ xs ++ x ∷ [] → IsNew x → AddsOnce IsNew xs ys
once_push IsNew xs ys x is made = λ once none.
    subst (λ (zs : List StaleAt). TellsOnce zs) (sym is) (all_pairs_push (λ a b. ¬ AreOfOneStep a b) xs x once (none x made))

pub once_use : (used : StaleUse) (step : ℕ) (xs ys : List StaleAt) → ys ≡ xs ++ record { step = step; item = Used used } ∷ [] → AddsOnce (λ item. IsOfUse (Some used) step item) xs ys
once_use used step xs ys is = once_push (λ item. IsOfUse (Some used) step item) xs ys (record { step = step; item = Used used }) is refl

pub of_entry : (opening : Opening) (hart : ℕ) (e : Entry) (o : Option Entry) (x : StaleAt) → o ≡ Some e → IsHeld opening.change e → x ≡ became_of opening hart e → IsOfEntry opening hart o x
of_entry opening hart e o x some held made = subst (λ (v : Option Entry). IsOfEntry opening hart v x) (sym some) (record { held = held; is = made })

-- two items that are of one entry of a hart name the same hart and the same entry
of_one : (opening : Opening) (a b : ℕ) (e f : Entry) (x y : StaleAt) → x ≡ became_of opening a e → y ≡ became_of opening b f → AreOfOneStep x y → (a ≡ b) × (e ≡ f)
of_one opening a b e f x y is_x is_y one = subst (λ (z : StaleAt). AreOfOne (became_of opening a e).item z.item) is_y (subst (λ (z : StaleAt). AreOfOne z.item y.item) is_x one.1)

-- what holds of each element holds of all
All-where : {X : Type 0} (P : X → Type 0) (xs : List X) → ((x : X) → Contains xs x → P x) → All P xs
All-where P xs each k d within = each (get_or xs k d) (Contains-get_or xs k d within)

module _ (opening : Opening) (old : List StaleAt) where
  pub next_entry_once : (hart : ℕ) (entries : List Entry) (n : ℕ) (now next : List StaleAt) → ToldEntries opening old hart entries n now
      → (AreDifferent entries → AddsOnce (λ item. IsOfEntries opening hart entries (length entries) item) old now) → AddsOnce (λ item. IsOfEntry opening hart (slice_get entries n) item) now next
      → AreDifferent entries → AddsOnce (λ item. IsOfEntries opening hart entries (length entries) item) old next
  next_entry_once hart entries n now next told first step differ once none =
      step (first differ once none)
      (λ item of.
      let e = some_entry opening hart item (slice_get entries n) of in
      let within = slice_get_within entries n e.0 e.1 in
      All-where (λ x. ¬ AreOfOneStep x item) now (λ x among one. elim ((told x).0 among) [
        | inl before ↦ All-contains (λ y. ¬ AreOfOneStep y item) old x (none item (n, within, of)) before one
        | inr earlier ↦
            let f = some_entry opening hart x (slice_get entries earlier.0) earlier.2 in
            let same : f.0 ≡ e.0 = (of_one opening hart hart f.0 e.0 x item f.3 e.3 one).1 in
            differ earlier.0 n e.0 earlier.1 within (get_or_from_slice_get entries earlier.0 f.0 e.0 f.1 ∙ same ∙ sym (get_or_from_slice_get entries n e.0 e.0 e.1))
      ]))

  pub next_hart_once : (m : State) (n : ℕ) (now next : List StaleAt) → n < length m.harts → ToldHarts opening old m n now
      → (HoldOnce m → AddsOnce (λ item. IsOfHarts m opening (length m.harts) item) old now)
      → (AreDifferent (hart_at m n).entries → AddsOnce (λ item. IsOfEntries opening n (hart_at m n).entries (length (hart_at m n).entries) item) now next)
      → HoldOnce m → AddsOnce (λ item. IsOfHarts m opening (length m.harts) item) old next
  next_hart_once m n now next within told first step hold once none =
      step (hold n within) (first hold once none)
      (λ item of.
      let e = some_entry opening n item (slice_get (hart_at m n).entries of.0) of.2 in
      All-where (λ x. ¬ AreOfOneStep x item) now (λ x among one. elim ((told x).0 among) [
        | inl before ↦ All-contains (λ y. ¬ AreOfOneStep y item) old x (none item (n, within, of)) before one
        | inr earlier ↦
            let f = some_entry opening earlier.0 x (slice_get (hart_at m earlier.0).entries earlier.2.0) earlier.2.2 in
            let same = (of_one opening earlier.0 n f.0 e.0 x item f.3 e.3 one).0 in
            let less = earlier.1 in
            omega (arith, same, less)
      ]))

-- the entries of each TLB of a machine differ
pub hold_once : (C : Setup) (m : State) (H : History) → Stands C m H → HoldOnce m
hold_once C m H st = λ h within.
    let harts : length m.harts ≡ C.harts = ap (λ (D : Setup). D.harts) st.setup in
    subst (λ (es : List Entry). AreDifferent es) (sym (st.harts h (omega (arith, within, harts))).entries) (entries_differ C st.within H h st.lawful)

-- an item of a change is of the step and no use, an item of a use is of the step and a use
abbrev is_used : StaleItem → Bool
is_used (Became became) = false
is_used (Used use_) = true

of_change : (m : State) (o : Option Change) (home step : ℕ) (ticket : Option ℕ) (item : StaleAt) → IsOfChange m o home step ticket item → (item.step ≡ step) × (is_used item.item ≡ false)
of_change m None home step ticket item of = absurd of
of_change m (Some c) home step None item of = absurd of
of_change m (Some c) home step (Some t) item of =
    let e = some_entry (record { step = step; home = home; ticket = t; change = c }) of.0 item (slice_get (hart_at m of.0).entries of.2.0) of.2.2 in
    (ap (λ (x : StaleAt). x.step) e.3, ap (λ (x : StaleAt). is_used x.item) e.3)

of_use : (used : Option StaleUse) (step : ℕ) (item : StaleAt) → IsOfUse used step item → (item.step ≡ step) × (is_used item.item ≡ true)
of_use None step item of = absurd of
of_use (Some use_) step item of = (ap (λ (x : StaleAt). x.step) of, ap (λ (x : StaleAt). is_used x.item) of)

not_before : (old : List StaleAt) (step : ℕ) (item : StaleAt) → AreBefore old step → Contains old item → item.step ≡ step → ⊥
not_before old step item before among is =
    let less = All-contains (λ (x : StaleAt). x.step < step) old item before among in
    omega (arith, less, is)

use_no_change : (a b : StaleItem) → is_used a ≡ false → is_used b ≡ true → AreOfOne a b → ⊥
use_no_change (Became a) (Became b) is_a is_b one = false≢true is_b
use_no_change (Became a) (Used b) is_a is_b one = one
use_no_change (Used a) b is_a is_b one = false≢true (sym is_a)

-- a step reports nothing twice
pub step_once : (m : State) (o : Option Change) (home step : ℕ) (ticket : Option ℕ) (used : Option StaleUse) (old mid new : List StaleAt)
    → ((item : StaleAt) → Contains mid item ↔ (Contains old item ⊎ IsOfChange m o home step ticket item))
    → (HoldOnce m → AddsOnce (λ item. IsOfChange m o home step ticket item) old mid) → AddsOnce (λ item. IsOfUse used step item) mid new
    → HoldOnce m → AreBefore old step → TellsOnce old → TellsOnce new
step_once m o home step ticket used old mid new told first second hold before once =
    second
    (first hold once
    (λ item of. All-where (λ x. ¬ AreOfOneStep x item) old (λ x among one. not_before old step x before among (one.0 ∙ (of_change m o home step ticket item of).0))))
    (λ item of.
    let u = of_use used step item of in
    All-where (λ x. ¬ AreOfOneStep x item) mid (λ x among one. elim ((told x).0 among) [
      | inl earlier ↦ not_before old step x before earlier (one.0 ∙ u.0)
      | inr change ↦ use_no_change x.item item.item (of_change m o home step ticket x change).1 u.1 one.1
    ]))

-- what is reported up to a step is before the next one
pub before_next : (items : List StaleAt) (last : ℕ) → InOrderTo items last → AreBefore items (last + 1)
before_next items last told = All-weaker (λ item. item.step ≤ last) (λ item. item.step < last + 1) (λ item le. omega (arith, le)) items told.to
