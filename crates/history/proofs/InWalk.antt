-- The walk of a hart: from the Begin that began it, with the loads made since.
use Rattle.std.proofs.Common.{◌≡◌, ℕ, ◌+◌, Bool, true, false, cond, ◌⊎◌, inl, inr, [], ◌∷◌, ◌++◌, Option, Some, None, refl, ap, sym, ◌∙◌, eqb, arith}
use Rattle.std.proofs.lemmas.Bool.{eqb-true, eq-eqb, false≢true, true≢false}
use Rattle.std.specs.Prelude.{◌↔◌}
use Rattle.pte.specs.declared.permission.Access.{Access}
use Rattle.pte.specs.declared.permission.Ctx.{Ctx}
use Rattle.walk.specs.declared.found_or_trap.Trap.{Trap as Fault}
use Rattle.history.specs.declared.event.Event.{Event}
use Rattle.history.specs.declared.event.Event.TheVariants.{Begin, Load}
use Rattle.history.specs.declared.reply.Reply.{Reply}
use Rattle.history.specs.declared.reply.Reply.TheVariants.{More, Filled, Trap}
use Rattle.history.specs.Turns.{Turn, History, is_more}
use Rattle.history.specs.Acknowledgements.{count_where}
use Rattle.history.specs.Harts.{Walking, walk_of, walk_after, begun, loaded, with_load}
use Rattle.history.specs.Occurrences.{Since, IsBegin, BeginsOrEnds, is_further_load, IsInWalk}
use Rattle.history.proofs.Splits.{since-here, since-later}
use Rattle.history.proofs.Occurred.{turn_of}
use Rattle.shoot.proofs.HartSets.{by_test}
use Rattle.history.proofs.Lasting.{and_false}

-- the walk with another number of loads
abbrev with_loads : Walking → ℕ → Walking
with_loads walk n = record { va = walk.va; access = walk.access; ctx = walk.ctx; loads = n }

abbrev more_loads : ℕ → Turn → ℕ → ℕ
more_loads h turn n = cond (is_further_load h turn) 1 0 + n

-- a walk began at the turn, or it was there before, with the loads that it had then
abbrev Steps : ℕ → Walking → Turn → History → Option Walking → Type 0
Steps h walk turn H old =
    (IsBegin h walk turn H × (walk.loads ≡ 0))
    ⊎ ((BeginsOrEnds h turn H → ⊥) × ((n : ℕ) × (old ≡ Some (with_loads walk n)) × (walk.loads ≡ more_loads h turn n)))

abbrev is_begin : Event → Bool
is_begin (Begin hart va access ctx) = true
is_begin _ = false

abbrev is_load : Event → Bool
is_load (Load hart) = true
is_load _ = false

abbrev ends : Reply → Bool
ends (Filled pa) = true
ends (Trap trap) = true
ends _ = false

ended_is : (r : Reply) → ((pa : ℕ) × (r ≡ Filled pa)) ⊎ ((trap : Fault) × (r ≡ Trap trap)) → ends r ≡ true
ended_is r e = elim e [ inl f ↦ ap ends f.1 | inr t ↦ ap ends t.1 ]

-- the turn neither begins nor ends a walk of h, and loads nothing for it
still : (h : ℕ) (walk : Walking) (turn : Turn) (H : History) (old : Option Walking) → (BeginsOrEnds h turn H → ⊥) → is_further_load h turn ≡ false → old ≡ Some walk → Steps h walk turn H old
still h walk turn H old none no_load e = inr (none, (walk.loads, e, rw no_load (omega arith)))

still_from : (h : ℕ) (walk : Walking) (turn : Turn) (H : History) (old : Option Walking) → (IsBegin h walk turn H → ⊥) → is_further_load h turn ≡ false → Steps h walk turn H old → old ≡ Some walk
still_from h walk turn H old none no_load s = elim s [
  | inl b ↦ absurd (none b.0)
  | inr o ↦
      let n = o.1.0 in
      let same : walk.loads ≡ n = let l = rw no_load at o.1.2 in omega arith in
      o.1.1 ∙ ap (λ k. Some (with_loads walk k)) (sym same)
]

other_load : (h : ℕ) (r : Reply) (hart : ℕ) → eqb hart h ≡ false → is_further_load h (turn_of (Load hart) r) ≡ false
other_load h r hart e = rw e (and_false (is_more r))

module _ (h : ℕ) (walk : Walking) (H : History) where
  none_of_begin : (hart va : ℕ) (access : Access) (ctx : Ctx) (r : Reply) → (hart ≡ h → r ≡ More → ⊥) → BeginsOrEnds h (turn_of (Begin hart va access ctx) r) H → ⊥
  none_of_begin hart va access ctx r none b = elim b [
    | inl s ↦ let same : Begin hart va access ctx ≡ Begin h s.0.va s.0.access s.0.ctx = s.1.event in
        let a : hart ≡ h = cc in
        none a s.1.begun
    | inr l ↦ false≢true (ap is_load l.event)
  ]

  none_of_load : (hart : ℕ) (r : Reply) → (hart ≡ h → ends r ≡ true → ⊥) → BeginsOrEnds h (turn_of (Load hart) r) H → ⊥
  none_of_load hart r none b = elim b [
    | inl s ↦ false≢true (ap is_begin s.1.event)
    | inr l ↦ let same : Load hart ≡ Load h = l.event in
        let a : hart ≡ h = cc in
        none a (ended_is r l.ended)
  ]

  begun_to : (hart va : ℕ) (access : Access) (ctx : Ctx) (r : Reply) (old : Option Walking) → hart ≡ h → begun r va access ctx old ≡ Some walk → Steps h walk (turn_of (Begin hart va access ctx) r) H old
  begun_to hart va access ctx More old a e =
      let same : record { va = va; access = access; ctx = ctx; loads = 0 } ≡ walk = cc in
      inl (
        record {
          event = ap (λ x. Begin x va access ctx) a ∙ ap (λ (w : Walking). Begin h w.va w.access w.ctx) same;
          begun = refl;
        },
        sym (ap (λ (w : Walking). w.loads) same),
      )
  begun_to hart va access ctx r old a e =
      still h walk (turn_of (Begin hart va access ctx) r) H old (none_of_begin hart va access ctx r (λ _ m. false≢true (ap is_more m))) refl e

  load_to : (hart : ℕ) (old : Option Walking) → hart ≡ h → with_load old ≡ Some walk → Steps h walk (turn_of (Load hart) More) H old
  load_to hart None a e = absurd cc
  load_to hart (Some before) a e =
      let same : with_loads before (before.loads + 1) ≡ walk = cc in
      let was : before ≡ with_loads walk before.loads = ap (λ (w : Walking). with_loads w before.loads) same in
      let count : before.loads + 1 ≡ walk.loads = ap (λ (w : Walking). w.loads) same in
      inr (none_of_load hart More (λ _ n. false≢true n), (before.loads, ap Some was, rw (eq-eqb hart h a) (omega arith)))

  loaded_to : (hart : ℕ) (r : Reply) (old : Option Walking) → hart ≡ h → loaded r old ≡ Some walk → Steps h walk (turn_of (Load hart) r) H old
  loaded_to hart More old a e = load_to hart old a e
  loaded_to hart (Filled pa) old a e = absurd cc
  loaded_to hart (Trap trap) old a e = absurd cc
  loaded_to hart r old a e = still h walk (turn_of (Load hart) r) H old (none_of_load hart r (λ _ n. false≢true n)) refl e

  walk_to : (e : Event) (r : Reply) (old : Option Walking) → walk_after e r h old ≡ Some walk → Steps h walk (turn_of e r) H old
  walk_to (Begin hart va access ctx) r old =
      by_test (λ t. cond t (begun r va access ctx old) old ≡ Some walk → Steps h walk (turn_of (Begin hart va access ctx) r) H old) (eqb hart h)
      (λ t. begun_to hart va access ctx r old (eqb-true hart h t))
      (λ f. still h walk (turn_of (Begin hart va access ctx) r) H old (none_of_begin hart va access ctx r (λ a _. true≢false (sym (eq-eqb hart h a) ∙ f))) (and_false (is_more r)))
  walk_to (Load hart) r old =
      by_test (λ t. cond t (loaded r old) old ≡ Some walk → Steps h walk (turn_of (Load hart) r) H old) (eqb hart h)
      (λ t. loaded_to hart r old (eqb-true hart h t))
      (λ f. still h walk (turn_of (Load hart) r) H old (none_of_load hart r (λ a _. true≢false (sym (eq-eqb hart h a) ∙ f))) (other_load h r hart f))
  walk_to e r old =
      still h walk (turn_of e r) H old (λ b. elim b [ inl s ↦ false≢true (ap is_begin s.1.event) | inr l ↦ false≢true (ap is_load l.event) ]) (and_false (is_more r))

  begun_from : (hart va : ℕ) (access : Access) (ctx : Ctx) (r : Reply) (old : Option Walking) → hart ≡ h → Steps h walk (turn_of (Begin hart va access ctx) r) H old → begun r va access ctx old ≡ Some walk
  begun_from hart va access ctx More old a s = elim s [
    | inl b ↦ let same : Begin hart va access ctx ≡ Begin h walk.va walk.access walk.ctx = b.0.event in
        let f : va ≡ walk.va = cc in
        let g : access ≡ walk.access = cc in
        let k : ctx ≡ walk.ctx = cc in
        let l : walk.loads ≡ 0 = b.1 in
        rw (f, g, k) (ap (λ n. Some (with_loads walk n)) (sym l))
    | inr o ↦ absurd (o.0 (inl (record { va = va; access = access; ctx = ctx; loads = 0 }, record { event = ap (λ x. Begin x va access ctx) a; begun = refl })))
  ]
  begun_from hart va access ctx r old a s =
      still_from h walk (turn_of (Begin hart va access ctx) r) H old (λ b. false≢true (ap is_more b.begun)) refl s

  load_from : (hart : ℕ) (old : Option Walking) → hart ≡ h → Steps h walk (turn_of (Load hart) More) H old → with_load old ≡ Some walk
  load_from hart old a s = elim s [
    | inl b ↦ absurd (false≢true (ap is_begin b.0.event))
    | inr o ↦
        let n = o.1.0 in
        let more : walk.loads ≡ n + 1 = let l = rw (eq-eqb hart h a) at o.1.2 in omega arith in
        ap with_load o.1.1 ∙ ap (λ k. Some (with_loads walk k)) (sym more)
  ]

  loaded_from : (hart : ℕ) (r : Reply) (old : Option Walking) → hart ≡ h → Steps h walk (turn_of (Load hart) r) H old → loaded r old ≡ Some walk
  loaded_from hart More old a s = load_from hart old a s
  loaded_from hart (Filled pa) old a s = elim s [
    | inl b ↦ absurd (false≢true (ap is_begin b.0.event))
    | inr o ↦ absurd (o.0 (inr (record { event = ap Load a; ended = inl (pa, refl) })))
  ]
  loaded_from hart (Trap trap) old a s = elim s [
    | inl b ↦ absurd (false≢true (ap is_begin b.0.event))
    | inr o ↦ absurd (o.0 (inr (record { event = ap Load a; ended = inr (trap, refl) })))
  ]
  loaded_from hart r old a s = still_from h walk (turn_of (Load hart) r) H old (λ b. false≢true (ap is_begin b.event)) refl s

  walk_from : (e : Event) (r : Reply) (old : Option Walking) → Steps h walk (turn_of e r) H old → walk_after e r h old ≡ Some walk
  walk_from (Begin hart va access ctx) r old s =
      by_test (λ t. cond t (begun r va access ctx old) old ≡ Some walk) (eqb hart h)
      (λ t. begun_from hart va access ctx r old (eqb-true hart h t) s)
      (λ f. still_from h walk (turn_of (Begin hart va access ctx) r) H old
      (λ b. let same : Begin hart va access ctx ≡ Begin h walk.va walk.access walk.ctx = b.event in
      let a : hart ≡ h = cc in
      true≢false (sym (eq-eqb hart h a) ∙ f)) (and_false (is_more r)) s)
  walk_from (Load hart) r old s =
      by_test (λ t. cond t (loaded r old) old ≡ Some walk) (eqb hart h)
      (λ t. loaded_from hart r old (eqb-true hart h t) s)
      (λ f. still_from h walk (turn_of (Load hart) r) H old (λ b. false≢true (ap is_begin b.event)) (other_load h r hart f) s)
  walk_from e r old s = still_from h walk (turn_of e r) H old (λ b. false≢true (ap is_begin b.event)) (and_false (is_more r)) s

-- the same walk with other loads began at the same turn
abbrev since_with : (h : ℕ) (walk : Walking) (n : ℕ) (H : History) → Since (IsBegin h (with_loads walk n)) (BeginsOrEnds h) H → Since (IsBegin h walk) (BeginsOrEnds h) H
since_with h walk n H s = record {
  later = s.later;
  turn = s.turn;
  earlier = s.earlier;
  split = s.split;
  so = record { event = s.so.event; begun = s.so.begun };
  none_since = s.none_since;
}

in_walk_to : (H : History) (h : ℕ) (walk : Walking) → walk_of H h ≡ Some walk → IsInWalk h walk H
in_walk_to [] h walk e = absurd cc
in_walk_to (turn ∷ H) h walk e = elim (walk_to h walk H turn.event turn.reply (walk_of H h) e) [
  | inl b ↦ record { since = since-here (IsBegin h walk) (BeginsOrEnds h) turn H b.0; loads = b.1 }
  | inr o ↦
      let n = o.1.0 in
      let before = in_walk_to H h (with_loads walk n) o.1.1 in
      record {
        since = since-later (IsBegin h walk) (BeginsOrEnds h) turn H o.0 (since_with h walk n H before.since);
        loads = o.1.2 ∙ ap (more_loads h turn) before.loads;
      }
]

in_walk_at : (later : History) (turn : Turn) (earlier : History) (h : ℕ) (walk : Walking) → IsBegin h walk turn earlier
    → ((newer : History) (next : Turn) (between : History) → later ≡ newer ++ next ∷ between → BeginsOrEnds h next (between ++ turn ∷ earlier) → ⊥)
    → walk.loads ≡ count_where (is_further_load h) later → walk_of (later ++ turn ∷ earlier) h ≡ Some walk
in_walk_at [] turn earlier h walk b none l = walk_from h walk earlier turn.event turn.reply (walk_of earlier h) (inl (b, l))
in_walk_at (x ∷ later) turn earlier h walk b none l =
    let n = count_where (is_further_load h) later in
    let before = in_walk_at later turn earlier h (with_loads walk n) (record { event = b.event; begun = b.begun })
    (λ newer next between e. none (x ∷ newer) next between (ap (λ xs. x ∷ xs) e)) refl in
    walk_from h walk (later ++ turn ∷ earlier) x.event x.reply (walk_of (later ++ turn ∷ earlier) h) (inr (none [] x later refl, (n, before, l)))

pub in_walk : (H : History) (h : ℕ) (walk : Walking) → (walk_of H h ≡ Some walk) ↔ IsInWalk h walk H
in_walk H h walk = (
  in_walk_to H h walk,
  λ w. ap (λ xs. walk_of xs h) w.since.split ∙ in_walk_at w.since.later w.since.turn w.since.earlier h walk w.since.so w.since.none_since w.loads,
)
