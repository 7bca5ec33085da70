-- Whether a stale mapping is used, by what is reported of a run.
use Rattle.std.proofs.Common.{◌≡◌, ◌∙◌, ℕ, zero, suc, ◌<◌, Bool, true, false, List, [], ◌∷◌, Ok, inl, inr, ap, sym, refl, arith}
use Rattle.std.specs.Prelude.{◌↔◌, IsTrue, Contains}
use Rattle.std.proofs.lemmas.Bool.{cases_Bool, true≢false}
use Rattle.walk.specs.Maps.{page_number}
use Rattle.tlb.specs.Mappings.{Mapping}
use Rattle.history.specs.Setup.{Setup, setup_of}
use Rattle.history.specs.declared.event.Event.{Event}
use Rattle.stale.specs.Mapped.{mapping_of}
use Rattle.stale.specs.declared.hits.StaleUse.{StaleUse}
use Rattle.stale.specs.declared.items.StaleAt.{StaleAt}
use Rattle.stale.specs.declared.items.StaleItem.{StaleItem}
use Rattle.stale.specs.declared.items.StaleItem.TheVariants.{Became, Used}
use Rattle.stale.specs.Told.{TellsUse, UsedBy}
use Rattle.scenario.specs.Printed.{Prints}
use Rattle.scenario.specs.StaleLines.{is_use, uses_in}
use Rattle.files.specs.RunFile.{RunPlan, run_scenario_of}
use Rattle.scenario.specs.Commands.{stale}
use Rattle.scenario.specs.Outcomes.{finding_by_use, IsFound}

-- an item that is a use, and one that reports a use
use_in : (item : StaleItem) → is_use item ≡ true → (use_ : StaleUse) × (item ≡ Used use_)
use_in (Became became) is = cc
use_in (Used use_) is = (use_, refl)

use_told : (item : StaleItem) (h : ℕ) (m : Mapping) → TellsUse item h m → is_use item ≡ true
use_told (Became became) h m tells = absurd tells
use_told (Used use_) h m tells = refl

-- if uses are counted there is one
counted_is_there : (items : List StaleAt) → 0 < uses_in items → (at : StaleAt) × (use_ : StaleUse) × Contains items at × (at.item ≡ Used use_)
counted_is_there [] some = absurd (omega (arith, some))
counted_is_there (at ∷ items) some = elim (cases_Bool (is_use at.item)) [
  | inl on ↦ let u = use_in at.item on in (at, u.0, (0, omega arith, refl), u.1)
  | inr off ↦
      let fewer : uses_in (at ∷ items) ≡ uses_in items = rw off refl in
      let rest = counted_is_there items (omega (arith, some, fewer)) in
      (rest.0, rest.1, (suc rest.2.0, omega (arith, rest.2.1), rest.2.2), rest.3)
]

-- and one that is in the list is counted
there_is_counted : (items : List StaleAt) (at : StaleAt) → Contains items at → is_use at.item ≡ true → 0 < uses_in items
there_is_counted [] at (k, below, is) on = absurd (omega (arith, below))
there_is_counted (x ∷ items) at (zero, below, is) on =
    let first : is_use x.item ≡ true = ap (λ (a : StaleAt). is_use a.item) is ∙ on in
    let more : uses_in (x ∷ items) ≡ suc (uses_in items) = rw first refl in
    omega (arith, more)
there_is_counted (x ∷ items) at (suc k, below, is) on =
    let rest = there_is_counted items at (k, omega (arith, below), is) on in
    elim (cases_Bool (is_use x.item)) [
      | inl first ↦ let more : uses_in (x ∷ items) ≡ suc (uses_in items) = rw first refl in omega (arith, more)
      | inr other ↦ let same : uses_in (x ∷ items) ≡ uses_in items = rw other refl in omega (arith, same, rest)
    ]

-- what is printed says so
used_so : (C : Setup) (events : List Event) (lines : List ℕ) (used : Bool) → Prints C events lines used → IsTrue used ↔ ((number h : ℕ) × (m : Mapping) × UsedBy C [] events number h m)
used_so C events lines used p = (
  λ on.
      let some = counted_is_there p.items (p.some_used.0 on) in
      let u : StaleUse = some.1 in
      let m : Mapping = mapping_of u.entry (page_number u.va) in
      let tells : TellsUse some.0.item u.hart m = rw some.3 (refl, refl) in
      (some.0.step, u.hart, m, (p.uses some.0.step u.hart m).1 (record { told = some.0; among = some.2; step = refl; tells = tells })),
  λ w.
      let told = (p.uses w.0 w.1 w.2).0 w.3 in
      p.some_used.1 (there_is_counted p.items told.told told.among (use_told told.told.item w.1 w.2 told.tells)),
)

-- so much is found of a scenario without fault
pub stale_so : (text : List ℕ) (plan : RunPlan) (lines : List ℕ) (used : Bool) → run_scenario_of text ≡ Ok plan → Prints (setup_of plan.config) plan.events lines used
    → IsFound stale text lines (finding_by_use used)
stale_so text plan lines true is p = rw is (refl, (true, p), (used_so (setup_of plan.config) plan.events lines true p).0 refl)
stale_so text plan lines false is p = rw is (refl, (false, p), λ uses. true≢false (sym ((used_so (setup_of plan.config) plan.events lines false p).1 uses)))
