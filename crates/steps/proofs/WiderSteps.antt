-- Sv48 has every page of Sv39, so every step that is written in Sv39 too.
use Rattle.std.proofs.Common.{◌≡◌, ◌≤◌, ℕ, List, [], ◌∷◌, Option, Ok, arith}
use Rattle.pte.specs.declared.scheme.Scheme.TheVariants.{Sv39, Sv48}
use Rattle.pte.specs.Address.{IsPageOf, Span, level_of}
use Rattle.pte.proofs.Schemes.{canonical_widest}
use Rattle.history.specs.declared.event.Event.{Event}
use Rattle.history.specs.declared.live_step.LiveStep.{LiveStep}
use Rattle.steps.specs.declared.parts.Parts.{Parts}
use Rattle.steps.specs.declared.table.Field.{Field}
use Rattle.steps.specs.declared.table.Field.TheVariants as fields
use Rattle.steps.specs.declared.table.StepName.{StepName}
use Rattle.steps.specs.LiveSteps.{live_step_in, setup_step_in}
use Rattle.steps.specs.RunStep.{step_among}
use Rattle.steps.specs.StepGrammar.{Tells, WritesEach, WritesField}
use Rattle.steps.proofs.StepTexts.{live-writes, run-writes, setup-writes, writes-live, writes-run, writes-setup}

wider_page : (page : Span) → IsPageOf Sv39 page → IsPageOf Sv48 page
wider_page page of =
    let level : level_of page.size ≤ 2 = of.level in
    record { level = omega (arith, level); canonical = canonical_widest Sv39 page.base of.canonical; aligned = of.aligned }

wider_field : (harts : ℕ) (field : Field) (word : List ℕ) (p q : Parts) → WritesField Sv39 harts field word p q → WritesField Sv48 harts field word p q
wider_field harts fields.Page word p q (page, (digits, is, number, of), put) = (page, (digits, is, number, wider_page page of), put)
wider_field harts _ word p q w = w

wider_each : (harts : ℕ) (fields : List Field) (words : List (List ℕ)) (p q : Parts) → WritesEach Sv39 harts fields words p q → WritesEach Sv48 harts fields words p q
wider_each harts [] [] p q w = w
wider_each harts [] (word ∷ words) p q w = w
wider_each harts (field ∷ fields) [] p q w = w
wider_each harts (field ∷ fields) (word ∷ words) p q (r, one, more) = (r, wider_field harts field word p r one, wider_each harts fields words r q more)

module _ {X : Type 0} (fields_of : StepName → Option (List Field)) (makes : StepName → Parts → Option X) (harts : ℕ) where
  wider_tells : (words : List (List ℕ)) (p : Parts) (step : X) → Tells fields_of makes Sv39 harts words p step → Tells fields_of makes Sv48 harts words p step
  wider_tells words p step t = record {
    name = t.name;
    row = t.row;
    rest = t.rest;
    parts = t.parts;
    words_are = t.words_are;
    row_is = t.row_is;
    each = wider_each harts t.row t.rest p t.parts t.each;
    makes_step = t.makes_step;
  }

pub wider_step : (harts : ℕ) (text : List ℕ) (event : Event) → step_among Sv39 harts text ≡ Ok event → step_among Sv48 harts text ≡ Ok event
wider_step harts text event found =
    let w = writes-run Sv39 harts text event found in
    run-writes Sv48 harts text event
    (record { hart = w.hart; words = w.words; own = w.own; text_has = w.text_has; number = w.number; tells = wider_tells _ _ harts w.words w.own event w.tells })

pub wider_live_step : (harts : ℕ) (text : List ℕ) (step : LiveStep) → live_step_in Sv39 harts text ≡ Ok step → live_step_in Sv48 harts text ≡ Ok step
wider_live_step harts text step found =
    let w = writes-live Sv39 harts text step found in
    live-writes Sv48 harts text step (record { words = w.words; text_has = w.text_has; tells = wider_tells _ _ harts w.words _ step w.tells })

pub wider_setup_step : (harts : ℕ) (text : List ℕ) (hart : ℕ) (step : LiveStep) → setup_step_in Sv39 harts text ≡ Ok (hart, step) → setup_step_in Sv48 harts text ≡ Ok (hart, step)
wider_setup_step harts text hart step found =
    let w = writes-setup Sv39 harts text hart step found in
    setup-writes Sv48 harts text hart step
    (record { word = w.word; words = w.words; own = w.own; text_has = w.text_has; number = w.number; hart_is = w.hart_is; tells = wider_tells _ _ harts w.words w.own step w.tells })
