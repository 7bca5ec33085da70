use Rattle.std.proofs.Common.{rules, ℕ, ◌≡◌, ◌∙◌, ◌<◌, ◌^◌, ◌==◌, length, Option, true, sym, subst}
use Rattle.std.specs.Prelude.{IfSome}
use Rattle.std.proofs.lemmas.Bool.{false≢true}
use Rattle.std.proofs.lemmas.Iterator.Consumers.{YieldsList-from_enumerate, YieldsList-turn}
use Rattle.std.proofs.lemmas.Iterator.Splits.{YieldsList-from_slice_split}
use borrow.Author.Tests.{tests}
use Rattle.checks.specs.declared.places.Place.{Place}
use Rattle.checks.specs.Places.{begins_with, lines_of, IsKeyLine}
use Rattle.checks.proofs.KeyLines.{after_one, key_line, turn}
use Rattle.checks.proofs.places.Place.find.Goals.{then-matches+then-scan-eq0+then-is_ours, then-is_none, else-is_none, then-matches+then-scan-eq0+else-is_ours, else-matches}
use Rattle.checks.proofs.places.Place.find.Goals as goal

pub returns-in_err-scan : goal.returns-in_err-scan
returns-in_err-scan c = λ none.
    let text = c.args.text.now in
    let key = c.args.key.now in
    let road = YieldsList-turn (YieldsList-from_enumerate (YieldsList-from_slice_split _ (λ b. b == 10) text (cc) (cc) (cc) (λ x b q k. search (rules, tests))) (cc)) c.loop-index.yielded _ c.loop-index.yielded_by _ _ (c.in-Some.index, c.in-Some.bytes) c.in-Some.is c.next.ensures.steps in
    let at = turn (lines_of text) (length c.loop-index.yielded) c.in-Some.index c.in-Some.bytes.now road in
    let room : length text < 2 ^ 63 = search rules in
    let after = after_one text c.in-Some.index c.saturating_add-line.result at.0 room c.saturating_add-line.ensures in
    subst (λ (o : Option ℕ). IfSome o (λ number. IsKeyLine text key number)) (sym c.scan_line.ensures)
    (elim c.if-matches.branch [
      | then-matches+then-scan-eq0+then-is_ours w ↦
          subst (λ (p : Place). IfSome p.line (λ number. IsKeyLine text key number)) (sym w.self-is)
          (elim w.if-is_none.branch [
            | then-is_none v ↦ (let begins : begins_with key c.in-Some.bytes.now ≡ true = sym v.begins_with-is_ours.ensures ∙ sym v.is_ours-is ∙ w.if-is_ours.true in
                key_line text key c.in-Some.index c.saturating_add-line.result c.in-Some.bytes.now at.0 at.1 after begins)
            | else-is_none v ↦ absurd (false≢true (sym v.if-is_none.false ∙ sym v.is_ours-is ∙ w.if-is_ours.true))
          ])
      | then-matches+then-scan-eq0+else-is_ours w ↦ subst (λ (p : Place). IfSome p.line (λ number. IsKeyLine text key number)) (sym w.self-is) (c.loop-index.invariant none)
      | else-matches w ↦ subst (λ (p : Place). IfSome p.line (λ number. IsKeyLine text key number)) (sym w.self-is) (c.loop-index.invariant none)
    ])

pub loop-index-preserved : goal.loop-index-preserved
loop-index-preserved c = λ none.
    let text = c.args.text.now in
    let key = c.args.key.now in
    let road = YieldsList-turn (YieldsList-from_enumerate (YieldsList-from_slice_split _ (λ b. b == 10) text (cc) (cc) (cc) (λ x b q k. search (rules, tests))) (cc)) c.loop-index.yielded _ c.loop-index.yielded_by _ _ (c.in-Some.index, c.in-Some.bytes) c.in-Some.is c.next.ensures.steps in
    let at = turn (lines_of text) (length c.loop-index.yielded) c.in-Some.index c.in-Some.bytes.now road in
    let room : length text < 2 ^ 63 = search rules in
    let after = after_one text c.in-Some.index c.saturating_add-line.result at.0 room c.saturating_add-line.ensures in
    subst (λ (o : Option ℕ). IfSome o (λ number. IsKeyLine text key number)) (sym c.scan_line.ensures)
    (elim c.if-matches.branch [
      | then-matches+then-scan-eq0+then-is_ours w ↦
          subst (λ (p : Place). IfSome p.line (λ number. IsKeyLine text key number)) (sym w.self-is)
          (elim w.if-is_none.branch [
            | then-is_none v ↦ (let begins : begins_with key c.in-Some.bytes.now ≡ true = sym v.begins_with-is_ours.ensures ∙ sym v.is_ours-is ∙ w.if-is_ours.true in
                key_line text key c.in-Some.index c.saturating_add-line.result c.in-Some.bytes.now at.0 at.1 after begins)
            | else-is_none v ↦ absurd (false≢true (sym v.if-is_none.false ∙ sym v.is_ours-is ∙ w.if-is_ours.true))
          ])
      | then-matches+then-scan-eq0+else-is_ours w ↦ subst (λ (p : Place). IfSome p.line (λ number. IsKeyLine text key number)) (sym w.self-is) (c.loop-index.invariant none)
      | else-matches w ↦ subst (λ (p : Place). IfSome p.line (λ number. IsKeyLine text key number)) (sym w.self-is) (c.loop-index.invariant none)
    ])
