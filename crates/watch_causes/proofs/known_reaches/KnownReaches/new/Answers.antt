use Rattle.std.proofs.Common.{rules, ◌≡◌, ◌∙◌, None, sym, subst, ◌≤◌, ℕ, length}
use Rattle.std.proofs.Math.Nat.{min-le_left, min-le_right}
use Rattle.std.specs.BTreeMap.{get}
use Rattle.watch_causes.specs.Findings.{finding_cmp}
use Rattle.watch_causes.proofs.KnownReaching.{none-behind}
use Rattle.watch_causes.proofs.known_reaches.KnownReaches.new.Goals as goal

pub last-init : goal.last-init
last-init c =
    let begun = c.args.begun.now in
    let reaches = c.args.reaches.now in
    record {
      begun = subst (λ (n : ℕ). n ≤ length begun) (sym c.min-at.ensures) (min-le_left (length begun) (length reaches));
      reaches = subst (λ (n : ℕ). n ≤ length reaches) (sym c.min-at.ensures) (min-le_right (length begun) (length reaches));
      are = λ f.
          let none : get finding_cmp c.new-findings.result f ≡ None = search rules in
          none ∙ sym (none-behind begun reaches c.min-at.result f c.min-at.ensures);
    }
