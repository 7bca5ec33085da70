-- A history is lawful exactly if each of its replies was due.
use Rattle.std.proofs.Common.{◌≡◌, [], ◌∷◌, ◌++◌, refl, ap, subst}
use Rattle.std.specs.Prelude.{◌↔◌}
use Rattle.history.specs.Setup.{Setup}
use Rattle.history.specs.Turns.{Turn, History}
use Rattle.history.specs.Due.{due, Lawful}
use Rattle.history.specs.Occurrences.{EachIsDue}

module _ (C : Setup) where
  due_at : (later : History) (turn : Turn) (earlier : History) → Lawful C (later ++ turn ∷ earlier) → turn.reply ≡ due C earlier turn.event
  due_at [] turn earlier lawful = lawful.1
  due_at (newer ∷ later) turn earlier lawful = due_at later turn earlier lawful.0

  lawful_by : (H : History) → EachIsDue C H → Lawful C H
  lawful_by [] each = tt
  lawful_by (turn ∷ H) each = (lawful_by H (λ later next earlier e. each (turn ∷ later) next earlier (ap (λ xs. turn ∷ xs) e)), each [] turn H refl)

  pub each_is_due : (H : History) → Lawful C H ↔ EachIsDue C H
  each_is_due H = (λ lawful later turn earlier e. due_at later turn earlier (subst (Lawful C) e lawful), lawful_by H)
