-- Texts by the count of their words.
use Rattle.std.proofs.Common.{◌≡◌, ◌≢◌, ℕ, List, [], ◌∷◌, length, Bor, None, refl}
use Rattle.steps.proofs.StepLemmas.{texts}
use Rattle.files.specs.Keys.{one_word}
use Rattle.files.specs.Settings.{space_of_words}

pub not_one : (ws : List (Bor (List ℕ))) → length ws ≢ 1 → None ≡ one_word (texts ws)
not_one [] h = refl
not_one (a ∷ []) h = absurd (h refl)
not_one (a ∷ b ∷ ws) h = refl

pub not_two : (ws : List (Bor (List ℕ))) → length ws ≢ 2 → None ≡ space_of_words (texts ws)
not_two [] h = refl
not_two (a ∷ []) h = refl
not_two (a ∷ b ∷ []) h = absurd (h refl)
not_two (a ∷ b ∷ c ∷ ws) h = refl
