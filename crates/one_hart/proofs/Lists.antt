-- Calls in order, one after the other.
use Rattle.std.proofs.Common.{◌≡◌, ℕ, ◌+◌, ◌≤◌, List, [], ◌∷◌, ◌++◌, length, drop, refl, ap, sym, subst, ◌∙◌, append_assoc, append-nil}
use Rattle.std.proofs.lemmas.List.{drop_all}
use Rattle.history.specs.Setup.{Setup}
use Rattle.history.specs.Turns.{History}
use Rattle.history.specs.declared.reply.Reply.{Reply}
use Rattle.one_hart.specs.declared.call.Call.{Call}
use Rattle.one_hart.specs.Answering.{heard}
use Rattle.one_hart.specs.Asked.{answers_due, asked, history_due}

-- the first i calls were made: what is left to answer follows what was answered
pub record SoFar (setup : Setup) (history : History) (calls : List Call) (i : ℕ) (answers : List Reply) (At : History → Type 0) : Type 0 where
  pub now : History
  pub at : At now
  pub told : answers ++ answers_due setup now (drop i calls) ≡ answers_due setup history calls
  pub left : history_due setup now (drop i calls) ≡ history_due setup history calls

pub begun : (setup : Setup) (history : History) (calls : List Call) (answers : List Reply) (At : History → Type 0) → answers ≡ [] → At history → SoFar setup history calls 0 answers At
begun setup history calls answers At none at = record { now = history; at = at; told = ap (λ (xs : List Reply). xs ++ answers_due setup history calls) none; left = refl }

module _ (setup : Setup) (history : History) (calls : List Call) (i : ℕ) (answers : List Reply) (At After : History → Type 0) (so : SoFar setup history calls i answers At) where
  pub one-more : (call : Call) (answer : Reply) (longer : List Reply) → drop i calls ≡ call ∷ drop (i + 1) calls → longer ≡ answers ++ answer ∷ []
      → ((G : History) → At G → (answer ≡ heard (asked setup call G).reply) × After (asked setup call G).history) → SoFar setup history calls (i + 1) longer After
  one-more call answer longer next is does =
      let done = does so.now so.at in
      let later = (asked setup call so.now).history in
      record {
        now = later;
        at = done.1;
        told =
            ap (λ (xs : List Reply). xs ++ answers_due setup later (drop (i + 1) calls)) is
            ∙ append_assoc answers (answer ∷ []) (answers_due setup later (drop (i + 1) calls))
            ∙ ap (λ (x : Reply). answers ++ x ∷ answers_due setup later (drop (i + 1) calls)) done.0
            ∙ ap (λ (xs : List Call). answers ++ answers_due setup so.now xs) (sym next)
            ∙ so.told;
        left = ap (history_due setup so.now) (sym next) ∙ so.left;
      }

  pub all-made : length calls ≤ i → (answers ≡ answers_due setup history calls) × At (history_due setup history calls)
  all-made past =
      let none : drop i calls ≡ [] = drop_all i calls past in (
        sym (append-nil answers) ∙ ap (λ (xs : List Call). answers ++ answers_due setup so.now xs) (sym none) ∙ so.told,
        subst At (ap (history_due setup so.now) (sym none) ∙ so.left) so.at,
      )
