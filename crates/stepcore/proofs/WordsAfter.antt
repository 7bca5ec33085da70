-- The table words and the holders of spare frames that an event leaves are those of the history.
use Rattle.std.proofs.Common.{◌≡◌, ℕ, Option, ap, ◌∙◌}
use Rattle.std.proofs.Math.Path.{fun_ext}
use Rattle.walk.specs.Leads.{Tables}
use Rattle.history.specs.Setup.{Setup}
use Rattle.history.specs.declared.event.Event.{Event}
use Rattle.history.specs.declared.reply.Reply.{Reply}
use Rattle.history.specs.Turns.{History}
use Rattle.history.specs.Tables.{words_of, words_after}
use Rattle.history.specs.Spaces.{holder_of, holder_after}
use Rattle.spaces.specs.Holders.{Holders}
use Rattle.spaces.specs.declared.places.Place.{Place}
use Rattle.history.specs.Runs.{with_turn}
use Rattle.stepcore.specs.State.{State, words_in, holders_in}
use Rattle.stepcore.specs.Changes.{Follows}
use Rattle.stepcore.specs.Stands.{bare, Stands}
use Rattle.stepcore.proofs.HartReplies.{words_same}

module _ (C : Setup) (m new : State) (H : History) (st : Stands C m H) (event : Event) (r : Reply) (follows : Follows m event r new) where
  pub words_stand : (ppn i : ℕ) → words_in new ppn i ≡ words_of C (with_turn event r H) ppn i
  words_stand ppn i =
      follows.words ppn i
      ∙ ap (λ (D : Setup). words_after D event r (words_in m) (holders_in m) ppn i) st.setup
      ∙ ap (λ (words : Tables). words_after (bare C) event r words (holders_in m) ppn i) (words_same C m H st)
      ∙ ap (λ (holders : Holders). words_after (bare C) event r (words_of C H) holders ppn i) (fun_ext (λ p. st.holders p))

  pub holders_stand : (ppn : ℕ) → holders_in new ppn ≡ holder_of (with_turn event r H) ppn
  holders_stand ppn = follows.holders ppn ∙ ap (λ (o : Option Place). holder_after event r ppn o) (st.holders ppn)
