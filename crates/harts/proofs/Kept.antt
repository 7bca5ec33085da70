-- A kept history that is one turn longer.
use Rattle.std.proofs.Common.{◌≡◌, List, [], ◌∷◌, ◌++◌, refl}
use Rattle.history.specs.declared.event.Event.{Event}
use Rattle.history.specs.declared.reply.Reply.{Reply}
use Rattle.history.specs.Turns.{History}
use Rattle.history.specs.Runs.{with_turn}
use Rattle.harts.specs.Books.{kept_on}

pub kept_more : (turns : List (Event × Reply)) (event : Event) (reply : Reply) (H : History)
    → kept_on (turns ++ (event, reply) ∷ []) H ≡ with_turn event reply (kept_on turns H)
kept_more [] event reply H = refl
kept_more (turn ∷ turns) event reply H = kept_more turns event reply (with_turn turn.0 turn.1 H)
