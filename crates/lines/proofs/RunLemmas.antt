-- The replies of a run from the opening are those that are due, and a machine that stands there has
-- its spaces.
use Rattle.std.proofs.Common.{◌≡◌, ◌<◌, ◌≤◌, List, [], ◌∷◌, length, refl, ap, ◌∙◌, arith}
use Rattle.std.proofs.lemmas.List.{length-map}
use Rattle.history.specs.declared.event.Event.{Event}
use Rattle.history.specs.declared.reply.Reply.{Reply}
use Rattle.history.specs.Setup.{Setup, setup_of}
use Rattle.history.specs.Turns.{History}
use Rattle.history.specs.Due.{due, Lawful}
use Rattle.history.specs.Runs.{due_replies, with_turn}
use Rattle.spaces.specs.Layout.{layout_of}
use Rattle.spaces.specs.declared.configuration.Config.{Config}
use Rattle.stepcore.specs.Runs.{with_turns}
use Rattle.stepcore.specs.Stands.{bare}
use Rattle.stepcore.specs.State.{State, setup_in}

-- a lawful history of these turns after an older one: the older one is lawful, and the replies were
-- due after it
pub replies_due : (C : Setup) (events : List Event) (replies : List Reply) (H : History) → length replies ≡ length events → Lawful C (with_turns events replies H)
    → Lawful C H × (replies ≡ due_replies C H events)
replies_due C [] [] H same lawful = (lawful, refl)
replies_due C [] (reply ∷ replies) H same lawful = absurd (omega (arith, same))
replies_due C (event ∷ events) [] H same lawful = absurd (omega (arith, same))
replies_due C (event ∷ events) (reply ∷ replies) H same lawful =
    let rest = replies_due C events replies (with_turn event reply H) (omega (arith, same)) lawful in
    let is : reply ≡ due C H event = rest.0.1 in
    (rest.0.0, ap (λ r. r ∷ replies) is ∙ ap (λ rs. due C H event ∷ rs) (rest.1 ∙ ap (λ r. due_replies C (with_turn event r H) events) is))

-- there is a root for each space
pub some_home : (config : Config) (m : State) → setup_in m ≡ bare (setup_of config) → 1 ≤ length config.spaces.items → 0 < length m.memory.layout.homes
some_home config m setup some =
    let same : m.memory.layout ≡ layout_of config = ap (λ (C : Setup). C.layout) setup in
    rw (same, length-map config.spaces.items) some
