-- Which replies answer the steps of a script.
use Rattle.std.specs.Prelude.{ℕ, zero, suc, ◌≡◌, ◌&&◌, ◌||◌, Bool, true, false, List, [], ◌∷◌, slice_index_or}
use Rattle.history.specs.declared.live_step.LiveStep.{LiveStep}
use Rattle.history.specs.declared.live_step.LiveStep.TheVariants.{Wait}
use Rattle.harts.specs.declared.live_reply.LiveReply.{LiveReply}
use Rattle.harts.specs.declared.live_reply.LiveReply.TheVariants.{Translated, Replied, Halted, Timeout}

-- the step waits for a ticket
abbrev pub is_wait : LiveStep → Bool
is_wait (Wait ticket) = true
is_wait _ = false

-- the reply is one to a step that was made, where only a wait runs out of turns
abbrev pub may_answer : LiveStep → LiveReply → Bool
may_answer step (Translated pa) = true
may_answer step (Replied reply) = true
may_answer step Halted = false
may_answer step Timeout = is_wait step

-- each step was made and has its reply, in order
abbrev pub are_made : List LiveStep → List LiveReply → Bool
are_made [] [] = true
are_made [] (reply ∷ replies) = false
are_made (step ∷ steps) [] = false
are_made (step ∷ steps) (reply ∷ replies) = may_answer step reply && are_made steps replies

-- the script was ended before the step, and nothing follows
abbrev pub is_last : LiveReply → List LiveReply → Bool
is_last Halted [] = true
is_last _ _ = false

-- each step has its reply in turn, up to the end of the script, or to the one step that is answered
-- `Halted`
abbrev pub is_answered : List LiveStep → List LiveReply → Bool
is_answered [] [] = true
is_answered [] (reply ∷ replies) = false
is_answered (step ∷ steps) [] = false
is_answered (step ∷ steps) (reply ∷ replies) =
    is_last reply replies || (may_answer step reply && is_answered steps replies)

abbrev pub IsAnswered : List LiveStep → List LiveReply → Type 0
IsAnswered steps replies = is_answered steps replies ≡ true

-- the lists of replies answer the scripts, one each, in order
abbrev pub are_answered : List (List LiveStep) → List (List LiveReply) → Bool
are_answered [] [] = true
are_answered [] (replies ∷ rest) = false
are_answered (steps ∷ scripts) [] = false
are_answered (steps ∷ scripts) (replies ∷ rest) =
    is_answered steps replies && are_answered scripts rest

-- the scripts of this many harts, where those past the last script have none
abbrev pub scripts_of : ℕ → List (List LiveStep) → List (List LiveStep)
scripts_of zero scripts = []
scripts_of (suc harts) [] = [] ∷ scripts_of harts []
scripts_of (suc harts) (steps ∷ scripts) = steps ∷ scripts_of harts scripts

-- each hart has answered its script; one past the last script has none
abbrev pub AreAnswered : List (List LiveStep) → List (List LiveReply) → Type 0
AreAnswered scripts replies =
    (hart : ℕ) → IsAnswered (slice_index_or scripts hart []) (slice_index_or replies hart [])
