-- What the definitions of a live run say of worked scripts and waits.
use Rattle.std.proofs.Common.{◌≡◌, ◌≢◌, ℕ, zero, suc, Bool, true, false, List, [], ◌∷◌, refl, ap, sym, subst, ◌∙◌, inl, inr, arith, true≢false}
use Rattle.std.specs.Prelude.{All, Result, Ok, Err}
use Rattle.shoot.specs.declared.tickets.Collected.{Collected}
use Rattle.shoot.specs.declared.tickets.Collected.TheVariants as collected
use Rattle.history.specs.declared.refusal.Refusal.{Refusal}
use Rattle.board.specs.Ports.{PortState}
use Rattle.harts.specs.declared.live_reply.LiveReply.{LiveReply}
use Rattle.harts.specs.declared.live_reply.LiveReply.TheVariants.{Translated, Replied, Halted, Timeout}
use Rattle.harts.specs.Performs.{Performs, TakesTurn, TakesTurns, Waits, collection_reply, is_waiting}
use Rattle.harts.specs.Plays.{OpenGateHaltsNone, Plays, WorkedScript, WorkedWaits, next_number}

abbrev is_halted : LiveReply → Bool
is_halted Halted = true
is_halted (Translated pa) = false
is_halted (Replied reply) = false
is_halted Timeout = false

abbrev is_replied : LiveReply → Bool
is_replied Halted = false
is_replied (Translated pa) = false
is_replied (Replied reply) = true
is_replied Timeout = false

not_halted : (reply : LiveReply) → is_halted reply ≡ false → reply ≢ Halted
not_halted reply is same = true≢false (sym (ap is_halted same) ∙ is)

-- one step that was made, and the rest
all_first : (reply : LiveReply) (replies : List LiveReply) → reply ≢ Halted → All (λ r. r ≢ Halted) replies → All (λ r. r ≢ Halted) (reply ∷ replies)
all_first reply replies first all zero d less = first
all_first reply replies first all (suc k) d less = all k d (omega (arith, less))

pub open_gate_halts_none : OpenGateHaltsNone
unfolding Plays
open_gate_halts_none harts turns hart number [] port after [] plays = (refl, λ k d less. absurd (omega (arith, less)))
open_gate_halts_none harts turns hart number [] port after (first ∷ replies) plays = absurd plays
open_gate_halts_none harts turns hart number (step ∷ steps) port after [] plays = absurd plays
open_gate_halts_none harts turns hart number (step ∷ steps) port after (Halted ∷ []) plays = absurd plays.0
open_gate_halts_none harts turns hart number (step ∷ steps) port after (Halted ∷ second ∷ replies) plays = absurd plays
open_gate_halts_none harts turns hart number (step ∷ steps) port after (Translated pa ∷ replies) (pass, told, (next, does, rest)) =
    let more = open_gate_halts_none harts turns hart (next_number number) steps next after replies rest in
    (ap suc more.0, all_first (Translated pa) replies (not_halted (Translated pa) refl) more.1)
open_gate_halts_none harts turns hart number (step ∷ steps) port after (Replied answer ∷ replies) (pass, told, (next, does, rest)) =
    let more = open_gate_halts_none harts turns hart (next_number number) steps next after replies rest in
    (ap suc more.0, all_first (Replied answer) replies (not_halted (Replied answer) refl) more.1)
open_gate_halts_none harts turns hart number (step ∷ steps) port after (Timeout ∷ replies) (pass, told, (next, does, rest)) =
    let more = open_gate_halts_none harts turns hart (next_number number) steps next after replies rest in
    (ap suc more.0, all_first Timeout replies (not_halted Timeout refl) more.1)

pub worked_script : WorkedScript
unfolding Plays Performs
worked_script port after [] plays = absurd plays
worked_script port after (Halted ∷ []) plays = absurd (omega (arith, plays.0))
worked_script port after (Halted ∷ second ∷ replies) plays = absurd plays
worked_script port after (Translated pa ∷ replies) (pass, told, (next, does, rest)) = absurd (true≢false (sym (ap is_replied does.0)))
worked_script port after (Timeout ∷ replies) (pass, told, (next, does, rest)) = absurd (true≢false (sym (ap is_replied does.0)))
worked_script port after (Replied answer ∷ []) (pass, told, (next, does, rest)) = absurd rest
worked_script port after (Replied answer ∷ Halted ∷ []) (pass, told, (next, does, (halt, same))) = (ap (λ w. w ∷ Halted ∷ []) does.0, same ∙ does.1)
worked_script port after (Replied answer ∷ Halted ∷ third ∷ replies) (pass, told, (next, does, rest)) = absurd rest
worked_script port after (Replied answer ∷ Translated pa ∷ replies) (pass, told, (next, does, (passed, told', rest))) = absurd (omega (arith, passed))
worked_script port after (Replied answer ∷ Timeout ∷ replies) (pass, told, (next, does, (passed, told', rest))) = absurd (omega (arith, passed))
worked_script port after (Replied answer ∷ Replied again ∷ replies) (pass, told, (next, does, (passed, told', rest))) = absurd (omega (arith, passed))

abbrev is_timeout : LiveReply → Bool
is_timeout Timeout = true
is_timeout (Translated pa) = false
is_timeout (Replied reply) = false
is_timeout Halted = false

collection_is_no_timeout : (answer : Result Collected Refusal) → is_timeout (collection_reply answer) ≡ false
collection_is_no_timeout (Ok collected.Done) = refl
collection_is_no_timeout (Ok (collected.Waiting harts)) = refl
collection_is_no_timeout (Err refusal) = refl

no_turns : (port after : PortState) (harts ticket : ℕ) (reply : LiveReply) → Waits harts 0 ticket port after reply → (reply ≡ Timeout) × (after ≡ port)
unfolding TakesTurns
no_turns port after harts ticket reply (inl ends) = absurd (omega (arith, ends.few))
no_turns port after harts ticket reply (inr timeout) = timeout

one_turn : (port after : PortState) (harts ticket : ℕ) (reply : LiveReply) → Waits harts 1 ticket port after reply → reply ≡ Timeout
    → (found : LiveReply) × TakesTurn harts ticket port after found × (is_waiting found ≡ true)
unfolding TakesTurns
one_turn port after harts ticket reply (inl ends) late =
    absurd (true≢false (ap is_timeout (sym late ∙ ends.last.2.is) ∙ collection_is_no_timeout ends.last.2.answer))
one_turn port after harts ticket reply (inr (timeout, (before, none, (found, turn, waiting)))) late =
    (found, subst (λ p. TakesTurn harts ticket p after found) none turn, waiting)

pub worked_waits : WorkedWaits
worked_waits port after harts ticket reply = (no_turns port after harts ticket reply, one_turn port after harts ticket reply)
