-- Scripts and setups of which one step more is done, and lists of scripts that are one longer.
use Rattle.std.proofs.Common.{◌≡◌, ◌+◌, ◌<◌, ◌&&◌, ℕ, suc, true, List, [], ◌∷◌, ◌++◌, length, map, drop, get_or, refl, ap, sym, subst, ◌∙◌, append_assoc, append-nil, arith, true≢false}
use Rattle.std.specs.Prelude.{Option, Some, IfSome, Result, Ok, IfOk, slice_get, slice_set}
use Rattle.std.proofs.lemmas.List.{at_drop_more, drop_more, map-append}
use Rattle.history.specs.declared.live_step.LiveStep.{LiveStep}
use Rattle.board.specs.Ports.{PortState}
use Rattle.harts.specs.declared.live_reply.LiveReply.{LiveReply}
use Rattle.harts.specs.declared.live_reply.LiveReply.TheVariants.{Translated, Replied, Halted, Timeout}
use Rattle.harts.specs.Performs.{Performs, Serves, ServesBelow, TakesTurn, TakesTurns, is_waiting}
use Rattle.harts.specs.Plays.{HasPlayed, HavePlayed, LiveRun, Plays, SetsUp, Start, next_number}
use Rattle.harts.specs.Scripts.{is_answered, may_answer}

-- a step that was made, and then the rest
plays_one : (run : LiveRun) (hart number : ℕ) (step : LiveStep) (steps : List LiveStep) (port next : PortState) (reply : LiveReply) (replies : List LiveReply) (last : PortState)
    → may_answer step reply ≡ true → run.gate.may_pass hart (next_number number) → run.gate.was_told hart (next_number number) → Performs run.harts run.turns step port next reply
    → Plays run hart (next_number number) steps next replies last → Plays run hart number (step ∷ steps) port (reply ∷ replies) last
unfolding Plays
plays_one run hart number step steps port next (Translated pa) replies last made pass told does rest = (pass, told, (next, does, rest))
plays_one run hart number step steps port next (Replied reply) replies last made pass told does rest = (pass, told, (next, does, rest))
plays_one run hart number step steps port next Timeout replies last made pass told does rest = (pass, told, (next, does, rest))
plays_one run hart number step steps port next Halted replies last made pass told does rest = absurd (true≢false (sym made))

-- what is played from the step of an index on, where the gate let the step pass
pub plays_more : (run : LiveRun) (hart number number' : ℕ) (script : List LiveStep) (i : ℕ) (d : LiveStep) (port next : PortState) (answers answers' : List LiveReply) (reply : LiveReply) (all : List LiveReply → PortState → Type 0)
    → number' ≡ next_number number → answers' ≡ answers ++ reply ∷ [] → i < length script → may_answer (get_or script i d) reply ≡ true
    → run.gate.may_pass hart number' → run.gate.was_told hart number' → Performs run.harts run.turns (get_or script i d) port next reply
    → ((more : List LiveReply) (last : PortState) → Plays run hart number (drop i script) port more last → all (answers ++ more) last)
    → (more : List LiveReply) (last : PortState) → Plays run hart number' (drop (i + 1) script) next more last → all (answers' ++ more) last
plays_more run hart number number' script i d port next answers answers' reply all counted new less made pass told does was more last rest =
    subst (λ w. all w last) (sym (ap (λ w. w ++ more) new ∙ append_assoc answers (reply ∷ []) more))
    (was (reply ∷ more) last (subst (λ w. Plays run hart number w port (reply ∷ more) last) (sym (drop_more script i d less))
    (plays_one run hart number (get_or script i d) (drop (i + 1) script) port next reply more last made
    (subst (λ n. run.gate.may_pass hart n) counted pass) (subst (λ n. run.gate.was_told hart n) counted told) does
    (subst (λ n. Plays run hart n (drop (i + 1) script) next more last) counted rest))))

-- the gate halts the script before the step of an index
pub plays_halted : (run : LiveRun) (hart number number' : ℕ) (script : List LiveStep) (i : ℕ) (d : LiveStep) (port : PortState) (answers answers' : List LiveReply) (all : List LiveReply → PortState → Type 0)
    → number' ≡ next_number number → answers' ≡ answers ++ Halted ∷ [] → i < length script → run.gate.may_halt hart number'
    → ((more : List LiveReply) (last : PortState) → Plays run hart number (drop i script) port more last → all (answers ++ more) last)
    → all answers' port
unfolding Plays
plays_halted run hart number number' script i d port answers answers' all counted new less halt was =
    subst (λ w. all w port) (sym new)
    (was (Halted ∷ []) port (subst (λ w. Plays run hart number w port (Halted ∷ []) port) (sym (drop_more script i d less)) (subst (λ n. run.gate.may_halt hart n) counted halt, refl)))

-- all steps are played
pub plays_ended : (run : LiveRun) (hart number : ℕ) (left : List LiveStep) (port : PortState) (answers : List LiveReply) (all : List LiveReply → PortState → Type 0)
    → left ≡ [] → ((more : List LiveReply) (last : PortState) → Plays run hart number left port more last → all (answers ++ more) last) → all answers port
unfolding Plays
plays_ended run hart number left port answers all none was =
    subst (λ w. all w port) (append-nil answers) (was [] port (subst (λ w. Plays run hart number w port [] port) (sym none) refl))

-- the replies of one hart more tell of its script, which is the first that is left
pub played_more : {H V : Type 0} (run : LiveRun) (start : H → Start) (replies : V → List LiveReply) (starts : List Start) (vs vs' : List V) (v : V) (hs rest : List H) (h : H)
    → vs' ≡ vs ++ v ∷ [] → hs ≡ h ∷ rest → HasPlayed run (start h) (replies v)
    → ((more : List (List LiveReply)) → HavePlayed run (map start hs) more → HavePlayed run starts (map replies vs ++ more))
    → (more : List (List LiveReply)) → HavePlayed run (map start rest) more → HavePlayed run starts (map replies vs' ++ more)
unfolding HavePlayed
played_more run start replies starts vs vs' v hs rest h new first is was more left =
    subst (HavePlayed run starts) (sym (ap (λ w. map replies w ++ more) new ∙ ap (λ w. w ++ more) (map-append replies vs (v ∷ [])) ∙ append_assoc (map replies vs) (replies v ∷ []) more))
    (was (replies v ∷ more) (subst (λ w. HavePlayed run (map start w) (replies v ∷ more)) (sym first) (is, left)))

-- all harts have played
pub played_all : {H V : Type 0} (run : LiveRun) (start : H → Start) (replies : V → List LiveReply) (starts : List Start) (vs : List V) (hs : List H)
    → hs ≡ [] → ((more : List (List LiveReply)) → HavePlayed run (map start hs) more → HavePlayed run starts (map replies vs ++ more)) → HavePlayed run starts (map replies vs)
unfolding HavePlayed
played_all run start replies starts vs hs none was =
    subst (HavePlayed run starts) (append-nil (map replies vs)) (was [] (subst (λ w. HavePlayed run (map start w) []) (sym none) tt))

-- one step of setup more was made
pub sets_up_more : (harts turns : ℕ) (setup : List (ℕ × LiveStep)) (i : ℕ) (item : ℕ × LiveStep) (ports ports' : List PortState) (answers answers' : List LiveReply) (reply : LiveReply) (all : List LiveReply → List PortState → Type 0)
    → item ≡ get_or setup i item → answers' ≡ answers ++ reply ∷ [] → i < length setup
    → ((port : PortState) × (next : PortState) × (slice_get ports item.0 ≡ Some port) × (ports' ≡ slice_set ports item.0 next) × Performs harts turns item.1 port next reply)
    → ((more : List LiveReply) (last : List PortState) → SetsUp harts turns ports (drop i setup) more last → all (answers ++ more) last)
    → (more : List LiveReply) (last : List PortState) → SetsUp harts turns ports' (drop (i + 1) setup) more last → all (answers' ++ more) last
unfolding SetsUp
sets_up_more harts turns setup i item ports ports' answers answers' reply all is new less (port, next, here, set, does) was more last rest =
    subst (λ w. all w last) (sym (ap (λ w. w ++ more) new ∙ append_assoc answers (reply ∷ []) more))
    (was (reply ∷ more) last (subst (λ w. SetsUp harts turns ports w (reply ∷ more) last) (sym (drop_more setup i item less))
    (subst (λ w. SetsUp harts turns ports (w ∷ drop (i + 1) setup) (reply ∷ more) last) is
    (port, next, here, does, subst (λ w. SetsUp harts turns w (drop (i + 1) setup) more last) set rest))))

-- all steps of setup were made
pub set_up_ended : (harts turns : ℕ) (left : List (ℕ × LiveStep)) (ports : List PortState) (answers : List LiveReply) (all : List LiveReply → List PortState → Type 0)
    → left ≡ [] → ((more : List LiveReply) (last : List PortState) → SetsUp harts turns ports left more last → all (answers ++ more) last) → all answers ports
unfolding SetsUp
set_up_ended harts turns left ports answers all none was =
    subst (λ w. all w ports) (append-nil answers) (was [] ports (subst (λ w. SetsUp harts turns ports w [] ports) (sym none) refl))

-- a reply more answers the first step that is left
pub answered_one : (step : LiveStep) (steps : List LiveStep) (reply : LiveReply) (more : List LiveReply) → may_answer step reply ≡ true → is_answered (step ∷ steps) (reply ∷ more) ≡ is_answered steps more
answered_one step steps (Translated pa) more made = refl
answered_one step steps (Replied reply) more made = refl
answered_one step steps Timeout more made = ap (λ b. b && is_answered steps more) made
answered_one step steps Halted more made = absurd (true≢false (sym made))

-- the reply of a step of an index
pub answered_step : (script : List LiveStep) (i : ℕ) (d : LiveStep) (answers answers' : List LiveReply) (reply : LiveReply)
    → answers' ≡ answers ++ reply ∷ [] → i < length script → may_answer (get_or script i d) reply ≡ true
    → ((more : List LiveReply) → is_answered script (answers ++ more) ≡ is_answered (drop i script) more)
    → (more : List LiveReply) → is_answered script (answers' ++ more) ≡ is_answered (drop (i + 1) script) more
answered_step script i d answers answers' reply new less made was more =
    ap (λ w. is_answered script (w ++ more)) new ∙ ap (is_answered script) (append_assoc answers (reply ∷ []) more) ∙ was (reply ∷ more)
    ∙ at_drop_more (λ left. is_answered left (reply ∷ more)) script i d less ∙ answered_one (get_or script i d) (drop (i + 1) script) reply more made

-- one hart more was served, and one turn more taken
pub serves_more : (from : ℕ) (port before after : PortState) (reply : LiveReply) → ServesBelow from port before → Serves from before after reply → ServesBelow (from + 1) port after
unfolding ServesBelow
serves_more from port before after reply was serves =
    let next : suc from ≡ from + 1 = omega arith in subst (λ n. ServesBelow n port after) next (before, was, (reply, serves))

pub turns_more : (harts ticket turns : ℕ) (port before after : PortState) (reply : LiveReply) → TakesTurns harts ticket turns port before → TakesTurn harts ticket before after reply → is_waiting reply ≡ true → TakesTurns harts ticket (turns + 1) port after
unfolding TakesTurns
turns_more harts ticket turns port before after reply was turn waiting =
    let next : suc turns ≡ turns + 1 = omega arith in subst (λ n. TakesTurns harts ticket n port after) next (before, was, (reply, turn, waiting))

-- what holds of a value that is there
pub if_there : {X : Type 0} (P : X → Type 0) (found : Option X) (x : X) → found ≡ Some x → IfSome found P → P x
if_there P found x is holds = subst (λ o. IfSome o P) is holds

pub if_ok : {X E : Type 0} (P : X → Type 0) (found : Result X E) (x : X) → found ≡ Ok x → IfOk found P → P x
if_ok P found x is holds = subst (λ r. IfOk r P) is holds

-- all are named, where none is left
pub names_all : {X Y A : Type 0} (f : X → A) (g : Y → A) (xs : List X) (left first ys : List Y) → left ≡ [] → first ≡ ys → map f xs ++ map g left ≡ map g first → map f xs ≡ map g ys
names_all f g xs left first ys none same was = sym (append-nil (map f xs)) ∙ sym (ap (λ w. map f xs ++ map g w) none) ∙ was ∙ ap (map g) same
