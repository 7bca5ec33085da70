-- Lists of scripts and of replies that are one element longer.
use Rattle.std.proofs.Common.{◌≡◌, ℕ, zero, suc, ◌+◌, ◌<◌, ◌≤◌, ◌&&◌, Bool, true, false, List, [], ◌∷◌, ◌++◌, length, map, drop, get_or, refl, ap, sym, ◌∙◌, arith, append_assoc, true≢false}
use Rattle.std.proofs.lemmas.List.{at_drop_more, map-append}
use Rattle.history.specs.declared.live_step.LiveStep.{LiveStep}
use Rattle.harts.specs.declared.live_reply.LiveReply.{LiveReply}
use Rattle.harts.specs.Scripts.{are_answered, are_made, may_answer, AreAnswered, IsAnswered, scripts_of}

both : (a b : Bool) → (a && b) ≡ true → (a ≡ true) × (b ≡ true)
both true b is = (refl, is)
both false b is = absurd (true≢false (sym is))

-- the replies of one hart more answer its script, which is the first that is left
pub answered_more : {H V : Type 0} (script : H → List LiveStep) (replies : V → List LiveReply) (scripts : List (List LiveStep)) (vs vs' : List V) (v : V) (hs rest : List H) (h : H)
    → vs' ≡ vs ++ v ∷ [] → hs ≡ h ∷ rest → IsAnswered (script h) (replies v)
    → ((more : List (List LiveReply)) → are_answered scripts (map replies vs ++ more) ≡ are_answered (map script hs) more)
    → (more : List (List LiveReply)) → are_answered scripts (map replies vs' ++ more) ≡ are_answered (map script rest) more
answered_more script replies scripts vs vs' v hs rest h new first is was more =
    ap (λ w. are_answered scripts (map replies w ++ more)) new ∙ ap (λ w. are_answered scripts (w ++ more)) (map-append replies vs (v ∷ []))
    ∙ ap (are_answered scripts) (append_assoc (map replies vs) (replies v ∷ []) more) ∙ was (replies v ∷ more)
    ∙ ap (λ w. are_answered (map script w) (replies v ∷ more)) first ∙ ap (λ b. b && are_answered (map script rest) more) is

-- where the replies answer the scripts of all harts, one each, each hart has answered its own
pub each_answered : (harts : ℕ) (scripts : List (List LiveStep)) (replies : List (List LiveReply)) → length scripts ≤ harts → are_answered (scripts_of harts scripts) replies ≡ true → AreAnswered scripts replies
each_answered zero [] [] few is hart = refl
each_answered zero [] (own ∷ rest) few is hart = absurd (true≢false (sym is))
each_answered zero (steps ∷ scripts) replies few is hart = absurd (omega (arith, few))
each_answered (suc harts) [] [] few is hart = absurd (true≢false (sym is))
each_answered (suc harts) (steps ∷ scripts) [] few is hart = absurd (true≢false (sym is))
each_answered (suc harts) [] (own ∷ rest) few is zero = (both _ _ is).0
each_answered (suc harts) [] (own ∷ rest) few is (suc hart) = each_answered harts [] rest (omega arith) (both _ _ is).1 hart
each_answered (suc harts) (steps ∷ scripts) (own ∷ rest) few is zero = (both _ _ is).0
each_answered (suc harts) (steps ∷ scripts) (own ∷ rest) few is (suc hart) = each_answered harts scripts rest (omega (arith, few)) (both _ _ is).1 hart

-- one step more was made: the first that is left
pub made_more : {X : Type 0} (step : X → LiveStep) (xs : List X) (replies replies' : List LiveReply) (reply : LiveReply) (i : ℕ) (d : X)
    → replies' ≡ replies ++ reply ∷ [] → i < length xs → may_answer (step (get_or xs i d)) reply ≡ true
    → ((more : List LiveReply) → are_made (map step xs) (replies ++ more) ≡ are_made (map step (drop i xs)) more)
    → (more : List LiveReply) → are_made (map step xs) (replies' ++ more) ≡ are_made (map step (drop (i + 1) xs)) more
made_more step xs replies replies' reply i d new less is was more =
    ap (λ w. are_made (map step xs) (w ++ more)) new ∙ ap (are_made (map step xs)) (append_assoc replies (reply ∷ []) more) ∙ was (reply ∷ more)
    ∙ at_drop_more (λ left. are_made (map step left) (reply ∷ more)) xs i d less ∙ ap (λ b. b && are_made (map step (drop (i + 1) xs)) more) is
