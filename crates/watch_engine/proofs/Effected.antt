-- What effects make of states.
use Rattle.std.proofs.Common.{◌≡◌, ℕ, Bool, true, false, Some, None, sym, refl}
use Rattle.std.specs.Prelude.{◌&&◌, cond, is_some, not}
use Rattle.watch.specs.declared.trace.Verdict.{Verdict}
use Rattle.watch.specs.declared.trace.Verdict.TheVariants.{Free, Reuse, Claimed, Used}
use Rattle.watch_engine.specs.declared.state.Given.{Given}
use Rattle.watch_engine.specs.declared.state.State.{State}
use Rattle.watch_engine.specs.declared.state.State.TheVariants.{Current, Gone, Stale}
use Rattle.watch_engine.specs.Effects.{or_same}
use Rattle.watch_engine.specs.State.{given_of, given_too, is_gone, is_once, rechecked, since_of, stale_of, was_given}
use Rattle.watch_engine.proofs.Rechecks.{given_again}

-- of a new root
pub found_state : (b : Bool) (s : State) → cond (is_gone s) s (or_same (cond (is_some (since_of s) && b) (Some Current) None) s) ≡ cond (is_some (since_of s) && b) Current s
found_state b Current = refl
found_state true (Stale given since) = refl
found_state false (Stale given since) = refl
found_state b Gone = refl

pub found_stays : (b : Bool) (s : State) → is_gone (cond (is_some (since_of s) && b) Current s) ≡ is_gone s
found_stays b Current = refl
found_stays true (Stale given since) = refl
found_stays false (Stale given since) = refl
found_stays b Gone = refl

-- of frames
pub stale_state : (mapped : Bool) (n : ℕ) (s : State) → cond (is_gone s) s (or_same (stale_of mapped n s) s) ≡ cond (is_some (since_of s)) s (rechecked mapped n s)
stale_state true n Current = refl
stale_state false n Current = refl
stale_state mapped n (Stale given since) = refl
stale_state mapped n Gone = refl

pub stale_stays : (mapped : Bool) (n : ℕ) (s : State) → is_gone (cond (is_some (since_of s)) s (rechecked mapped n s)) ≡ is_gone s
stale_stays true n Current = refl
stale_stays false n Current = refl
stale_stays mapped n (Stale given since) = refl
stale_stays mapped n Gone = refl

-- of a verdict
given_here : (v : Verdict) (given : Given) (since : ℕ) (had : Bool) → was_given v given ≡ had
    → or_same (cond (is_once v && not had) (Some (given_too v (Stale given since))) None) (Stale given since) ≡ given_too v (Stale given since)
given_here Free given since true h = sym (given_again Free (Stale given since) h)
given_here Free given since false h = refl
given_here Reuse given since true h = sym (given_again Reuse (Stale given since) h)
given_here Reuse given since false h = refl
given_here Claimed given since true h = sym (given_again Claimed (Stale given since) h)
given_here Claimed given since false h = refl
given_here Used given since had h = refl

pub given_made : (v : Verdict) (b : Bool) (s : State) → or_same (cond b (given_of v s) None) s ≡ cond b (given_too v s) s
given_made v false s = refl
given_made v true Current = refl
given_made v true (Stale given since) = given_here v given since (was_given v given) refl
given_made v true Gone = refl

pub given_state : (v : Verdict) (b : Bool) (s : State) → cond (is_gone s) s (or_same (cond b (given_of v s) None) s) ≡ cond b (given_too v s) s
given_state v b Current = given_made v b Current
given_state v b (Stale given since) = given_made v b (Stale given since)
given_state v true Gone = refl
given_state v false Gone = refl

pub given_stays : (v : Verdict) (b : Bool) (s : State) → is_gone (cond b (given_too v s) s) ≡ is_gone s
given_stays v false s = refl
given_stays v true Current = refl
given_stays v true (Stale given since) = refl
given_stays v true Gone = refl

pub given_none : (v : Verdict) (s : State) → given_of v (given_too v s) ≡ None
given_none v Current = refl
given_none Free (Stale given since) = refl
given_none Reuse (Stale given since) = refl
given_none Claimed (Stale given since) = refl
given_none Used (Stale given since) = refl
given_none v Gone = refl
