-- What records leave of whether a translation is stale.
use Rattle.std.proofs.Common.{◌≡◌, ℕ, Bool, true, false, ap, sym, ◌∙◌, refl}
use Rattle.std.specs.Prelude.{◌&&◌, ◌||◌, cond, is_some, not}
use Rattle.watch.specs.declared.trace.Verdict.{Verdict}
use Rattle.watch.specs.declared.trace.Verdict.TheVariants.{Free, Reuse, Claimed, Used}
use Rattle.watch_engine.specs.declared.state.Given.{Given}
use Rattle.watch_engine.specs.declared.state.State.{State}
use Rattle.watch_engine.specs.declared.state.State.TheVariants.{Current, Gone, Stale}
use Rattle.watch_engine.specs.Held.{since_after}
use Rattle.watch_engine.specs.State.{alone, given_all, given_too, has_had, is_gone, joint, none_given, rechecked, since_of, was_given}

-- a second recheck, at any time, changes nothing
pub rechecked_again : (mapped : Bool) (now later : ℕ) (s : State) → rechecked mapped later (rechecked mapped now s) ≡ rechecked mapped now s
rechecked_again true now later Current = refl
rechecked_again true now later (Stale given since) = refl
rechecked_again false now later Current = refl
rechecked_again false now later (Stale given since) = refl
rechecked_again mapped now later Gone = refl

-- what the tables have is current, unless it has gone
pub current_again : (n : ℕ) (s : State) → is_gone s ≡ false → rechecked true n s ≡ Current
current_again n Current there = refl
current_again n (Stale given since) there = refl
current_again n Gone there = cc

-- what is stale may be left out where the tables have none of that
pub unless_stale : (mapped : Bool) (n : ℕ) (s : State) → (is_some (since_of s) ≡ true → mapped ≡ false) → cond (is_some (since_of s)) s (rechecked mapped n s) ≡ rechecked mapped n s
unless_stale mapped n Current h = refl
unless_stale mapped n (Stale given since) h = ap (λ m. rechecked m n (Stale given since)) (sym (h refl))
unless_stale mapped n Gone h = refl

-- verdicts
pub nothing_given : (s : State) → given_all none_given s ≡ s
nothing_given Current = refl
nothing_given (Stale given since) = refl
nothing_given Gone = refl

pub never_used : (s : State) → has_had Used s ≡ false
never_used Current = refl
never_used (Stale given since) = refl
never_used Gone = refl

none_alone : (v : Verdict) → alone v false ≡ none_given
none_alone Free = refl
none_alone Reuse = refl
none_alone Claimed = refl
none_alone Used = refl

pub given_if : (v : Verdict) (t : Bool) (s : State) → cond t (given_too v s) s ≡ given_all (alone v t) s
given_if v true s = refl
given_if v false s = sym (ap (λ g. given_all g s) (none_alone v) ∙ nothing_given s)

pub given_again : (v : Verdict) (s : State) → has_had v s ≡ true → given_too v s ≡ s
given_again v Current h = refl
given_again Free (Stale given since) h = λ j. Stale (record given { free = sym h j }) since
given_again Reuse (Stale given since) h = λ j. Stale (record given { reuse = sym h j }) since
given_again Claimed (Stale given since) h = λ j. Stale (record given { claimed = sym h j }) since
given_again Used (Stale given since) h = refl
given_again v Gone h = cc

pub given_since : (more : Given) (s : State) → since_of (given_all more s) ≡ since_of s
given_since more Current = refl
given_since more (Stale given since) = refl
given_since more Gone = refl

had_both : (v : Verdict) (a b : Given) → was_given v (joint a b) ≡ (was_given v a || was_given v b)
had_both Free a b = refl
had_both Reuse a b = refl
had_both Claimed a b = refl
had_both Used a b = refl

had_none : (v : Verdict) → was_given v none_given ≡ false
had_none Free = refl
had_none Reuse = refl
had_none Claimed = refl
had_none Used = refl

-- after a record: by whether the tables have it then, the number of records, and the verdicts given of it
abbrev pub advanced : Bool → ℕ → Given → State → State
advanced mapped n more s = rechecked mapped n (given_all more s)

pub advanced_since : (mapped : Bool) (n : ℕ) (more : Given) (s : State) → is_gone s ≡ false → since_of (advanced mapped n more s) ≡ since_after (not mapped) n (since_of s)
advanced_since true n more Current there = refl
advanced_since true n more (Stale given since) there = refl
advanced_since false n more Current there = refl
advanced_since false n more (Stale given since) there = refl
advanced_since mapped n more Gone there = cc

-- only what was stale has had any
pub advanced_given : (v : Verdict) (mapped : Bool) (n : ℕ) (more : Given) (s : State) → (is_some (since_of s) ≡ false → was_given v more ≡ false)
    → has_had v (advanced mapped n more s) ≡ (not mapped && (was_given v more || has_had v s))
advanced_given v true n more Current fresh = refl
advanced_given v true n more (Stale given since) fresh = refl
advanced_given v true n more Gone fresh = refl
advanced_given v false n more Current fresh = had_none v ∙ sym (ap (λ b. b || false) (fresh refl))
advanced_given v false n more (Stale given since) fresh = had_both v more given
advanced_given v false n more Gone fresh = sym (ap (λ b. b || false) (fresh refl))

-- where it is stale after the record exactly if it was before, the tables change nothing
pub advanced_quiet : (mapped : Bool) (n : ℕ) (more : Given) (s : State) → is_some (since_of s) ≡ not mapped → advanced mapped n more s ≡ given_all more s
advanced_quiet true n more Current h = refl
advanced_quiet true n more (Stale given since) h = cc
advanced_quiet false n more Current h = cc
advanced_quiet false n more (Stale given since) h = refl
advanced_quiet mapped n more Gone h = refl

-- none goes by a change of its state, and none comes back
pub recheck_stays : (mapped : Bool) (n : ℕ) (s : State) → is_gone (rechecked mapped n s) ≡ is_gone s
recheck_stays true n Current = refl
recheck_stays false n Current = refl
recheck_stays true n (Stale given since) = refl
recheck_stays false n (Stale given since) = refl
recheck_stays mapped n Gone = refl

given_stays : (more : Given) (s : State) → is_gone (given_all more s) ≡ is_gone s
given_stays more Current = refl
given_stays more (Stale given since) = refl
given_stays more Gone = refl

pub advanced_stays : (mapped : Bool) (n : ℕ) (more : Given) (s : State) → is_gone (advanced mapped n more s) ≡ is_gone s
advanced_stays mapped n more s = recheck_stays mapped n (given_all more s) ∙ given_stays more s

pub touched_stays : (touched mapped : Bool) (n : ℕ) (s : State) → is_gone (cond touched (rechecked mapped n s) s) ≡ is_gone s
touched_stays true mapped n s = recheck_stays mapped n s
touched_stays false mapped n s = refl
