-- The walk of an access ends within the levels of its scheme.
use Rattle.std.proofs.Common.{◌≡◌, ◌∙◌, sym, ap, subst, refl, ℕ, suc, ◌+◌, ◌<◌, ◌≤◌, ◌==◌, ◌&&◌, cond, not, Bool, true, false, Result, Ok, Err, arith}
use Rattle.std.specs.Prelude.{nat_lt}
use Rattle.std.proofs.lemmas.Bool.{true≢false}
use Rattle.std.proofs.lemmas.Bool.Decides.{nat_tests}
use Rattle.pte.specs.Address.{top_level}
use Rattle.pte.specs.declared.permission.Access.{Access}
use Rattle.pte.specs.declared.permission.Ctx.{Ctx}
use Rattle.pte.specs.declared.scheme.Scheme.{Scheme}
use Rattle.pte.specs.declared.scheme.Scheme.TheVariants.{Sv39, Sv48}
use Rattle.walk.specs.declared.found_or_trap.Found.{Found}
use Rattle.walk.specs.declared.found_or_trap.Trap.{Trap}
use Rattle.history.specs.declared.event.Event.TheVariants.{Begin, Load}
use Rattle.history.specs.declared.refusal.Refusal.TheVariants.{NoHart}
use Rattle.history.specs.declared.reply.Reply.{Reply}
use Rattle.history.specs.declared.reply.Reply.TheVariants as reply
use Rattle.history.specs.Due.{due, end_reply, goes_on, load_reply}
use Rattle.history.specs.Harts.{begun, loaded, outcome_of, walk_of, with_load}
use Rattle.history.specs.Setup.{Setup, is_hart}
use Rattle.history.specs.Runs.{with_turn}
use Rattle.history.specs.Turns.{History, is_more}
use Rattle.stepcore.specs.Runs.{Promises}
use Rattle.stepcore.specs.Stands.{Stands}
use Rattle.stepcore.specs.State.{State}
use Rattle.melissaledge.specs.Accesses.{HasLoads, IsLoaded, IsWalked}

is-more : (r : Reply) → is_more r ≡ true → r ≡ reply.More
is-more reply.More e = refl
is-more _ e = absurd (true≢false (sym e))

same : (n : ℕ) → (n == n) ≡ true
same n = grind (arith, nat_tests)

pub begun_loads : (history : History) (hart va : ℕ) (access : Access) (ctx : Ctx) (r : Reply) → HasLoads (with_turn (Begin hart va access ctx) r history) hart 0 r
begun_loads history hart va access ctx r more = (
  record { va = va; access = access; ctx = ctx; loads = 0 },
  ap (λ b. cond b (begun r va access ctx (walk_of history hart)) (walk_of history hart)) (same hart) ∙ ap (λ x. begun x va access ctx (walk_of history hart)) (is-more r more),
  refl,
)

ends : (o : Result Found Trap) → is_more (end_reply o) ≡ true → ⊥
ends (Ok found) e = true≢false (sym e)
ends (Err trap) e = true≢false (sym e)

goes : (b g : Bool) (o : Result Found Trap) → is_more (cond b (reply.Refused NoHart) (cond g reply.More (end_reply o))) ≡ true → g ≡ true
goes true g o e = absurd (true≢false (sym e))
goes false true o e = refl
goes false false o e = absurd (ends o e)

left : (a b : Bool) → (a && b) ≡ true → a ≡ true
left true b e = refl
left false b e = e

few : (scheme : Scheme) (n : ℕ) → nat_lt n (top_level scheme) ≡ true → n < 3
few Sv39 n e = grind (arith, nat_tests)
few Sv48 n e = grind (arith, nat_tests)

module _ (setup : Setup) (history : History) (hart n : ℕ) (more last : Reply) (goes_so : is_more more ≡ true) (has : HasLoads history hart n more) (is : last ≡ due setup history (Load hart)) where
  -- a load after which the walk goes on was made above the lowest level
  pub above : is_more last ≡ true → n < 3
  above e =
      let (walk, at, count) = has goes_so in
      let on : goes_on setup history hart walk ≡ true =
      goes (not (is_hart setup hart)) (goes_on setup history hart walk) (outcome_of setup history _ walk)
      (subst (λ w. is_more (cond (not (is_hart setup hart)) (reply.Refused NoHart) (load_reply setup history hart w)) ≡ true) at (sym (ap is_more is) ∙ e)) in
      subst (λ k. k < 3) count (few setup.layout.scheme walk.loads (left _ _ on))

  pub loaded_loads : HasLoads (with_turn (Load hart) last history) hart (n + 1) last
  loaded_loads e =
      let (walk, at, count) = has goes_so in (
        record { va = walk.va; access = walk.access; ctx = walk.ctx; loads = walk.loads + 1 },
        ap (λ b. cond b (loaded last (walk_of history hart)) (walk_of history hart)) (same hart) ∙ (ap (λ x. loaded x (walk_of history hart)) (is-more last e) ∙ ap with_load at),
        ap (λ k. k + 1) count,
      )

-- what was loaded so far
pub record Goes (setup : Setup) (hart : ℕ) (start : History) (first : Reply) (n : ℕ) (last : Reply) (new : State) : Type 0 where
  pub after : History
  pub loaded_so : IsLoaded setup hart n start first after last
  pub has : HasLoads after hart n last
  pub above_so : is_more last ≡ true → n ≤ 3
  pub stands : Stands setup new after
  pub promises : Promises setup after new

pub goes_first : (setup : Setup) (hart : ℕ) (start : History) (first : Reply) (new : State) → Stands setup new start → Promises setup start new → HasLoads start hart 0 first → Goes setup hart start first 0 first new
unfolding IsLoaded
goes_first setup hart start first new stands promises has = record {
  after = start;
  loaded_so = (refl, refl);
  has = has;
  above_so = λ e. omega arith;
  stands = stands;
  promises = promises;
}

pub goes_more : (setup : Setup) (hart : ℕ) (start : History) (first : Reply) (n : ℕ) (more last : Reply) (old new : State) → is_more more ≡ true → Goes setup hart start first n more old
    → ((history : History) → Stands setup old history → last ≡ due setup history (Load hart)) → ((history : History) → Stands setup old history → Stands setup new (with_turn (Load hart) last history))
    → ((history : History) → Stands setup old history → Promises setup (with_turn (Load hart) last history) new) → Goes setup hart start first (n + 1) last new
unfolding IsLoaded
goes_more setup hart start first n more last old new goes_so was dues stands promises =
    let is = dues was.after was.stands in let next : suc n ≡ n + 1 = omega arith in
    record {
      after = with_turn (Load hart) last was.after;
      loaded_so = subst (λ k. IsLoaded setup hart k start first (with_turn (Load hart) last was.after) last) next (was.after, more, was.loaded_so, goes_so, is, refl);
      has = loaded_loads setup was.after hart n more last goes_so was.has is;
      above_so = λ e. let below = above setup was.after hart n more last goes_so was.has is e in omega (arith, below);
      stands = stands was.after was.stands;
      promises = promises was.after was.stands;
    }

pub goes_ended : (setup : Setup) (hart : ℕ) (start : History) (first : Reply) (n : ℕ) (last : Reply) (new : State) → Goes setup hart start first n last new → is_more last ≡ false → IsWalked setup hart start first last new
goes_ended setup hart start first n last new was ended = record {
  loads = n;
  after = was.after;
  loaded = was.loaded_so;
  ended = ended;
  stands = was.stands;
  promises = was.promises;
}

by-test : (b : Bool) → (b ≡ true → ⊥) → b ≡ false
by-test true never = absurd (never refl)
by-test false never = refl

-- after as many loads as a walk has levels it has ended
pub no_more : (setup : Setup) (hart : ℕ) (start : History) (first : Reply) (n : ℕ) (last : Reply) (new : State) → Goes setup hart start first n last new → n ≡ 4 → is_more last ≡ false
no_more setup hart start first n last new was all = by-test (is_more last) (λ e. let low = was.above_so e in omega (arith, low, all))
