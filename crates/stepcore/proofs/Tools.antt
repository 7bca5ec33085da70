-- Small tools: which harts and places exist for a machine and its setup alike, and whether a
-- hart walks or serves.
use Rattle.pte.specs.declared.scheme.Scheme.{Scheme}
use Rattle.std.proofs.Common.{◌≡◌, ℕ, ◌<◌, Bool, true, false, ◌&&◌, not, Option, Some, None, refl, ap, sym, ◌∙◌, eqb}
use Rattle.std.specs.Prelude.{is_some}
use Rattle.std.proofs.lemmas.Bool.{and_parts, not-false, ltb-true}
use Rattle.walk.specs.Leads.{Tables}
use Rattle.walk.specs.Stage.{Stage}
use Rattle.history.specs.Setup.{Setup, is_hart}
use Rattle.history.specs.declared.refusal.Refusal.{Refusal}
use Rattle.history.specs.declared.refusal.Refusal.TheVariants.{NoHart}
use Rattle.history.specs.declared.reply.Reply.{Reply}
use Rattle.history.specs.Mailboxes.{Sent}
use Rattle.history.specs.Harts.{Walking}
use Rattle.history.specs.Due.{are_pair, are_harts}
use Rattle.history.proofs.Passing.{refuse}
use Rattle.laws.proofs.Tools.{by_test, and3}
use Rattle.stepcore.specs.State.{State, setup_in}
use Rattle.stepcore.specs.Stands.{AreSameWalk, bare, service_with}

-- whether a hart walks and serves
pub walks_alike : (scheme : Scheme) (words : Tables) (root : ℕ) (stage : Option Stage) (walk : Option Walking) → AreSameWalk scheme words root stage walk → is_some stage ≡ is_some walk
walks_alike scheme words root None None same = refl
walks_alike scheme words root None (Some walk) same = absurd same
walks_alike scheme words root (Some stage) None same = absurd same
walks_alike scheme words root (Some stage) (Some walk) same = refl

pub serves_alike : (fenced : Bool) (sent : Option Sent) → is_some (service_with fenced sent) ≡ is_some sent
serves_alike fenced None = refl
serves_alike fenced (Some sent) = refl

-- two tests that give the same answer
pub both_ways : (a b : Bool) → (a ≡ true → b ≡ true) → (b ≡ true → a ≡ true) → a ≡ b
both_ways true b f g = sym (f refl)
both_ways false true f g = g refl
both_ways false false f g = refl

-- two replies that agree where the test holds, and are refused elsewhere
pub refused_alike : (why : Refusal) (test : Bool) (r q : Reply) → (test ≡ true → r ≡ q) → refuse (not test) why r ≡ refuse (not test) why q
refused_alike why test r q f = by_test (λ v. refuse (not v) why r ≡ refuse (not v) why q) test f (λ _. refl)

-- an event of a hart that exists
pub hart_there : (C : Setup) (m : State) (hart : ℕ) (r q : Reply) → setup_in m ≡ bare C → (hart < C.harts → r ≡ q)
    → refuse (not (is_hart (setup_in m) hart)) NoHart r ≡ refuse (not (is_hart C hart)) NoHart q
hart_there C m hart r q same f =
    ap (λ (D : Setup). refuse (not (is_hart D hart)) NoHart r) same
    ∙ refused_alike NoHart (is_hart C hart) r q (λ t. f (ltb-true hart C.harts t))

-- both harts of a pair exist
pub record IsPair (C : Setup) (a b : ℕ) : Type 0 where
  pub first : a < C.harts
  pub second : b < C.harts

pair_is : (C : Setup) (a b : ℕ) → are_pair C a b ≡ true → IsPair C a b
pair_is C a b t =
    let p = and3 (is_hart C a) (is_hart C b) (not (eqb a b)) t in
    record { first = ltb-true a C.harts p.0; second = ltb-true b C.harts p.1 }

pub pair_parts : (C : Setup) (a b : ℕ) → not (are_pair C a b) ≡ false → IsPair C a b
pair_parts C a b e = pair_is C a b (not-false (are_pair C a b) e)

-- an event of a pair of harts that exist
pub pair_there : (C : Setup) (m : State) (a b : ℕ) (r q : Reply) → setup_in m ≡ bare C → (a < C.harts → b < C.harts → r ≡ q)
    → refuse (not (are_pair (setup_in m) a b)) NoHart r ≡ refuse (not (are_pair C a b)) NoHart q
pair_there C m a b r q same f =
    ap (λ (D : Setup). refuse (not (are_pair D a b)) NoHart r) same
    ∙ refused_alike NoHart (are_pair C a b) r q (λ t. let p = pair_is C a b t in f p.first p.second)

-- an event of a hart that names harts that exist
pub harts_there : (C : Setup) (m : State) (hart named : ℕ) (r q : Reply) → setup_in m ≡ bare C → (hart < C.harts → r ≡ q)
    → refuse (not (is_hart (setup_in m) hart && are_harts (setup_in m) named)) NoHart r ≡ refuse (not (is_hart C hart && are_harts C named)) NoHart q
harts_there C m hart named r q same f =
    ap (λ (D : Setup). refuse (not (is_hart D hart && are_harts D named)) NoHart r) same
    ∙ refused_alike NoHart (is_hart C hart && are_harts C named) r q (λ t. f (ltb-true hart C.harts (and_parts (is_hart C hart) (are_harts C named) t).0))
