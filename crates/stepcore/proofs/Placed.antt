-- What a list holds once one element is replaced, and what a machine holds for a hart once one was
-- put.
use Rattle.std.proofs.Common.{◌≡◌, ℕ, ◌<◌, Bool, true, false, cond, ◌&&◌, List, length, Option, slice_get, slice_set, refl, ap, eqb}
use Rattle.std.specs.Prelude.{unwrap_or}
use Rattle.std.proofs.lemmas.Bool.{eqb-true, eqb-false}
use Rattle.spaces.proofs.Lists.{slice_get-set_same, slice_get-set_other}
use Rattle.laws.proofs.Tools.{by_test}
use Rattle.stepcore.specs.State.{State, HartState, hart_at, idle_hart}
use Rattle.stepcore.specs.Changes.{put_hart}

get_set : {A : Type 0} (xs : List A) (i j : ℕ) (v default : A) → j < length xs → unwrap_or (slice_get (slice_set xs i v) j) default ≡ cond (eqb i j) v (unwrap_or (slice_get xs j) default)
get_set {A = A} xs i j v default below =
    by_test (λ b. unwrap_or (slice_get (slice_set xs i v) j) default ≡ cond b v (unwrap_or (slice_get xs j) default)) (eqb i j)
    (λ t. rw (eqb-true i j t) (ap (λ (o : Option A). unwrap_or o default) (slice_get-set_same xs j v below)))
    (λ f. ap (λ (o : Option A). unwrap_or o default) (slice_get-set_other xs i j v (eqb-false i j f)))

-- an element that is replaced under a test
pub get_placed : {A : Type 0} (xs : List A) (i j : ℕ) (test : Bool) (v default : A) → j < length xs
    → unwrap_or (slice_get (cond test (slice_set xs i v) xs) j) default ≡ cond (test && eqb i j) v (unwrap_or (slice_get xs j) default)
get_placed xs i j true v default below = get_set xs i j v default below
get_placed xs i j false v default below = refl

-- the hart of a number once another, or the same, was put
pub hart_placed : (m : State) (i h : ℕ) (test : Bool) (v : HartState) → h < length m.harts → unwrap_or (slice_get (put_hart m i test v) h) idle_hart ≡ cond (test && eqb i h) v (hart_at m h)
hart_placed m i h test v below = get_placed m.harts i h test v idle_hart below
