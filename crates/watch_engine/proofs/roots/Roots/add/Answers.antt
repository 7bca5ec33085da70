use Rattle.std.proofs.Common.{◌≡◌, ◌≤◌, sym, subst, ℕ, List, Option, length, arith}
use Rattle.std.specs.List.{insert}
use Rattle.std.specs.List.Sorted.{IsNonDecreasing}
use Rattle.std.proofs.lemmas.List.Sorted.{IsNonDecreasingBy-insert}
use Rattle.watch.specs.declared.trace.Space.{Space}
use Rattle.watch_engine.specs.Held.{AreEntered, IsWith}
use Rattle.watch_engine.proofs.RootOrder.{IsPlace, inserted, new_entered}
use Rattle.watch_engine.proofs.roots.Roots.add.Goals as goal

pub invariant_of-self-2 : goal.invariant_of-self-2
invariant_of-self-2 c =
    let old : List ℕ = c.self.inside.ppns.items in
    let place : ℕ = c.count_below-place.result in
    let root : ℕ = c.in-Some.space.root in
    let is : IsPlace old place root = subst (λ (xs : List ℕ). IsPlace xs place root) c.as_slice.ensures.value c.count_below-place.ensures.place in
    let within : place ≤ length old = subst (λ (xs : List ℕ). place ≤ length xs) c.as_slice.ensures.value c.count_below-place.ensures.within in
    subst IsNonDecreasing (sym c.in_ok-insert.ensures.items)
    (IsNonDecreasingBy-insert (λ r. r) old place root c.self.invariant within (λ k d early. let b = is.0 k d (omega arith) early in omega arith) is.1)

pub returns-clause-ok : goal.returns-clause-ok
returns-clause-ok c =
    let root : ℕ = c.in-Some.space.root in
    let more : IsWith root c.args.self.now c.insert.new.self.items =
    subst (λ (new : List ℕ). IsWith root c.args.self.now new) (sym c.in_ok-insert.ensures.items)
    (subst (λ (old : List ℕ). IsWith root old (insert c.self.inside.ppns.items c.count_below-place.result root)) c.self.view_is (inserted root c.self.inside.ppns.items c.count_below-place.result)) in
    subst (λ (s : Option Space). AreEntered s c.args.self.now c.insert.new.self.items) (sym c.in-Some.is) (new_entered c.in-Some.space c.args.self.now c.insert.new.self.items more)

pub returns-clause-more : goal.returns-clause-more
returns-clause-more c = λ root is.
    let one : ℕ = c.in-Some.space.root in
    let same : one ≡ root = cc in
    let more : IsWith one c.args.self.now c.insert.new.self.items =
    subst (λ (new : List ℕ). IsWith one c.args.self.now new) (sym c.in_ok-insert.ensures.items)
    (subst (λ (old : List ℕ). IsWith one old (insert c.self.inside.ppns.items c.count_below-place.result one)) c.self.view_is (inserted one c.self.inside.ppns.items c.count_below-place.result)) in
    subst (λ r. IsWith r c.args.self.now c.insert.new.self.items) same more
