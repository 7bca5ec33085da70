use Rattle.std.proofs.Common.{ℕ, ◌≡◌, ◌+◌, All, Contains, List, Some, ap, sym, subst, slice_index_or, ◌∙◌, arith}
use Rattle.std.specs.List.{HoldsAt}
use Rattle.std.specs.Vec.{vec_len}
use Rattle.std.proofs.lemmas.List.Elements.{All-contains_itself, All-pop}
use Rattle.watch_engine.specs.declared.kept_ways.KnownWays.{KnownWays}
use Rattle.watch_engine.proofs.Keeping.{all-stay, popped}
use Rattle.watch_engine.proofs.kept_ways.KeptWays.take_known.Goals as goal

pub returns-in_default-clause-rest : goal.returns-in_default-clause-rest
returns-in_default-clause-rest c = All-contains_itself c.args.self.now.known.items

pub returns-then-place-len-clause-table : goal.returns-then-place-len-clause-table
returns-then-place-len-clause-table c =
    let known : List KnownWays = c.args.self.now.known.items in
    let place : ℕ = c.in-Some.place in
    let len : ℕ = vec_len c.args.self.now.known in
    let whole : place + 1 ≡ len = c.if-place-len.true ∙ c.len.ensures in
    let IsTable : KnownWays → Type 0 = λ ways. ways.table ≡ c.args.table in
    popped IsTable known place c.pop.result
    (λ d. c.pop.ensures.value d (omega (arith, whole)) ∙ ap (λ (at : ℕ). Some (slice_index_or known at d)) (omega (arith, whole)))
    (subst (λ (all : List KnownWays). HoldsAt IsTable all place) c.as_slice.ensures.value c.in-Some.ensures.1)

pub returns-then-place-len-clause-rest : goal.returns-then-place-len-clause-rest
returns-then-place-len-clause-rest c =
    let known = c.args.self.now.known.items in
    (All-pop (Contains known) known c.pop.new.self.items c.pop.result c.pop.ensures.items (All-contains_itself known)).0

pub returns-clause-rest : goal.returns-clause-rest
returns-clause-rest c = subst (All (Contains c.args.self.now.known.items)) (sym c.remove.ensures.items) (all-stay c.args.self.now.known.items c.in-Some.place)
