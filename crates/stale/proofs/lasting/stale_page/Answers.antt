use Rattle.std.proofs.Common.{sym, ◌∙◌}
use Rattle.std.proofs.lemmas.Bool.{false≢true}
use Rattle.stale.proofs.Lasts.{held_here, held_there, none_stale, not_stale, passes, stale_in}
use Rattle.stale.proofs.Options.{both_some, weaker_none, weaker_some}
use Rattle.stale.proofs.lasting.stale_page.Goals as goal

pub returns-then-not-holds-clause-none : goal.returns-then-not-holds-clause-none
returns-then-not-holds-clause-none c = λ C H m st s.
    false≢true (sym c.if-not-holds.true ∙ c.holds.ensures.1 (held_here C c.args.machine.now H st c.args.hart c.args.entry.now s.entry))

pub returns-in-Some-clause-some : goal.returns-in-Some-clause-some
returns-in-Some-clause-some c =
    let held = c.holds.ensures.0 c.if-not-holds.false in
    weaker_some c.unmapped_in.result
    (λ n is C H st.
    let there = held_there C c.args.machine.now H st c.args.hart c.args.entry.now held.0 held.1 in
    stale_in C c.args.machine.now H st c.args.hart c.args.entry.now c.args.page.now n there is.0.0 is.0.1 is.1)
    (both_some _ _ c.unmapped_in.result c.unmapped_in.ensures.range c.unmapped_in.ensures.some)

pub returns-in-Some-clause-first : goal.returns-in-Some-clause-first
returns-in-Some-clause-first c =
    weaker_some c.unmapped_in.result
    (λ number all C H n st before s. not_stale C c.args.machine.now H st c.args.hart c.args.entry.now c.args.page.now n (all n before s.in_page s.is.page) s)
    c.unmapped_in.ensures.first

pub returns-in-Some-clause-none : goal.returns-in-Some-clause-none
returns-in-Some-clause-none c =
    weaker_none c.unmapped_in.result (λ all C H m st s. none_stale C c.args.machine.now H st c.args.hart c.args.entry.now c.args.page.now all m s) c.unmapped_in.ensures.none

pub returns-in-None-clause-none : goal.returns-in-None-clause-none
returns-in-None-clause-none c = λ C H m st s.
    let passing = passes C c.args.machine.now H st c.args.hart c.args.entry.now s.entry in
    c.in-None.ensures.none passing.0 passing.1 passing.2
