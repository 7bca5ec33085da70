use Rattle.std.proofs.Common.{ℕ, ◌<◌, inl, inr, arith}
use Rattle.std.proofs.lemmas.Bool.{cases_lt}
use Rattle.stale.specs.Lasting.{ComesBefore}
use Rattle.stale.specs.Mapped.{mapping_of}
use Rattle.stale.proofs.Everywhere.{somewhere}
use Rattle.stale.proofs.Options.{weaker_none, weaker_some}
use Rattle.stale.proofs.lasting.unmapped_in.Goals as goal

pub unmapped-requires-clause-in_page : goal.unmapped-requires-clause-in_page
unmapped-requires-clause-in_page c = λ n from below. let most = c.max.ensures in ((c.common-first.ensures.each n).1 (omega (arith, from, most), below)).1

pub unmapped-requires-in-None-clause-in_page : goal.unmapped-requires-in-None-clause-in_page
unmapped-requires-in-None-clause-in_page c = λ n from below. let least = c.min.ensures in ((c.common-first.ensures.each n).1 (from, omega (arith, below, least))).1

pub returns-in-Some-clause-range : goal.returns-in-Some-clause-range
returns-in-Some-clause-range c =
    let most = c.max.ensures in
    let at = c.in-Some.ensures.range in
    (c.common-first.ensures.each c.in-Some.number).1 (omega (arith, at, most), at.1)

-- below the number at which the search begins, the order is that of the numbers
in_order : (from n other : ℕ) → ComesBefore from n other → n < from → n < other
in_order from n other before below = elim before [
  | inl b ↦ b.1
  | inr b ↦ elim b.1 [
    | inl after ↦ absurd (omega (arith, after, below))
    | inr less ↦ less
  ]
]

pub returns-in-Some-clause-first : goal.returns-in-Some-clause-first
returns-in-Some-clause-first c = λ n before in_page own.
    let most = c.max.ensures in
    let at = c.in-Some.ensures.range in
    let within = (c.common-first.ensures.each n).0 (in_page, own) in
    elim before [
      | inl b ↦ c.in-Some.ensures.before n (omega (arith, within, b, most)) b.1
      | inr b ↦ let wrapped = b.0 in absurd (omega (arith, at, wrapped, most))
    ]

pub returns-in-None-clause-first : goal.returns-in-None-clause-first
returns-in-None-clause-first c =
    weaker_some c.unmapped-in-None.result
    (λ number all n before in_page own.
    let most = c.max.ensures in
    let within = (c.common-first.ensures.each n).0 (in_page, own) in
    elim (cases_lt n c.args.from) [
      | inl less ↦ all n within.0 (in_order c.args.from n number before less)
      | inr from ↦ somewhere c.args.machine.now (mapping_of c.args.entry.now n) (c.in-None.ensures.none n (omega (arith, within, from, most)) within.1)
    ])
    c.unmapped-in-None.ensures.before

pub returns-in-None-clause-range : goal.returns-in-None-clause-range
returns-in-None-clause-range c =
    let least = c.min.ensures in
    weaker_some c.unmapped-in-None.result (λ n at. (c.common-first.ensures.each n).1 (at.0, omega (arith, at, least))) c.unmapped-in-None.ensures.range

pub returns-in-None-clause-none : goal.returns-in-None-clause-none
returns-in-None-clause-none c =
    weaker_none c.unmapped-in-None.result
    (λ before n in_page own.
    let most = c.max.ensures in
    let least = c.min.ensures in
    let within = (c.common-first.ensures.each n).0 (in_page, own) in
    elim (cases_lt n c.args.from) [
      | inl less ↦ before n within.0 (omega (arith, within, less, least))
      | inr from ↦ c.in-None.ensures.none n (omega (arith, within, from, most)) within.1
    ])
    c.unmapped-in-None.ensures.none
