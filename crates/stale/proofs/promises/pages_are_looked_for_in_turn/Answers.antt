use Rattle.std.proofs.Common.{inl, inr, arith}
use Rattle.stale.proofs.promises.pages_are_looked_for_in_turn.Goals as goal

pub returns-clause-worked : goal.returns-clause-worked
returns-clause-worked c = (inl (omega arith, omega arith), inr (omega arith, inl (omega arith)), inr (omega arith, inr (omega arith)))

pub returns-clause-order : goal.returns-clause-order
returns-clause-order c = λ from n other before after. elim before [
  | inl a ↦ elim after [
    | inl b ↦ omega (arith, a, b)
    | inr b ↦ let less = b.0 in omega (arith, a, less)
  ]
  | inr a ↦ elim after [
    | inl b ↦ let less = a.0 in omega (arith, b, less)
    | inr b ↦
        let wrapped = a.0 in
        let other_wrapped = b.0 in
        elim a.1 [
          | inl high ↦ omega (arith, high, other_wrapped)
          | inr less ↦ elim b.1 [
            | inl high ↦ omega (arith, high, wrapped)
            | inr more ↦ omega (arith, less, more)
          ]
        ]
  ]
]
