-- What definitions of reports, new ports and looks say in other words.
use Rattle.std.proofs.Common.{◌≡◌, ◌∙◌, sym, ap, ℕ, ◌<◌, ◌^◌, List, [], ◌∷◌, length, arith, length-append}
use Rattle.std.specs.Prelude.{min, ◌-◌}
use Rattle.std.proofs.lemmas.Bool.Decides.{nat_tests}
use Rattle.board.specs.Ports.{NewPortsHaveDoneNothing}
use Rattle.board.specs.Collects.{LooksInOrder, after_looks, look_at}
use Rattle.board.specs.Reports.{CountsAddUp, taken_between}

small : (n : ℕ) → n < 2 ^ 64 → min n (2 ^ 64 - 1) ≡ n
small n less = grind (arith, nat_tests)

pub counts_add_up : CountsAddUp
counts_add_up ports pair is less =
    let taken = taken_between ports pair.sender pair.receiver in
    let long = ap length is.order ∙ length-append taken pair.waiting.items in
    let t = is.taken_count ∙ small (length taken) (omega (arith, long, less)) in
    let a = is.accepted_count ∙ small _ less in
    (t, omega (arith, t, a, long))

pub new_ports_have_done_nothing : NewPortsHaveDoneNothing
new_ports_have_done_nothing port new = (
  ap (λ s. s.layout) (sym new.config),
  ap (λ p. p.space) new.is_new,
  ap (λ p. p.tlb.entries) new.is_new,
  ap (λ p. p.view.entries) new.is_new,
  ap (λ p. p.view.orders) new.is_new,
  ap (λ p. p.view.cell_steps) new.is_new,
)

pub looks_in_order : LooksInOrder
looks_in_order port after ticket = (
  (λ i. none i.words i.each i.is),
  (λ i. one i.words i.each i.is),
  (λ i. two i.words i.each i.is),
)
  where
    none : (words : List ℕ) → length words ≡ 0 → after ≡ after_looks port ticket words → after ≡ port
    none [] e is = is
    none (w ∷ ws) e is = absurd (omega (arith, e))

    one : (words : List ℕ) → length words ≡ 1 → after ≡ after_looks port ticket words → (word : ℕ) × (after ≡ look_at port ticket 0 word)
    one [] e is = absurd (omega (arith, e))
    one (w ∷ []) e is = (w, is)
    one (w ∷ w' ∷ ws) e is = absurd (omega (arith, e))

    two : (words : List ℕ) → length words ≡ 2 → after ≡ after_looks port ticket words → (first second : ℕ) × (after ≡ look_at (look_at port ticket 0 first) ticket 1 second)
    two [] e is = absurd (omega (arith, e))
    two (w ∷ []) e is = absurd (omega (arith, e))
    two (w ∷ w' ∷ []) e is = (w', w, is)
    two (w ∷ w' ∷ w'' ∷ ws) e is = absurd (omega (arith, e))
