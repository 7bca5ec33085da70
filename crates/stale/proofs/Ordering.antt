-- Items stand in the order of their steps while more of the last step are added.
use Rattle.std.proofs.Common.{◌≡◌, ℕ, ◌≤◌, List, [], ◌∷◌, ◌++◌, sym, subst, arith}
use Rattle.std.proofs.lemmas.List.Elements.{All-push, All-weaker}
use Rattle.std.proofs.lemmas.List.Quantifiers.{all_pairs_push}
use Rattle.stale.specs.declared.items.StaleAt.{StaleAt}
use Rattle.stale.specs.Told.{InOrderTo}

pub in_order_later : (items : List StaleAt) (last next : ℕ) → last ≤ next → InOrderTo items last → InOrderTo items next
in_order_later items last next more told = record {
  in_order = told.in_order;
  to = All-weaker (λ item. item.step ≤ last) (λ item. item.step ≤ next) (λ item le. omega (arith, le, more)) items told.to;
}

pub in_order_push : (xs ys : List StaleAt) (x : StaleAt) (last : ℕ) → ys ≡ xs ++ x ∷ [] → x.step ≡ last → InOrderTo xs last → InOrderTo ys last
in_order_push xs ys x last is step told = subst (λ (zs : List StaleAt). InOrderTo zs last) (sym is) (record {
  in_order = all_pairs_push (λ earlier later. earlier.step ≤ later.step) xs x told.in_order (λ k d within. let le = told.to k d within in omega (arith, le, step));
  to = All-push (λ item. item.step ≤ last) xs x told.to (omega (arith, step));
})
