use Rattle.std.proofs.Common.{◌≡◌, ◌∙◌, List, ℕ, OnOk, ap, rules, string_bytes}
use Rattle.std.proofs.lemmas.Result.{on_ok_weaker}
use Rattle.draw.proofs.Joined.{hart_is, hart_pieces}
use Rattle.draw.proofs.rows.push_hart.Goals as goal

pub returns : goal.returns
returns c = record {
  ok = λ low is.
      let svg = string_bytes c.args.svg.now in
      let written : OnOk c.push_str.result (string_bytes c.push_str.new.self ≡ hart_pieces svg c.args.x c.args.y.now c.args.hart c.args.space) = search rules in
      on_ok_weaker c.push_str.result (λ w. w ∙ ap (λ (y : List ℕ). hart_pieces svg c.args.x y c.args.hart c.args.space) is ∙ hart_is svg c.args.x low c.args.hart c.args.space) written;
}
