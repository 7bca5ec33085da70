use Rattle.std.proofs.Common.{◌≡◌, ◌∙◌, List, ℕ, OnOk, ap, rules, string_bytes}
use Rattle.std.proofs.lemmas.Result.{on_ok_weaker}
use Rattle.draw.specs.Rows.{numbers}
use Rattle.draw.proofs.Joined.{row_is, row_pieces}
use Rattle.draw.proofs.rows.push_row.Goals as goal

pub returns : goal.returns
returns c = record {
  ok = λ end is.
      let svg = string_bytes c.args.svg.now in
      let written : OnOk c.push_str.result (string_bytes c.push_str.new.self ≡ row_pieces svg c.args.right.now c.args.y (numbers c.args.first c.args.last)) = search rules in
      on_ok_weaker c.push_str.result (λ w. w ∙ ap (λ (right : List ℕ). row_pieces svg right c.args.y (numbers c.args.first c.args.last)) is ∙ row_is svg end c.args.y c.args.first c.args.last) written;
}
