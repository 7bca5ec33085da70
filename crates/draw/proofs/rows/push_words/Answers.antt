use Rattle.std.proofs.Common.{◌≡◌, ◌∙◌, List, ℕ, OnOk, ap₂, rules, string_bytes}
use Rattle.std.proofs.lemmas.Result.{on_ok_weaker}
use Rattle.draw.specs.Shapes.{escape}
use Rattle.draw.proofs.Joined.{text_is, text_pieces}
use Rattle.draw.proofs.rows.push_words.Goals as goal

pub returns : goal.returns
returns c = record {
  ok = λ class left opens is.
      let svg = string_bytes c.args.svg.now in
      let words = escape c.args.words.now in
      let written : OnOk c.push_str-2.result (string_bytes c.push_str-2.new.self ≡ text_pieces svg c.args.opening.now c.args.x.now c.args.y words) = search rules in
      on_ok_weaker c.push_str-2.result (λ w. w ∙ ap₂ (λ (front x : List ℕ). text_pieces svg front x c.args.y words) opens is ∙ text_is svg class words left c.args.y) written;
}
