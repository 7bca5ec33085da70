use Rattle.std.proofs.Common.{◌≡◌, ◌∙◌, ap, sym, subst, length, arith}
use Rattle.spaces.specs.Layout.{layout_of}
use Rattle.views.specs.Rule.{first_view, Local}
use Rattle.views.proofs.Deals.{harts-are, length-board_words, local-starting}
use Rattle.views.proofs.Gathering.{seat-opens}
use Rattle.views.proofs.opening.open.Goals as goal

pub of_words-requires : goal.of_words-requires
of_words-requires c = rw (c.as_slice.ensures.value, c.in_ok-words.ensures) (seat-opens c.args.config.now c.requires)

pub sit-requires : goal.sit-requires
sit-requires c =
    let h = c.in_ok-memory.ensures in
    let limits = c.requires in
    let count = ap length (c.as_slice.ensures.value ∙ c.in_ok-words.ensures) ∙ length-board_words (layout_of c.args.config.now) in
    record {
      same = ap (λ p. p.table_id) c.new-first.ensures ∙ h.2;
      inside = omega (arith, h.0, count, limits.some_space);
    }

pub returns-clause-fit : goal.returns-clause-fit
returns-clause-fit c =
    let h = c.in_ok-memory.ensures in
    let start : Local (layout_of c.args.config.now) (first_view c.args.config.now) = local-starting c.args.config.now c.requires 0 1 (harts-are c.args.config.now c.requires) in
    let count = ap length (c.as_slice.ensures.value ∙ c.in_ok-words.ensures) ∙ length-board_words (layout_of c.args.config.now) in
    let view : c.sit.new.seat.view ≡ first_view c.args.config.now = c.sit.ensures.view ∙ (ap (λ p. p.view) c.new-first.ensures ∙ ap (λ m. m.0.view) h.4) in
    record {
      limits = c.requires;
      key_is = h.5;
      words_are = omega (arith, h.0, count);
      same = c.sit.ensures.same ∙ (ap (λ p. p.table_id) c.new-first.ensures ∙ h.2);
      config = ap (λ v. v.config) view;
      local = subst (Local (layout_of c.args.config.now)) (sym view) start;
      number = c.sit.ensures.number;
      on_board = c.sit.ensures.on_board;
    }
