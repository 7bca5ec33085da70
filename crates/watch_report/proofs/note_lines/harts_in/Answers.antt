use Rattle.std.proofs.Common.{rules, ◌≡◌, ◌∷◌, ◌++◌, [], ◌∙◌, List, ℕ, ap, cond}
use Rattle.watch_report.specs.NoteLines.{harts_below, has_hart}
use Rattle.watch_report.proofs.NoteLineLemmas.{all_harts, next_hart}
use Rattle.watch_report.proofs.note_lines.harts_in.Goals as goal

pub loop-hart-preserved : goal.loop-hart-preserved
loop-hart-preserved c =
    let mask : ℕ = c.args.mask in
    let hart : ℕ = c.loop-hart.hart in
    c.in_ok-push_hart.ensures
    ∙ (ap (λ (harts : List ℕ). cond (has_hart mask hart) (harts ++ hart ∷ []) harts) c.loop-hart.invariant ∙ next_hart mask hart)

pub returns : goal.returns
returns c =
    let all : c.loop-hart.hart ≡ 64 = search rules in
    c.loop-hart.invariant ∙ ap (harts_below c.args.mask) (all_harts c.loop-hart.hart all)
