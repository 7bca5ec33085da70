use Rattle.std.proofs.Common.{◌+◌, ◌∙◌, ap, refl, sym, subst, true}
use Rattle.std.specs.Fmt.{HasWritten}
use Rattle.std.proofs.Output.{has_written_append, has_written_of_eq}
use Rattle.lines.proofs.ReplyLemmas.{hart_in, hart_out, joined, members_below, none_yet}
use Rattle.lines.proofs.printing.TextHartSetDisplay.fmt.Goals.{then-contains+in_ok-write_hart, else-contains}
use Rattle.lines.proofs.printing.TextHartSetDisplay.fmt.Goals as goal

pub loop-hart-preserved : goal.loop-hart-preserved
loop-hart-preserved g c =
    let at = c.loop-hart in
    let set = c.args.self.now.0 in
    elim c.if-contains.branch [
      | then-contains+in_ok-write_hart w ↦
          let more = hart_in set at.hart at.is_first (sym c.contains.ensures ∙ w.if-contains.true) at.invariant.first in
          record {
            text = λ plain.
                let so_far = at.invariant.text plain in
                subst (λ f. HasWritten g.W.Write.write_str_gives c.args.f.now (joined (members_below set (at.hart + 1))) f) (sym w.f-is)
                (has_written_of_eq _ _ _ _ _ more.0 (has_written_append _ _ _ _ _ _ so_far (w.in_ok-write_hart.ensures so_far.plain (refl {a = true}))));
            first = w.is_first-is ∙ more.1;
          }
      | else-contains w ↦
          let same = sym (hart_out set at.hart (sym c.contains.ensures ∙ w.if-contains.false)) in
          record {
            text = λ plain.
                subst (λ f. HasWritten g.W.Write.write_str_gives c.args.f.now (joined (members_below set (at.hart + 1))) f) (sym w.f-is)
                (subst (λ harts. HasWritten g.W.Write.write_str_gives c.args.f.now (joined harts) at.f) same (at.invariant.text plain));
            first = w.is_first-is ∙ at.invariant.first ∙ ap none_yet same;
          }
    ]
