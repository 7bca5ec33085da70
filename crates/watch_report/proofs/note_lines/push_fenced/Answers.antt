use Rattle.std.proofs.Common.{rules, ◌≡◌, false}
use Rattle.std.specs.Prelude.{◌==◌}
use Rattle.std.proofs.lemmas.Result.{on_ok_weaker}
use Rattle.watch_report.proofs.NoteLineLemmas.{some_fenced}
use Rattle.watch_report.proofs.note_lines.push_fenced.Goals as goal

pub returns : goal.returns
returns c =
    let some : (c.args.mask == 0) ≡ false = search rules in
    record {
      ok = on_ok_weaker c.push_harts.result
          (some_fenced c.args.mask c.args.text.now.items c.push.new.text.items c.push_harts.new.text.items some c.in_ok-push.ensures.ok)
          c.push_harts.ensures.ok;
    }
