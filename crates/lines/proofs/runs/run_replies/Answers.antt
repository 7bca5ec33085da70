use Rattle.std.proofs.Common.{◌≡◌, [], length, refl}
use Rattle.history.specs.Setup.{setup_of}
use Rattle.history.specs.Due.{Lawful}
use Rattle.stepcore.specs.Runs.{with_turns}
use Rattle.lines.proofs.RunLemmas.{replies_due}
use Rattle.lines.proofs.runs.run_replies.Goals as goal

pub returns-clause-due : goal.returns-clause-due
returns-clause-due c =
    let setup = setup_of c.args.scenario.now.config in
    let events = c.args.scenario.now.events.items in
    let stands = rw (c.in_ok-replies.ensures.items, c.as_slice.ensures.value) at (c.run.ensures.stands setup [] c.in-Ok.ensures.ok) in
    let lawful : Lawful setup (with_turns events c.run.new.replies.items []) = stands.lawful in
    let same : length c.run.new.replies.items ≡ length events = rw (c.in_ok-replies.ensures.items, c.as_slice.ensures.value) at (c.in_ok-run.ensures.all.0 refl) in
    (replies_due setup events c.run.new.replies.items [] same lawful).1
