use Rattle.std.proofs.Common.{◌≡◌, [], length, refl, subst}
use Rattle.history.specs.Setup.{setup_of}
use Rattle.history.specs.Due.{Lawful}
use Rattle.stepcore.specs.Runs.{with_turns}
use Rattle.stepcore.specs.Stands.{Stands}
use Rattle.lines.proofs.RunLemmas.{replies_due, some_home}
use Rattle.lines.proofs.runs.machine_after.Goals as goal

pub returns-clause-stands : goal.returns-clause-stands
returns-clause-stands c =
    let setup = setup_of c.args.scenario.now.config in
    let events = c.args.scenario.now.events.items in
    let stands = rw (c.in_ok-replies.ensures.items, c.as_slice.ensures.value) at (c.run.ensures.stands setup [] c.in-Ok.ensures.ok) in
    let lawful : Lawful setup (with_turns events c.run.new.replies.items []) = stands.lawful in
    let same : length c.run.new.replies.items ≡ length events = rw (c.in_ok-replies.ensures.items, c.as_slice.ensures.value) at (c.in_ok-run.ensures.all.0 refl) in
    subst (λ replies. Stands setup c.run.new.self (with_turns events replies [])) (replies_due setup events c.run.new.replies.items [] same lawful).1 stands

pub returns-clause-some : goal.returns-clause-some
returns-clause-some c =
    let setup = setup_of c.args.scenario.now.config in
    let stands = c.run.ensures.stands setup [] c.in-Ok.ensures.ok in
    some_home c.args.scenario.now.config c.run.new.self stands.setup c.in-Ok.ensures.limits.some_space
