use Rattle.std.proofs.Common.{◌≡◌, ◌∙◌, sym, subst, List, ℕ, Option}
use Rattle.watch.specs.declared.trace.Record.TheVariants as records
use Rattle.watch.specs.declared.trace.Space.{Space}
use Rattle.watch.specs.Trace.{satp_of}
use Rattle.watch_engine.specs.declared.cause.Cause.TheVariants.{Access}
use Rattle.watch_engine.specs.declared.held.Held.{Held}
use Rattle.watch_engine.specs.Warnings.{AreWarnings}
use Rattle.watch_engine.proofs.Judging.{are_warnings, use_causes}
use Rattle.watch_engine.proofs.PlainChanges.{use_stands}
use Rattle.watch_engine.proofs.engine.Watch.access.Goals as goal

pub returns-clause-warnings : goal.returns-clause-warnings
returns-clause-warnings g c = λ trace at.
    let scheme = c.args.self.now.scheme in
    let hart : ℕ = c.args.hart in
    let address : ℕ = c.args.address in
    let held : List Held = c.args.self.now.held in
    let space : Option Space = c.satp-space.result in
    let satp : satp_of trace hart ≡ space = sym (c.satp-space.ensures ∙ at.satp hart) in
    subst (AreWarnings scheme (records.Use hart address) trace) (sym c.in_ok-given.ensures)
    (are_warnings scheme (records.Use hart address) trace (Access hart space address) _ (use_causes scheme hart address trace space satp) held at.are)

pub returns-clause-ok : goal.returns-clause-ok
returns-clause-ok g c = λ trace at. use_stands at c.args.hart c.args.address
