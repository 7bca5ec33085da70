use Rattle.std.proofs.Common.{subst}
use Rattle.history.specs.declared.event.Event.TheVariants.{Begin}
use Rattle.history.specs.Runs.{with_turn}
use Rattle.melissaledge.specs.Accesses.{IsWalked}
use Rattle.melissaledge.proofs.Accessing.{begun_loads}
use Rattle.melissaledge.proofs.accesses.make_access.Goals as goal

pub returns : goal.returns
returns c setup history at =
    let first = c.step-first.result in
    let hart = c.args.hart in
    let event = Begin hart c.args.va c.args.access c.args.ctx in
    let does = c.step-first.ensures in
    record {
      last = c.load_all.result;
      walked = subst (λ r. IsWalked setup hart (with_turn event r history) r c.load_all.result c.load_all.new.machine) (does.due setup history at)
          (c.load_all.ensures setup (with_turn event first history) (does.stands setup history at) (does.promises setup history at) (begun_loads history hart c.args.va c.args.access c.args.ctx first));
      answer = c.accessed.ensures;
    }
