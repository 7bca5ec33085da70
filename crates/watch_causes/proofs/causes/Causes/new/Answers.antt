use Rattle.watch_causes.proofs.causes.Causes.new.Goals as goal

pub returns-clause-seen : goal.returns-clause-seen
returns-clause-seen c = record { log = c.new.ensures; findings = c.new-2.ensures; reaches = c.new-3.ensures c.args.scheme }
