use Rattle.std.proofs.Common.{refl}
use Rattle.scenario.specs.Command.{ending_of, no_memory}
use Rattle.scenario.proofs.FileLemmas.{told_itself, told_memory}
use Rattle.scenario.proofs.OutputLemmas.{front_written}
use Rattle.scenario.proofs.program.report.Goals as goal

pub returns-in-Ok : goal.returns-in-Ok
returns-in-Ok g c = record {
  told = ending_of c.args.trouble.now;
  is_told = told_itself c.args.trouble.now;
  status_is = c.status.ensures;
  tells = rw (c.as_bytes.ensures.value, c.in-Ok.ensures) at (front_written _ _ _ c.write_whole.result c.write_whole.ensures.ok c.write_whole.ensures.err);
}

pub returns-in-Err : goal.returns-in-Err
returns-in-Err g c = record {
  told = no_memory;
  is_told = told_memory c.args.trouble.now;
  status_is = refl;
  tells = front_written _ _ _ c.write_whole-in-Err.result c.write_whole-in-Err.ensures.ok c.write_whole-in-Err.ensures.err;
}
