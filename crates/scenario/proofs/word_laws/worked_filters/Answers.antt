use Rattle.std.proofs.Common.{refl}
use Rattle.clap.proofs.OnLiterals.{clap_on_literals}
use Rattle.scenario.specs.CommandLine.{asked}
use Rattle.scenario.proofs.word_laws.worked_filters.Goals as goal

pub returns : goal.returns
unfolding asked clap_on_literals
returns c = record {
  hart = refl;
  hart_with_equals = refl;
  hart_first = refl;
  hart_between = refl;
  hart_and_all = refl;
  hart_and_quiet = refl;
  hart_as_file = refl;
  page = refl;
  kind = refl;
  all_three = refl;
}
