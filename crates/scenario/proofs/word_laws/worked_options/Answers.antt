use Rattle.std.proofs.Common.{refl}
use Rattle.clap.proofs.OnLiterals.{clap_on_literals}
use Rattle.scenario.specs.CommandLine.{asked}
use Rattle.scenario.proofs.word_laws.worked_options.Goals as goal

pub returns : goal.returns
unfolding asked clap_on_literals
returns c = record {
  option_first = refl;
  option_last = refl;
  option_for_file = refl;
  help = refl;
  short_help = refl;
  help_word = refl;
  version = refl;
  short_version = refl;
  all = refl;
  quiet = refl;
  all_first = refl;
  all_twice = refl;
  all_and_quiet = refl;
  all_of_run = refl;
  all_as_file = refl;
  all_with_value = refl;
  part_of_all = refl;
}
