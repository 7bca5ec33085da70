use Rattle.std.proofs.Common.{refl}
use Rattle.clap.proofs.OnLiterals.{clap_on_literals}
use Rattle.scenario.specs.CommandLine.{asked}
use Rattle.scenario.proofs.word_laws.worked_forms.Goals as goal

pub returns : goal.returns
unfolding asked clap_on_literals
returns c = record {
  json = refl;
  json_first = refl;
  json_and_all = refl;
  json_and_quiet = refl;
  json_as_file = refl;
  max = refl;
  max_with_equals = refl;
  max_first = refl;
  max_zero = refl;
  max_zeros = refl;
  max_greatest = refl;
  max_and_all = refl;
  max_and_quiet = refl;
  known = refl;
  known_with_equals = refl;
  known_first = refl;
  known_and_all = refl;
  known_and_quiet = refl;
  known_empty = refl;
  known_dash = refl;
  known_with_two_equals = refl;
  all_together = refl;
}
