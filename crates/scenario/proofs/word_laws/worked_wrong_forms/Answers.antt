use Rattle.std.proofs.Common.{refl}
use Rattle.clap.proofs.OnLiterals.{clap_on_literals}
use Rattle.scenario.specs.CommandLine.{asked}
use Rattle.scenario.proofs.word_laws.worked_wrong_forms.Goals as goal

pub returns : goal.returns
unfolding asked clap_on_literals
returns c = record {
  json_twice = refl;
  json_with_value = refl;
  part_of_json = refl;
  json_of_explain = refl;
  json_of_run = refl;
  max_twice = refl;
  max_twice_the_same = refl;
  max_last = refl;
  max_before_json = refl;
  max_takes_the_file = refl;
  max_empty = refl;
  max_empty_word = refl;
  no_max = refl;
  max_in_hexadecimal = refl;
  max_too_great = refl;
  max_plus = refl;
  max_minus = refl;
  max_of_explain = refl;
  max_of_live = refl;
  known_twice = refl;
  known_twice_the_same = refl;
  known_last = refl;
  known_before_end = refl;
  known_takes_the_file = refl;
  known_of_explain = refl;
  known_of_check = refl;
}
