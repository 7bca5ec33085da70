use Rattle.std.proofs.Common.{refl}
use Rattle.clap.proofs.OnLiterals.{clap_on_literals}
use Rattle.scenario.specs.CommandLine.{asked}
use Rattle.scenario.proofs.word_laws.worked_explanations.Goals as goal

pub returns : goal.returns
unfolding asked clap_on_literals
returns c = record {
  line = refl;
  dash = refl;
  hart = refl;
  all_three = refl;
  end = refl;
  zeros = refl;
  greatest = refl;
  too_great = refl;
  zero = refl;
  no_line = refl;
  empty = refl;
  no_number = refl;
  hexadecimal = refl;
  plus = refl;
  minus = refl;
  two_lines = refl;
  all = refl;
  quiet = refl;
  line_of_watch = refl;
  line_of_run = refl;
  line_as_option = refl;
}
