use Rattle.std.proofs.Common.{refl}
use Rattle.clap.proofs.OnLiterals.{clap_on_literals}
use Rattle.scenario.specs.CommandLine.{asked}
use Rattle.scenario.proofs.word_laws.worked_pictures.Goals as goal

pub returns : goal.returns
unfolding asked clap_on_literals
returns c = record {
  svg = refl;
  svg_first = refl;
  svg_last = refl;
  svg_and_filters = refl;
  svg_as_file = refl;
  svg_without_line = refl;
  svg_twice = refl;
  svg_with_value = refl;
  part_of_svg = refl;
  svg_and_json = refl;
  svg_of_watch = refl;
  svg_of_draw = refl;
}
