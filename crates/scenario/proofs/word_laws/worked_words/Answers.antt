use Rattle.std.proofs.Common.{refl}
use Rattle.clap.proofs.OnLiterals.{clap_on_literals}
use Rattle.scenario.specs.CommandLine.{asked}
use Rattle.scenario.proofs.word_laws.worked_words.Goals as goal

pub returns : goal.returns
unfolding asked clap_on_literals
returns c = record {
  no_name = refl;
  no_words = refl;
  one = refl;
  two = refl;
  watch = refl;
  watch_alone = refl;
  three = refl;
  four = refl;
  unknown = refl;
  file_first = refl;
  no_file_name = refl;
  dash = refl;
  end = refl;
  end_first = refl;
  end_last = refl;
  end_alone = refl;
}
