use Rattle.std.proofs.Common.{refl}
use Rattle.clap.proofs.OnLiterals.{clap_on_literals}
use Rattle.scenario.proofs.word_laws.worked_texts.Goals as goal

pub returns : goal.returns
unfolding clap_on_literals
returns c = record {
  given = refl;
  not_given = refl;
  dash = refl;
  empty = refl;
  empty_word = refl;
  two_equals = refl;
  equals_behind = refl;
  again = refl;
  nothing = refl;
}
