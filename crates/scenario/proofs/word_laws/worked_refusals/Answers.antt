use Rattle.std.proofs.Common.{refl}
use Rattle.clap.proofs.OnLiterals.{clap_on_literals}
use Rattle.scenario.specs.CommandLine.{asked}
use Rattle.scenario.proofs.word_laws.worked_refusals.Goals as goal

pub returns : goal.returns
unfolding asked clap_on_literals
returns c = record {
  hart_last = refl;
  hart_before_all = refl;
  hart_before_end = refl;
  hart_before_dash = refl;
  hart_empty = refl;
  hart_with_two_equals = refl;
  hart_twice = refl;
  hart_twice_the_same = refl;
  part_of_hart = refl;
  short_hart = refl;
  no_hart = refl;
  no_such_hart = refl;
  no_page = refl;
  no_kind = refl;
  hart_of_run = refl;
  kind_of_live = refl;
  hart_takes_the_file = refl;
}
