use Rattle.views.specs.Gathered.{given_up, with_gathered}
use Rattle.views.proofs.gathered.Gathered.add.Given as goal

abbrev pub ghosts-join_seat : goal.ghosts-join_seat
ghosts-join_seat a = record {
  both = λ seat other. with_gathered other.view seat;
  spent = given_up a.other.me.0.view;
}
