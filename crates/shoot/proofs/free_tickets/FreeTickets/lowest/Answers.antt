use Rattle.std.proofs.Common.{sym, ap, ◌∙◌, arith, rules}
use Rattle.shoot.specs.FreeTickets.{marked_in, lowest_marked}
use Rattle.shoot.proofs.FreeTickets.{none_marked, lowest_is}
use Rattle.shoot.proofs.free_tickets.FreeTickets.lowest.Goals as goal

pub returns-then-self-eq0-clause-lowest : goal.returns-then-self-eq0-clause-lowest
returns-then-self-eq0-clause-lowest c = sym (ap lowest_marked (sym c.self.view_is ∙ ap marked_in c.if-self-eq0.true) ∙ none_marked)

pub returns-else-self-eq0-clause-lowest : goal.returns-else-self-eq0-clause-lowest
returns-else-self-eq0-clause-lowest c = sym (ap lowest_marked (sym c.self.view_is) ∙ lowest_is c.self.inside.bits (omega (arith, c.if-self-eq0.false)) (search rules))
