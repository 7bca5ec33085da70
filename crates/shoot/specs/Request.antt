-- A request as contracts see it.
use Rattle.std.specs.Prelude.{ℕ}
use Rattle.pte.specs.declared.address.What.{What}

-- what is asked, and the number of the ticket that counts the answers
pub record Request : Type 0 where
  pub ticket : ℕ
  pub what : What
