use Rattle.spaces.proofs.Unused.{lowest-is, none-is}
use Rattle.spaces.proofs.laws.new_table_takes_the_lowest_unused_frame.Goals as goal

pub returns-clause-lowest : goal.returns-clause-lowest
returns-clause-lowest c = lowest-is

pub returns-clause-none : goal.returns-clause-none
returns-clause-none c = none-is
