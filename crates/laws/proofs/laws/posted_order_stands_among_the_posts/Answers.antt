use Rattle.laws.proofs.Waiting.{posted_named, posted_stands}
use Rattle.laws.proofs.laws.posted_order_stands_among_the_posts.Goals as goal

pub returns-clause-stands : goal.returns-clause-stands
returns-clause-stands c = posted_stands

pub returns-clause-names : goal.returns-clause-names
returns-clause-names c = posted_named
