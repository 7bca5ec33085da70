use Rattle.history.proofs.Ordered.{nth_post}
use Rattle.history.proofs.occurrences.nth_post_is_an_accepted_post.Goals as goal

pub returns : goal.returns
returns c = λ C H sender receiver n sent. nth_post C sender receiver n sent H
