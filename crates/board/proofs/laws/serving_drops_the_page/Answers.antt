use Rattle.board.proofs.Serving.{serving_drops_the_page}
use Rattle.board.proofs.laws.serving_drops_the_page.Goals as goal

pub returns : goal.returns
returns c = serving_drops_the_page
