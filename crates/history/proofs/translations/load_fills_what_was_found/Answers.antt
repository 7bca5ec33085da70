use Rattle.history.proofs.Leaving.{load_fills}
use Rattle.history.proofs.translations.load_fills_what_was_found.Goals as goal

pub returns : goal.returns
returns c = load_fills
