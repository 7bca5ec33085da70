use Rattle.walk.proofs.Pages.{leads_page}
use Rattle.walk.proofs.laws.addresses_of_a_page_share_their_path.Goals as goal

pub returns : goal.returns
returns c = λ scheme words root a b i j t w same. leads_page scheme words root a b i same j t w
