use Rattle.views.proofs.Lasting.{each_space_at_home_is_read_back}
use Rattle.views.proofs.laws.each_space_at_home_is_read_back.Goals as goal

pub returns : goal.returns
returns c = each_space_at_home_is_read_back
