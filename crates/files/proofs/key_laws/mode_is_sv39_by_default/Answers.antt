use Rattle.std.proofs.Common.{refl}
use Rattle.files.proofs.key_laws.mode_is_sv39_by_default.Goals as goal

pub returns : goal.returns
returns c ms none = rw none refl
