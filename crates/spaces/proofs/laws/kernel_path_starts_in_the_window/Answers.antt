use Rattle.spaces.proofs.EditLaws.{kernel-path}
use Rattle.spaces.proofs.laws.kernel_path_starts_in_the_window.Goals as goal

pub returns : goal.returns
returns c = kernel-path
