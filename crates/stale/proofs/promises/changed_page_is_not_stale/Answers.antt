use Rattle.stale.proofs.Acked.{not_changed}
use Rattle.stale.proofs.promises.changed_page_is_not_stale.Goals as goal

pub returns : goal.returns
returns c = record {
  held = λ C setup H k h cause of page m l pages. not_changed C setup H l pages k h cause of page m;
  used = λ C setup turn H k h cause of page m l pages change a fresh for lies u. not_changed C setup H l pages k h cause of page m change a fresh for lies u.stale;
}
