use Rattle.stale.proofs.Acked.{not_held}
use Rattle.stale.proofs.promises.acknowledged_page_is_not_stale.Goals as goal

pub returns : goal.returns
returns c = record {
  held = λ C setup H k h of page m l pages. not_held C setup H l pages k h of page m;
  used = λ C setup turn H k h of page m l pages a fresh for lies u. not_held C setup H l pages k h of page m a fresh for lies u.stale;
}
