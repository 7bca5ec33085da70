use Rattle.std.proofs.Common.{◌≡◌, drop}
use Rattle.watch_causes.specs.Masks.{asked_from}
use Rattle.watch_causes.proofs.fenced.mask_of.Given as goal

abbrev pub invariant-loop-one : goal.invariant-loop-one
invariant-loop-one l = asked_from l.others l.flusher l.hart l.harts (drop l.one-index l.fences) ≡ asked_from l.others l.flusher l.hart 0 l.fences
