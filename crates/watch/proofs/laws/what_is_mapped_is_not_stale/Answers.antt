use Rattle.std.proofs.Common.{inr}
use Rattle.watch.proofs.Gone.{mapped-current}
use Rattle.watch.proofs.Roots.{leaf-current, live-current}
use Rattle.watch.proofs.laws.what_is_mapped_is_not_stale.Goals as goal

pub returns-clause-live : goal.returns-clause-live
returns-clause-live c = λ scheme trace hart x live stale. stale.gone (live-current scheme trace hart x live)

pub returns-clause-again : goal.returns-clause-again
returns-clause-again c = λ scheme trace hart root x counts leaf stale. stale.gone (leaf-current scheme trace root x counts leaf)

pub returns-clause-gained : goal.returns-clause-gained
returns-clause-gained c = λ scheme trace hart root x flags counts permit leaf stale.
    stale.gone (mapped-current scheme trace root x counts (record { flags = flags; permit = permit; leaf = leaf }))

pub returns-clause-shared : goal.returns-clause-shared
returns-clause-shared c = λ scheme trace hart root x global of leaf stale. stale.gone (leaf-current scheme trace root x (inr (global, of)) leaf)
