-- A walk stays on its path where the pointers stay.
use Rattle.std.proofs.Common.{ℕ, Option, Some, None}
use Rattle.pte.specs.declared.scheme.Scheme.{Scheme}
use Rattle.walk.specs.Leads.{Tables}
use Rattle.walk.specs.Stage.{Stage, OnPath}
use Rattle.walk.specs.Stores.{KeepsPointers}
use Rattle.walk.proofs.Stored.{on_path_kept}
use Rattle.history.specs.Harts.{Walking}
use Rattle.stepcore.specs.Stands.{AreSameWalk}
pub use Rattle.laws.proofs.PointersKept.{is_reclaim, pointers_kept}

-- a walk stays what the history says where it stays on its path
pub same_walk_moved : (scheme : Scheme) (old new : Tables) (root : ℕ) (stage : Option Stage) (walk : Option Walking) → ((s : Stage) → OnPath scheme old root s → OnPath scheme new root s)
    → AreSameWalk scheme old root stage walk → AreSameWalk scheme new root stage walk
same_walk_moved scheme old new root None None stays same = same
same_walk_moved scheme old new root None (Some walk) stays same = absurd same
same_walk_moved scheme old new root (Some stage) None stays same = absurd same
same_walk_moved scheme old new root (Some stage) (Some walk) stays same =
    record { va = same.va; access = same.access; ctx = same.ctx; level = same.level; on = stays stage same.on }

-- so it does where the pointers stay
pub same_walk_kept : (scheme : Scheme) (old new : Tables) (root : ℕ) (stage : Option Stage) (walk : Option Walking) → KeepsPointers old new → AreSameWalk scheme old root stage walk → AreSameWalk scheme new root stage walk
same_walk_kept scheme old new root stage walk keeps same = same_walk_moved scheme old new root stage walk (λ s on. on_path_kept scheme old new root s keeps on) same
