-- Spaces that were left, in the order of their roots.
use Rattle.std.specs.Prelude.{ℕ, ◌<◌, ◌≤◌, List}
use Rattle.std.specs.List.Sorted.{IsNonDecreasingBy, IsPartitionPoint}
use Rattle.watch_engine.specs.declared.left.Left.{Left}

abbrev pub AreByRoot : List Left → Type 0
AreByRoot left = IsNonDecreasingBy (λ (l : Left). l.space.root) left

-- those before the place, and no others, have a root below this one
abbrev pub Begins : List Left → ℕ → ℕ → Type 0
Begins left place root =
    IsPartitionPoint (λ (l : Left). l.space.root < root) (λ (l : Left). root ≤ l.space.root) left place

-- those from the place on, and no others, have a root above this one
abbrev pub Ends : List Left → ℕ → ℕ → Type 0
Ends left place root =
    IsPartitionPoint (λ (l : Left). l.space.root ≤ root) (λ (l : Left). root < l.space.root) left place
