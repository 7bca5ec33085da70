-- What the harts begin with, as numbers.
use Rattle.std.specs.Prelude.{ℕ, Bool, List, map, nat_lt}
use Rattle.spaces.specs.declared.configuration.Config.{Config}
use Rattle.spaces.specs.Layout.{Layout, layout_of}

-- how many harts there are, the capacity of each mailbox, the first ASID of each space, and the
-- layout of table memory
pub record Setup : Type 0 where
  pub harts : ℕ
  pub capacity : ℕ
  pub asids : List ℕ
  pub layout : Layout

-- the setup of a configuration
abbrev pub setup_of : Config → Setup
setup_of config =
    record {
      harts = config.harts;
      capacity = config.capacity;
      asids = map (λ s. s.asid)
          config.spaces.items;
      layout = layout_of config;
    }

-- the hart exists
abbrev pub is_hart : Setup → ℕ → Bool
is_hart setup hart = nat_lt hart setup.harts
