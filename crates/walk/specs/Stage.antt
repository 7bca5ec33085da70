-- Where a walk stands between two loads (privileged manual 4.3.2: a and i, the table and the
-- level).
use Rattle.std.specs.Prelude.{ℕ, Bool, false, ◌≡◌, ◌+◌, ◌<◌, ◌≤◌, ◌^◌, ◌↔◌, IsTrue}
use Rattle.pte.specs.declared.scheme.Scheme.{Scheme}
use Rattle.pte.specs.declared.permission.Access.{Access}
use Rattle.pte.specs.declared.permission.Ctx.{Ctx}
use Rattle.pte.specs.Address.{IsCanonical, top_level, widest}
use Rattle.pte.specs.declared.entry.TheConstants.{PPN_BITS}
use Rattle.walk.specs.Leads.{Tables, word_at, Leads, IsGlobalAt}

-- a walk for an access of an address, which waits for a word of a table of a level; global: a
-- pointer above has G
pub record Stage : Type 0 where
  pub va : ℕ
  pub access : Access
  pub ctx : Ctx
  pub level : ℕ
  pub table : ℕ
  pub global : Bool

-- the walk of these numbers
abbrev pub stage_of : ℕ → Access → Ctx → ℕ → ℕ → Bool → Stage
stage_of va access ctx level table global =
    record {
      va = va;
      access = access;
      ctx = ctx;
      level = level;
      table = table;
      global = global;
    }

-- a walk that waits for a word of the root
abbrev pub start_of : Scheme → ℕ → ℕ → Access → Ctx → Stage
start_of scheme root va access ctx =
    record {
      va = va;
      access = access;
      ctx = ctx;
      level = top_level scheme;
      table = root;
      global = false;
    }

-- what every walk keeps, in any scheme
pub record IsInLimits (s : Stage) : Type 0 where
  pub canonical : IsCanonical widest s.va
  pub level : s.level ≤ top_level widest
  pub table : s.table < 2 ^ PPN_BITS

-- the walk stands on the path: its table is the one that pointers lead to, and it knows whether one
-- of them has G
pub record OnPath (scheme : Scheme) (words : Tables) (root : ℕ) (s : Stage) : Type 0 where
  pub canonical : IsCanonical scheme s.va
  pub leads : Leads scheme words root s.va s.level s.table (word_at words s.va s.level s.table)
  pub global : IsTrue s.global ↔ IsGlobalAt scheme words root s.va (s.level + 1)

-- the walk is for this access
pub record IsFor (s : Stage) (va : ℕ) (access : Access) (ctx : Ctx) : Type 0 where
  pub same_va : s.va ≡ va
  pub same_access : s.access ≡ access
  pub same_ctx : s.ctx ≡ ctx
