-- Which of the translations that a hart may hold are stale: the tables no longer give them
-- (privileged manual 4.2.1).
use Rattle.std.specs.Prelude.{ℕ, Bool, false, ◌≡◌, ◌+◌, ◌&&◌, ◌⊎◌, ◌++◌, ◌∷◌, nat_le, nat_lt, not}
use Rattle.std.specs.Prelude.{None, IsTrue}
use Rattle.std.specs.List.{AllPass}
use Rattle.pte.specs.declared.scheme.Scheme.{Scheme}
use Rattle.pte.specs.declared.flags.PteFlags.{PteFlags}
use Rattle.pte.specs.Address.{pages_of}
use Rattle.pte.specs.Entry.{is_user, may_read, may_write, may_execute}
use Rattle.walk.specs.Leads.{Tables}
use Rattle.tlb.specs.declared.store.Entry.{Entry}
use Rattle.watch.specs.declared.trace.Record.TheVariants.{Fence}
use Rattle.watch.specs.Trace.{Trace, words_of, stores, is_root}
use Rattle.watch.specs.Holding.{Translation, HasLeaf, MayHold}

-- the new flags permit what the old ones do: U is the same, and R, W and X stand where they stood
-- (4.3.1)
pub record Permit (new old : PteFlags) : Type 0 where
  pub user : is_user new.0 ≡ is_user old.0
  pub read : IsTrue (may_read old.0) → IsTrue (may_read new.0)
  pub write : IsTrue (may_write old.0) → IsTrue (may_write new.0)
  pub execute : IsTrue (may_execute old.0) → IsTrue (may_execute new.0)

-- the tables under its root have its page, its PPN and at least its rights, as global as it is
pub record IsMapped (scheme : Scheme) (words : Tables) (x : Translation) : Type 0 where
  pub flags : PteFlags
  pub permit : Permit flags x.entry.flags
  pub leaf : HasLeaf scheme words x.root (record x.entry { flags = flags })

-- the tables of the root count for the translation: the root is its own or, where it is global, that
-- of any address space, since what is global is in all of them (4.3.1, G)
abbrev pub IsRootFor : Trace → Translation → ℕ → Type 0
IsRootFor trace x root =
    ((x.entry.global ≡ false) × (root ≡ x.root))
    ⊎ (IsTrue x.entry.global × IsTrue (is_root trace root))

-- the tables of such a root have it now
pub record IsCurrent (scheme : Scheme) (trace : Trace) (x : Translation) : Type 0 where
  pub root : ℕ
  pub counts : IsRootFor trace x root
  pub mapped : IsMapped scheme (words_of trace) (record x { root = root })

-- the hart may hold it, and the tables no longer have it
pub record Stale (scheme : Scheme) (trace : Trace) (hart : ℕ) (x : Translation) : Type 0 where
  pub held : MayHold scheme trace hart x
  pub gone : ¬ IsCurrent scheme trace x

-- the frame is one of those that the entry's page is mapped to
abbrev pub is_frame_of : Entry → ℕ → Bool
is_frame_of e frame = nat_le e.ppn frame && nat_lt frame (e.ppn + pages_of e.page.size)

-- the hart may hold a stale translation to the frame
pub record Exposed (scheme : Scheme) (trace : Trace) (hart frame : ℕ) : Type 0 where
  pub translation : Translation
  pub stale : Stale scheme trace hart translation
  pub of_page : IsTrue (is_frame_of translation.entry frame)

-- the hart executed a fence of all, and no word was stored since
pub record HasFencedAll (trace : Trace) (hart : ℕ) : Type 0 where
  pub later : Trace
  pub earlier : Trace
  pub split : trace ≡ later ++ Fence hart None None ∷ earlier
  pub kept : AllPass (λ newest. not (stores newest)) later
