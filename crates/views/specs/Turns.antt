-- What a seat knows after a walk load and after a table store. A home read changes no view.
use Rattle.std.specs.Prelude.{ℕ, ◌≡◌, ◌+◌, ◌-◌, true, List, [], ◌∷◌, ◌++◌, map, slice_index, is_some, if◌then◌else◌, Option, Some, None}
use Rattle.pte.specs.declared.scheme.Scheme.{Scheme}
use Rattle.pte.specs.Address.{IsCanonical, vpn_of}
use Rattle.walk.specs.declared.walking.Progress.{Progress}
use Rattle.walk.specs.declared.walking.Progress.TheVariants as progress
use Rattle.walk.specs.Pointers.{pointed}
use Rattle.walk.specs.Stage.{Stage, start_of}
use Rattle.walk.specs.Step.{load_of}
use Rattle.spaces.specs.declared.configuration.Config.{Config}
use Rattle.spaces.specs.Layout.{Layout, is_frame, layout_of, root_ppn}
use Rattle.spaces.specs.Edits.{Store}
use Rattle.spaces.specs.Held.{memory_words}
use Rattle.spaces.specs.Applied.{memory_after}
use Rattle.spaces.specs.Tree.{IsAtHome}
use Rattle.tlb.specs.declared.store.Entry.{Entry}
use Rattle.tlb.specs.Answer.{entry_of}
use Rattle.views.specs.declared.view.Order.{Order}
use Rattle.views.specs.declared.view.Read.{Read}
use Rattle.views.specs.declared.view.View.{View}
use Rattle.views.specs.Rule.{memory_of}
use Rattle.views.specs.OnBoard.{HasReads}

-- where a walk stands after a load, if it goes on
abbrev pub onward : Progress → Option Stage
onward (progress.More next) = Some next
onward (progress.Found found) = None
onward (progress.Trap trap) = None

abbrev pub read_of : Stage → ℕ → Read
read_of st word = record { table = st.table; index = vpn_of st.va st.level; word = word }

-- the ASID of the space whose root this is
abbrev pub asid_at : Config → ℕ → ℕ
asid_at c root = slice_index (map (λ s. s.asid) c.spaces.items) (root - root_ppn (layout_of c) 0)

-- the entries after a load of a walk, whose leaf is filled in
abbrev pub with_fill : ℕ → List Entry → Progress → List Entry
with_fill asid entries (progress.More next) = entries
with_fill asid entries (progress.Found found) = entries ++ entry_of asid found ∷ []
with_fill asid entries (progress.Trap trap) = entries

-- a load of a walk from this root that stood at this stage, and had read these words
abbrev pub walked : View → ℕ → Stage → List Read → ℕ → View
walked v root st reads word = record v {
  root = root;
  walk = onward (load_of st (Some word));
  reads = reads ++ read_of st word ∷ [];
  loads = v.loads + 1;
  entries = with_fill (asid_at v.config root) v.entries (load_of st (Some word));
}

-- what a load of a walk shows: the next table is a frame; the tables of this moment have all that
-- the walk read; and a word at home is as the view says
abbrev pub TellsFrame : Layout → Stage → ℕ → Type 0
TellsFrame l st n =
    (next : Stage) → load_of st (Some n) ≡ progress.More next → is_frame l next.table ≡ true

pub record TellsLoad (l : Layout) (v : View) (root : ℕ) (st : Stage) (reads : List Read)
    (n : ℕ) : Type 0 where
  pub frame : TellsFrame l st n
  pub has_reads : HasReads (walked v root st reads n)
  pub at_home : IsAtHome l v.hart st.table
      → memory_words (memory_of l v) st.table (vpn_of st.va st.level) ≡ Some n

-- a walk that waits for a word of its root
pub record IsStart (scheme : Scheme) (root : ℕ) (st : Stage) : Type 0 where
  pub canonical : IsCanonical scheme st.va
  pub is : st ≡ start_of scheme root st.va st.access st.ctx

-- a store takes a spare frame more where its word is a pointer
abbrev pub used_after : ℕ → Store → ℕ
used_after used store = if is_some (pointed (Some store.word)) then used + 1 else used

-- a store by the home, which then has these orders
abbrev pub edited : Layout → View → Store → List Order → View
edited l v store orders = record v {
  words = (memory_after (memory_of l v) store).words;
  holders = (memory_after (memory_of l v) store).holders;
  used = used_after v.used store;
  stores = v.stores + 1;
  versions = (memory_after (memory_of l v) store).words ∷ v.versions;
  orders = orders;
}
