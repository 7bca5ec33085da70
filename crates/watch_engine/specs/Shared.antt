-- Leaves below the same word of a root.
use Rattle.std.specs.Prelude.{ℕ, Bool, ◌≡◌, List, Option, Some, get_or, true}
use Rattle.std.specs.List.{list_all}
use Rattle.pte.specs.declared.scheme.Scheme.{Scheme}
use Rattle.pte.specs.Address.{top_level, vpn_of}
use Rattle.tlb.specs.declared.store.Entry.{Entry}
use Rattle.watch.specs.declared.trace.Space.{Space}
use Rattle.watch.specs.Holding.{HasLeaf}
use Rattle.watch_tables.specs.declared.leaf.RootLeaf.{RootLeaf}
use Rattle.watch_engine.specs.declared.left.Left.{Left}
use Rattle.watch_engine.specs.declared.live.Answer.{Answer}
use Rattle.watch_engine.specs.declared.live.Answer.TheVariants.{Unasked}
use Rattle.watch_engine.specs.Filling.{AreAnswers, is_live_answer}
use Rattle.watch_engine.specs.View.{View}

-- the entry is global, and below the word of the leaf's root that is above the leaf
pub record IsBelow (scheme : Scheme) (leaf : RootLeaf) (e : Entry) : Type 0 where
  pub global : e.global ≡ true
  pub index : vpn_of e.page.base (top_level scheme) ≡ vpn_of leaf.entry.page.base (top_level scheme)

-- the same of a leaf of the same root
pub record IsBeside (scheme : Scheme) (leaf other : RootLeaf) : Type 0 where
  pub root : leaf.root ≡ other.root
  pub below : IsBelow scheme leaf other.entry

-- there is a space, and its root has the word of this root at the index
pub record HasWordOf (v : View) (root index : ℕ) (space : Option Space) : Type 0 where
  pub of : Space
  pub is : space ≡ Some of
  pub same : v.words root index ≡ v.words of.root index

-- what harts answer of each such leaf that the tables of the root have
abbrev pub AreAnswersBelow : View → RootLeaf → List Answer → Type 0
AreAnswersBelow v leaf answers =
    (e : Entry) → IsBelow v.scheme leaf e → HasLeaf v.scheme v.words leaf.root e → AreAnswers v e answers

-- each hart that left one of the spaces can fill it
abbrev pub are_all_live : List Answer → List Left → Bool
are_all_live answers left = list_all (λ l. is_live_answer (get_or answers l.hart Unasked)) left
