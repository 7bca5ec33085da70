-- Answers to whether harts can fill a leaf now, each in the place of its hart.
use Rattle.std.specs.Prelude.{ℕ, Bool, ◌≡◌, ◌<◌, ◌&&◌, List, false, get_or, length, true}
use Rattle.tlb.specs.declared.store.Entry.{Entry}
use Rattle.watch.specs.declared.trace.Space.{Space}
use Rattle.watch_engine.specs.declared.live.Answer.{Answer}
use Rattle.watch_engine.specs.declared.live.Answer.TheVariants.{Live, NotLive, Unasked}
use Rattle.watch_engine.specs.Held.{is_same_entry, translation_in}
use Rattle.watch_engine.specs.View.{View, is_live_for}
use Rattle.watch_tables.specs.declared.leaf.RootLeaf.{RootLeaf}

abbrev pub answer_from : Bool → Answer
answer_from true = Live
answer_from false = NotLive

abbrev pub is_live_answer : Answer → Bool
is_live_answer Unasked = false
is_live_answer Live = true
is_live_answer NotLive = false

-- what is known is so
abbrev pub Agrees : Answer → Bool → Type 0
Agrees Unasked live = Unit {0}
Agrees Live live = live ≡ true
Agrees NotLive live = live ≡ false

-- what harts answer of a leaf: of one that is not global nothing is kept, of one that is global the
-- answer is the same whichever space it is asked of
pub record AreAnswers (v : View) (e : Entry) (answers : List Answer) : Type 0 where
  pub global : (hart : ℕ) → hart < length answers → e.global ≡ true
  pub each :
      (hart : ℕ) (space : Space)
      → Agrees (get_or answers hart Unasked) (is_live_for v hart (translation_in space e))

-- global leaves with the same entry
abbrev pub are_alike : RootLeaf → RootLeaf → Bool
are_alike leaf other = leaf.entry.global && is_same_entry leaf.entry other.entry
