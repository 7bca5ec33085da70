-- Leaves below a word of a root that harts have left, of which nothing is to be remembered.
use Rattle.std.specs.Prelude.{ℕ, ◌≡◌, true}
use Rattle.pte.specs.Address.{top_level, vpn_of}
use Rattle.tlb.specs.declared.store.Entry.{Entry}
use Rattle.watch.specs.declared.trace.Space.{Space}
use Rattle.watch.specs.Holding.{HasLeaf}
use Rattle.watch_engine.specs.declared.left.Left.{Left}
use Rattle.watch_engine.specs.Held.{translation_in}
use Rattle.watch_engine.specs.View.{View, is_live_for}

-- the hart that left the space can fill each leaf below the word
abbrev pub FillsBelow : View → ℕ → ℕ → Left → Type 0
FillsBelow v root index l =
    (e : Entry) (s : Space) → HasLeaf v.scheme v.words root e → vpn_of e.page.base (top_level v.scheme) ≡ index
    → is_live_for v l.hart (translation_in s e) ≡ true
