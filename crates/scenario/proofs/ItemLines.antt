-- Lines of items, one after the other.
use Rattle.std.proofs.Common.{◌≡◌, ℕ, ◌+◌, ◌<◌, List, ◌++◌, length, get_or, drop, sym, ◌∙◌, append_assoc, append-nil}
use Rattle.std.proofs.lemmas.List.{drop_more}
use Rattle.std.proofs.Math.Seq.{drop-length}
use Rattle.stale.specs.declared.items.StaleAt.{StaleAt}
use Rattle.scenario.specs.StaleLines.{item_line, item_lines}

abbrev pub LinesSoFar : List StaleAt → ℕ → List ℕ → Type 0
LinesSoFar items i front = item_lines items ≡ front ++ item_lines (drop i items)

pub lines_more : (items : List StaleAt) (i : ℕ) (front new : List ℕ) (d : StaleAt) → i < length items → new ≡ front ++ item_line (get_or items i d)
    → LinesSoFar items i front → LinesSoFar items (i + 1) new
lines_more items i front new d lt e so_far =
    so_far ∙ rw (drop_more items i d lt, e) (sym (append_assoc front (item_line (get_or items i d)) (item_lines (drop (i + 1) items))))

pub lines_end : (items : List StaleAt) (front : List ℕ) → LinesSoFar items (length items) front → front ≡ item_lines items
lines_end items front so_far = sym (so_far ∙ rw (drop-length items) (append-nil front))
