-- The lines that `stale` prints: one for each item, and the numbers of both kinds.
use Rattle.std.specs.Prelude.{ℕ, ◌+◌, ◌/◌, ◌%◌, ◌^◌, Bool, true, false, not, List, [], ◌∷◌, ◌++◌, length, codes}
use Rattle.std.specs.Fmt.{decimal}
use Rattle.std.specs.List.{filter}
use Rattle.pte.specs.Address.{Span, bytes_of, page_around, pages_of}
use Rattle.pte.specs.declared.address.PageSize.TheVariants.{Kib4}
use Rattle.pte.specs.declared.entry.TheConstants.{PPN_BITS}
use Rattle.tlb.specs.declared.store.Entry.{Entry}
use Rattle.lines.specs.AnswerLines.{hex}
use Rattle.lines.specs.ReplyLines.{page_text, reach_text}
use Rattle.stale.specs.Mapped.{reach_of}
use Rattle.stale.specs.declared.hits.StaleUse.{StaleUse}
use Rattle.stale.specs.declared.items.StaleAt.{StaleAt}
use Rattle.stale.specs.declared.items.StaleItem.{StaleItem}
use Rattle.stale.specs.declared.items.StaleItem.TheVariants.{Became, Used}

-- the PPN that an entry has for an address of its page; of the entry's PPN the low 44 bits count
abbrev pub ppn_at : Entry → ℕ → ℕ
ppn_at e va = e.ppn % 2 ^ PPN_BITS + va / bytes_of Kib4 % pages_of e.page.size

-- the mappings of an entry in a page: the page, the address spaces, and the PPN of the page's first
-- address
abbrev pub mappings_text : Entry → Span → List ℕ
mappings_text e page =
    codes " page " ++ page_text page ++ codes " " ++ reach_text (reach_of e) ++ codes " ppn "
    ++ hex (ppn_at e page.base)

-- the hart that made the step, and its ticket
abbrev pub order_text : ℕ → ℕ → List ℕ
order_text home ticket = codes " order " ++ decimal home ++ codes " " ++ decimal ticket

-- the page of 4 KiB of the address
unfoldable pub page_used : StaleUse → Span
page_used used = page_around used.va Kib4

abbrev pub item_text : StaleItem → List ℕ
item_text (Became became) =
    codes " stale " ++ decimal became.hart ++ mappings_text became.entry became.page
    ++ order_text became.home became.ticket
item_text (Used used) =
    codes " used " ++ decimal used.hart ++ mappings_text used.entry (page_used used)

abbrev pub item_line : StaleAt → List ℕ
item_line at = decimal at.step ++ item_text at.item ++ codes "\n"

abbrev pub item_lines : List StaleAt → List ℕ
item_lines [] = []
item_lines (at ∷ items) = item_line at ++ item_lines items

-- whether an item is a use, and how many are and how many are not
abbrev pub is_use : StaleItem → Bool
is_use (Became became) = false
is_use (Used used) = true

abbrev pub uses_in : List StaleAt → ℕ
uses_in items = length (filter (λ at. is_use at.item) items)

abbrev pub others_in : List StaleAt → ℕ
others_in items = length (filter (λ at. not (is_use at.item)) items)

abbrev pub last_line : List StaleAt → List ℕ
last_line items =
    codes "stale " ++ decimal (others_in items) ++ codes " used " ++ decimal (uses_in items)
    ++ codes "\n"

abbrev pub stale_lines : List StaleAt → List ℕ
stale_lines items = item_lines items ++ last_line items
