-- What an item of the list of what harts may hold is found by.
use Rattle.std.specs.Prelude.{ℕ, ◌+◌, ◌-◌, ◌/◌, ◌%◌, ◌^◌, ◌≡◌, ◌<◌, ◌≤◌, ◌==◌, ◌&&◌, ◌⊎◌, if◌then◌else◌, nat_lt}
use Rattle.std.specs.Prelude.{List, length, take}
use Rattle.pte.specs.Address.{Span, level_of}
use Rattle.tlb.specs.declared.store.Entry.{Entry}
use Rattle.watch_engine.specs.declared.held.Held.{Held}
use Rattle.watch_engine.specs.declared.keys.By.{By}
use Rattle.watch_engine.specs.declared.keys.By.TheVariants.{Frame, Page, Root}
use Rattle.watch_engine.specs.declared.keys.Keys.{Keys}

-- of a page of 4 KiB the bits of its number that it has in each scheme, and so of a megapage, 2 MiB,
-- behind all of these; all larger pages have one key
abbrev pub page_key : Span → ℕ
page_key page =
    if (level_of page.size == 0) && (page.base % 4096 == 0)
    then page.base / 4096 % 2 ^ 27
    else
    (if (level_of page.size == 1) && (page.base % 2097152 == 0)
    then 2 ^ 27 + 1 + page.base / 2097152 % 2 ^ 18
    else 2 ^ 27)

-- of a page of 4 KiB its frame; all others have one key
abbrev pub frame_key : Entry → ℕ
frame_key e = if level_of e.page.size == 0 then e.ppn % 2 ^ 52 else 2 ^ 52

abbrev pub key_of : By → Held → ℕ
key_of Page i = page_key i.entry.page
key_of Frame i = frame_key i.entry
key_of Root i = i.root % 2 ^ 52

-- the key at a place: of the pages, and behind them of the megapages
abbrev pub key_at : Keys → ℕ → ℕ
key_at keys place =
    if nat_lt place keys.count
    then (keys.first + place) % keys.limit
    else keys.limit + 1 + (keys.first / 512 + (place - keys.count)) % 2 ^ 18

-- the key is one of these, or that of what is larger
abbrev pub IsAmong : Keys → ℕ → Type 0
IsAmong keys key =
    ((place : ℕ) × (place < keys.count + keys.megapages) × (key ≡ key_at keys place))
    ⊎ (key ≡ keys.limit)

-- no number that the keys are made of is large
abbrev pub AreSmall : Keys → Type 0
AreSmall keys =
    (keys.first < 2 ^ 60) × (keys.count ≤ 8) × (0 < keys.limit) × (keys.limit < 2 ^ 60)
    × (keys.megapages ≤ 2)

-- the first keys are those
abbrev pub BeginsWith : List ℕ → List ℕ → Type 0
BeginsWith old keys = (length old ≤ length keys) × (take (length old) keys ≡ old)
