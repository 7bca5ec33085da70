-- Translations of one page that are remembered one after another, and the harts of the items there.
use Rattle.std.specs.Prelude.{ℕ, Bool, false, true, ◌≡◌, ◌==◌, ◌&&◌, List, get_or, take}
use Rattle.std.specs.List.{list_any}
use Rattle.pte.specs.Address.{Span, level_of}
use Rattle.watch_engine.specs.declared.held.Held.{Held}
use Rattle.watch_engine.specs.declared.held.LastLive.{LastLive}
use Rattle.watch_engine.specs.Held.{remembered_all}

abbrev pub is_that_page : Span → Span → Bool
is_that_page a b = (a.base == b.base) && (level_of a.size == level_of b.size)

-- it is of the page and the hart
abbrev pub is_on_page : Span → ℕ → Held → Bool
is_on_page page hart i = is_that_page i.entry.page page && (i.hart == hart)

-- each item of the page is of one of these harts, or of one past their end
abbrev pub AreHartsOf : Span → List Held → List Bool → Type 0
AreHartsOf page held harts =
    (hart : ℕ) → get_or harts hart true ≡ false → list_any (is_on_page page hart) held ≡ false

-- what is remembered from one place on up to another
abbrev pub AreRememberedUpTo : List LastLive → ℕ → ℕ → List Held → List Held → Type 0
AreRememberedUpTo live start end old new =
    (held : List Held) → old ≡ remembered_all (take start live) held
    → new ≡ remembered_all (take end live) held
