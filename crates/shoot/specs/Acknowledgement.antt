-- The word by which a hart acknowledges a request. It says what was asked, and not under which
-- ticket: bit 63 is 1, bits 55 and 54 are the kind, 53 and 52 the size of the page by its level, 51
-- to 36 the ASID, and 35 to 0 are bits 47 to 12 of the page's address. A field that a kind does not
-- have is 0, as are bits 62 to 56.
use Rattle.std.specs.Prelude.{⊤, ℕ, ◌+◌, ◌*◌, ◌/◌, ◌%◌, ◌^◌, ◌<◌, Some, None}
use Rattle.pte.specs.declared.TheConstants.{ASID_BITS}
use Rattle.pte.specs.declared.address.PageSize.TheVariants.{Kib4}
use Rattle.pte.specs.declared.address.What.{What}
use Rattle.pte.specs.declared.address.What.TheVariants.{PageOf, SpaceOf, All}
use Rattle.pte.specs.Address.{Span, IsPage, bytes_of, level_of}

-- the word of a kind, a size, an ASID and the number of a page
abbrev pub word_with : ℕ → ℕ → ℕ → ℕ → ℕ
word_with kind size asid number = 2 ^ 63 + kind * 2 ^ 54 + size * 2 ^ 52 + asid * 2 ^ 36 + number

-- bits 47 to 12 of the page's address
abbrev pub number_in : Span → ℕ
number_in page = page.base / bytes_of Kib4 % 2 ^ 36

-- a page of an ASID, a global page, a space, or all
abbrev pub acknowledgement : What → ℕ
acknowledgement (PageOf page (Some asid)) = word_with 0 (level_of page.size) asid (number_in page)
acknowledgement (PageOf page None) = word_with 1 (level_of page.size) 0 (number_in page)
acknowledgement (SpaceOf asid) = word_with 2 0 asid 0
acknowledgement All = word_with 3 0 0 0

-- what can be asked: the page is one, and an ASID has 16 bits
abbrev pub IsAskable : What → Type 0
IsAskable (PageOf page (Some asid)) = IsPage page × (asid < 2 ^ ASID_BITS)
IsAskable (PageOf page None) = IsPage page
IsAskable (SpaceOf asid) = asid < 2 ^ ASID_BITS
IsAskable All = ⊤
