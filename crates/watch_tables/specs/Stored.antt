-- What is stored under the number of a word.
use Rattle.std.specs.Prelude.{ℕ, Bool, false, nat_lt, ◌*◌, ◌==◌, ◌&&◌, not, true, if◌then◌else◌, Option, None, Some}
use Rattle.pte.specs.declared.address.TheConstants.{TABLE_LENGTH}
use Rattle.pte.specs.declared.entry.Kind.{Kind}
use Rattle.pte.specs.declared.entry.Kind.TheVariants as kinds
use Rattle.pte.specs.Entry.{kind_of}
use Rattle.watch_tables.specs.declared.tables.TheConstants.{FRAME_LIMIT}
use Rattle.watch_tables.specs.declared.frame.StoredWord.{StoredWord}

-- what is stored for a word, with the number of records so far: nothing for 0
abbrev pub word_to_store : ℕ → ℕ → Option StoredWord
word_to_store word count = if word == 0 then None else Some (record { word = word; since = count })

-- the word, and since when it is so
abbrev pub value_of : Option StoredWord → Option ℕ
value_of None = None
value_of (Some s) = Some s.word

abbrev pub since_of : Option StoredWord → ℕ
since_of None = 0
since_of (Some s) = s.since

-- the table that it points to
abbrev pub table_of_kind : Kind → Option ℕ
table_of_kind kinds.Invalid = None
table_of_kind kinds.Reserved = None
table_of_kind (kinds.Table ppn global) = Some ppn
table_of_kind (kinds.Leaf ppn flags) = None

abbrev pub table_of : Option StoredWord → Option ℕ
table_of None = None
table_of (Some s) = table_of_kind (kind_of s.word)

-- the table is this one
abbrev pub is_table : Option ℕ → ℕ → Bool
is_table None table = false
is_table (Some t) table = t == table

-- what is stored under the number is not 0, and has a physical address of 64 bits
abbrev pub is_kept : ℕ → Option StoredWord → Bool
is_kept number None = true
is_kept number (Some s) = nat_lt number (FRAME_LIMIT * TABLE_LENGTH) && not (s.word == 0)

-- the frame, or the first one without physical addresses of 64 bits
abbrev pub up_to_limit : ℕ → ℕ
up_to_limit frame = if nat_lt frame FRAME_LIMIT then frame else FRAME_LIMIT
