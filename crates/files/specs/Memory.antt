-- The memory that a file of `walk` describes: the words of its table frames.
use Rattle.std.specs.Prelude.{ℕ, ◌+◌, ◌*◌, ◌==◌, ◌&&◌, Bool, nat_eq, nat_lt, List, get_or, fold, position, Option, Some, None, option_map, if◌then◌else◌}
use Rattle.std.specs.List.{list_any}
use Rattle.pte.specs.declared.address.TheConstants.{TABLE_LENGTH}
use Rattle.files.specs.declared.frames.Frames.{Frames}
use Rattle.files.specs.declared.frames.TableFrames.{TableFrames}
use Rattle.files.specs.declared.frames.TableWord.{TableWord}

-- the PPN is one of these
abbrev pub is_listed : List ℕ → ℕ → Bool
is_listed ppns ppn = list_any (nat_eq ppn) ppns

abbrev pub names : TableWord → ℕ → ℕ → Bool
names word ppn index = (word.ppn == ppn) && (word.index == index)

-- the word at an index of a frame: that of the last text that names it, else 0
abbrev pub last_word : List TableWord → ℕ → ℕ → ℕ
last_word words ppn index =
    fold (λ old word. if names word ppn index then word.word else old) 0 words

-- the same where the PPN is a frame's and the index a table's; all else is outside memory
abbrev pub word_in : (ℕ → Bool) → List TableWord → ℕ → ℕ → Option ℕ
word_in is_frame words ppn index =
    if is_frame ppn && nat_lt index TABLE_LENGTH then Some (last_word words ppn index) else None

-- ---- how the code keeps it

-- the test of these frames
abbrev pub is_frame_of : Frames → ℕ → Bool
is_frame_of frames = is_listed frames.ppns.items

abbrev pub place_of : Frames → ℕ → Option ℕ
place_of frames ppn = position (nat_eq ppn) frames.ppns.items

-- where a word stands among the words of all frames
abbrev pub position_of : Frames → ℕ → ℕ → Option ℕ
position_of frames ppn index =
    if nat_lt index TABLE_LENGTH
    then option_map (λ place. TABLE_LENGTH * place + index) (place_of frames ppn) else None

abbrev pub word_at : TableFrames → ℕ → ℕ → Option ℕ
word_at tables ppn index =
    option_map (λ position. get_or tables.words.items position 0)
    (position_of tables.frames ppn index)

-- an old word, after this one was stored
abbrev pub stored : TableWord → ℕ → ℕ → Option ℕ → Option ℕ
stored word ppn index old = if names word ppn index then option_map (λ _. word.word) old else old
