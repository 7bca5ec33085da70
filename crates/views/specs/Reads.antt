-- What a load records of what it found: the words that an answer follows from are those of its own
-- loads.
use Rattle.std.specs.Prelude.{ℕ, ◌≡◌, ◌+◌, ◌⊎◌, ◌↔◌, true, All, Contains, List, [], ◌∷◌, ◌++◌, Result}
use Rattle.pte.specs.declared.permission.Access.{Access}
use Rattle.pte.specs.declared.permission.Ctx.{Ctx}
use Rattle.pte.specs.Address.{vpn_of}
use Rattle.walk.specs.declared.found_or_trap.Found.{Found}
use Rattle.walk.specs.declared.found_or_trap.Trap.{Trap}
use Rattle.walk.specs.Stage.{Stage}
use Rattle.spaces.specs.Layout.{Layout}
use Rattle.spaces.specs.Held.{word_index}
use Rattle.spaces.specs.Opening.{is_word}
use Rattle.views.specs.declared.view.Read.{Read}
use Rattle.views.specs.declared.view.View.{View}
use Rattle.views.specs.Turns.{walked}
use Rattle.views.specs.Walks.{AnswersByLoads}

-- the word that was read stands in a table, at this index among all words
abbrev pub StandsAt : Layout → ℕ → Read → Type 0
StandsAt l at read =
    (is_word l read.table read.index ≡ true) × (word_index l read.table read.index ≡ at)

-- no load of a walk is counted, and what was read stays
abbrev pub ReadsNothing : View → View → Type 0
ReadsNothing v w = (w.loads ≡ v.loads) × (w.reads ≡ v.reads)

-- one load of a walk is counted, and its read comes last: alone, or after those of before
abbrev pub ReadsAlso : Read → View → View → Type 0
ReadsAlso read v w =
    (w.loads ≡ v.loads + 1) × ((w.reads ≡ read ∷ []) ⊎ (w.reads ≡ v.reads ++ read ∷ []))

-- after a load that found a word at an index among all words, a view counts no load of a walk, or
-- this one, with that word as read there
abbrev pub IsRead : Layout → ℕ → ℕ → View → View → Type 0
IsRead l at word v w =
    ReadsNothing v w
    ⊎ ((read : Read) × StandsAt l at read × (read.word ≡ word) × ReadsAlso read v w)

-- A load leaves the view of a walk with a word exactly if it found that word, where the walk wants
-- it.
abbrev pub WalkRecordsWhatItsLoadFound : Type 0
WalkRecordsWhatItsLoadFound =
    (l : Layout) (v : View) (root : ℕ) (st : Stage) (reads : List Read) (at found word : ℕ)
    → is_word l st.table (vpn_of st.va st.level) ≡ true → (reads ≡ []) ⊎ (reads ≡ v.reads)
    → IsRead l at found v (walked v root st reads word)
    ↔ ((at ≡ word_index l st.table (vpn_of st.va st.level)) × (found ≡ word))

-- the views of a seat through steps from here, with the loads among them: where each was and what it
-- found, the first one first
pub data Loaded (l : Layout) (v : View) : List (ℕ × ℕ) → View → Type 0 where
  none_yet : Loaded l v [] v
  by_load : (loads : List (ℕ × ℕ)) (u w : View) (at word : ℕ) → Loaded l v loads u
      → IsRead l at word u w → Loaded l v (loads ++ (at, word) ∷ []) w
  by_other : (loads : List (ℕ × ℕ)) (u w : View) → Loaded l v loads u → ReadsNothing u w
      → Loaded l v loads w

-- one of these loads found the word that was read, where it was read
abbrev pub IsOneOf : Layout → List (ℕ × ℕ) → Read → Type 0
IsOneOf l loads read = Contains loads (word_index l read.table read.index, read.word)

-- Whatever the steps of a walk's call were: each word that its answer follows from is one that a
-- load of this call found, where it was read.
abbrev pub EachReadIsOfAnOwnLoad : Type 0
EachReadIsOfAnOwnLoad =
    (l : Layout) (v w : View) (root va : ℕ) (access : Access) (ctx : Ctx)
    (answer : Result Found Trap) (loads : List (ℕ × ℕ)) → Loaded l v loads w
    → AnswersByLoads l v root va access ctx answer w → All (IsOneOf l loads) w.reads
