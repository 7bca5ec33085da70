-- The lines that `live` prints: those of the setup, those of each hart's script, and one for each
-- mailbox.
use Rattle.std.specs.Prelude.{ℕ, ◌+◌, List, [], ◌∷◌, ◌++◌, length, codes}
use Rattle.std.specs.Fmt.{decimal}
use Rattle.board.specs.declared.report.PairReport.{PairReport}
use Rattle.harts.specs.declared.live_reply.LiveReply.{LiveReply}
use Rattle.harts.specs.declared.live_reply.LiveReply.TheVariants.{Translated, Replied, Halted, Timeout}
use Rattle.lines.specs.AnswerLines.{hex}
use Rattle.lines.specs.ReplyLines.{reply_text}

-- the text of what a step answered
abbrev pub live_text : LiveReply → List ℕ
live_text (Translated pa) = codes "pa " ++ hex pa
live_text (Replied reply) = reply_text reply
live_text Halted = codes "halted"
live_text Timeout = codes "timeout"

-- the line of a step: whose it is, its number, and what it answered
abbrev pub live_line : List ℕ → ℕ → LiveReply → List ℕ
live_line whose number reply =
    whose ++ codes " " ++ decimal number ++ codes " " ++ live_text reply ++ codes "\n"

-- how many requests were accepted, were taken, and wait
abbrev pub counts_text : ℕ → ℕ → ℕ → List ℕ
counts_text accepted taken waiting =
    codes " accepted " ++ decimal accepted ++ codes " taken " ++ decimal taken ++ codes " waiting "
    ++ decimal waiting

-- the line of a mailbox: from whom, to whom, and the counts
abbrev pub pair_line : PairReport → List ℕ
pair_line pair =
    codes "pair " ++ decimal pair.sender ++ codes " " ++ decimal pair.receiver
    ++ counts_text pair.accepted pair.taken (length pair.waiting.items) ++ codes "\n"

-- the text of each in turn, of which the first has this number
abbrev pub each_from : {X : Type 0} → (ℕ → X → List ℕ) → ℕ → List X → List ℕ
each_from text n [] = []
each_from text n (x ∷ xs) = text n x ++ each_from text (n + 1) xs

-- the lines of steps, numbered from 1
abbrev pub steps_lines : List ℕ → List LiveReply → List ℕ
steps_lines whose replies = each_from (live_line whose) 1 replies

-- the lines of the scripts, hart by hart from 0
abbrev pub scripts_lines : List (List LiveReply) → List ℕ
scripts_lines scripts = each_from (λ hart replies. steps_lines (decimal hart) replies) 0 scripts

abbrev pub pairs_lines : List PairReport → List ℕ
pairs_lines pairs = each_from (λ n pair. pair_line pair) 0 pairs

-- the whole
abbrev pub live_lines : List LiveReply → List (List LiveReply) → List PairReport → List ℕ
live_lines setup scripts pairs =
    steps_lines (codes "setup") setup ++ scripts_lines scripts ++ pairs_lines pairs
