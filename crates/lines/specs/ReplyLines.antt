-- The lines that `run` prints: that of each step has its number and its reply.
use Rattle.std.specs.Prelude.{ℕ, ◌+◌, Bool, List, [], ◌∷◌, ◌++◌, Option, Some, None, codes, if◌then◌else◌}
use Rattle.std.specs.Fmt.{decimal}
use Rattle.std.specs.List.{filter, join_by}
use Rattle.pte.specs.Address.{Span}
use Rattle.pte.specs.declared.address.What.{What}
use Rattle.pte.specs.declared.address.What.TheVariants.{PageOf, SpaceOf, All}
use Rattle.shoot.specs.HartSet.{all_harts, contains, harts_in}
use Rattle.shoot.specs.Request.{Request}
use Rattle.history.specs.declared.refusal.Refusal.{Refusal}
use Rattle.history.specs.declared.refusal.Refusal.TheVariants as refusals
use Rattle.history.specs.declared.reply.Reply.{Reply}
use Rattle.history.specs.declared.reply.Reply.TheVariants as reply
use Rattle.lines.specs.AnswerLines.{hex, size_text, trap_text}

abbrev pub refusal_text : Refusal → List ℕ
refusal_text refusals.NoHart = codes "NoHart"
refusal_text refusals.NoSpace = codes "NoSpace"
refusal_text refusals.NotHome = codes "NotHome"
refusal_text refusals.WrongHalf = codes "WrongHalf"
refusal_text refusals.BadFlags = codes "BadFlags"
refusal_text refusals.PpnTooLarge = codes "PpnTooLarge"
refusal_text refusals.Misaligned = codes "Misaligned"
refusal_text refusals.AlreadyMapped = codes "AlreadyMapped"
refusal_text refusals.LeafInWay = codes "LeafInWay"
refusal_text refusals.TableInWay = codes "TableInWay"
refusal_text refusals.NoFrame = codes "NoFrame"
refusal_text refusals.NotMapped = codes "NotMapped"
refusal_text refusals.WrongSize = codes "WrongSize"
refusal_text refusals.HomeNotNamed = codes "HomeNotNamed"
refusal_text refusals.NoTicket = codes "NoTicket"
refusal_text refusals.NotOpen = codes "NotOpen"
refusal_text refusals.NotNamed = codes "NotNamed"
refusal_text refusals.AlreadyPosted = codes "AlreadyPosted"
refusal_text refusals.Closed = codes "Closed"
refusal_text refusals.Full = codes "Full"
refusal_text refusals.Empty = codes "Empty"
refusal_text refusals.Walking = codes "Walking"
refusal_text refusals.NotWalking = codes "NotWalking"
refusal_text refusals.Serving = codes "Serving"
refusal_text refusals.NotServing = codes "NotServing"
refusal_text refusals.NotFenced = codes "NotFenced"
refusal_text refusals.NotDone = codes "NotDone"
refusal_text refusals.Retiring = codes "Retiring"
refusal_text refusals.InUse = codes "InUse"
refusal_text refusals.NotAcked = codes "NotAcked"
refusal_text refusals.NotRetiring = codes "NotRetiring"
refusal_text refusals.NotFree = codes "NotFree"
refusal_text refusals.AsidInUse = codes "AsidInUse"

-- the harts of a set, ascending, with commas between them
abbrev pub harts_text : List Bool → List ℕ
harts_text set = join_by decimal (codes ",") (filter (contains set) all_harts)

-- a hart, and a comma before it where it is not the first
abbrev pub next_text : Bool → ℕ → List ℕ
next_text is_first hart = (if is_first then [] else codes ",") ++ decimal hart

abbrev pub page_text : Span → List ℕ
page_text page = size_text page.size ++ codes ":" ++ hex page.base

-- where the page is dropped: in the address space of an ASID, or in each
abbrev pub reach_text : Option ℕ → List ℕ
reach_text None = codes "global"
reach_text (Some asid) = codes "asid " ++ decimal asid

abbrev pub what_text : What → List ℕ
what_text (PageOf page reach) = codes "page " ++ page_text page ++ codes " " ++ reach_text reach
what_text (SpaceOf asid) = codes "asid " ++ decimal asid
what_text All = codes "all"

abbrev pub request_text : Request → List ℕ
request_text request =
    codes "taken " ++ decimal request.ticket ++ codes " " ++ what_text request.what

-- the text of a reply
abbrev pub reply_text : Reply → List ℕ
reply_text (reply.Hit pa) = codes "hit " ++ hex pa
reply_text (reply.Trap trap) = trap_text trap
reply_text reply.More = codes "more"
reply_text (reply.Filled pa) = codes "fill " ++ hex pa
reply_text (reply.Table ppn) = codes "table " ++ hex ppn
reply_text reply.Leaf = codes "leaf"
reply_text (reply.Opened ticket) = codes "opened " ++ decimal ticket
reply_text reply.Ok = codes "ok"
reply_text (reply.Taken request) = request_text request
reply_text reply.Done = codes "done"
reply_text (reply.Waiting left) = codes "waiting " ++ harts_text (harts_in left)
reply_text (reply.Refused refusal) = codes "refused " ++ refusal_text refusal

abbrev pub reply_line : ℕ → Reply → List ℕ
reply_line number reply = decimal number ++ codes " " ++ reply_text reply ++ codes "\n"

-- the lines of the replies, the first of which is that of the step of this number
abbrev pub lines_from : ℕ → List Reply → List ℕ
lines_from n [] = []
lines_from n (reply ∷ replies) = reply_line n reply ++ lines_from (n + 1) replies

abbrev pub reply_lines : List Reply → List ℕ
reply_lines replies = lines_from 1 replies
