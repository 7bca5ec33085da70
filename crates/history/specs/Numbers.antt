-- The numbers of the refusals.
use Rattle.std.specs.Prelude.{ℕ}
use Rattle.history.specs.declared.refusal.Refusal.{Refusal}
use Rattle.history.specs.declared.refusal.Refusal.TheVariants.{NoHart, NoSpace, NotHome, WrongHalf, BadFlags, PpnTooLarge, Misaligned, AlreadyMapped, LeafInWay, TableInWay, NoFrame, NotMapped, WrongSize, HomeNotNamed, NoTicket, NotOpen, NotNamed, AlreadyPosted, Closed, Full, Empty, Walking, NotWalking, Serving, NotServing, NotFenced, NotDone, Retiring, InUse, NotAcked, NotRetiring, NotFree, AsidInUse}

abbrev pub code_of : Refusal → ℕ
code_of NoHart = 1
code_of NoSpace = 2
code_of NotHome = 3
code_of WrongHalf = 4
code_of BadFlags = 5
code_of PpnTooLarge = 6
code_of Misaligned = 7
code_of AlreadyMapped = 8
code_of LeafInWay = 9
code_of TableInWay = 10
code_of NoFrame = 11
code_of NotMapped = 12
code_of WrongSize = 13
code_of HomeNotNamed = 14
code_of NoTicket = 15
code_of NotOpen = 16
code_of NotNamed = 17
code_of AlreadyPosted = 18
code_of Closed = 19
code_of Full = 20
code_of Empty = 21
code_of Walking = 22
code_of NotWalking = 23
code_of Serving = 24
code_of NotServing = 25
code_of NotFenced = 26
code_of NotDone = 27
code_of Retiring = 28
code_of InUse = 29
code_of NotAcked = 30
code_of NotRetiring = 31
code_of NotFree = 32
code_of AsidInUse = 33
