-- Worked runs: steps of harts, each with the reply that the manual and the rules of
-- docs/PROTOCOL.md give by hand. Here is what a worked run is, and the harts, pages and accesses of
-- which the runs speak.
use Rattle.pte.specs.declared.scheme.Scheme.TheVariants.{Sv39}
use Rattle.std.specs.Prelude.{ℕ, ◌≡◌, false, List, [], ◌∷◌, map}
use Rattle.pte.specs.Address.{Span}
use Rattle.pte.specs.declared.address.PageSize.TheVariants.{Kib4, Mib2, Gib1}
use Rattle.pte.specs.declared.address.What.{What}
use Rattle.pte.specs.declared.flags.PteFlags.{PteFlags}
use Rattle.pte.specs.declared.permission.Mode.TheVariants.{User, Super}
use Rattle.pte.specs.declared.permission.Ctx.{Ctx}
use Rattle.walk.specs.declared.found_or_trap.Why.{Why}
use Rattle.spaces.specs.declared.configuration.Config.{Config}
use Rattle.spaces.specs.Layout.{Layout}
use Rattle.history.specs.declared.event.Event.{Event}
use Rattle.history.specs.declared.refusal.Refusal.{Refusal}
use Rattle.history.specs.declared.reply.Reply.{Reply}
use Rattle.history.specs.declared.reply.Reply.TheVariants as reply
use Rattle.history.specs.Setup.{Setup}
use Rattle.history.specs.Turns.{History}
use Rattle.history.specs.Runs.{with_turn, due_replies}

-- a step: what a hart does, and the reply
abbrev pub Step : Type 0
Step = Event × Reply

abbrev pub events : List Step → List Event
events steps = map (λ (step : Step). step.0) steps

abbrev pub replies : List Step → List Reply
replies steps = map (λ (step : Step). step.1) steps

-- from the opening on, each reply is due after the steps before it
unfoldable pub IsRun : Setup → List Step → Type 0
IsRun C steps = due_replies C [] (events steps) ≡ replies steps

-- the history that the steps make of a history
abbrev pub history_after : History → List Step → History
history_after H [] = H
history_after H (step ∷ steps) = history_after (with_turn step.0 step.1 H) steps

abbrev pub history_of : List Step → History
history_of steps = history_after [] steps

-- one space, of ASID 1, at home on hart 0, one slot of window, and 8 spare frames for each hart:
-- the window's table is frame 0x80000, the root 0x80001, and the first spare frame 0x80002
abbrev pub one_space : List ℕ → Layout
one_space spares =
    record { scheme = Sv39; window = 1; base = 0x80000; homes = 0 ∷ []; spares = spares }

abbrev pub with_spares : ℕ → List ℕ → Setup
with_spares harts spares =
    record { harts = harts; capacity = 4; asids = 1 ∷ []; layout = one_space spares }

abbrev pub one_hart : Setup
one_hart = with_spares 1 (8 ∷ [])

abbrev pub two_harts : Setup
two_harts = with_spares 2 (8 ∷ 8 ∷ [])

abbrev pub three_harts : Setup
three_harts = with_spares 3 (8 ∷ 8 ∷ 8 ∷ [])

-- the numbers of a configuration that gives three harts
pub record IsOfThreeHarts (c : Config) : Type 0 where
  pub scheme : c.scheme ≡ Sv39
  pub harts : c.harts ≡ 3
  pub capacity : c.capacity ≡ 4
  pub spaces : c.spaces.items ≡ record { home = 0; asid = 1 } ∷ []
  pub window : c.window ≡ 1
  pub base : c.base ≡ 0x80000
  pub spares : c.spares.items ≡ 8 ∷ 8 ∷ 8 ∷ []

-- two harts and two spaces, with these homes and ASIDs: the roots are frames 0x80001 and 0x80002,
-- the first spare is 0x80003
abbrev pub two_spaces : List ℕ → List ℕ → Setup
two_spaces homes asids =
    record {
      harts = 2;
      capacity = 4;
      asids = asids;
      layout =
          record { scheme = Sv39; window = 1; base = 0x80000; homes = homes; spares = 8 ∷ 8 ∷ [] };
    }

-- pages by their first address
abbrev pub small_page : ℕ → Span
small_page base = record { base = base; size = Kib4 }

abbrev pub large_page : ℕ → Span
large_page base = record { base = base; size = Mib2 }

abbrev pub huge_page : ℕ → Span
huge_page base = record { base = base; size = Gib1 }

-- the flags of an entry by the letters of the manual
abbrev pub R : ℕ
R = 0x02

abbrev pub W : ℕ
W = 0x04

abbrev pub X : ℕ
X = 0x08

abbrev pub U : ℕ
U = 0x10

abbrev pub G : ℕ
G = 0x20

abbrev pub A : ℕ
A = 0x40

abbrev pub D : ℕ
D = 0x80

abbrev pub flags : ℕ → PteFlags
flags bits = record { 0 = bits }

-- accesses in U-mode and in S-mode, with SUM and MXR clear
abbrev pub user : Ctx
user = record { mode = User; sum = false; mxr = false }

abbrev pub supervisor : Ctx
supervisor = record { mode = Super; sum = false; mxr = false }

-- sets of harts, bit h for hart h
abbrev pub hart_0 : ℕ
hart_0 = 0x01

abbrev pub hart_1 : ℕ
hart_1 = 0x02

abbrev pub hart_2 : ℕ
hart_2 = 0x04

-- replies
abbrev pub refused : Refusal → Reply
refused refusal = reply.Refused refusal

abbrev pub trap : ℕ → Why → Reply
trap cause why = reply.Trap (record { cause = cause; why = why })

abbrev pub taken : ℕ → What → Reply
taken ticket what = reply.Taken (record { ticket = ticket; what = what })
