-- What the definitions of orders, posts and fills refuse, computed from the histories of worked
-- runs.
use Rattle.std.proofs.Common.{◌≡◌, ℕ, zero, suc, true, false, [], ◌∷◌, Option, Some, None, refl, sym, ap, ◌∙◌, arith}
use Rattle.std.specs.Prelude.{Contains}
use Rattle.std.proofs.lemmas.Bool.{true≢false}
use Rattle.pte.specs.declared.address.What.{What}
use Rattle.pte.specs.declared.address.What.TheVariants.{SpaceOf, All}
use Rattle.tlb.specs.declared.store.Entry.{Entry}
use Rattle.history.specs.declared.event.Event.{Event}
use Rattle.history.specs.declared.event.Event.TheVariants.{Load}
use Rattle.history.specs.declared.reply.Reply.TheVariants.{More, Filled}
use Rattle.history.specs.Setup.{Setup}
use Rattle.history.specs.Turns.{History}
use Rattle.history.specs.Orders.{Order}
use Rattle.history.specs.Mailboxes.{Sent, posts}
use Rattle.counterexamples.specs.WorkedRuns.{history_of, two_harts}
use Rattle.counterexamples.specs.ShootdownRuns.{superpage_until_acknowledged, superpage_shootdown, superpage_of_space}
use Rattle.counterexamples.specs.UnlawfulRuns.{two_orders, two_posts}
use Rattle.laws.specs.Fills.{Fills}
use Rattle.laws.specs.Orders.{IsOrder, IsOpenedBy}
use Rattle.laws.specs.Posts.{IsAcceptedPost, IsLive, IsOwn, StandsIn}
use Rattle.counterexamples.specs.RecordCounterexamples.{order_to, post_of}

pub without_sender : ¬ IsOrder (history_of two_posts) 0 (order_to 0 (false ∷ true ∷ []))
without_sender is = true≢false (sym (is.names_sender (omega arith)))

pub ticket_64 : ¬ IsOrder (history_of two_posts) 0 (order_to 64 (true ∷ true ∷ []))
ticket_64 is = let bound = is.ticket_bound in omega (arith, bound)

pub no_turn : ¬ IsOrder (history_of two_posts) 4 (order_to 0 (true ∷ true ∷ []))
no_turn is = let below = is.below in omega (arith, below)

pub hart_8 : ¬ IsOrder (history_of two_posts) 0 (order_to 0 (true ∷ false ∷ false ∷ false ∷ false ∷ false ∷ false ∷ false ∷ true ∷ []))
hart_8 is = let bound = is.names_harts 8 refl in omega (arith, bound)

abbrev sender_of : Order → ℕ
sender_of order = order.sender

abbrev ticket_of : Order → ℕ
ticket_of order = order.ticket

made : {a b : Order} → Some a ≡ Some b → a ≡ b
made e = cc

pub other_sender : ¬ IsOpenedBy two_harts (history_of two_posts) 1 0 0
other_sender is = let same : 0 ≡ 1 = ap sender_of (made is.is) ∙ is.sender in omega (arith, same)

pub other_ticket : ¬ IsOpenedBy two_harts (history_of two_posts) 0 1 0
other_ticket is = let same : 0 ≡ 1 = ap ticket_of (made is.is) ∙ is.ticket in omega (arith, same)

asks_all : What → ℕ
asks_all All = 1
asks_all _ = 0

pub other_request : ¬ IsAcceptedPost two_harts (history_of two_posts) 0 1 (post_of 0 0 (SpaceOf 1))
unfolding asks_all
other_request is = let same : 0 ≡ 1 = ap asks_all is.what in omega (arith, same)

pub to_itself : ¬ IsAcceptedPost two_harts (history_of two_posts) 0 0 (post_of 0 0 All)
to_itself is = is.apart refl

pub not_of_its_sender : ¬ IsAcceptedPost two_harts (history_of two_posts) 1 0 (post_of 0 0 All)
not_of_its_sender is = let same : 0 ≡ 1 = is.sender in omega (arith, same)

pub not_under_its_ticket : ¬ IsAcceptedPost two_harts (history_of two_posts) 0 1 (post_of 0 1 All)
not_under_its_ticket is = other_ticket is.opened

pub not_named : ¬ IsAcceptedPost two_harts (history_of two_posts) 0 2 (post_of 0 0 All)
not_named is = true≢false (sym is.named)

pub not_posted : ¬ IsAcceptedPost two_harts (history_of two_orders) 0 1 (post_of 0 0 All)
not_posted is = true≢false (sym is.posted)

pub acknowledged : ¬ IsLive two_harts (history_of superpage_until_acknowledged) 1 (post_of 5 0 superpage_of_space)
acknowledged is = true≢false is.unacked

is_there : Option ℕ → ℕ
is_there None = 0
is_there (Some k) = 1

pub finished : ¬ IsLive two_harts (history_of superpage_shootdown) 2 (post_of 5 0 superpage_of_space)
unfolding is_there
finished is = let same : 0 ≡ 1 = ap is_there is.is_open in omega (arith, same)

not_second : (post : Sent) → Contains (post_of 0 0 All ∷ post_of 1 1 All ∷ []) post → post.order ≡ 2 → ⊥
not_second post (zero, below, is) order = let same : 0 ≡ 2 = ap (λ (p : Sent). p.order) is ∙ order in omega (arith, same)
not_second post (suc zero, below, is) order = let same : 1 ≡ 2 = ap (λ (p : Sent). p.order) is ∙ order in omega (arith, same)
not_second post (suc (suc k), below, is) order = absurd (omega (arith, below))

pub not_standing : ¬ StandsIn (posts two_harts (history_of two_posts) 0 1) 2
not_standing is = not_second is.post is.member is.is

pub goes_on : (C : Setup) (h : ℕ) (e : Entry) (before : History) → ¬ Fills C h e (record { event = Load h; reply = More }) before
goes_on C h e before fills = true≢false (sym fills.accepted)

loader : Event → ℕ
loader (Load hart) = hart
loader _ = 0

pub other_hart : (C : Setup) (e : Entry) (pa : ℕ) (before : History) → ¬ Fills C 1 e (record { event = Load 0; reply = Filled pa }) before
unfolding loader
other_hart C e pa before fills = let same : 0 ≡ 1 = ap loader fills.event in omega (arith, same)

pub not_own : ¬ IsOwn two_harts (history_of two_posts) 0 1
not_own is = let same : 0 ≡ 1 = ap sender_of (made is.is) ∙ is.sender in omega (arith, same)
