-- A sender's look for acknowledgements: harts one by one, and when a ticket is done.
use Rattle.std.proofs.Common.{◌≡◌, ◌∙◌, sym, ap, refl, ℕ, ◌+◌, Bool, true, false, List, ◌∷◌, Option, Some, None, arith}
use Rattle.std.specs.Prelude.{◌↔◌, ◌==◌, IsTrue, if◌then◌else◌, is_some, unwrap_or}
use Rattle.shoot.specs.HartSet.{byte_of, contains}
use Rattle.shoot.specs.declared.tickets.Ticket.{Ticket}
use Rattle.shoot.specs.declared.tickets.Collected.TheVariants.{Done, Waiting}
use Rattle.shoot.specs.Tickets.{TicketTable, is_done, is_open, names, progress_at, progress_with, tells, ticket_at, uncollected}
use Rattle.shoot.proofs.HartBytes.{done}
use Rattle.shoot.proofs.HartSets.{by_test}
use Rattle.spaces.specs.declared.configuration.Config.{Config}
use Rattle.views.specs.declared.view.Order.{Order}
use Rattle.views.specs.Orders.{is_in}
use Rattle.views.specs.OrderTurns.{last_word, order_of_ticket}
use Rattle.board.specs.Ports.{PortState}
use Rattle.board.specs.Ties.{AreTied, IsTied}
use Rattle.board.specs.Collects.{IsCollected, after_look, after_looks, awaited_word, is_awaiting, look_at}
use Rattle.board.proofs.Ties.{contains_within}

-- one hart more
pub collected_step : (port : PortState) (ticket from : ℕ) (mid after : PortState) (is_found : Bool) → IsCollected port ticket from mid → (is_awaiting mid ticket from ≡ false → after ≡ mid)
    → (is_awaiting mid ticket from ≡ true → is_found ≡ (last_word after.view.cell_steps == awaited_word mid ticket))
    → (is_awaiting mid ticket from ≡ true → after ≡ after_look mid ticket from is_found (last_word after.view.cell_steps)) → IsCollected port ticket (from + 1) after
collected_step port ticket from mid after is_found i idle found looked =
    let word : ℕ = last_word after.view.cell_steps in
    let one : after ≡ look_at mid ticket from word = by_test (λ b. after ≡ (if b then after_look mid ticket from (word == awaited_word mid ticket) word else mid))
    (is_awaiting mid ticket from) (λ t. looked t ∙ ap (λ q. after_look mid ticket from q word) (found t)) idle in
    record {
      words = word ∷ i.words;
      each = omega (arith, i.each);
      is = one ∙ ap (λ p. look_at p ticket from word) i.is ∙ ap (λ n. look_at (after_looks port ticket i.words) ticket n word) (sym i.each);
    }

-- a ticket is done exactly if each hart that it names is collected for its order
pub all_collected : (c : Config) (ks : List Order) (T : TicketTable) (n : ℕ) → IsTrue (is_open T n) → AreTied c ks T
    → (progress_at T n ≡ Done) ↔ ((k : Order) → order_of_ticket n ks ≡ Some k → (h : ℕ) → names T n h ≡ true → is_in h k.collected ≡ true)
all_collected c ks T n there was = by (ticket_at T n) (order_of_ticket n ks) there (was.each n)
  where
    by : (x : Option Ticket) (o : Option Order) → is_some x ≡ true → IsTied c T.hart x o
        → (progress_with x ≡ Done) ↔ ((k : Order) → o ≡ Some k → (h : ℕ) → tells (λ t. t.named) x h ≡ true → is_in h k.collected ≡ true)
    by None o there tied = absurd cc
    by (Some t) None there tied = absurd tied
    by (Some t) (Some k) there tied = (
      (λ e k' same h named.
          let all : is_done t ≡ true = by_test (λ b. (if b then Done else Waiting (byte_of (uncollected t))) ≡ Done → b ≡ true) (is_done t) (λ d f. refl) (λ d f. absurd cc) e in
          let less = contains_within t.named h named in
          let got : contains t.collected h ≡ true = (done t).0 all h (omega (arith, less, tied.0.named_harts)) named in
          ap (λ (o : Option Order). is_in h (unwrap_or o k).collected) (sym same) ∙ (tied.1.collected h named ∙ got)),
      (λ all.
          let d : is_done t ≡ true = (done t).1 (λ h low named. sym (tied.1.collected h named) ∙ all k refl h named) in
          rw d refl),
    )
