-- What is known of an accepted post, and of one that waits or is served.
use Rattle.std.specs.Prelude.{ℕ, ◌≡◌, ◌≢◌, true, false, List, length, drop, Some, Contains}
use Rattle.history.specs.Setup.{Setup}
use Rattle.history.specs.Turns.{History}
use Rattle.history.specs.Orders.{Order, open_order, order_at, what_asked}
use Rattle.history.specs.Mailboxes.{Sent, posts, taken}
use Rattle.history.specs.Acknowledgements.{is_posted, is_acked}
use Rattle.history.specs.Due.{names}
use Rattle.laws.specs.Orders.{IsOpenedBy}

-- a post from s to the hart: it is of an order of s, under its ticket, that asks what the request
-- asks, names the hart, and is posted to it
pub record IsAcceptedPost (setup : Setup) (history : History) (s hart : ℕ)
    (post : Sent) : Type 0 where
  pub sender : post.sender ≡ s
  pub apart : s ≢ hart
  pub opened : IsOpenedBy setup history s post.request.ticket post.order
  pub what : post.request.what ≡ what_asked (order_at setup history post.order)
  pub named : names (order_at setup history post.order) hart ≡ true
  pub posted : is_posted history post.order hart ≡ true

-- the order of the post is open under its ticket, and the hart has not acknowledged it
pub record IsLive (setup : Setup) (history : History) (hart : ℕ) (post : Sent) : Type 0 where
  pub is_open : open_order history post.sender post.request.ticket ≡ Some post.order
  pub unacked : is_acked setup history post.order hart ≡ false

-- the accepted posts that wait
abbrev pub waiting_posts : Setup → History → ℕ → ℕ → List Sent
waiting_posts setup history sender receiver =
    drop (length (taken history sender receiver)) (posts setup history sender receiver)

-- the post is of another order
abbrev pub IsOfOther : ℕ → Sent → Type 0
IsOfOther order post = order ≢ post.order

-- two posts are of different orders
abbrev pub AreOfDifferent : Sent → Sent → Type 0
AreOfDifferent a b = IsOfOther a.order b

-- the hart opened the order
pub record IsOwn (setup : Setup) (history : History) (number hart : ℕ) : Type 0 where
  pub order : Order
  pub is : order_at setup history number ≡ Some order
  pub sender : order.sender ≡ hart

-- a post of the order stands in the list
pub record StandsIn (posts : List Sent) (order : ℕ) : Type 0 where
  pub post : Sent
  pub member : Contains posts post
  pub is : post.order ≡ order
