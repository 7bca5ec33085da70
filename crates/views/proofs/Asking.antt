-- What the open order of a ticket asks for, after steps on it.
use Rattle.std.proofs.Common.{◌≡◌, ℕ, ◌==◌, Bool, true, false, cond, List, [], ◌∷◌, Some, None, refl, ap, ◌∙◌}
use Rattle.std.specs.Prelude.{option_map}
use Rattle.std.proofs.lemmas.Bool.{eq-eqb, or_left}
use Rattle.pte.specs.declared.address.What.{What}
use Rattle.spaces.specs.declared.configuration.Config.{Config}
use Rattle.views.specs.declared.view.Cause.TheVariants.{Other}
use Rattle.views.specs.declared.view.Order.{Order}
use Rattle.views.specs.declared.view.View.{View}
use Rattle.views.specs.Orders.{is_in}
use Rattle.views.specs.OrderTurns.{IsAsking, IsAwaiting, armed, cell_by, collected, for_ticket, fresh, looked, order_of_ticket, ordered, with_armed, with_collected, with_look}
use Rattle.shoot.specs.Acknowledgement.{acknowledgement}

-- the open order after a change of it
changed : (t : ℕ) (f : Order → Order) → ((k : Order) → (f k).ticket ≡ k.ticket) → (ks : List Order) (k : Order) → order_of_ticket t ks ≡ Some k → order_of_ticket t (for_ticket t f ks) ≡ Some (f k)
changed t f keeps [] k e = absurd (let bad : None ≡ Some k = e in cc)
changed t f keeps (x ∷ xs) k e = by (x.ticket == t) refl e (λ rest. changed t f keeps xs k rest)
  where
    by : (q : Bool) → (x.ticket == t) ≡ q → cond q (Some x) (order_of_ticket t xs) ≡ Some k → (order_of_ticket t xs ≡ Some k → order_of_ticket t (for_ticket t f xs) ≡ Some (f k))
        → order_of_ticket t (cond q (f x ∷ xs) (x ∷ for_ticket t f xs)) ≡ Some (f k)
    by true is e more = ap (λ b. cond b (Some (f x)) (order_of_ticket t xs)) (ap (λ n. n == t) (keeps x) ∙ is) ∙ ap (option_map f) e
    by false is e more = ap (λ b. cond b (Some x) (order_of_ticket t (for_ticket t f xs))) is ∙ more e

pub ordered-asks : (c : Config) (v : View) (t : ℕ) (what : What) → IsAsking c (ordered t what v) t what
ordered-asks c v t what = record { order = fresh t (Other what) v.stores; is = ap (λ b. cond b (Some (fresh t (Other what) v.stores)) (order_of_ticket t v.orders)) (eq-eqb t t refl); asks = refl }

pub armed-awaits : (c : Config) (v : View) (t to : ℕ) (what : What) → IsAsking c v t what → IsAwaiting c (with_armed t to v) t to what
armed-awaits c v t to what a = record {
  asking = record { order = armed to a.order; is = changed t (armed to) (λ k. refl) v.orders a.order a.is; asks = a.asks };
  armed = or_left (to == to) (is_in to a.order.armed) (eq-eqb to to refl);
}

collected-awaits : (c : Config) (v : View) (t from h : ℕ) (what : What) → IsAwaiting c v t from what → IsAwaiting c (with_collected t h v) t from what
collected-awaits c v t from h what a = record {
  asking = record { order = collected h a.asking.order; is = changed t (collected h) (λ k. refl) v.orders a.asking.order a.asking.is; asks = a.asking.asks };
  armed = a.armed;
}

seen-awaits : (c : Config) (v : View) (t from at word : ℕ) (what : What) → IsAwaiting c v t from what → IsAwaiting c (with_look at word v) t from what
seen-awaits c v t from at word what a = record { asking = record { order = a.asking.order; is = a.asking.is; asks = a.asking.asks }; armed = a.armed }

pub looked-awaits : (c : Config) (v : View) (t from word : ℕ) (what : What) → IsAwaiting c v t from what → IsAwaiting c (looked t from (word == acknowledgement what) word v) t from what
looked-awaits c v t from word what a = seen-awaits c (cond (word == acknowledgement what) (with_collected t from v) v) t from (cell_by v v.hart t from) word what (by (word == acknowledgement what))
  where
    by : (q : Bool) → IsAwaiting c (cond q (with_collected t from v) v) t from what
    by true = collected-awaits c v t from from what a
    by false = a
