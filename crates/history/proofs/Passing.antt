-- A reply that is no refusal was due behind each test that could refuse it.
use Rattle.std.proofs.Common.{◌≡◌, ℕ, Bool, true, false, not, [], ◌∷◌, Option, refl, ap, ◌∙◌}
use Rattle.std.specs.Prelude.{is_some, nat_le, if◌then◌else◌}
use Rattle.std.proofs.lemmas.Bool.{false≢true}
use Rattle.history.specs.declared.refusal.Refusal.{Refusal}
use Rattle.history.specs.declared.refusal.Refusal.TheVariants.{NotNamed, AlreadyPosted, Closed, Full, Walking, NotDone}
use Rattle.history.specs.declared.event.Event.TheVariants.{AckSelf, Collect}
use Rattle.history.specs.declared.reply.Reply.{Reply}
use Rattle.history.specs.declared.reply.Reply.TheVariants.{Ok, Refused}
use Rattle.history.specs.Setup.{Setup}
use Rattle.history.specs.Turns.{History}
use Rattle.history.specs.Orders.{order_at}
use Rattle.history.specs.Mailboxes.{is_closed}
use Rattle.history.specs.Acknowledgements.{is_posted, outstanding}
use Rattle.history.specs.Harts.{walk_of}
use Rattle.history.specs.Due.{when, first_of, for_open, names, progress_reply, is_done}

-- refused if the test holds, else the rest
abbrev pub refuse : Bool → Refusal → Reply → Reply
refuse test why rest = if test then Refused why else rest

-- what is due to an event of a ticket, by the order that is open under it
abbrev pub post_reply : Setup → History → ℕ → ℕ → Option ℕ → Reply
post_reply C H hart to o = for_open o (λ k.
    first_of (
    when (not (names (order_at C H k) to)) NotNamed
    ∷ when (is_posted H k to) AlreadyPosted
    ∷ when (is_closed H hart to) Closed
    ∷ when (nat_le C.capacity (outstanding C H hart to)) Full ∷ [])
    Ok)

abbrev pub ack_self_reply : Setup → History → ℕ → ℕ → Option ℕ → Reply
ack_self_reply C H hart ticket o = for_open o (λ k. refuse (is_some (walk_of H hart)) Walking (progress_reply C H (AckSelf hart ticket) k))

abbrev pub collect_reply : Setup → History → ℕ → ℕ → ℕ → Option ℕ → Reply
collect_reply C H hart ticket from o = for_open o (λ k. refuse (not (names (order_at C H k) from)) NotNamed (progress_reply C H (Collect hart ticket from) k))

abbrev pub finish_reply : Setup → History → Option ℕ → Reply
finish_reply C H o = for_open o (λ k. refuse (not (is_done C H k)) NotDone Ok)

abbrev pub is_accepted : Reply → Bool
is_accepted (Refused why) = false
is_accepted _ = true

-- the test of a refusal did not apply
pub passed : (test : Bool) (why : Refusal) (rest r : Reply) → refuse test why rest ≡ r → is_accepted r ≡ true → (test ≡ false) × (rest ≡ r)
passed true why rest r e a = absurd (false≢true (ap is_accepted e ∙ a))
passed false why rest r e a = (refl, e)
