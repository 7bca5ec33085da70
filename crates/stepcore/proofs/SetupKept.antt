-- What no event changes: how many harts there are, and so the setup; and what every machine keeps.
use Rattle.std.proofs.Common.{◌≡◌, ℕ, zero, suc, ◌*◌, ◌<◌, Bool, true, false, cond, List, [], ◌∷◌, length, Option, Some, None, slice_get, refl, ap, sym, ◌∙◌, arith, ltb}
use Rattle.std.specs.Prelude.{not, slice_set, unwrap_or, All}
use Rattle.std.proofs.lemmas.Bool.{and_parts, not-false, ltb-true, ltb-false}
use Rattle.std.proofs.lemmas.List.{length-set, set_past}
use Rattle.std.proofs.lemmas.List.Elements.{All-set}
use Rattle.walk.specs.Leads.{Tables}
use Rattle.walk.specs.Stage.{Stage}
use Rattle.walk.specs.declared.walking.Progress.{Progress}
use Rattle.walk.specs.declared.walking.Progress.TheVariants as progress
use Rattle.spaces.specs.Layout.{Layout}
use Rattle.shoot.specs.Mailbox.{MailboxState}
use Rattle.shoot.specs.Tickets.{TicketTable}
use Rattle.history.specs.Setup.{Setup}
use Rattle.history.specs.declared.event.Event.{Event}
use Rattle.history.specs.declared.event.Event.TheVariants.{Begin, Load, Unmap, Protect, Flush, Switch, Fence, Post, Take, ServeFence, Ack, AckSelf, Collect, Finish, Close, Retire}
use Rattle.history.specs.declared.refusal.Refusal.TheVariants.{NoHart, NoSpace}
use Rattle.history.specs.declared.reply.Reply.{Reply}
use Rattle.history.specs.declared.reply.Reply.TheVariants as reply
use Rattle.history.specs.Turns.{is_ok}
use Rattle.laws.proofs.Tools.{by_test}
use Rattle.laws.proofs.Accepted.{passed, ok_accepted}
use Rattle.stepcore.specs.declared.serving.Serving.{Serving as Service}
use Rattle.stepcore.specs.State.{State, HartState, IsMachine, idle_hart, setup_in, hart_at, space_at, words_in}
use Rattle.stepcore.specs.Answers.{reply_to, is_free_phase, is_number, is_space, next_of, asid_of_hart}
use Rattle.stepcore.specs.Changes.{Follows, with_progress, with_load, with_taken, with_served, harts_after, tickets_after, tickets_after_ack, mailboxes_after}

put_length : {A : Type 0} (xs : List A) (i : ℕ) (test : Bool) (x : A) → length (cond test (slice_set xs i x) xs) ≡ length xs
put_length xs i true x = length-set xs i x
put_length xs i false x = refl

pub harts_length : (m : State) (event : Event) (r : Reply) → length (harts_after m event r) ≡ length m.harts
harts_length m (Begin hart va access ctx) r = put_length m.harts hart _ _
harts_length m (Load hart) r = put_length m.harts hart _ _
harts_length m (Switch hart space) r = put_length m.harts hart _ _
harts_length m (Fence hart rs1 rs2) r = put_length m.harts hart _ _
harts_length m (Take hart from) r = put_length m.harts hart _ _
harts_length m (ServeFence hart) r = put_length m.harts hart _ _
harts_length m (Ack hart) r = put_length m.harts hart _ _
harts_length m (AckSelf hart ticket) r = put_length m.harts hart _ _
harts_length m _ r = refl

acked_length : (m : State) (hart : ℕ) (test : Bool) (serving : Option Service) → length (tickets_after_ack m hart test serving) ≡ length m.tickets
acked_length m hart test None = refl
acked_length m hart test (Some serving) = put_length m.tickets serving.from test _

pub tickets_length : (m : State) (event : Event) (r : Reply) → length (tickets_after m event r) ≡ length m.tickets
tickets_length m (Unmap hart place page named) r = put_length m.tickets hart _ _
tickets_length m (Protect hart place page flags named) r = put_length m.tickets hart _ _
tickets_length m (Flush hart scope named) r = put_length m.tickets hart _ _
tickets_length m (Retire hart space) r = put_length m.tickets hart _ _
tickets_length m (Post hart ticket to) r = put_length m.tickets hart _ _
tickets_length m (Ack hart) r = acked_length m hart (is_ok r) (hart_at m hart).serving
tickets_length m (AckSelf hart ticket) r = put_length m.tickets hart _ _
tickets_length m (Collect hart ticket from) r = put_length m.tickets hart _ _
tickets_length m (Finish hart ticket) r = put_length m.tickets hart _ _
tickets_length m _ r = refl

pub mailboxes_length : (m : State) (event : Event) (r : Reply) → length (mailboxes_after m event r) ≡ length m.mailboxes
mailboxes_length m (Post hart ticket to) r = put_length m.mailboxes _ _ _
mailboxes_length m (Take hart from) r = put_length m.mailboxes _ _ _
mailboxes_length m (Collect hart ticket from) r = put_length m.mailboxes _ _ _
mailboxes_length m (Close hart to) r = put_length m.mailboxes _ _ _
mailboxes_length m _ r = refl

-- the setup stays
abbrev setup_with : ℕ → ℕ → Layout → Setup
setup_with harts capacity layout = record { harts = harts; capacity = capacity; asids = []; layout = layout }

pub setup_stays : (m n : State) (event : Event) (r : Reply) → Follows m event r n → setup_in n ≡ setup_in m
setup_stays m n event r f =
    let harts : length n.harts ≡ length m.harts = ap (λ (xs : List HartState). length xs) f.harts ∙ harts_length m event r in
    ap (λ k. setup_with k n.capacity n.memory.layout) harts
    ∙ ap (λ k. setup_with (length m.harts) k n.memory.layout) f.capacity
    ∙ ap (setup_with (length m.harts) m.capacity) f.layout

-- each hart stays in a space that exists
abbrev InSpace : ℕ → HartState → Type 0
InSpace n hart = hart.space < n

put_in_space : (n : ℕ) (xs : List HartState) (i : ℕ) (test : Bool) (x : HartState) → All (InSpace n) xs → (test ≡ true → i < length xs → InSpace n x) → All (InSpace n) (cond test (slice_set xs i x) xs)
put_in_space n xs i test x all f =
    by_test (λ v. All (InSpace n) (cond v (slice_set xs i x) xs)) test
    (λ e. by_test (λ v. All (InSpace n) (slice_set xs i x)) (ltb i (length xs))
    (λ l. All-set (InSpace n) xs i x (f e (ltb-true i (length xs) l)) all)
    (λ l. rw (set_past xs i x (ltb-false i (length xs) l)) all))
    (λ _. all)

hart_in_space : (n : ℕ) (xs : List HartState) (i : ℕ) → All (InSpace n) xs → i < length xs → InSpace n (unwrap_or (slice_get xs i) idle_hart)
hart_in_space n [] i all l = absurd (omega arith)
hart_in_space n (x ∷ xs) zero all l = all 0 x (omega arith)
hart_in_space n (x ∷ xs) (suc i) all l = hart_in_space n xs i (λ k d within. all (suc k) d (omega arith)) (omega arith)

progress_space : (asid : ℕ) (p : Progress) (hart : HartState) → (with_progress asid p hart).space ≡ hart.space
progress_space asid (progress.More next) hart = refl
progress_space asid (progress.Found found) hart = refl
progress_space asid (progress.Trap trap) hart = refl

load_space : (words : Tables) (asid : ℕ) (walk : Option Stage) (hart : HartState) → (with_load words asid walk hart).space ≡ hart.space
load_space words asid None hart = refl
load_space words asid (Some walk) hart = progress_space asid (next_of words walk) hart

taken_space : (from : ℕ) (r : Reply) (hart : HartState) → (with_taken from r hart).space ≡ hart.space
taken_space from (reply.Taken request) hart = refl
taken_space from _ hart = refl

served_space : (serving : Option Service) (hart : HartState) → (with_served serving hart).space ≡ hart.space
served_space None hart = refl
served_space (Some serving) hart = refl

-- a Switch that is accepted goes to a space that exists
switch_space : (m : State) (hart space : ℕ) (r : Reply) → r ≡ reply_to m (Switch hart space) → is_ok r ≡ true → space < length m.spaces
switch_space m hart space r e z =
    let a = ok_accepted r z in
    let p = passed _ NoHart _ r (sym e) a in
    let there = not-false (is_space m space) (passed _ NoSpace _ r p.1 a).0 in
    ltb-true space (length m.spaces) (and_parts (is_number m space) (not (is_free_phase (space_at m space).phase)) there).0

spaces_stay : (m : State) (event : Event) (r : Reply) → IsMachine m → r ≡ reply_to m event → All (InSpace (length m.spaces)) (harts_after m event r)
spaces_stay m (Begin hart va access ctx) r is e = put_in_space _ m.harts hart _ _ is.spaces (λ _ l. hart_in_space _ m.harts hart is.spaces l)
spaces_stay m (Load hart) r is e =
    put_in_space _ m.harts hart _ _ is.spaces (λ _ l.
    rw (load_space (words_in m) (asid_of_hart m (hart_at m hart)) (hart_at m hart).walk (hart_at m hart)) (hart_in_space _ m.harts hart is.spaces l))
spaces_stay m (Switch hart space) r is e = put_in_space _ m.harts hart (is_ok r) _ is.spaces (λ z _. switch_space m hart space r e z)
spaces_stay m (Fence hart rs1 rs2) r is e = put_in_space _ m.harts hart _ _ is.spaces (λ _ l. hart_in_space _ m.harts hart is.spaces l)
spaces_stay m (Take hart from) r is e =
    put_in_space _ m.harts hart _ _ is.spaces (λ _ l. rw (taken_space from r (hart_at m hart)) (hart_in_space _ m.harts hart is.spaces l))
spaces_stay m (ServeFence hart) r is e =
    put_in_space _ m.harts hart _ _ is.spaces (λ _ l. rw (served_space (hart_at m hart).serving (hart_at m hart)) (hart_in_space _ m.harts hart is.spaces l))
spaces_stay m (Ack hart) r is e = put_in_space _ m.harts hart _ _ is.spaces (λ _ l. hart_in_space _ m.harts hart is.spaces l)
spaces_stay m (AckSelf hart ticket) r is e = put_in_space _ m.harts hart _ _ is.spaces (λ _ l. hart_in_space _ m.harts hart is.spaces l)
spaces_stay m _ r is e = is.spaces

-- what every machine keeps, it keeps over an event
pub machine_stays : (m n : State) (event : Event) (r : Reply) → IsMachine m → r ≡ reply_to m event → Follows m event r n → IsMachine n
machine_stays m n event r is e f =
    let harts : length n.harts ≡ length m.harts = ap (λ (xs : List HartState). length xs) f.harts ∙ harts_length m event r in
    let tickets : length n.tickets ≡ length m.tickets = ap (λ (xs : List TicketTable). length xs) f.tickets ∙ tickets_length m event r in
    let mailboxes : length n.mailboxes ≡ length m.mailboxes = ap (λ (xs : List MailboxState). length xs) f.mailboxes ∙ mailboxes_length m event r in
    record {
      few = rw harts is.few;
      tickets = tickets ∙ is.tickets ∙ sym harts;
      mailboxes = mailboxes ∙ is.mailboxes ∙ ap (λ (n : ℕ). n * n) (sym harts);
      homes = f.count ∙ is.homes ∙ ap (λ (l : Layout). length l.homes) (sym f.layout);
      spaces = rw (f.count, f.harts) (spaces_stay m event r is e);
    }
