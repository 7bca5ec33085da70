-- The calls of a port that store no table word and walk nowhere, as events of the machine that it is
-- like.
use Rattle.std.proofs.Common.{◌≡◌, ℕ, zero, suc, ◌^◌, cond, Bool, true, false, not, ◌&&◌, List, [], ◌∷◌, length, map, Option, Some, None, refl, ap, sym, ◌∙◌}
use Rattle.std.specs.Prelude.{Result, Ok, Err, ◌==◌, nat_lt, unwrap_or, slice_get}
use Rattle.std.proofs.lemmas.Bool.{ltb-true, false≢true}
use Rattle.pte.specs.declared.address.What.{What}
use Rattle.pte.specs.declared.address.What.TheVariants.{All, SpaceOf}
use Rattle.tlb.specs.Service.{after_service}
use Rattle.shoot.specs.declared.tickets.Collected.{Collected}
use Rattle.shoot.specs.declared.tickets.Collected.TheVariants as collected
use Rattle.shoot.specs.declared.tickets.TicketFault.{TicketFault}
use Rattle.shoot.specs.Tickets.{TicketTable, acked_by, after_finish, after_open, is_done_at, is_open, open_answer, progress_at, ticket_at, what_at, with_ticket}
use Rattle.history.specs.Setup.{Setup}
use Rattle.history.specs.Turns.{History}
use Rattle.history.specs.Orders.{scope_request}
use Rattle.history.specs.Due.{Rule, are_harts, are_pair, first_of, is_number, when}
use Rattle.history.specs.declared.event.Event.TheVariants as event
use Rattle.history.specs.declared.event.Scope.{Scope}
use Rattle.history.specs.declared.event.Scope.TheVariants as scope
use Rattle.history.specs.declared.refusal.Refusal.{Refusal}
use Rattle.history.specs.declared.refusal.Refusal.TheVariants.{Closed, NoHart, NoSpace, NotOpen, NotDone, Retiring, Walking}
use Rattle.history.specs.declared.reply.Reply.{Reply}
use Rattle.history.specs.declared.reply.Reply.TheVariants as reply
use Rattle.stepcore.specs.State.{HartState, live_space, mailbox_at, no_space, setup_in, space_at}
use Rattle.stepcore.specs.declared.space_state.SpaceState.{SpaceState}
use Rattle.stepcore.specs.Answers.{is_scope, is_space, opening_answer, progress_reply, reply_to, request_of_scope, scope_retires}
use Rattle.stepcore.specs.Changes.{is_under, what_in}
use Rattle.views.specs.OrderTurns.{self_acked}
use Rattle.board.specs.Ports.{PortState}
use Rattle.board.specs.Answers.{ack_self_answer, after_ack_self, after_finish_of, after_flush, after_ordered, answer_or, asked_or_all, finish_answer, flush_answer, is_there, opened, refused_if, tlb_served, with_tickets}
use Rattle.board.specs.Collects.{after_look, after_looks, awaited_word, look_at}
use Rattle.board.specs.Tables.{after_fence, after_switch, switch_answer}
use Rattle.board.specs.Ties.{awaits}
use Rattle.one_hart.specs.Answering.{call_told, opening_told, progress_told}
use Rattle.one_hart.specs.Alone.{IsAlone, machine_of}
use Rattle.one_hart.proofs.Steps.{Steps, no-pair, none-retires, space-is, space-live}

-- ---- refusals

pub first-refused : (b : Bool) (why : Refusal) (rules : List Rule) (rest : Reply) → b ≡ false → first_of (when (not b) why ∷ rules) rest ≡ reply.Refused why
first-refused false why rules rest e = refl
first-refused true why rules rest e = absurd (false≢true (sym e))

keeps : {X : Type 0} (a b : Bool) (x y : X) → b ≡ false → cond (a && b) x y ≡ y
keeps true b x y e = ap (λ v. cond v x y) e
keeps false b x y e = refl

none-under : (xs : List ℕ) (s ticket : ℕ) → is_under (unwrap_or (slice_get (map live_space xs) s) no_space).phase ticket ≡ false
none-under [] s ticket = refl
none-under (x ∷ xs) zero ticket = refl
none-under (x ∷ xs) (suc s) ticket = none-under xs s ticket

-- what is told of two tests and then of an answer
switch-plain : (n : Bool) → call_told (answer_or (refused_if (not n) NoSpace None) (Ok tt)) ≡ first_of (when (not n) NoSpace ∷ when false Retiring ∷ when false Walking ∷ []) reply.Ok
switch-plain true = refl
switch-plain false = refl

switch-told : (n there retires : Bool) → there ≡ n → retires ≡ false
    → call_told (answer_or (refused_if (not n) NoSpace None) (Ok tt)) ≡ first_of (when (not there) NoSpace ∷ when retires Retiring ∷ when false Walking ∷ []) reply.Ok
switch-told n there retires e f =
    switch-plain n ∙ ap (λ (b : Bool). first_of (when (not b) NoSpace ∷ when false Retiring ∷ when false Walking ∷ []) reply.Ok) (sym e)
    ∙ ap (λ (b : Bool). first_of (when (not there) NoSpace ∷ when b Retiring ∷ when false Walking ∷ []) reply.Ok) (sym f)

finish-told : (o d : Bool) → call_told (answer_or (refused_if (not o) NotOpen (refused_if (not d) NotDone None)) (Ok tt)) ≡ first_of (when (not o) NotOpen ∷ when (not d) NotDone ∷ []) reply.Ok
finish-told true true = refl
finish-told true false = refl
finish-told false d = refl

ack-told : (o : Bool) (c : Collected) → progress_told (cond o (Ok c) (Err NotOpen)) ≡ first_of (when (not o) NotOpen ∷ when false Walking ∷ []) (progress_reply c)
ack-told true c = refl
ack-told false c = refl

pub opened-told : (o : Result ℕ TicketFault) → opening_told (opened o) ≡ opening_answer o
opened-told (Ok ticket) = refl
opened-told (Err fault) = refl

-- the three tests of a call that opens a ticket
pub three-tests : (a b named there retires : Bool) (answer : Reply) → named ≡ a → there ≡ b → retires ≡ false
    → first_of (when (not a) NoHart ∷ when (not b) NoSpace ∷ when false Retiring ∷ []) answer ≡ first_of (when (not named) NoHart ∷ when (not there) NoSpace ∷ when retires Retiring ∷ []) answer
three-tests a b named there retires answer e f g =
    ap (λ (x : Bool). first_of (when (not x) NoHart ∷ when (not b) NoSpace ∷ when false Retiring ∷ []) answer) (sym e)
    ∙ ap (λ (x : Bool). first_of (when (not named) NoHart ∷ when (not x) NoSpace ∷ when false Retiring ∷ []) answer) (sym f)
    ∙ ap (λ (x : Bool). first_of (when (not named) NoHart ∷ when (not there) NoSpace ∷ when x Retiring ∷ []) answer) (sym g)

flush-plain : (a b : Bool) (o : Result ℕ TicketFault)
    → opening_told (answer_or (refused_if (not a) NoHart (refused_if (not b) NoSpace None)) (opened o)) ≡ first_of (when (not a) NoHart ∷ when (not b) NoSpace ∷ when false Retiring ∷ []) (opening_answer o)
flush-plain true true o = opened-told o
flush-plain true false o = refl
flush-plain false b o = refl

flush-told : (a b named there retires : Bool) (o : Result ℕ TicketFault) → named ≡ a → there ≡ b → retires ≡ false
    → opening_told (answer_or (refused_if (not a) NoHart (refused_if (not b) NoSpace None)) (opened o))
    ≡ first_of (when (not named) NoHart ∷ when (not there) NoSpace ∷ when retires Retiring ∷ []) (opening_answer o)
flush-told a b named there retires o e f g = flush-plain a b o ∙ three-tests a b named there retires (opening_answer o) e f g

-- what was opened passed the test before it
pub opened-passed : (a b : Bool) (o : Result ℕ Refusal) (ticket : ℕ) → answer_or (refused_if (not a) NoHart (refused_if (not b) NoSpace None)) o ≡ Ok ticket → b ≡ true
opened-passed true true o ticket e = refl
opened-passed true false o ticket e = absurd cc
opened-passed false b o ticket e = absurd cc

asked-same : (o : Option What) → asked_or_all o ≡ unwrap_or o All
asked-same None = refl
asked-same (Some what) = refl

module _ (C : Setup) (H : History) (p : PortState) (is : IsAlone C H p) where
  abbrev served-hart : What → HartState
  served-hart what = record { scheme = p.tlb.scheme; space = p.space; walk = None; serving = None; entries = after_service p.tlb.entries what }

  one-here : p.setup.harts ≡ 1
  one-here = ap (λ (D : Setup). D.harts) is.setup_is ∙ is.one

  pub own-pair : (to : ℕ) → are_pair p.setup p.hart to ≡ false
  own-pair to = no-pair p.setup p.hart to one-here is.hart_is

  pair-in : (to : ℕ) → are_pair (setup_in (machine_of p)) 0 to ≡ false
  pair-in to = no-pair (setup_in (machine_of p)) 0 to refl refl

  pub named-same : (named : ℕ) → are_harts (setup_in (machine_of p)) named ≡ are_harts p.setup named
  named-same named = ap (λ (n : ℕ). nat_lt named (2 ^ n)) (sym one-here)

  -- Post, Serve and CloseTo: there is no other hart
  pub post-steps : (ticket to : ℕ) → Steps p p (event.Post 0 ticket to) (reply.Refused NoHart)
  post-steps ticket to = record {
    told = sym (first-refused (are_pair (setup_in (machine_of p)) 0 to) NoHart [] _ (pair-in to));
    follows = record { layout = refl; count = refl; spaces = λ s below. refl; words = λ f i. refl; holders = λ f. refl; harts = refl; tickets = refl; mailboxes = refl; capacity = refl };
    refused = λ e. refl;
    page = tt;
    setup_same = refl;
    hart_same = refl;
  }

  pub serve-steps : (from : ℕ) → Steps p p (event.Take 0 from) (reply.Refused NoHart)
  serve-steps from = record {
    told = sym (first-refused (are_pair (setup_in (machine_of p)) 0 from) NoHart [] _ (pair-in from));
    follows = record { layout = refl; count = refl; spaces = λ s below. refl; words = λ f i. refl; holders = λ f. refl; harts = refl; tickets = refl; mailboxes = refl; capacity = refl };
    refused = λ e. refl;
    page = tt;
    setup_same = refl;
    hart_same = refl;
  }

  pub close-steps : (to : ℕ) → Steps p p (event.Close 0 to) (reply.Refused NoHart)
  close-steps to = record {
    told = sym (first-refused (are_pair (setup_in (machine_of p)) 0 to) NoHart (when ((mailbox_at (machine_of p) 0 to).closed) Closed ∷ []) reply.Ok (pair-in to));
    follows = record { layout = refl; count = refl; spaces = λ s below. refl; words = λ f i. refl; holders = λ f. refl; harts = refl; tickets = refl; mailboxes = refl; capacity = refl };
    refused = λ e. refl;
    page = tt;
    setup_same = refl;
    hart_same = refl;
  }

  -- Switch and Fence
  switch-by : (space : ℕ) (n : Bool) → is_number p.setup space ≡ n
      → Steps p (cond n (record p { space = space }) p) (event.Switch 0 space) (call_told (answer_or (refused_if (not n) NoSpace None) (Ok tt)))
  switch-by space true e = record {
    told = switch-told true (is_space (machine_of p) space) _ (space-is p.setup.asids space ∙ e) (none-retires p.setup.asids space);
    follows = record { layout = refl; count = refl; spaces = λ s below. refl; words = λ f i. refl; holders = λ f. refl; harts = refl; tickets = refl; mailboxes = refl; capacity = refl };
    refused = λ e. absurd cc;
    page = tt;
    setup_same = refl;
    hart_same = refl;
  }
  switch-by space false e = record {
    told = switch-told false (is_space (machine_of p) space) _ (space-is p.setup.asids space ∙ e) (none-retires p.setup.asids space);
    follows = record { layout = refl; count = refl; spaces = λ s below. refl; words = λ f i. refl; holders = λ f. refl; harts = refl; tickets = refl; mailboxes = refl; capacity = refl };
    refused = λ e. refl;
    page = tt;
    setup_same = refl;
    hart_same = refl;
  }

  pub switch-steps : (space : ℕ) → Steps p (after_switch p space) (event.Switch 0 space) (call_told (switch_answer p space))
  switch-steps space = switch-by space (is_number p.setup space) refl

  pub fence-steps : (rs1 rs2 : Option ℕ) → Steps p (after_fence p rs1 rs2) (event.Fence 0 rs1 rs2) reply.Ok
  fence-steps rs1 rs2 = record {
    told = refl;
    follows = record { layout = refl; count = refl; spaces = λ s below. refl; words = λ f i. refl; holders = λ f. refl; harts = refl; tickets = refl; mailboxes = refl; capacity = refl };
    refused = λ e. absurd cc;
    page = tt;
    setup_same = refl;
    hart_same = refl;
  }

  -- Finish
  finish-by : (ticket : ℕ) (o d : Bool) (left : TicketTable) → left ≡ after_finish p.tickets ticket → (d ≡ false → left ≡ p.tickets)
      → (let told = call_told (answer_or (refused_if (not o) NotOpen (refused_if (not d) NotDone None)) (Ok tt)) in told ≡ reply_to (machine_of p) (event.Finish 0 ticket)
      → Steps p (cond o (with_tickets p left) p) (event.Finish 0 ticket) told)
  finish-by ticket true true left same stays told = record {
    told = told;
    follows = record {
      layout = refl;
      count = refl;
      spaces = λ s below. sym (keeps _ (is_under (space_at (machine_of p) s).phase ticket) _ _ (none-under p.setup.asids s ticket));
      words = λ f i. refl;
      holders = λ f. refl;
      harts = refl;
      tickets = ap (λ (t : TicketTable). t ∷ []) same;
      mailboxes = refl;
      capacity = refl;
    };
    refused = λ e. absurd cc;
    page = tt;
    setup_same = refl;
    hart_same = refl;
  }
  finish-by ticket true false left same stays told = record {
    told = told;
    follows = record { layout = refl; count = refl; spaces = λ s below. refl; words = λ f i. refl; holders = λ f. refl; harts = refl; tickets = ap (λ (t : TicketTable). t ∷ []) (stays refl); mailboxes = refl; capacity = refl };
    refused = λ e. ap (λ (t : TicketTable). machine_of (with_tickets p t)) (stays refl);
    page = tt;
    setup_same = refl;
    hart_same = refl;
  }
  finish-by ticket false d left same stays told = record {
    told = told;
    follows = record { layout = refl; count = refl; spaces = λ s below. refl; words = λ f i. refl; holders = λ f. refl; harts = refl; tickets = refl; mailboxes = refl; capacity = refl };
    refused = λ e. refl;
    page = tt;
    setup_same = refl;
    hart_same = refl;
  }

  pub finish-steps : (ticket : ℕ) → Steps p (after_finish_of p ticket) (event.Finish 0 ticket) (call_told (finish_answer p ticket))
  finish-steps ticket =
      finish-by ticket (is_open p.tickets ticket) (is_done_at p.tickets ticket) (after_finish p.tickets ticket) refl
      (λ e. ap (λ (v : Bool). cond v (with_ticket p.tickets ticket None) p.tickets) e)
      (finish-told (is_open p.tickets ticket) (is_done_at p.tickets ticket))

  -- AckSelf
  ack-by : (ticket : ℕ) (o : Bool) (c : Collected) (left : TicketTable) (what : What) → left ≡ acked_by p.tickets ticket 0 → what ≡ what_in p.tickets ticket
      → progress_told (cond o (Ok c) (Err NotOpen)) ≡ reply_to (machine_of p) (event.AckSelf 0 ticket)
      → Steps p (cond o (record p { view = self_acked ticket what p.view; tickets = left; tlb = tlb_served p.tlb what }) p) (event.AckSelf 0 ticket) (progress_told (cond o (Ok c) (Err NotOpen)))
  ack-by ticket true collected.Done left what same asks told = record {
    told = told;
    follows = record {
      layout = refl;
      count = refl;
      spaces = λ s below. refl;
      words = λ f i. refl;
      holders = λ f. refl;
      harts = ap (λ (w : What). served-hart w ∷ []) asks;
      tickets = ap (λ (t : TicketTable). t ∷ []) same;
      mailboxes = refl;
      capacity = refl;
    };
    refused = λ e. absurd cc;
    page = tt;
    setup_same = refl;
    hart_same = refl;
  }
  ack-by ticket true (collected.Waiting harts) left what same asks told = record {
    told = told;
    follows = record {
      layout = refl;
      count = refl;
      spaces = λ s below. refl;
      words = λ f i. refl;
      holders = λ f. refl;
      harts = ap (λ (w : What). served-hart w ∷ []) asks;
      tickets = ap (λ (t : TicketTable). t ∷ []) same;
      mailboxes = refl;
      capacity = refl;
    };
    refused = λ e. absurd cc;
    page = tt;
    setup_same = refl;
    hart_same = refl;
  }
  ack-by ticket false c left what same asks told = record {
    told = told;
    follows = record { layout = refl; count = refl; spaces = λ s below. refl; words = λ f i. refl; holders = λ f. refl; harts = refl; tickets = refl; mailboxes = refl; capacity = refl };
    refused = λ e. refl;
    page = tt;
    setup_same = refl;
    hart_same = refl;
  }

  pub ack-steps : (ticket : ℕ) → Steps p (after_ack_self p ticket) (event.AckSelf 0 ticket) (progress_told (ack_self_answer p ticket))
  ack-steps ticket =
      ack-by ticket (is_open p.tickets ticket) (progress_at (acked_by p.tickets ticket p.hart) ticket) (acked_by p.tickets ticket p.hart) (asked_or_all (what_at p.tickets ticket))
      (ap (acked_by p.tickets ticket) is.hart_is) (asked-same (what_at p.tickets ticket))
      (ap (λ (h : ℕ). progress_told (cond (is_open p.tickets ticket) (Ok (progress_at (acked_by p.tickets ticket h) ticket)) (Err NotOpen))) is.hart_is
      ∙ ack-told (is_open p.tickets ticket) (progress_at (acked_by p.tickets ticket 0) ticket))

  -- Flush
  scope-there : (s : Scope) → is_scope (machine_of p) s ≡ is_there p.setup s
  scope-there (scope.Space s) = space-is p.setup.asids s
  scope-there scope.All = refl

  scope-stays : (s : Scope) → scope_retires (machine_of p) s ≡ false
  scope-stays (scope.Space s) = none-retires p.setup.asids s
  scope-stays scope.All = refl

  scope-asks : (s : Scope) → is_there p.setup s ≡ true → scope_request p.setup [] s ≡ request_of_scope (machine_of p) s
  scope-asks (scope.Space s) there = ap (λ (x : SpaceState). SpaceOf x.asid) (sym (space-live p.setup.asids s (ltb-true s (length p.setup.asids) there)))
  scope-asks scope.All there = refl

  flush-by : (s : Scope) (named : ℕ) (r : Result ℕ Refusal) (what : What) → ((ticket : ℕ) → r ≡ Ok ticket → what ≡ request_of_scope (machine_of p) s)
      → opening_told r ≡ reply_to (machine_of p) (event.Flush 0 s named)
      → Steps p (after_ordered p what named r) (event.Flush 0 s named) (opening_told r)
  flush-by s named (Ok ticket) what asks told = record {
    told = told;
    follows = record {
      layout = refl;
      count = refl;
      spaces = λ s below. refl;
      words = λ f i. refl;
      holders = λ f. refl;
      harts = refl;
      tickets = ap (λ (w : What). after_open p.tickets w named ∷ []) (asks ticket refl);
      mailboxes = refl;
      capacity = refl;
    };
    refused = λ e. absurd cc;
    page = tt;
    setup_same = refl;
    hart_same = refl;
  }
  flush-by s named (Err why) what asks told = record {
    told = told;
    follows = record { layout = refl; count = refl; spaces = λ s below. refl; words = λ f i. refl; holders = λ f. refl; harts = refl; tickets = refl; mailboxes = refl; capacity = refl };
    refused = λ e. refl;
    page = tt;
    setup_same = refl;
    hart_same = refl;
  }

  pub flush-steps : (s : Scope) (named : ℕ) → Steps p (after_flush p s named) (event.Flush 0 s named) (opening_told (flush_answer p s named))
  flush-steps s named =
      flush-by s named (flush_answer p s named) (scope_request p.setup [] s)
      (λ ticket e. scope-asks s (opened-passed (are_harts p.setup named) (is_there p.setup s) _ ticket e))
      (flush-told (are_harts p.setup named) (is_there p.setup s) _ (is_scope (machine_of p) s) (scope_retires (machine_of p) s) (open_answer p.tickets named) (named-same named) (scope-there s) (scope-stays s))

  -- Collect: no cell is looked at
  nothing-awaited : (after : PortState) (ticket from word : ℕ) → after ≡ p → look_at after ticket from word ≡ p
  nothing-awaited after ticket from word same =
      ap (λ (q : PortState). look_at q ticket from word) same
      ∙ ap (λ (v : Bool). cond (v && awaits from (ticket_at p.tickets ticket)) (after_look p ticket from (word == awaited_word p ticket) word) p) (own-pair from)

  pub nothing-looked : (ticket : ℕ) (words : List ℕ) → after_looks p ticket words ≡ p
  nothing-looked ticket [] = refl
  nothing-looked ticket (word ∷ words) = nothing-awaited (after_looks p ticket words) ticket (length words) word (nothing-looked ticket words)
