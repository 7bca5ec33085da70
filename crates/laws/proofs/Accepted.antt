-- What an event that was accepted found.
use Rattle.std.proofs.Common.{◌≡◌, ℕ, zero, suc, ◌+◌, ◌<◌, Bool, true, false, cond, ◌&&◌, not, List, [], ◌∷◌, Option, Some, None, refl, ap, sym, ◌∙◌, arith, eqb, length}
use Rattle.std.specs.Prelude.{is_none, Result, Ok, Err}
use Rattle.std.proofs.lemmas.Bool.{not-false, not-true, false≢true, ltb-true, leb-false, eqb-true, eq-eqb, and_parts}
use Rattle.pte.specs.Address.{Span}
use Rattle.pte.specs.declared.flags.PteFlags.{PteFlags}
use Rattle.pte.specs.declared.permission.Access.{Access}
use Rattle.pte.specs.declared.permission.Ctx.{Ctx}
use Rattle.spaces.specs.declared.places.Place.{Place}
use Rattle.spaces.specs.declared.places.Place.TheVariants.{Space}
use Rattle.spaces.specs.Layout.{home_of}
use Rattle.spaces.specs.declared.faults.MapFault.{MapFault}
use Rattle.spaces.specs.declared.wishes.Wish.{Wish}
use Rattle.spaces.specs.declared.wishes.Wish.TheVariants as wish
use Rattle.spaces.specs.Edits.{Store, place_of}
use Rattle.shoot.specs.Request.{Request}
use Rattle.shoot.specs.HartSet.{contains, harts_in, harts_where}
use Rattle.shoot.proofs.HartSets.{contains_where}
use Rattle.std.specs.Int.{bit_at}
use Rattle.pte.specs.declared.TheConstants.{MAX_HARTS}
use Rattle.shoot.specs.declared.TheConstants.{MAX_TICKETS}
use Rattle.history.specs.Setup.{Setup, is_hart}
use Rattle.history.specs.Spaces.{Status, Live, Retires, Free, status_of, is_free, is_retiring}
use Rattle.history.specs.declared.event.Event.TheVariants.{Begin, Unmap, Protect, Flush, Post, Take, Ack, Collect, Finish, Retire, Reclaim, Create}
use Rattle.history.specs.declared.event.Scope.{Scope}
use Rattle.history.specs.declared.refusal.Refusal.TheVariants.{NoHart, NoSpace, NotHome, HomeNotNamed, NotNamed, AlreadyPosted, Closed, Full, Walking, Serving, NotServing, NotFenced, NotDone, Retiring, InUse, NotAcked, NotFree, AsidInUse}
use Rattle.history.specs.declared.reply.Reply.{Reply}
use Rattle.history.specs.declared.reply.Reply.TheVariants as reply
use Rattle.history.specs.Turns.{History, is_ok, is_more, is_taken, is_progress, opened_ticket}
use Rattle.history.specs.Orders.{order_at, open_order}
use Rattle.history.specs.Mailboxes.{waiting, is_closed}
use Rattle.history.specs.Service.{served, has_fenced}
use Rattle.history.specs.Acknowledgements.{is_posted, is_collected, outstanding}
use Rattle.history.specs.Harts.{walk_of}
use Rattle.history.specs.Due.{are_pair, is_number, is_space, is_place, retires, is_in_use, reclaim_reply, is_asid_of, edit_at, due, least_free, open_reply, opened_reply, edit_reply, names, next_reply, is_done}
use Rattle.history.proofs.Passing.{refuse, post_reply, collect_reply, finish_reply}
pub use Rattle.history.proofs.Occurred.{turn_of}
pub use Rattle.history.proofs.Passing.{is_accepted, passed}
use Rattle.laws.proofs.Tools.{none_since, none_by, by_test, and3, none_where, contains_below}

pub ok_accepted : (r : Reply) → is_ok r ≡ true → is_accepted r ≡ true
ok_accepted reply.Ok e = refl
ok_accepted _ e = absurd (false≢true e)

pub progress_accepted : (r : Reply) → is_progress r ≡ true → is_accepted r ≡ true
progress_accepted reply.Done e = refl
progress_accepted (reply.Waiting harts) e = refl
progress_accepted _ e = absurd (false≢true e)

pub taken_accepted : (r : Reply) → is_taken r ≡ true → is_accepted r ≡ true
taken_accepted (reply.Taken request) e = refl
taken_accepted _ e = absurd (false≢true e)

opened_is : (r : Reply) (t : ℕ) → opened_ticket r ≡ Some t → r ≡ reply.Opened t
opened_is (reply.Opened n) t e = let q : n ≡ t = cc in ap reply.Opened q
opened_is _ t e = absurd (cc (e))

opened_accepted : (r : Reply) (t : ℕ) → opened_ticket r ≡ Some t → is_accepted r ≡ true
opened_accepted (reply.Opened n) t e = refl
opened_accepted _ t e = absurd (cc (e))

pair_parts : (C : Setup) (a b : ℕ) → not (are_pair C a b) ≡ false → (a < C.harts) × (b < C.harts) × (a ≡ b → ⊥)
pair_parts C a b e =
    let p = and3 (is_hart C a) (is_hart C b) (not (eqb a b)) (not-false (are_pair C a b) e) in
    (ltb-true a C.harts p.0, ltb-true b C.harts p.1, λ q. false≢true (sym (not-true (eqb a b) p.2) ∙ eq-eqb a b q))

-- an opening: the ticket is free, and the set names its sender and harts that can be there
pub record OpeningFound (H : History) (hart : ℕ) (named : List Bool) (ticket : ℕ) : Type 0 where
  pub bound : ticket < MAX_TICKETS
  pub free : open_order H hart ticket ≡ None
  pub names_sender : hart < MAX_HARTS → contains named hart ≡ true
  pub names_harts : (h : ℕ) → contains named h ≡ true → h < MAX_HARTS

free_from : (H : History) (hart n from ticket : ℕ) → least_free H hart n from ≡ Some ticket → (ticket < from + n) × (open_order H hart ticket ≡ None)
free_from H hart zero from ticket e = absurd cc
free_from H hart (suc n) from ticket e =
    by_test (λ v. cond v (Some from) (least_free H hart n (from + 1)) ≡ Some ticket → (ticket < from + suc n) × (open_order H hart ticket ≡ None)) (is_none (open_order H hart from))
    (λ t q. let same : from ≡ ticket = cc in (omega arith, rw (← same) (none_by (open_order H hart from) t)))
    (λ _ q. let r = free_from H hart n (from + 1) ticket q in let l = r.0 in (omega arith, r.1)) e

opened_is_some : (o : Option ℕ) (t : ℕ) (r : Reply) → opened_reply o ≡ r → opened_ticket r ≡ Some t → o ≡ Some t
opened_is_some None t r e q = let z : None ≡ Some t = ap opened_ticket e ∙ q in absurd (cc (z))
opened_is_some (Some n) t r e q = ap opened_ticket e ∙ q

open_found : (H : History) (hart named ticket : ℕ) (r : Reply) → open_reply H hart named ≡ r → opened_ticket r ≡ Some ticket → OpeningFound H hart (harts_in named) ticket
open_found H hart named ticket r e t =
    let p = passed (not (contains (harts_in named) hart)) HomeNotNamed (opened_reply (least_free H hart MAX_TICKETS 0)) r e (opened_accepted r ticket t) in
    let f = free_from H hart MAX_TICKETS 0 ticket (opened_is_some (least_free H hart MAX_TICKETS 0) ticket r p.1 t) in
    record {
      bound = f.0;
      free = f.1;
      names_sender = λ _. not-false (contains (harts_in named) hart) p.0;
      names_harts = λ h n. contains_below (λ i. eqb (bit_at named i) 1) h n;
    }

-- an edit: its place exists and does not retire, and its store is due
pub record EditFound (C : Setup) (H : History) (hart : ℕ) (w : Wish) : Type 0 where
  pub there : is_place C H (place_of w) ≡ true
  pub live : retires H (place_of w) ≡ false
  pub store : Store
  pub is : edit_at C H hart w ≡ Ok store

edit_made : (answer : Result Store MapFault) (opening r : Reply) (ticket : ℕ) → edit_reply answer opening ≡ r → opened_ticket r ≡ Some ticket
    → (store : Store) × (answer ≡ Ok store) × (opening ≡ r)
edit_made (Ok store) opening r ticket e t = (store, refl, e)
edit_made (Err fault) opening r ticket e t = let z : None ≡ Some ticket = ap opened_ticket e ∙ t in absurd (cc (z))

change_found : (C : Setup) (H : History) (hart named ticket : ℕ) (w : Wish) (absent : Bool) (r : Reply)
    → refuse absent NoHart (refuse (not (is_place C H (place_of w))) NoSpace (refuse (retires H (place_of w)) Retiring (edit_reply (edit_at C H hart w) (open_reply H hart named)))) ≡ r
    → opened_ticket r ≡ Some ticket → EditFound C H hart w × OpeningFound H hart (harts_in named) ticket
change_found C H hart named ticket w absent r d t =
    let a = opened_accepted r ticket t in
    let p = passed absent NoHart _ r d a in
    let q = passed (not (is_place C H (place_of w))) NoSpace _ r p.1 a in
    let v = passed (retires H (place_of w)) Retiring _ r q.1 a in
    let m = edit_made (edit_at C H hart w) (open_reply H hart named) r ticket v.1 t in
    (record { there = not-false (is_place C H (place_of w)) q.0; live = v.0; store = m.0; is = m.1 }, open_found H hart named ticket r m.2 t)

pub unmap_edit : (C : Setup) (H : History) (hart : ℕ) (place : Place) (page : Span) (named ticket : ℕ) (r : Reply)
    → r ≡ due C H (Unmap hart place page named) → opened_ticket r ≡ Some ticket → EditFound C H hart (wish.Unmap place page)
unmap_edit C H hart place page named ticket r d t = (change_found C H hart named ticket (wish.Unmap place page) _ r (sym d) t).0

pub protect_edit : (C : Setup) (H : History) (hart : ℕ) (place : Place) (page : Span) (flags : PteFlags) (named ticket : ℕ) (r : Reply)
    → r ≡ due C H (Protect hart place page flags named) → opened_ticket r ≡ Some ticket → EditFound C H hart (wish.Protect place page flags)
protect_edit C H hart place page flags named ticket r d t = (change_found C H hart named ticket (wish.Protect place page flags) _ r (sym d) t).0

pub unmap_found : (C : Setup) (H : History) (hart : ℕ) (place : Place) (page : Span) (named ticket : ℕ) (r : Reply)
    → r ≡ due C H (Unmap hart place page named) → opened_ticket r ≡ Some ticket → OpeningFound H hart (harts_in named) ticket
unmap_found C H hart place page named ticket r d t = (change_found C H hart named ticket (wish.Unmap place page) _ r (sym d) t).1

pub protect_found : (C : Setup) (H : History) (hart : ℕ) (place : Place) (page : Span) (flags : PteFlags) (named ticket : ℕ) (r : Reply)
    → r ≡ due C H (Protect hart place page flags named) → opened_ticket r ≡ Some ticket → OpeningFound H hart (harts_in named) ticket
protect_found C H hart place page flags named ticket r d t = (change_found C H hart named ticket (wish.Protect place page flags) _ r (sym d) t).1

pub flush_found : (C : Setup) (H : History) (hart : ℕ) (scope : Scope) (named ticket : ℕ) (r : Reply)
    → r ≡ due C H (Flush hart scope named) → opened_ticket r ≡ Some ticket → OpeningFound H hart (harts_in named) ticket
flush_found C H hart scope named ticket r d t =
    let a = opened_accepted r ticket t in
    let p = passed _ NoHart _ r (sym d) a in
    let q = passed _ NoSpace _ r p.1 a in
    let v = passed _ Retiring _ r q.1 a in
    open_found H hart named ticket r v.1 t

-- a Retire: a live space that no hart is in
pub record RetireFound (C : Setup) (H : History) (hart space ticket : ℕ) : Type 0 where
  pub there : is_space C H space ≡ true
  pub home : hart ≡ home_of C.layout (Space space)
  pub live : is_retiring (status_of H space) ≡ false
  pub unused : is_in_use C H space ≡ false
  pub opening : OpeningFound H hart (harts_where (is_hart C)) ticket

pub retire_found : (C : Setup) (H : History) (hart space ticket : ℕ) (r : Reply) → r ≡ due C H (Retire hart space) → opened_ticket r ≡ Some ticket → RetireFound C H hart space ticket
retire_found C H hart space ticket r d t =
    let a = opened_accepted r ticket t in
    let p = passed _ NoHart _ r (sym d) a in
    let q = passed _ NoSpace _ r p.1 a in
    let n = passed _ NotHome _ r q.1 a in
    let v = passed _ Retiring _ r n.1 a in
    let u = passed _ InUse _ r v.1 a in
    let f = free_from H hart MAX_TICKETS 0 ticket (opened_is_some (least_free H hart MAX_TICKETS 0) ticket r u.1 t) in
    record {
      there = not-false (is_space C H space) q.0;
      home = eqb-true hart (home_of C.layout (Space space)) (not-false (eqb hart (home_of C.layout (Space space))) n.0);
      live = v.0;
      unused = u.0;
      opening = record {
        bound = f.0;
        free = f.1;
        names_sender = λ less. contains_where (is_hart C) hart less ∙ not-false (is_hart C hart) p.0;
        names_harts = λ h n. contains_below (is_hart C) h n;
      };
    }

-- a Reclaim: each hart is collected for the retirement
pub record ReclaimFound (C : Setup) (H : History) (space : ℕ) : Type 0 where
  pub there : space < length C.asids
  pub order : ℕ
  pub retiring : status_of H space ≡ Retires order
  pub done : is_done C H order ≡ true

reclaim_with : (C : Setup) (H : History) (space : ℕ) (status : Status) (r : Reply) → space < length C.asids → status_of H space ≡ status → reclaim_reply C H status ≡ r → is_accepted r ≡ true
    → ReclaimFound C H space
reclaim_with C H space Live r there is e a = absurd (false≢true (ap is_accepted e ∙ a))
reclaim_with C H space (Retires k) r there is e a =
    record { there = there; order = k; retiring = is; done = not-false (is_done C H k) (passed _ NotAcked _ r e a).0 }
reclaim_with C H space Free r there is e a = absurd (false≢true (ap is_accepted e ∙ a))

pub space_is : (C : Setup) (H : History) (s : ℕ) → is_space C H s ≡ true → (s < length C.asids) × (is_free (status_of H s) ≡ false)
space_is C H s e =
    let p = and_parts (is_number C s) (not (is_free (status_of H s))) e in (ltb-true s (length C.asids) p.0, not-true (is_free (status_of H s)) p.1)

pub reclaim_found : (C : Setup) (H : History) (hart space : ℕ) (r : Reply) → r ≡ due C H (Reclaim hart space) → is_ok r ≡ true → ReclaimFound C H space
reclaim_found C H hart space r d z =
    let a = ok_accepted r z in
    let p = passed _ NoHart _ r (sym d) a in
    let q = passed _ NoSpace _ r p.1 a in
    let n = passed _ NotHome _ r q.1 a in
    reclaim_with C H space (status_of H space) r (space_is C H space (not-false (is_space C H space) q.0)).0 refl n.1 a

-- a Create: a free space, and an ASID that no other has
pub record CreateFound (C : Setup) (H : History) (space asid : ℕ) : Type 0 where
  pub there : space < length C.asids
  pub free : is_free (status_of H space) ≡ true
  pub unused : is_asid_of C H asid (length C.asids) ≡ false

pub create_found : (C : Setup) (H : History) (hart space asid : ℕ) (r : Reply) → r ≡ due C H (Create hart space asid) → is_ok r ≡ true → CreateFound C H space asid
create_found C H hart space asid r d z =
    let a = ok_accepted r z in
    let p = passed _ NoHart _ r (sym d) a in
    let q = passed _ NoSpace _ r p.1 a in
    let n = passed _ NotHome _ r q.1 a in
    let f = passed _ NotFree _ r n.1 a in
    let u = passed _ AsidInUse _ r f.1 a in
    record {
      there = ltb-true space (length C.asids) (not-false (is_number C space) q.0);
      free = not-false (is_free (status_of H space)) f.0;
      unused = u.0;
    }

-- a Post
pub record PostFound (C : Setup) (H : History) (s t h : ℕ) : Type 0 where
  pub order : ℕ
  pub is : open_order H s t ≡ Some order
  pub apart : s ≡ h → ⊥
  pub named : names (order_at C H order) h ≡ true
  pub fresh : is_posted H order h ≡ false
  pub unclosed : is_closed H s h ≡ false
  pub room : outstanding C H s h < C.capacity

post_with : (C : Setup) (H : History) (s t h : ℕ) (o : Option ℕ) (r : Reply) → o ≡ open_order H s t → (s ≡ h → ⊥) → post_reply C H s h o ≡ r → is_accepted r ≡ true → PostFound C H s t h
post_with C H s t h None r q apart e a = absurd (false≢true (ap is_accepted e ∙ a))
post_with C H s t h (Some k) r q apart e a =
    let n = passed _ NotNamed _ r e a in
    let p = passed _ AlreadyPosted _ r n.1 a in
    let c = passed _ Closed _ r p.1 a in
    let f = passed _ Full _ r c.1 a in
    record {
      order = k;
      is = sym q;
      apart = apart;
      named = not-false (names (order_at C H k) h) n.0;
      fresh = p.0;
      unclosed = c.0;
      room = leb-false C.capacity (outstanding C H s h) f.0;
    }

pub post_found : (C : Setup) (H : History) (s t h : ℕ) (r : Reply) → r ≡ due C H (Post s t h) → is_ok r ≡ true → PostFound C H s t h
post_found C H s t h r d z =
    let a = ok_accepted r z in
    let p = passed _ NoHart _ r (sym d) a in
    post_with C H s t h (open_order H s t) r refl (pair_parts C s h p.0).2 p.1 a

-- a Take
pub record TakeFound (C : Setup) (H : History) (h s : ℕ) : Type 0 where
  pub apart : h ≡ s → ⊥
  pub unwalking : walk_of H h ≡ None
  pub first : Request
  pub rest : List Request
  pub waits : waiting C H s h ≡ first ∷ rest

next_with : (ws : List Request) (r : Reply) → next_reply ws ≡ r → is_accepted r ≡ true → (first : Request) × (rest : List Request) × (ws ≡ first ∷ rest)
next_with [] r e a = absurd (false≢true (ap is_accepted e ∙ a))
next_with (first ∷ rest) r e a = (first, rest, refl)

pub take_found : (C : Setup) (H : History) (h s : ℕ) (r : Reply) → r ≡ due C H (Take h s) → is_taken r ≡ true → TakeFound C H h s
take_found C H h s r d z =
    let a = taken_accepted r z in
    let p = passed _ NoHart _ r (sym d) a in
    let w = passed _ Walking _ r p.1 a in
    let v = passed _ Serving _ r w.1 a in
    let n = next_with (waiting C H s h) r v.1 a in
    record {
      apart = (pair_parts C h s p.0).2;
      unwalking = none_since (walk_of H h) w.0;
      first = n.0;
      rest = n.1;
      waits = n.2;
    }

-- a Begin that began a walk
more_accepted : (r : Reply) → is_more r ≡ true → is_accepted r ≡ true
more_accepted reply.More e = refl
more_accepted _ e = absurd (false≢true e)

pub begin_found : (C : Setup) (H : History) (h va : ℕ) (access : Access) (ctx : Ctx) (r : Reply) → r ≡ due C H (Begin h va access ctx) → is_more r ≡ true → served C H h ≡ None
begin_found C H h va access ctx r d z =
    let a = more_accepted r z in
    let p = passed _ NoHart _ r (sym d) a in
    let w = passed _ Walking _ r p.1 a in
    none_since (served C H h) (passed _ Serving _ r w.1 a).0

-- an Ack
pub ack_found : (C : Setup) (H : History) (h : ℕ) (r : Reply) → r ≡ due C H (Ack h) → is_ok r ≡ true → has_fenced H h ≡ true
ack_found C H h r d z =
    let a = ok_accepted r z in
    let p = passed _ NoHart _ r (sym d) a in
    let s = passed _ NotServing _ r p.1 a in
    not-false (has_fenced H h) (passed _ NotFenced _ r s.1 a).0

-- a Finish
finish_with : (C : Setup) (H : History) (o : Option ℕ) (k h : ℕ) (r : Reply) → o ≡ Some k → finish_reply C H o ≡ r → is_accepted r ≡ true
    → names (order_at C H k) h ≡ true → h < MAX_HARTS → is_collected C H k h ≡ true
finish_with C H None k h r q e a n l = absurd cc
finish_with C H (Some j) k h r q e a n l =
    let same : j ≡ k = cc in
    let done = not-false (is_done C H j) (passed _ NotDone _ r e a).0 in
    let out : (names (order_at C H k) h && not (is_collected C H k h)) ≡ false = rw (← same) (none_where (λ i. names (order_at C H j) i && not (is_collected C H j i)) h done l) in
    not-false (is_collected C H k h) (rw n at out)

pub finish_found : (C : Setup) (H : History) (s t k h : ℕ) (r : Reply) → r ≡ due C H (Finish s t) → is_ok r ≡ true → open_order H s t ≡ Some k
    → names (order_at C H k) h ≡ true → h < MAX_HARTS → is_collected C H k h ≡ true
finish_found C H s t k h r d z o n l =
    let a = ok_accepted r z in
    finish_with C H (open_order H s t) k h r o (passed _ NoHart _ r (sym d) a).1 a n l

-- a Collect and an AckSelf, of an open ticket
pub record CollectFound (C : Setup) (H : History) (s t h : ℕ) : Type 0 where
  pub order : ℕ
  pub is : open_order H s t ≡ Some order
  pub apart : s ≡ h → ⊥
  pub named : names (order_at C H order) h ≡ true

collect_with : (C : Setup) (H : History) (s t h : ℕ) (o : Option ℕ) (r : Reply) → o ≡ open_order H s t → (s ≡ h → ⊥) → collect_reply C H s t h o ≡ r → is_accepted r ≡ true → CollectFound C H s t h
collect_with C H s t h None r q apart e a = absurd (false≢true (ap is_accepted e ∙ a))
collect_with C H s t h (Some k) r q apart e a =
    record { order = k; is = sym q; apart = apart; named = not-false (names (order_at C H k) h) (passed _ NotNamed _ r e a).0 }

pub collect_found : (C : Setup) (H : History) (s t h : ℕ) (r : Reply) → r ≡ due C H (Collect s t h) → is_progress r ≡ true → CollectFound C H s t h
collect_found C H s t h r d z =
    let a = progress_accepted r z in
    let p = passed _ NoHart _ r (sym d) a in
    collect_with C H s t h (open_order H s t) r refl (pair_parts C s h p.0).2 p.1 a
