-- A hart that serves has no walk in flight, and once it has fenced holds no entry that the request
-- drops.
use Rattle.std.proofs.Common.{◌≡◌, ℕ, Bool, true, false, cond, ◌&&◌, not, List, [], ◌∷◌, length, Option, Some, None, slice_get, refl, ap, subst, eqb, filter}
use Rattle.std.specs.List.{AllPass}
use Rattle.std.proofs.lemmas.Bool.{and_parts, eqb-true, false≢true}
use Rattle.std.proofs.lemmas.List.Elements.{All-filter, filter_passes}
use Rattle.pte.specs.declared.address.What.{What}
use Rattle.pte.specs.declared.permission.Access.{Access}
use Rattle.pte.specs.declared.permission.Ctx.{Ctx}
use Rattle.tlb.specs.declared.store.Entry.{Entry}
use Rattle.tlb.specs.Fence.{is_fenced}
use Rattle.tlb.specs.Service.{is_dropped, after_service as with_service}
use Rattle.history.specs.Setup.{Setup}
use Rattle.history.specs.declared.event.Event.{Event}
use Rattle.history.specs.declared.event.Event.TheVariants.{Begin, Load, Fence, Take, ServeFence, Ack, AckSelf}
use Rattle.history.specs.declared.reply.Reply.{Reply}
use Rattle.history.specs.declared.reply.Reply.TheVariants as reply
use Rattle.history.specs.Turns.{History, is_ok, is_taken, is_filled, is_progress}
use Rattle.history.specs.Orders.{open_order, what_of}
use Rattle.history.specs.Mailboxes.{Sent, posts, taken}
use Rattle.history.specs.Service.{served_after, served, has_fenced, fenced_after, what_served}
use Rattle.history.specs.Harts.{Walking, begun, with_load, loaded, walk_after, walk_of, space_of, with_fill, entries_after, entries_of}
use Rattle.history.specs.Due.{due, Lawful}
use Rattle.laws.proofs.Tools.{by_test}
use Rattle.laws.proofs.Accepted.{begin_found, take_found}

-- a walk begins only where nothing is served
begun_idle : (C : Setup) (H : History) (b va : ℕ) (access : Access) (ctx : Ctx) (r : Reply) (x : Sent) → r ≡ due C H (Begin b va access ctx) → served C H b ≡ Some x
    → walk_of H b ≡ None → begun r va access ctx (walk_of H b) ≡ None
begun_idle C H b va access ctx reply.More x d s w = absurd (cc (begin_found C H b va access ctx reply.More d refl, s))
begun_idle C H b va access ctx _ x d s w = w

loaded_idle : (r : Reply) (w : Option Walking) → w ≡ None → loaded r w ≡ None
loaded_idle reply.More w e = ap with_load e
loaded_idle (reply.Filled pa) w e = refl
loaded_idle (reply.Trap trap) w e = refl
loaded_idle _ w e = e

idle_step : (C : Setup) (event : Event) (r : Reply) (H : History) (h : ℕ) (x : Sent) → r ≡ due C H event → ((y : Sent) → served C H h ≡ Some y → walk_of H h ≡ None)
    → served_after C event r H h (served C H h) ≡ Some x → walk_after event r h (walk_of H h) ≡ None
idle_step C (Begin b va access ctx) r H h x d old e =
    by_test (λ v. cond v (begun r va access ctx (walk_of H h)) (walk_of H h) ≡ None) (eqb b h)
    (λ t. let bh : b ≡ h = eqb-true b h t in
    subst (λ (i : ℕ). begun r va access ctx (walk_of H i) ≡ None) bh (begun_idle C H b va access ctx r x d (rw bh e) (rw bh (old x e))))
    (λ _. old x e)
idle_step C (Load b) r H h x d old e =
    by_test (λ v. cond v (loaded r (walk_of H h)) (walk_of H h) ≡ None) (eqb b h) (λ _. loaded_idle r (walk_of H h) (old x e)) (λ _. old x e)
idle_step C (Take b a) r H h x d old e =
    by_test (λ v. cond v (slice_get (posts C H a b) (length (taken H a b))) (served C H h) ≡ Some x → walk_of H h ≡ None) (is_taken r && eqb b h)
    (λ t _. let p = and_parts (is_taken r) (eqb b h) t in
    rw (← eqb-true b h p.1) (take_found C H b a r d p.0).unwalking)
    (λ _ q. old x q) e
idle_step C (Ack b) r H h x d old e =
    by_test (λ v. cond v None (served C H h) ≡ Some x → walk_of H h ≡ None) (is_ok r && eqb b h) (λ _ q. absurd cc) (λ _ q. old x q) e
idle_step C _ r H h x d old e = old x e

pub idle : (C : Setup) (H : History) (h : ℕ) (x : Sent) → Lawful C H → served C H h ≡ Some x → walk_of H h ≡ None
idle C [] h x l e = refl
idle C (turn ∷ H) h x l e = idle_step C turn.event turn.reply H h x l.1 (λ y q. idle C H h y l.0 q) e

-- the request drops no entry of the list
abbrev pub DropsNone : What → List Entry → Type 0
DropsNone what entries = AllPass (λ e. not (is_dropped what e)) entries

-- an entry that is taken out or not stays undropped
filtered_none : (what : What) (test : Entry → Bool) (apply : Bool) (entries : List Entry) → DropsNone what entries → DropsNone what (cond apply (filter test entries) entries)
filtered_none what test true entries h = All-filter test (λ e. not (is_dropped what e) ≡ true) entries h
filtered_none what test false entries h = h

-- no walk, no fill
no_fill : (C : Setup) (H : History) (space : ℕ) (walk : Option Walking) (apply : Bool) (entries : List Entry) → walk ≡ None → cond apply (with_fill C H space walk entries) entries ≡ entries
no_fill C H space None true entries e = refl
no_fill C H space None false entries e = refl
no_fill C H space (Some walk) apply entries e = absurd cc

fenced_step : (C : Setup) (event : Event) (r : Reply) (H : History) (h : ℕ) (x : Sent) → Lawful C H
    → (served C H h ≡ Some x → has_fenced H h ≡ true → DropsNone x.request.what (entries_of C H h))
    → served_after C event r H h (served C H h) ≡ Some x → fenced_after event r h (has_fenced H h) ≡ true
    → DropsNone x.request.what (entries_after C event r H h (entries_of C H h))
fenced_step C (Load b) r H h x l old e f =
    rw (no_fill C H (space_of H h) (walk_of H h) (is_filled r && eqb b h) (entries_of C H h) (idle C H h x l e)) (old e f)
fenced_step C (Fence b rs1 rs2) r H h x l old e f =
    filtered_none x.request.what (λ y. not (is_fenced C.layout.scheme rs1 rs2 y)) (is_ok r && eqb b h) (entries_of C H h) (old e f)
fenced_step C (Take b a) r H h x l old e f =
    by_test (λ v. cond v (slice_get (posts C H a b) (length (taken H a b))) (served C H h) ≡ Some x → cond v false (has_fenced H h) ≡ true → DropsNone x.request.what (entries_of C H h)) (is_taken r && eqb b h)
    (λ _ _ g. absurd (false≢true g)) (λ _ q g. old q g) e f
fenced_step C (ServeFence b) r H h x l old e f =
    by_test (λ v. cond v true (has_fenced H h) ≡ true → DropsNone x.request.what (cond v (with_service (entries_of C H h) (what_served (served C H h))) (entries_of C H h))) (is_ok r && eqb b h)
    (λ _ _. rw e (filter_passes (λ y. not (is_dropped x.request.what y)) (entries_of C H h))) (λ _ g. old e g) f
fenced_step C (Ack b) r H h x l old e f =
    by_test (λ v. cond v None (served C H h) ≡ Some x → DropsNone x.request.what (entries_of C H h)) (is_ok r && eqb b h) (λ _ q. absurd cc) (λ _ q. old q f) e
fenced_step C (AckSelf b t) r H h x l old e f =
    filtered_none x.request.what (λ y. not (is_dropped (what_of C H (open_order H b t)) y)) (is_progress r && eqb b h) (entries_of C H h) (old e f)
fenced_step C _ r H h x l old e f = old e f

pub fenced : (C : Setup) (H : History) (h : ℕ) (x : Sent) → Lawful C H → served C H h ≡ Some x → has_fenced H h ≡ true → DropsNone x.request.what (entries_of C H h)
fenced C [] h x l e f = absurd cc
fenced C (turn ∷ H) h x l e f = fenced_step C turn.event turn.reply H h x l.0 (fenced C H h x l.0) e f
