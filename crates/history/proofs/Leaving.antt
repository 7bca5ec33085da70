-- What each event leaves of the entries of a TLB.
use Rattle.std.proofs.Common.{◌≡◌, ℕ, true, cond, ◌&&◌, inl, inr, ◌∷◌, Option, Some, refl, ap, sym, eqb}
use Rattle.std.specs.Prelude.{Ok}
use Rattle.std.proofs.lemmas.Bool.{and_parts, eqb-true, eq-eqb, false≢true}
use Rattle.walk.specs.declared.found_or_trap.Found.{Found}
use Rattle.shoot.proofs.HartSets.{by_test}
use Rattle.tlb.specs.Answer.{entry_of}
use Rattle.tlb.specs.Entries.{filled}
use Rattle.tlb.specs.Fence.{fenced}
use Rattle.tlb.specs.Service.{IsRequest, Served, after_service as with_service}
use Rattle.tlb.proofs.Serving.{served_is_meant}
use Rattle.history.specs.Setup.{Setup}
use Rattle.history.specs.declared.event.Event.{Event}
use Rattle.history.specs.declared.event.Event.TheVariants.{Load, Fence, ServeFence, AckSelf}
use Rattle.history.specs.declared.reply.Reply.{Reply}
use Rattle.history.specs.declared.reply.Reply.TheVariants as reply
use Rattle.history.specs.Turns.{Turn, History, is_ok, is_filled, is_progress}
use Rattle.history.specs.Runs.{with_turn}
use Rattle.history.specs.Due.{Lawful}
use Rattle.history.specs.Spaces.{asid_of}
use Rattle.history.specs.Orders.{Order, open_order, order_at, what_of}
use Rattle.history.specs.Mailboxes.{Sent}
use Rattle.history.specs.Service.{served, what_served}
use Rattle.history.specs.Harts.{Walking, walk_of, space_of, with_fill, entries_after, entries_of}
use Rattle.history.specs.Occurrences.{IsProgress}
use Rattle.history.specs.Translations.{WalkEnds, TouchesTlb}
use Rattle.history.proofs.Occurred.{ok_is, progress_is, progress_from, turn_of}
use Rattle.history.proofs.Walks.{walk_outcome}

module _ (C : Setup) (H : History) (hart : ℕ) where
  pub load_fills : (pa : ℕ) (walk : Walking) (found : Found) → Lawful C H → WalkEnds C H hart walk (Ok found)
      → entries_of C (with_turn (Load hart) (reply.Filled pa) H) hart ≡ filled (entries_of C H hart) (entry_of (asid_of C H (space_of H hart)) found)
  load_fills pa walk found l w =
      let is = (walk_outcome C H hart (space_of H hart) walk (Ok found) l w.walking).1 w.outcome in
      rw (eq-eqb hart hart refl, w.walking, sym is) refl

  pub fence_leaves : (rs1 rs2 : Option ℕ) → entries_of C (with_turn (Fence hart rs1 rs2) reply.Ok H) hart ≡ fenced C.layout.scheme (entries_of C H hart) rs1 rs2
  fence_leaves rs1 rs2 = rw (eq-eqb hart hart refl) refl

  pub service_leaves : (post : Sent) → served C H hart ≡ Some post → IsRequest C.layout.scheme post.request.what
      → Served C.layout.scheme (entries_of C H hart) post.request.what (entries_of C (with_turn (ServeFence hart) reply.Ok H) hart)
  service_leaves post s asked =
      served_is_meant C.layout.scheme (entries_of C H hart) (entries_of C (with_turn (ServeFence hart) reply.Ok H) hart) post.request.what asked
      (rw (eq-eqb hart hart refl, s) refl)

  pub own_leaves : (ticket k : ℕ) (order : Order) (answer : Reply) → open_order H hart ticket ≡ Some k → order_at C H k ≡ Some order
      → IsRequest C.layout.scheme order.what → IsProgress answer
      → Served C.layout.scheme (entries_of C H hart) order.what (entries_of C (with_turn (AckSelf hart ticket) answer H) hart)
  own_leaves ticket k order answer o is asked p =
      served_is_meant C.layout.scheme (entries_of C H hart) (entries_of C (with_turn (AckSelf hart ticket) answer H) hart) order.what asked
      (rw (progress_from answer p, eq-eqb hart hart refl, o, is) refl)

-- whatever else happens leaves them
filled_is : (r : Reply) → is_filled r ≡ true → (pa : ℕ) × (r ≡ reply.Filled pa)
filled_is (reply.Filled pa) e = (pa, refl)
filled_is _ e = absurd (false≢true e)

untouched_by : (C : Setup) (event : Event) (r : Reply) (H : History) (h : ℕ) → (TouchesTlb h (turn_of event r) → ⊥) → entries_after C event r H h (entries_of C H h) ≡ entries_of C H h
untouched_by C (Load hart) r H h n =
    by_test (λ v. cond v (with_fill C H (space_of H h) (walk_of H h) (entries_of C H h)) (entries_of C H h) ≡ entries_of C H h) (is_filled r && eqb hart h)
    (λ t. let p = and_parts (is_filled r) (eqb hart h) t in absurd (n (inl (ap Load (eqb-true hart h p.1), filled_is r p.0))))
    (λ _. refl)
untouched_by C (Fence hart rs1 rs2) r H h n =
    by_test (λ v. cond v (fenced C.layout.scheme (entries_of C H h) rs1 rs2) (entries_of C H h) ≡ entries_of C H h) (is_ok r && eqb hart h)
    (λ t. let p = and_parts (is_ok r) (eqb hart h) t in absurd (n (inr (inl ((rs1, rs2, ap (λ b. Fence b rs1 rs2) (eqb-true hart h p.1)), ok_is r p.0)))))
    (λ _. refl)
untouched_by C (ServeFence hart) r H h n =
    by_test (λ v. cond v (with_service (entries_of C H h) (what_served (served C H h))) (entries_of C H h) ≡ entries_of C H h) (is_ok r && eqb hart h)
    (λ t. let p = and_parts (is_ok r) (eqb hart h) t in absurd (n (inr (inr (inl (ap ServeFence (eqb-true hart h p.1), ok_is r p.0))))))
    (λ _. refl)
untouched_by C (AckSelf hart ticket) r H h n =
    by_test (λ v. cond v (with_service (entries_of C H h) (what_of C H (open_order H hart ticket))) (entries_of C H h) ≡ entries_of C H h) (is_progress r && eqb hart h)
    (λ t. let p = and_parts (is_progress r) (eqb hart h) t in absurd (n (inr (inr (inr ((ticket, ap (λ b. AckSelf b ticket) (eqb-true hart h p.1)), progress_is r p.0))))))
    (λ _. refl)
untouched_by C _ r H h n = refl

pub untouched : (C : Setup) (H : History) (h : ℕ) (turn : Turn) → (TouchesTlb h turn → ⊥) → entries_of C (turn ∷ H) h ≡ entries_of C H h
untouched C H h turn n = untouched_by C turn.event turn.reply H h n
