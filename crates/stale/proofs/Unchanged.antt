-- A turn that leaves tables, a TLB and ASIDs as they were leaves what is stale in it as it was.
use Rattle.std.proofs.Common.{◌≡◌, ℕ, false, ◌==◌, ◌&&◌, List, Option, Some, None, refl, sym, ◌∙◌, subst}
use Rattle.std.specs.Prelude.{◌↔◌, Contains}
use Rattle.pte.specs.Address.{Span}
use Rattle.walk.specs.Leads.{Tables}
use Rattle.tlb.specs.declared.store.Entry.{Entry}
use Rattle.tlb.specs.Mappings.{Mapping, IsMappedBy}
use Rattle.std.proofs.lemmas.Bool.{false≢true}
use Rattle.history.specs.Setup.{Setup}
use Rattle.history.specs.declared.event.Event.{Event}
use Rattle.history.specs.declared.event.Event.TheVariants.{Begin, Load, Flush, Switch, Fence, Post, Take, ServeFence, Ack, AckSelf, Collect, Finish, Close}
use Rattle.history.specs.declared.reply.Reply.{Reply}
use Rattle.history.specs.Turns.{History, is_filled, is_ok, is_progress}
use Rattle.history.specs.Runs.{with_turn}
use Rattle.history.specs.Tables.{words_of}
use Rattle.history.specs.Spaces.{Status, status_of, is_free, asid_of}
use Rattle.history.specs.Harts.{entries_of}
use Rattle.history.specs.Staleness.{Reaches, IsMapped, IsMappedNow}
use Rattle.stale.specs.Lasting.{may_change, may_change_at, StaleIn}

-- two histories leave the same tables and ASIDs, and the same in the TLB of a hart
record LeaveSame (C : Setup) (old new : History) (hart : ℕ) : Type 0 where
  words : words_of C old ≡ words_of C new
  entries : entries_of C old hart ≡ entries_of C new hart
  status : (s : ℕ) → status_of old s ≡ status_of new s
  asid : (s : ℕ) → asid_of C old s ≡ asid_of C new s

back : (C : Setup) (old new : History) (hart : ℕ) → LeaveSame C old new hart → LeaveSame C new old hart
back C old new hart same = record {
  words = sym same.words;
  entries = sym same.entries;
  status = λ s. sym (same.status s);
  asid = λ s. sym (same.asid s);
}

reaches : (C : Setup) (old new : History) (hart : ℕ) → LeaveSame C old new hart → (of : Option ℕ) (s : ℕ) → Reaches C old of s → Reaches C new of s
reaches C old new hart same (Some a) s reach = record {
  there = reach.there;
  kept = subst (λ (status : Status). is_free status ≡ false) (same.status s) reach.kept;
  same = sym (same.asid s) ∙ reach.same;
}
reaches C old new hart same None s reach = reach

mapped : (C : Setup) (old new : History) (hart : ℕ) → LeaveSame C old new hart → (m : Mapping) → IsMappedNow C old (words_of C old) m.asid m → IsMappedNow C new (words_of C new) m.asid m
mapped C old new hart same m now = record {
  some = (now.some.0, reaches C old new hart same m.asid now.some.0 now.some.1);
  each = λ s reach. subst (λ (words : Tables). IsMapped C words s m) same.words (now.each s (reaches C new old hart (back C old new hart same) m.asid s reach));
}

stale_in : (C : Setup) (old new : History) (hart : ℕ) → LeaveSame C old new hart → (e : Entry) (page : Span) (m : Mapping) → StaleIn C old hart e page m → StaleIn C new hart e page m
stale_in C old new hart same e page m s = record {
  entry = subst (λ (es : List Entry). Contains es e) same.entries s.entry;
  is = s.is;
  in_page = s.in_page;
  stale = record {
    held = subst (λ (es : List Entry). IsMappedBy es m) same.entries s.stale.held;
    unmapped = λ now. s.stale.unmapped (mapped C new old hart (back C old new hart same) m now);
  };
}

same_stale : (C : Setup) (old new : History) (hart : ℕ) → LeaveSame C old new hart → (e : Entry) (page : Span) (m : Mapping) → StaleIn C new hart e page m ↔ StaleIn C old hart e page m
same_stale C old new hart same e page m = (stale_in C new old hart (back C old new hart same) e page m, stale_in C old new hart same e page m)

-- a turn that may not change them leaves them the same
leaves_same : (C : Setup) (H : History) (event : Event) (r : Reply) (hart : ℕ) → may_change_at event r hart ≡ false → LeaveSame C H (with_turn event r H) hart
leaves_same C H (Begin by va access ctx) r hart plain = record { words = refl; entries = refl; status = λ s. refl; asid = λ s. refl }
leaves_same C H (Load by) r hart plain = let kept : (is_filled r && (by == hart)) ≡ false = plain in record { words = refl; entries = rw kept refl; status = λ s. refl; asid = λ s. refl }
leaves_same C H (Flush by scope named) r hart plain = record { words = refl; entries = refl; status = λ s. refl; asid = λ s. refl }
leaves_same C H (Switch by space) r hart plain = record { words = refl; entries = refl; status = λ s. refl; asid = λ s. refl }
leaves_same C H (Fence by rs1 rs2) r hart plain = let kept : (is_ok r && (by == hart)) ≡ false = plain in record { words = refl; entries = rw kept refl; status = λ s. refl; asid = λ s. refl }
leaves_same C H (Post by ticket to) r hart plain = record { words = refl; entries = refl; status = λ s. refl; asid = λ s. refl }
leaves_same C H (Take by from) r hart plain = record { words = refl; entries = refl; status = λ s. refl; asid = λ s. refl }
leaves_same C H (ServeFence by) r hart plain = let kept : (is_ok r && (by == hart)) ≡ false = plain in record { words = refl; entries = rw kept refl; status = λ s. refl; asid = λ s. refl }
leaves_same C H (Ack by) r hart plain = record { words = refl; entries = refl; status = λ s. refl; asid = λ s. refl }
leaves_same C H (AckSelf by ticket) r hart plain = let kept : (is_progress r && (by == hart)) ≡ false = plain in record { words = refl; entries = rw kept refl; status = λ s. refl; asid = λ s. refl }
leaves_same C H (Collect by ticket from) r hart plain = record { words = refl; entries = refl; status = λ s. refl; asid = λ s. refl }
leaves_same C H (Finish by ticket) r hart plain = record { words = refl; entries = refl; status = λ s. refl; asid = λ s. refl }
leaves_same C H (Close by to) r hart plain = record { words = refl; entries = refl; status = λ s. refl; asid = λ s. refl }
leaves_same C H _ r hart plain = absurd (false≢true (sym plain))

-- and one that may not leaves what is stale in the hart's TLB as it was
pub unchanged_at : (event : Event) (r : Reply) (hart : ℕ) → may_change_at event r hart ≡ false → (C : Setup) (H : History) (e : Entry) (page : Span) (m : Mapping)
    → StaleIn C (with_turn event r H) hart e page m ↔ StaleIn C H hart e page m
unchanged_at event r hart plain C H = same_stale C H (with_turn event r H) hart (leaves_same C H event r hart plain)

-- what may change nothing of any hart may change nothing of this one
nor_at : (event : Event) (r : Reply) (hart : ℕ) → may_change event r ≡ false → may_change_at event r hart ≡ false
nor_at (Begin by va access ctx) r hart plain = refl
nor_at (Load by) r hart plain = let kept : is_filled r ≡ false = plain in rw kept refl
nor_at (Flush by scope named) r hart plain = refl
nor_at (Switch by space) r hart plain = refl
nor_at (Post by ticket to) r hart plain = refl
nor_at (Take by from) r hart plain = refl
nor_at (Ack by) r hart plain = refl
nor_at (Collect by ticket from) r hart plain = refl
nor_at (Finish by ticket) r hart plain = refl
nor_at (Close by to) r hart plain = refl
nor_at _ r hart plain = absurd (false≢true (sym plain))

-- so it leaves what is stale in each TLB as it was
pub unchanged : (event : Event) (r : Reply) → may_change event r ≡ false → (C : Setup) (H : History) (hart : ℕ) (e : Entry) (page : Span) (m : Mapping)
    → StaleIn C (with_turn event r H) hart e page m ↔ StaleIn C H hart e page m
unchanged event r plain C H hart = unchanged_at event r hart (nor_at event r hart plain) C H
