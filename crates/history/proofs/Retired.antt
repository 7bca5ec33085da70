-- What an accepted Retire, Reclaim or Create leaves.
use Rattle.std.proofs.Common.{◌≡◌, ℕ, ◌<◌, Bool, true, cond, ◌&&◌, length, Option, Some, refl, ap, sym, ◌∙◌, eqb, inl, inr}
use Rattle.std.specs.Prelude.{◌≢◌}
use Rattle.std.proofs.lemmas.Bool.{cases_eq, eq-eqb, ne_eqb, ltb-true, lt-ltb}
use Rattle.spaces.proofs.Given.{words-emptied, frames-left}
use Rattle.shoot.specs.HartSet.{contains, harts_where}
use Rattle.pte.specs.declared.TheConstants.{MAX_HARTS}
use Rattle.shoot.proofs.HartSets.{contains_where}
use Rattle.history.specs.Setup.{Setup, is_hart}
use Rattle.history.specs.Turns.{History, are_same}
use Rattle.history.specs.Spaces.{Live, Retires, Free, status_of, asid_of, holder_of}
use Rattle.history.specs.Orders.{open_order, order_at}
use Rattle.history.specs.Tables.{words_of}
use Rattle.history.specs.Retirements.{AfterRetire, AfterReclaim, AfterCreate}

-- a value that a test on equal or different numbers replaces
here : {A : Type 0} (a : ℕ) (x y : A) → cond (eqb a a) x y ≡ x
here a x y = ap (λ b. cond b x y) (eq-eqb a a refl)

there : {A : Type 0} (a b : ℕ) (x y : A) → b ≢ a → cond (eqb a b) x y ≡ y
there a b x y apart = ap (λ t. cond t x y) (ne_eqb a b (λ e. apart (sym e)))

module _ (C : Setup) (H : History) where
  -- the order of a retirement
  abbrev Named : (ℕ → Bool) → ℕ → Type 0
  Named named h = (named h ≡ true → h < C.harts) × (h < C.harts → named h ≡ true)

  names : (h : ℕ) → h < MAX_HARTS → Named (contains (harts_where (is_hart C))) h
  names h low = (
    λ e. ltb-true h C.harts (sym (contains_where (is_hart C) h low) ∙ e),
    λ less. contains_where (is_hart C) h low ∙ lt-ltb h C.harts less,
  )

  other_number : (hart ticket s t place : ℕ) (old : Option ℕ) → (s ≡ hart → t ≢ ticket) → cond (are_same hart ticket s t) (Some place) old ≡ old
  other_number hart ticket s t place old apart = elim (cases_eq hart s) [
    | inl same ↦ ap (λ b. cond (b && eqb ticket t) (Some place) old) (eq-eqb hart s same) ∙ there ticket t (Some place) old (apart (sym same))
    | inr other ↦ ap (λ b. cond (b && eqb ticket t) (Some place) old) (ne_eqb hart s other)
  ]

  pub after_retire : (hart space ticket : ℕ) → AfterRetire C H hart space ticket
  after_retire hart space ticket = record {
    status = here space (Retires (length H)) (status_of H space);
    same_asid = refl;
    order = _;
    is = here (length H) _ (order_at C H (length H));
    to_drop = record { sender = refl; number = refl; asked = refl; cause = refl; named = names };
    opened = rw (eq-eqb hart hart refl, eq-eqb ticket ticket refl) refl;
    other_orders = λ k apart. there (length H) k _ (order_at C H k) apart;
    other_tickets = λ s t apart. other_number hart ticket s t (length H) (open_order H s t) apart;
    other_spaces = record { statuses = λ s apart. there space s (Retires (length H)) (status_of H s) apart; asids = λ s _. refl };
    tables = record { words = λ ppn i. refl; holders = λ ppn. refl };
    harts = record { spaces = λ h. refl; walks = λ h. refl; entries = λ h. refl; services = λ h. refl; fences = λ h. refl };
    mailboxes = record { posts = λ s h. refl; taken = λ s h. refl; closed = λ s h. refl; posted = λ k h. refl; acked = λ k h. refl; collected = λ k h. refl };
  }

  pub after_reclaim : (hart space : ℕ) → AfterReclaim C H hart space
  after_reclaim hart space = record {
    status = here space Free (status_of H space);
    same_asid = refl;
    words = words-emptied C.layout (holder_of H) space (words_of C H);
    holders = frames-left (holder_of H) space;
    other_spaces = record { statuses = λ s apart. there space s Free (status_of H s) apart; asids = λ s _. refl };
    orders = record { orders = λ k. refl; tickets = λ s t. refl };
    harts = record { spaces = λ h. refl; walks = λ h. refl; entries = λ h. refl; services = λ h. refl; fences = λ h. refl };
    mailboxes = record { posts = λ s h. refl; taken = λ s h. refl; closed = λ s h. refl; posted = λ k h. refl; acked = λ k h. refl; collected = λ k h. refl };
  }

  pub after_create : (hart space asid : ℕ) → AfterCreate C H hart space asid
  after_create hart space asid = record {
    status = here space Live (status_of H space);
    given = here space asid (asid_of C H space);
    other_spaces = record {
      statuses = λ s apart. there space s Live (status_of H s) apart;
      asids = λ s apart. there space s asid (asid_of C H s) apart;
    };
    tables = record { words = λ ppn i. refl; holders = λ ppn. refl };
    orders = record { orders = λ k. refl; tickets = λ s t. refl };
    harts = record { spaces = λ h. refl; walks = λ h. refl; entries = λ h. refl; services = λ h. refl; fences = λ h. refl };
    mailboxes = record { posts = λ s h. refl; taken = λ s h. refl; closed = λ s h. refl; posted = λ k h. refl; acked = λ k h. refl; collected = λ k h. refl };
  }
