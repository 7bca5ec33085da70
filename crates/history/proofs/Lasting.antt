-- What lasts from a turn on: the space, the service, the fence, and each word.
use Rattle.std.proofs.Common.{◌≡◌, ℕ, Bool, true, false, cond, ◌&&◌, ◌⊎◌, inl, inr, [], ◌∷◌, length, Option, Some, None, slice_get, refl, ap, sym, ◌∙◌, eqb}
use Rattle.std.proofs.lemmas.Bool.{and_parts, eqb-true, eq-eqb, false≢true}
use Rattle.std.specs.Prelude.{◌↔◌}
use Rattle.spaces.specs.Opening.{opening}
use Rattle.spaces.specs.declared.places.Place.{Place}
use Rattle.spaces.specs.declared.places.Place.TheVariants.{Space, Kernel}
use Rattle.pte.specs.Address.{vpn_of}
use Rattle.spaces.specs.Edits.{path_of}
use Rattle.spaces.specs.Holders.{is_held_for, is_word_of, zero_word, emptied, given_back}
use Rattle.walk.specs.Leads.{Tables}
use Rattle.shoot.specs.Request.{Request}
use Rattle.history.specs.Setup.{Setup}
use Rattle.history.specs.declared.event.Event.{Event}
use Rattle.history.specs.declared.event.Event.TheVariants.{Map, Switch, Take, ServeFence, Ack, Reclaim}
use Rattle.history.specs.declared.reply.Reply.{Reply}
use Rattle.history.specs.declared.reply.Reply.TheVariants.{Table, Ok, Taken}
use Rattle.history.specs.Turns.{Turn, History, is_ok, is_taken, is_table_at, are_same}
use Rattle.history.specs.Mailboxes.{Sent, posts, taken}
use Rattle.history.specs.Service.{served, served_after, has_fenced, fenced_after}
use Rattle.history.specs.Harts.{space_of, space_after}
use Rattle.history.specs.Tables.{Written, words_of, words_after, with_written, written}
use Rattle.history.specs.Spaces.{holder_of, holder_after}
use Rattle.history.specs.Occurrences.{Since, SinceOr, IsSwitch, Switches, IsTake, TakesPost, TakesOrAcks, IsServeFence, Empties, Puts, Stores, IsNewTable, TakesOrGivesBack}
use Rattle.history.proofs.Splits.{not_sometime-empty, not_since-empty, sometime-here, sometime-later, sometime_cases, since-here, since-later, since_cases, read_since}
use Rattle.history.proofs.Occurred.{turn_of, ok_is}
use Rattle.history.proofs.OpenOrders.{same_parts, same_with}

-- what is so at the opening, and then as the last turn that matters made it
pub read_since_or : (P Q : Turn → History → Type 0) (R : History → Type 0) (opening : Type 0) → R [] ↔ opening
    → ((turn : Turn) (H : History) → R (turn ∷ H) ↔ (P turn H ⊎ ((Q turn H → ⊥) × R H))) → (H : History) → R H ↔ SinceOr P Q opening H
read_since_or P Q R opening start step [] =
    (λ r. inr (not_sometime-empty Q, start.0 r), λ s. elim s [ inl x ↦ absurd (not_since-empty P Q x) | inr n ↦ start.1 n.1 ])
read_since_or P Q R opening start step (turn ∷ H) =
    let before = read_since_or P Q R opening start step H in (
      λ r. elim ((step turn H).0 r) [
        | inl p ↦ inl (since-here P Q turn H p)
        | inr old ↦ elim (before.0 old.1) [
          | inl s ↦ inl (since-later P Q turn H old.0 s)
          | inr n ↦ inr (λ t. elim (sometime_cases Q turn H t) [ inl q ↦ old.0 q | inr o ↦ n.0 o ], n.1)
        ]
      ],
      λ s. (step turn H).1 (elim s [
        | inl x ↦ elim (since_cases P Q turn H x) [ inl p ↦ inl p | inr old ↦ inr (old.0, before.1 (inl old.1)) ]
        | inr n ↦ inr (λ q. n.0 (sometime-here Q turn H q), before.1 (inr (λ t. n.0 (sometime-later Q turn H t), n.1)))
      ]),
    )

-- a value that a test replaces
pub by_cond : {A : Type 0} (t : Bool) (v old x : A) (P Q : Type 0) → (t ≡ true → v ≡ x → P) → (P → (t ≡ true) × (v ≡ x)) → (t ≡ true → (v ≡ x) ⊎ Q) → (Q → t ≡ true)
    → (cond t v old ≡ x) ↔ (P ⊎ ((Q → ⊥) × (old ≡ x)))
by_cond true v old x P Q new back is must =
    (λ e. inl (new refl e), λ c. elim c [ inl p ↦ (back p).1 | inr o ↦ elim (is refl) [ inl e ↦ e | inr q ↦ absurd (o.0 q) ] ])
by_cond false v old x P Q new back is must =
    (λ e. inr (λ q. false≢true (must q), e), λ c. elim c [ inl p ↦ absurd (false≢true (back p).0) | inr o ↦ o.1 ])

pub by_old : {A : Type 0} (old x : A) (P Q : Type 0) → (P → ⊥) → (Q → ⊥) → (old ≡ x) ↔ (P ⊎ ((Q → ⊥) × (old ≡ x)))
by_old old x P Q none_p none_q = (λ e. inr (none_q, e), λ c. elim c [ inl p ↦ absurd (none_p p) | inr o ↦ o.1 ])

pub ok_and : (r : Reply) (a b : ℕ) → r ≡ Ok → a ≡ b → (is_ok r && eqb a b) ≡ true
ok_and r a b e f = rw (e, f, eq-eqb b b refl) refl

taken_is : (r : Reply) → is_taken r ≡ true → (request : Request) × (r ≡ Taken request)
taken_is (Taken request) e = (request, refl)
taken_is _ e = absurd (false≢true e)

pub and_false : (b : Bool) → (b && false) ≡ false
and_false true = refl
and_false false = refl

-- the space
abbrev is_switch : Event → Bool
is_switch (Switch hart space) = true
is_switch _ = false

space_step : (e : Event) (r : Reply) (H : History) (h s old : ℕ) → (space_after e r h old ≡ s) ↔ (IsSwitch h s (turn_of e r) H ⊎ ((Switches h (turn_of e r) H → ⊥) × (old ≡ s)))
space_step (Switch hart space) r H h s old =
    by_cond (is_ok r && eqb hart h) space old s (IsSwitch h s (turn_of (Switch hart space) r) H) (Switches h (turn_of (Switch hart space) r) H)
    (λ t e. let p = and_parts (is_ok r) (eqb hart h) t in
    record { event = ap (λ a. Switch a space) (eqb-true hart h p.1) ∙ ap (Switch h) e; accepted = ok_is r p.0 })
    (λ p. let same : Switch hart space ≡ Switch h s = p.event in
    let a : hart ≡ h = cc in
    let b : space ≡ s = cc in
    (ok_and r hart h p.accepted a, b))
    (λ t. let p = and_parts (is_ok r) (eqb hart h) t in
    inr (space, record { event = ap (λ a. Switch a space) (eqb-true hart h p.1); accepted = ok_is r p.0 }))
    (λ q. let same : Switch hart space ≡ Switch h q.0 = q.1.event in
    let a : hart ≡ h = cc in
    ok_and r hart h q.1.accepted a)
space_step e r H h s old =
    by_old old s (IsSwitch h s (turn_of e r) H) (Switches h (turn_of e r) H)
    (λ p. false≢true (ap is_switch p.event)) (λ q. false≢true (ap is_switch q.1.event))

pub space : (H : History) (h s : ℕ) → (space_of H h ≡ s) ↔ SinceOr (IsSwitch h s) (Switches h) (0 ≡ s) H
space H h s = read_since_or (IsSwitch h s) (Switches h) (λ H. space_of H h ≡ s) (0 ≡ s) (λ e. e, λ e. e) (λ turn H. space_step turn.event turn.reply H h s (space_of H h)) H

-- the service
abbrev is_take : Event → Bool
is_take (Take hart from) = true
is_take _ = false

abbrev is_ack : Event → Bool
is_ack (Ack hart) = true
is_ack _ = false

taken_and : (r : Reply) (request : Request) (a b : ℕ) → r ≡ Taken request → a ≡ b → (is_taken r && eqb a b) ≡ true
taken_and r request a b e f = rw (e, f, eq-eqb b b refl) refl

served_step : (C : Setup) (e : Event) (r : Reply) (H : History) (h : ℕ) (sent : Sent) (old : Option Sent)
    → (served_after C e r H h old ≡ Some sent) ↔ (TakesPost C h sent (turn_of e r) H ⊎ ((TakesOrAcks h (turn_of e r) H → ⊥) × (old ≡ Some sent)))
served_step C (Take hart from) r H h sent old =
    by_cond (is_taken r && eqb hart h) (slice_get (posts C H from hart) (length (taken H from hart))) old (Some sent)
    (TakesPost C h sent (turn_of (Take hart from) r) H) (TakesOrAcks h (turn_of (Take hart from) r) H)
    (λ t e. let p = and_parts (is_taken r) (eqb hart h) t in
    let same : hart ≡ h = eqb-true hart h p.1 in
    let answer = taken_is r p.0 in
    record {
      from = from;
      request = answer.0;
      event = ap (λ a. Take a from) same;
      answer = answer.1;
      is = ap (λ a. slice_get (posts C H from a) (length (taken H from a))) (sym same) ∙ e;
    })
    (λ p. let same : Take hart from ≡ Take h p.from = p.event in
    let a : hart ≡ h = cc in
    let b : from ≡ p.from = cc in (
      taken_and r p.request hart h p.answer a,
      ap (λ x. slice_get (posts C H x hart) (length (taken H x hart))) b ∙ ap (λ x. slice_get (posts C H p.from x) (length (taken H p.from x))) a ∙ p.is,
    ))
    (λ t. let p = and_parts (is_taken r) (eqb hart h) t in
    let answer = taken_is r p.0 in
    inr (inl (record { from = from; request = answer.0; event = ap (λ a. Take a from) (eqb-true hart h p.1); answer = answer.1 })))
    (λ q. elim q [
      | inl n ↦ let same : Take hart from ≡ Take h n.from = n.event in
          let a : hart ≡ h = cc in
          taken_and r n.request hart h n.answer a
      | inr n ↦ absurd (false≢true (ap is_ack n.event))
    ])
served_step C (Ack hart) r H h sent old =
    by_cond (is_ok r && eqb hart h) None old (Some sent) (TakesPost C h sent (turn_of (Ack hart) r) H) (TakesOrAcks h (turn_of (Ack hart) r) H)
    (λ t e. absurd cc)
    (λ p. absurd (false≢true (ap is_take p.event)))
    (λ t. let p = and_parts (is_ok r) (eqb hart h) t in inr (inr (record { event = ap Ack (eqb-true hart h p.1); accepted = ok_is r p.0 })))
    (λ q. elim q [
      | inl n ↦ absurd (false≢true (ap is_take n.event))
      | inr n ↦ let same : Ack hart ≡ Ack h = n.event in
          let a : hart ≡ h = cc in
          ok_and r hart h n.accepted a
    ])
served_step C e r H h sent old =
    by_old old (Some sent) (TakesPost C h sent (turn_of e r) H) (TakesOrAcks h (turn_of e r) H) (λ p. false≢true (ap is_take p.event))
    (λ q. elim q [ inl n ↦ false≢true (ap is_take n.event) | inr n ↦ false≢true (ap is_ack n.event) ])

pub serves : (C : Setup) (H : History) (h : ℕ) (sent : Sent) → (served C H h ≡ Some sent) ↔ Since (TakesPost C h sent) (TakesOrAcks h) H
serves C H h sent = read_since (TakesPost C h sent) (TakesOrAcks h) (λ H. served C H h ≡ Some sent) (λ e. cc)
    (λ turn H. served_step C turn.event turn.reply H h sent (served C H h)) H

-- the fence
abbrev is_serve_fence : Event → Bool
is_serve_fence (ServeFence hart) = true
is_serve_fence _ = false

fenced_step : (e : Event) (r : Reply) (H : History) (h : ℕ) (old : Bool) → (fenced_after e r h old ≡ true) ↔ (IsServeFence h (turn_of e r) H ⊎ ((IsTake h (turn_of e r) H → ⊥) × (old ≡ true)))
fenced_step (Take hart from) r H h old =
    by_cond (is_taken r && eqb hart h) false old true (IsServeFence h (turn_of (Take hart from) r) H) (IsTake h (turn_of (Take hart from) r) H)
    (λ t e. absurd (false≢true e))
    (λ p. absurd (false≢true (ap is_serve_fence p.event)))
    (λ t. let p = and_parts (is_taken r) (eqb hart h) t in
    let answer = taken_is r p.0 in
    inr (record { from = from; request = answer.0; event = ap (λ a. Take a from) (eqb-true hart h p.1); answer = answer.1 }))
    (λ n. let same : Take hart from ≡ Take h n.from = n.event in
    let a : hart ≡ h = cc in
    taken_and r n.request hart h n.answer a)
fenced_step (ServeFence hart) r H h old =
    by_cond (is_ok r && eqb hart h) true old true (IsServeFence h (turn_of (ServeFence hart) r) H) (IsTake h (turn_of (ServeFence hart) r) H)
    (λ t e. let p = and_parts (is_ok r) (eqb hart h) t in record { event = ap ServeFence (eqb-true hart h p.1); accepted = ok_is r p.0 })
    (λ p. let same : ServeFence hart ≡ ServeFence h = p.event in
    let a : hart ≡ h = cc in
    (ok_and r hart h p.accepted a, refl))
    (λ t. inl refl)
    (λ n. absurd (false≢true (ap is_take n.event)))
fenced_step e r H h old =
    by_old old true (IsServeFence h (turn_of e r) H) (IsTake h (turn_of e r) H) (λ p. false≢true (ap is_serve_fence p.event)) (λ n. false≢true (ap is_take n.event))

pub fences : (H : History) (h : ℕ) → (has_fenced H h ≡ true) ↔ Since (IsServeFence h) (IsTake h) H
fences H h = read_since (IsServeFence h) (IsTake h) (λ H. has_fenced H h ≡ true) false≢true (λ turn H. fenced_step turn.event turn.reply H h (has_fenced H h)) H

-- the words
abbrev is_map : Event → Bool
is_map (Map hart place page ppn flags) = true
is_map _ = false

abbrev is_reclaim : Event → Bool
is_reclaim (Reclaim hart space) = true
is_reclaim _ = false

abbrev At : Setup → Tables → Option Written → ℕ → ℕ → Written → Type 0
At C words o ppn index new =
    (o ≡ Some new) × ((path_of C.layout words new.place new.page).table ≡ ppn) × (vpn_of new.page.base (path_of C.layout words new.place new.page).level ≡ index)

written_or : (C : Setup) (words : Tables) (o : Option Written) (ppn index word : ℕ) (P Q : Type 0)
    → ((new : Written) → At C words o ppn index new → new.word ≡ word → P) → (P → (new : Written) × At C words o ppn index new × (new.word ≡ word))
    → ((new : Written) → At C words o ppn index new → Q) → (Q → (new : Written) × At C words o ppn index new)
    → (with_written C words o ppn index ≡ Some word) ↔ (P ⊎ ((Q → ⊥) × (words ppn index ≡ Some word)))
written_or C words None ppn index word P Q new back is must =
    by_old (words ppn index) (Some word) P Q (λ p. let b = (back p).1.0 in cc (b)) (λ q. let b = (must q).1.0 in cc (b))
written_or C words (Some w) ppn index word P Q new back is must =
    by_cond (are_same ppn index (path_of C.layout words w.place w.page).table (vpn_of w.page.base (path_of C.layout words w.place w.page).level)) (Some w.word) (words ppn index) (Some word) P Q
    (λ t e. let p = same_parts ppn index (path_of C.layout words w.place w.page).table (vpn_of w.page.base (path_of C.layout words w.place w.page).level) t in let q : w.word ≡ word = cc in new w (refl, sym p.0, sym p.1) q)
    (λ p. let b = back p in (at b.0 b.1, let same : b.0 ≡ w = is_w b.0 b.1.0 in ap (λ (x : Written). Some x.word) (sym same) ∙ ap Some b.2))
    (λ t. let p = same_parts ppn index (path_of C.layout words w.place w.page).table (vpn_of w.page.base (path_of C.layout words w.place w.page).level) t in inr (is w (refl, sym p.0, sym p.1)))
    (λ q. let b = must q in at b.0 b.1)
  where
    is_w : (x : Written) → Some w ≡ Some x → x ≡ w
    is_w x e = cc

    at : (x : Written) → At C words (Some w) ppn index x → are_same ppn index (path_of C.layout words w.place w.page).table (vpn_of w.page.base (path_of C.layout words w.place w.page).level) ≡ true
    at x a =
        let same = is_w x a.0 in
        same_with ppn index (path_of C.layout words w.place w.page).table (vpn_of w.page.base (path_of C.layout words w.place w.page).level) (sym a.1 ∙ ap (λ (y : Written). (path_of C.layout words y.place y.page).table) same)
        (sym a.2 ∙ ap (λ (y : Written). vpn_of y.page.base (path_of C.layout words y.place y.page).level) same)

module _ (C : Setup) (ppn index word : ℕ) where
  abbrev Stays : Event → Reply → History → Type 0 → Type 0
  Stays e r H now = now ↔ (Puts C ppn index word (turn_of e r) H ⊎ ((Stores C ppn index (turn_of e r) H → ⊥) × (words_of C H ppn index ≡ Some word)))

  edit_step : (e : Event) (r : Reply) (H : History) → is_reclaim e ≡ false → Stays e r H (with_written C (words_of C H) (written C e r (words_of C H)) ppn index ≡ Some word)
  edit_step e r H other =
      written_or C (words_of C H) (written C e r (words_of C H)) ppn index word (Puts C ppn index word (turn_of e r) H) (Stores C ppn index (turn_of e r) H)
      (λ new a b. inl (record { new = new; is = a.0; same_table = a.1; same_index = a.2; same_word = b }))
      (λ q. elim q [
        | inl p ↦ (p.new, (p.is, p.same_table, p.same_index), p.same_word)
        | inr p ↦ absurd (false≢true (sym other ∙ ap is_reclaim p.0.event))
      ])
      (λ new a. inl (new.word, record { new = new; is = a.0; same_table = a.1; same_index = a.2; same_word = refl }))
      (λ q. elim q [
        | inl x ↦ (x.1.new, (x.1.is, x.1.same_table, x.1.same_index))
        | inr p ↦ absurd (false≢true (sym other ∙ ap is_reclaim p.event))
      ])

  empty_step : (hart s : ℕ) (r : Reply) (H : History) (t : Bool) → is_ok r ≡ t
      → Stays (Reclaim hart s) r H (cond t (emptied C.layout (holder_of H) s (words_of C H)) (words_of C H) ppn index ≡ Some word)
  empty_step hart s r H true o =
      by_cond (is_word_of C.layout (holder_of H) s ppn index) (zero_word (words_of C H ppn index)) (words_of C H ppn index) (Some word)
      (Puts C ppn index word (turn_of (Reclaim hart s) r) H) (Stores C ppn index (turn_of (Reclaim hart s) r) H)
      (λ t e. inr (record { hart = hart; space = s; event = refl; accepted = ok_is r o; own = t }, e))
      (λ q. elim q [
        | inl p ↦ absurd (let bad = p.is in cc (bad))
        | inr p ↦ (own_of p.0, p.1)
      ])
      (λ t. inr (inr (record { hart = hart; space = s; event = refl; accepted = ok_is r o; own = t })))
      (λ q. elim q [ inl x ↦ absurd (let bad = x.1.is in cc (bad)) | inr p ↦ own_of p ])
    where
      own_of : Empties C ppn index (turn_of (Reclaim hart s) r) H → is_word_of C.layout (holder_of H) s ppn index ≡ true
      own_of p = let same : Reclaim hart s ≡ Reclaim p.hart p.space = p.event in
          let at : s ≡ p.space = cc in
          ap (λ x. is_word_of C.layout (holder_of H) x ppn index) at ∙ p.own
  empty_step hart s r H false o =
      by_old (words_of C H ppn index) (Some word) (Puts C ppn index word (turn_of (Reclaim hart s) r) H) (Stores C ppn index (turn_of (Reclaim hart s) r) H)
      (λ q. elim q [ inl p ↦ (let bad = p.is in cc (bad)) | inr p ↦ false≢true (sym o ∙ ap is_ok p.0.accepted) ])
      (λ q. elim q [ inl x ↦ (let bad = x.1.is in cc (bad)) | inr p ↦ false≢true (sym o ∙ ap is_ok p.accepted) ])

  word_step : (e : Event) (r : Reply) (H : History) → Stays e r H (words_after C e r (words_of C H) (holder_of H) ppn index ≡ Some word)
  word_step (Reclaim hart s) r H = empty_step hart s r H (is_ok r) refl
  word_step e r H = edit_step e r H refl

  pub word_of : (H : History) → (words_of C H ppn index ≡ Some word) ↔ SinceOr (Puts C ppn index word) (Stores C ppn index) (opening C.layout ppn index ≡ Some word) H
  word_of H = read_since_or (Puts C ppn index word) (Stores C ppn index) (λ H. words_of C H ppn index ≡ Some word) (opening C.layout ppn index ≡ Some word)
      (λ e. e, λ e. e) (λ turn H. word_step turn.event turn.reply H) H

-- the spare frames in use
abbrev HeldOr : ℕ → Place → Event → Reply → History → Type 0 → Type 0
HeldOr ppn place e r H now = now ↔ (IsNewTable ppn place (turn_of e r) H ⊎ ((TakesOrGivesBack ppn (turn_of e r) H → ⊥) × (holder_of H ppn ≡ Some place)))

table_is : (r : Reply) (ppn : ℕ) → is_table_at r ppn ≡ true → r ≡ Table ppn
table_is (Table q) ppn e = ap Table (eqb-true q ppn e)
table_is _ ppn e = absurd (false≢true e)

table_at : (r : Reply) (ppn : ℕ) → r ≡ Table ppn → is_table_at r ppn ≡ true
table_at r ppn e = rw e (eq-eqb ppn ppn refl)

held_is : (o : Option Place) (s : ℕ) → is_held_for o (Space s) ≡ true → o ≡ Some (Space s)
held_is None s e = absurd (false≢true e)
held_is (Some (Space t)) s e = ap (λ x. Some (Space x)) (eqb-true t s e)
held_is (Some Kernel) s e = absurd (false≢true e)

held_for : (o : Option Place) (s : ℕ) → o ≡ Some (Space s) → is_held_for o (Space s) ≡ true
held_for o s e = rw e (eq-eqb s s refl)

back_step : (hart s : ℕ) (r : Reply) (H : History) (ppn : ℕ) (place : Place) (t : Bool) → is_ok r ≡ t
    → HeldOr ppn place (Reclaim hart s) r H (cond t (given_back (holder_of H ppn) s) (holder_of H ppn) ≡ Some place)
back_step hart s r H ppn place true o =
    by_cond (is_held_for (holder_of H ppn) (Space s)) None (holder_of H ppn) (Some place)
    (IsNewTable ppn place (turn_of (Reclaim hart s) r) H) (TakesOrGivesBack ppn (turn_of (Reclaim hart s) r) H)
    (λ t e. cc)
    (λ p. absurd (false≢true (ap is_map p.event)))
    (λ t. inr (inr (record { hart = hart; space = s; event = refl; accepted = ok_is r o; was = held_is (holder_of H ppn) s t })))
    (λ q. elim q [
      | inl n ↦ absurd (false≢true (ap is_map n.1.event))
      | inr g ↦ let same : Reclaim hart s ≡ Reclaim g.hart g.space = g.event in
          let at : g.space ≡ s = cc in
          held_for (holder_of H ppn) s (g.was ∙ ap (λ x. Some (Space x)) at)
    ])
back_step hart s r H ppn place false o =
    by_old (holder_of H ppn) (Some place) (IsNewTable ppn place (turn_of (Reclaim hart s) r) H) (TakesOrGivesBack ppn (turn_of (Reclaim hart s) r) H)
    (λ p. false≢true (ap is_map p.event))
    (λ q. elim q [ inl n ↦ false≢true (ap is_map n.1.event) | inr g ↦ false≢true (sym o ∙ ap is_ok g.accepted) ])

held_step : (e : Event) (r : Reply) (H : History) (ppn : ℕ) (place : Place) → HeldOr ppn place e r H (holder_after e r ppn (holder_of H ppn) ≡ Some place)
held_step (Map hart other page to flags) r H ppn place =
    by_cond (is_table_at r ppn) (Some other) (holder_of H ppn) (Some place)
    (IsNewTable ppn place (turn_of (Map hart other page to flags) r) H) (TakesOrGivesBack ppn (turn_of (Map hart other page to flags) r) H)
    (λ t e. let same : other ≡ place = cc in
    record { hart = hart; page = page; to = to; flags = flags; event = ap (λ x. Map hart x page to flags) same; answer = table_is r ppn t })
    (λ p. let same : Map hart other page to flags ≡ Map p.hart place p.page p.to p.flags = p.event in
    let at : other ≡ place = cc in
    (table_at r ppn p.answer, ap Some at))
    (λ t. inr (inl (other, record { hart = hart; page = page; to = to; flags = flags; event = refl; answer = table_is r ppn t })))
    (λ q. elim q [ inl n ↦ table_at r ppn n.1.answer | inr g ↦ absurd (false≢true (ap is_reclaim g.event)) ])
held_step (Reclaim hart s) r H ppn place = back_step hart s r H ppn place (is_ok r) refl
held_step e r H ppn place =
    by_old (holder_of H ppn) (Some place) (IsNewTable ppn place (turn_of e r) H) (TakesOrGivesBack ppn (turn_of e r) H)
    (λ p. false≢true (ap is_map p.event))
    (λ q. elim q [ inl n ↦ false≢true (ap is_map n.1.event) | inr g ↦ false≢true (ap is_reclaim g.event) ])

pub held : (H : History) (ppn : ℕ) (place : Place) → (holder_of H ppn ≡ Some place) ↔ Since (IsNewTable ppn place) (TakesOrGivesBack ppn) H
held H ppn place = read_since (IsNewTable ppn place) (TakesOrGivesBack ppn) (λ H. holder_of H ppn ≡ Some place) (λ e. cc)
    (λ turn H. held_step turn.event turn.reply H ppn place) H
