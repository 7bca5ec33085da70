-- The pairs before one are closed, by sender and then by receiver: what their reports are, and
-- which ends stay.
use Rattle.std.proofs.Common.{◌≡◌, ◌∙◌, sym, ap, ap₂, refl, ℕ, suc, ◌+◌, ◌*◌, ◌<◌, ◌≤◌, ◌==◌, ◌++◌, List, [], ◌∷◌, length, ◌⊎◌, inl, inr, map, Option, Bool, true, false, All, if◌then◌else◌, arith, append_assoc}
use Rattle.std.proofs.lemmas.Bool.{eq-eqb, ne_eqb}
use Rattle.std.proofs.lemmas.List.{map-append, append-nil}
use Rattle.std.proofs.lemmas.List.Elements.{All-append}
use Rattle.std.proofs.Math.Nat.{suc-mul}
use Rattle.std.specs.Global.{Vec}
use Rattle.board.specs.Ends.{OutboxState, InboxState, count_of}
use Rattle.board.specs.Ports.{element}
use Rattle.board.specs.Reports.{accepted_by, pairs_of, pairs_to, taken_by}
use Rattle.board.specs.Rows.{AreEnds, IsPairOf, items_at}
use Rattle.board.specs.declared.report.PairReport.{PairReport}
use Rattle.board.proofs.Deals.{all_and_first}
use Rattle.board.proofs.RowsGrow.{length-one_more}

-- a pair is not before the one of this sender and receiver
abbrev pub IsAhead : ℕ → ℕ → ℕ → ℕ → Type 0
IsAhead sender receiver s h = (sender < s) ⊎ ((s ≡ sender) × (receiver ≤ h))

abbrev pub pair_of : PairReport → ℕ × ℕ
pair_of pair = (pair.sender, pair.receiver)

pub record IsClosedTo (harts : ℕ) (outs₀ : List (Vec (Option OutboxState))) (ins₀ : List (Vec (Option InboxState)))
    (outs : List (Vec (Option OutboxState))) (ins : List (Vec (Option InboxState))) (pairs : List PairReport) (sender receiver : ℕ) : Type 0 where
  pub out_rows : length outs ≡ harts
  pub in_rows : length ins ≡ harts
  pub outs_long : (hart : ℕ) → length (items_at outs hart) ≡ length (items_at outs₀ hart)
  pub ins_long : (hart : ℕ) → length (items_at ins hart) ≡ length (items_at ins₀ hart)
  pub outs_kept : (s h : ℕ) → IsAhead sender receiver s h → element (items_at outs s) h ≡ element (items_at outs₀ s) h
  pub ins_kept : (s h : ℕ) → IsAhead sender receiver s h → element (items_at ins h) s ≡ element (items_at ins₀ h) s
  pub pairs_are : map pair_of pairs ≡ pairs_of harts sender ++ pairs_to sender receiver
  pub each : All (IsPairOf outs₀ ins₀) pairs
  pub count : length pairs ≤ sender * harts + receiver

still_ahead : (sender receiver s h : ℕ) → IsAhead sender (receiver + 1) s h → IsAhead sender receiver s h
still_ahead sender receiver s h (inl above) = inl above
still_ahead sender receiver s h (inr up) = inr (up.0, (let least = up.1 in omega (arith, least)))

next_ahead : (harts sender s h : ℕ) → IsAhead (sender + 1) 0 s h → IsAhead sender harts s h
next_ahead harts sender s h (inl up) = inl (omega (arith, up))
next_ahead harts sender s h (inr up) = inl (let same = up.0 in omega (arith, same))

not_here : (sender receiver s h : ℕ) → IsAhead sender (receiver + 1) s h → s ≡ sender → h ≡ receiver → ⊥
not_here sender receiver s h (inl above) a b = omega (arith, above, a)
not_here sender receiver s h (inr up) a b = let least = up.1 in omega (arith, least, b)

module _ (harts : ℕ) (outs₀ : List (Vec (Option OutboxState))) (ins₀ : List (Vec (Option InboxState))) where
  pub closed_none : AreEnds harts outs₀ ins₀ → IsClosedTo harts outs₀ ins₀ outs₀ ins₀ [] 0 0
  closed_none ends = record {
    out_rows = ends.out_rows;
    in_rows = ends.in_rows;
    outs_long = λ hart. refl;
    ins_long = λ hart. refl;
    outs_kept = λ s h ahead. refl;
    ins_kept = λ s h ahead. refl;
    pairs_are = refl;
    each = λ k d below. absurd (omega arith);
    count = omega arith;
  }

  module _ (outs : List (Vec (Option OutboxState))) (ins : List (Vec (Option InboxState))) (pairs : List PairReport) (sender : ℕ) where
    -- a hart has no pair with itself
    pub closed_self : (receiver : ℕ) → receiver ≡ sender → IsClosedTo harts outs₀ ins₀ outs ins pairs sender receiver
        → IsClosedTo harts outs₀ ins₀ outs ins pairs sender (receiver + 1)
    closed_self receiver same i =
        let one : receiver + 1 ≡ suc receiver = omega arith in
        let test : (receiver == sender) ≡ true = eq-eqb receiver sender same in
        let none : pairs_to sender (receiver + 1) ≡ pairs_to sender receiver =
        ap (pairs_to sender) one ∙ (ap (λ (b : Bool). pairs_to sender receiver ++ (if b then [] else (sender, receiver) ∷ [])) test ∙ append-nil (pairs_to sender receiver)) in
        record {
          out_rows = i.out_rows;
          in_rows = i.in_rows;
          outs_long = i.outs_long;
          ins_long = i.ins_long;
          outs_kept = λ s h ahead. i.outs_kept s h (still_ahead sender receiver s h ahead);
          ins_kept = λ s h ahead. i.ins_kept s h (still_ahead sender receiver s h ahead);
          pairs_are = i.pairs_are ∙ ap (λ (rest : List (ℕ × ℕ)). pairs_of harts sender ++ rest) (sym none);
          each = i.each;
          count = let c = i.count in omega (arith, c);
        }

    -- all pairs of a sender are closed
    pub closed_row : IsClosedTo harts outs₀ ins₀ outs ins pairs sender harts → IsClosedTo harts outs₀ ins₀ outs ins pairs (sender + 1) 0
    closed_row i =
        let one : sender + 1 ≡ suc sender = omega arith in
        let wider : (sender + 1) * harts ≡ sender * harts + harts = ap (λ n. n * harts) one ∙ suc-mul sender harts in
        let c = i.count in
        record {
          out_rows = i.out_rows;
          in_rows = i.in_rows;
          outs_long = i.outs_long;
          ins_long = i.ins_long;
          outs_kept = λ s h ahead. i.outs_kept s h (next_ahead harts sender s h ahead);
          ins_kept = λ s h ahead. i.ins_kept s h (next_ahead harts sender s h ahead);
          pairs_are = i.pairs_are ∙ sym (append-nil (pairs_of harts (sender + 1)) ∙ ap (pairs_of harts) one);
          each = i.each;
          count = omega (arith, c, wider);
        }

    -- one pair more is closed
    module _ (outs' : List (Vec (Option OutboxState))) (ins' : List (Vec (Option InboxState))) (pair : PairReport) where
      pub closed_pair : (receiver : ℕ) → (receiver ≡ sender → ⊥) → IsClosedTo harts outs₀ ins₀ outs ins pairs sender receiver
          → (pair.sender ≡ sender) × (pair.receiver ≡ receiver)
          → IsPairOf outs ins pair
          → ((r c : ℕ) → (r ≡ sender → c ≡ receiver → ⊥) → element (items_at outs' r) c ≡ element (items_at outs r) c)
          → ((r c : ℕ) → (r ≡ receiver → c ≡ sender → ⊥) → element (items_at ins' r) c ≡ element (items_at ins r) c)
          → (length outs' ≡ length outs) × (length ins' ≡ length ins)
          → ((r : ℕ) → length (items_at outs' r) ≡ length (items_at outs r))
          → ((r : ℕ) → length (items_at ins' r) ≡ length (items_at ins r))
          → IsClosedTo harts outs₀ ins₀ outs' ins' (pairs ++ pair ∷ []) sender (receiver + 1)
      closed_pair receiver apart i is told outs_kept ins_kept counts out_counts in_counts =
          let one : receiver + 1 ≡ suc receiver = omega arith in
          let test : (receiver == sender) ≡ false = ne_eqb receiver sender apart in
          let more : pairs_to sender (receiver + 1) ≡ pairs_to sender receiver ++ (sender, receiver) ∷ [] =
          ap (pairs_to sender) one ∙ ap (λ (b : Bool). pairs_to sender receiver ++ (if b then [] else (sender, receiver) ∷ [])) test in
          let here : IsAhead sender receiver pair.sender pair.receiver = inr (is.0, let e = is.1 in omega (arith, e)) in
          let out_same = i.outs_kept pair.sender pair.receiver here in
          let in_same = i.ins_kept pair.sender pair.receiver here in
          let c = i.count in
          let long = length-one_more pairs pair in
          record {
            out_rows = counts.0 ∙ i.out_rows;
            in_rows = counts.1 ∙ i.in_rows;
            outs_long = λ hart. out_counts hart ∙ i.outs_long hart;
            ins_long = λ hart. in_counts hart ∙ i.ins_long hart;
            outs_kept = λ s h ahead. outs_kept s h (λ a b. not_here sender receiver s h ahead a b) ∙ i.outs_kept s h (still_ahead sender receiver s h ahead);
            ins_kept = λ s h ahead. ins_kept h s (λ b a. not_here sender receiver s h ahead a b) ∙ i.ins_kept s h (still_ahead sender receiver s h ahead);
            pairs_are = map-append pair_of pairs (pair ∷ [])
                ∙ (ap₂ (λ (front : List (ℕ × ℕ)) (last : ℕ × ℕ). front ++ last ∷ []) i.pairs_are (ap₂ (λ (a b : ℕ). (a, b)) is.0 is.1)
                ∙ (append_assoc (pairs_of harts sender) (pairs_to sender receiver) ((sender, receiver) ∷ [])
                ∙ ap (λ (rest : List (ℕ × ℕ)). pairs_of harts sender ++ rest) (sym more)));
            each = All-append (IsPairOf outs₀ ins₀) pairs (pair ∷ []) i.each (all_and_first (IsPairOf outs₀ ins₀) pair [] (record {
              order = ap accepted_by (sym out_same) ∙ (told.order ∙ ap (λ (e : Option InboxState). taken_by e ++ pair.waiting.items) in_same);
              accepted_count = told.accepted_count ∙ ap (λ (e : Option OutboxState). count_of (accepted_by e)) out_same;
              taken_count = told.taken_count ∙ ap (λ (e : Option InboxState). count_of (taken_by e)) in_same;
            }) (λ k d below. absurd (omega arith)));
            count = omega (arith, c, long);
          }
