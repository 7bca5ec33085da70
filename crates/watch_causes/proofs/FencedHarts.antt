-- The harts that a flush asked for a fence, and the reason of its verdict.
use Rattle.std.proofs.Common.{◌≡◌, ◌∙◌, ◌<◌, ◌≤◌, ◌^◌, ℕ, Bool, true, false, List, [], ◌∷◌, Option, Some, None, ap, arith, inl, inr, max, refl, sym}
use Rattle.std.specs.Prelude.{◌==◌, ◌&&◌, ◌||◌, cond, find, nat_lt}
use Rattle.std.specs.Int.{bit_at}
use Rattle.std.specs.List.{before_first, list_any}
use Rattle.std.proofs.lemmas.Bool.{cases_Bool, eqb-true, ltb-false}
use Rattle.std.proofs.lemmas.Bool.Decides.{nat_tests}
use Rattle.std.proofs.lemmas.Nat.Bits.{bit_at-lt, bit_at-pow_other, bit_at-pow_same, bit_at-zero, bit_at_or}
use Rattle.pte.specs.declared.scheme.Scheme.{Scheme}
use Rattle.tlb.specs.declared.store.Entry.{Entry}
use Rattle.watch.specs.declared.trace.Record.{Record}
use Rattle.watch.specs.declared.trace.Record.TheVariants.{Fence, RemoteBegin, ClaimEnd}
use Rattle.watch.specs.Trace.{Trace, begins_claim, hart_of}
use Rattle.watch_engine.specs.declared.warning.Warning.{Warning}
use Rattle.watch_engine.specs.Warnings.{shown_of}
use Rattle.watch_causes.specs.Fenced.{bit_of, fenced_of, fenced_since, harts_among, harts_of, is_of_hart}
use Rattle.watch_causes.specs.Logs.{by_tests}
use Rattle.watch_causes.specs.Reasons.{asked_by, begins_flush_of, covers, is_for, is_of_space, made_after, reason_among, reason_of, reason_since}

-- ---- the bit of a hart

larger-one : (m n : ℕ) → m < 2 → n < 2 → (max m n == 1) ≡ ((m == 1) || (n == 1))
larger-one m n low less = grind (arith, nat_tests)

apart : (of hart : ℕ) → (of == hart) ≡ false → (hart ≡ of → ⊥)
apart of hart other = λ same. grind (arith, nat_tests)

module _ (hart : ℕ) (small : hart < 64) where
  abbrev has : ℕ → Bool
  has mask = bit_at mask hart == 1

  own-bit : (of : ℕ) → has (bit_of of) ≡ (of == hart)
  own-bit of =
      elim (cases_Bool (nat_lt of 64)) [
        | inl within ↦
            ap (λ b. has (cond b (2 ^ of) 0)) within
            ∙ elim (cases_Bool (of == hart)) [
              | inl same ↦
                  ap (λ k. bit_at (2 ^ of) k == 1) (sym (eqb-true of hart same)) ∙ (ap (λ n. n == 1) (bit_at-pow_same of) ∙ sym same)
              | inr other ↦ ap (λ n. n == 1) (bit_at-pow_other of hart (apart of hart other)) ∙ sym other
            ]
        | inr beyond ↦
            let high : 64 ≤ of = ltb-false of 64 beyond in
            let other : (of == hart) ≡ false = grind (arith, nat_tests) in
            ap (λ b. has (cond b (2 ^ of) 0)) beyond ∙ (ap (λ n. n == 1) (bit_at-zero hart) ∙ sym other)
      ]

  own-fence : (f : Record) → has (harts_of f) ≡ is_for hart f
  own-fence (Fence of rs1 rs2) = own-bit of
  own-fence (RemoteBegin of token fence) = refl
  own-fence _ = ap (λ n. n == 1) (bit_at-zero hart)

  among : (fences : List Record) → has (harts_among fences) ≡ list_any (is_for hart) fences
  among [] = ap (λ n. n == 1) (bit_at-zero hart)
  among (f ∷ fences) =
      ap (λ n. n == 1) (bit_at_or (harts_of f) (harts_among fences) hart)
      ∙ (larger-one (bit_at (harts_of f) hart) (bit_at (harts_among fences) hart) (bit_at-lt (harts_of f) hart) (bit_at-lt (harts_among fences) hart)
      ∙ (ap (λ b. b || has (harts_among fences)) (own-fence f) ∙ ap (λ b. is_for hart f || b) (among fences)))

  -- ---- the reason

  none-at-all : (fences : List Record) → list_any (λ f. true) fences ≡ false → list_any (is_for hart) fences ≡ false
  none-at-all [] none = refl
  none-at-all (f ∷ fences) none = cc

  by-any : (some here space page : Bool) → (some ≡ false → here ≡ false) → is_of_hart (by_tests some here space page) ≡ here
  by-any false here space page none = sym (none refl)
  by-any true false space page none = refl
  by-any true true false page none = refl
  by-any true true true false none = refl
  by-any true true true true none = refl

  by-reason : (scheme : Scheme) (e : Entry) (fences : List Record) → list_any (is_for hart) fences ≡ is_of_hart (reason_among scheme hart e fences)
  by-reason scheme e fences =
      sym (by-any (list_any (λ f. true) fences) (list_any (is_for hart) fences) (list_any (λ f. is_for hart f && is_of_space scheme e f) fences)
      (list_any (λ f. is_for hart f && covers scheme e f) fences) (none-at-all fences))

  since : (scheme : Scheme) (e : Entry) (flush : Option Record) (made : List Record) → has (fenced_since hart flush made) ≡ is_of_hart (reason_since scheme hart e flush made)
  since scheme e None made = ap (λ n. n == 1) (bit_at-zero hart)
  since scheme e (Some flush) made =
      let fences : List Record = asked_by (hart_of flush) hart made in
      among fences ∙ by-reason scheme e fences

pub fenced_by_reason : (scheme : Scheme) (newest : Record) (trace : Trace) (w : Warning) → w.hart < 64
    → (bit_at (fenced_of newest trace w) w.hart == 1) ≡ is_of_hart (reason_of scheme newest trace w)
fenced_by_reason scheme (ClaimEnd of token) trace w small =
    since w.hart small scheme w.entry (find (begins_claim token) trace) (before_first (begins_claim token) trace)
fenced_by_reason scheme _ trace w small =
    let made : List Record = made_after w.stale_since trace in
    since w.hart small scheme w.entry (find (begins_flush_of (shown_of w)) made) (before_first (begins_flush_of (shown_of w)) made)
