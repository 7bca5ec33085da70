-- How commands end: what a status says, and endings that are written out.
use Rattle.std.proofs.Common.{◌≡◌, ℕ, zero, suc, ◌⊎◌, Bool, true, false, Option, Some, None, List, [], ◌∷◌, codes, length, get_or, take, refl, sym, ap, ◌∙◌, subst, inl, inr, arith}
use Rattle.std.proofs.lemmas.Bool.{true≢false}
use Rattle.files.specs.declared.fault.Fault.TheVariants as faults
use Rattle.files.specs.Faults.{Failure, not_toml, bad_layout, too_many}
use Rattle.scenario.specs.Command.{Ending, done, stale_used, explained, misused, unreadable, too_large, refused, output_failed, no_memory, no_thread, warned, wrong_line, no_verdict, wrong_entry, error_line, failure_status, file_fault, IsToldAs, Leaves, Reports, status_of, Suits}
use Rattle.scenario.specs.Commands.{Meaning}
use Rattle.scenario.specs.Output.{AppendsFront, EndsBy, WritesAll}
use Rattle.scenario.specs.WorkedFiles.{IsOkLine}

-- a status is not that of what is reported
no_status : (status : ℕ) (ending told : Ending) → (status ≡ status_of ending → ⊥) → (status ≡ 5 → ⊥) → (told ≡ ending) ⊎ (told ≡ no_memory) → status ≡ status_of told → ⊥
no_status status ending told other apart (inl is) same = other (same ∙ ap status_of is)
no_status status ending told other apart (inr is) same = apart (same ∙ ap status_of is)

not_0 : (failure : Failure) → 0 ≡ failure_status failure → ⊥
not_0 not_toml is = omega (arith, is)
not_0 _ is = omega (arith, is)

-- the line of an ending, where it is what is reported
line_is : (file : List ℕ) (old new : Option (List ℕ)) (told ending : Ending) → told ≡ ending → AppendsFront old new (error_line file told) → AppendsFront old new (error_line file ending)
line_is file old new told ending is tells = subst (λ e. AppendsFront old new (error_line file e)) is tells

module _ (meaning : Meaning) (file bytes : List ℕ) (out_old out_new err_old err_new : Option (List ℕ)) where
  pub done_by : (ending told : Ending) → Suits meaning bytes ending → Leaves (meaning.Lines bytes) ending out_old out_new → IsToldAs ending told → 0 ≡ status_of told
      → AppendsFront err_old err_new (error_line file told)
      → (file_fault meaning bytes ≡ None) × WritesAll (meaning.Lines bytes) out_old out_new × AppendsFront err_old err_new []
  done_by done told suits leaves is status tells = (suits.1, leaves, line_is file err_old err_new told done is tells)
  done_by stale_used told suits leaves is status tells = let other = status ∙ ap status_of is in absurd (omega (arith, other))
  done_by (explained failure) told suits leaves is status tells = absurd (no_status 0 (explained failure) told (not_0 failure) (λ e. omega (arith, e)) is status)
  done_by misused told suits leaves is status tells = absurd suits
  done_by unreadable told suits leaves is status tells = absurd (no_status 0 unreadable told (λ e. omega (arith, e)) (λ e. omega (arith, e)) is status)
  done_by too_large told suits leaves is status tells = absurd (no_status 0 too_large told (λ e. omega (arith, e)) (λ e. omega (arith, e)) is status)
  done_by (refused failure) told suits leaves is status tells = absurd (no_status 0 (refused failure) told (not_0 failure) (λ e. omega (arith, e)) is status)
  done_by output_failed told suits leaves is status tells = absurd (no_status 0 output_failed told (λ e. omega (arith, e)) (λ e. omega (arith, e)) is status)
  done_by no_memory told suits leaves is status tells = absurd (no_status 0 no_memory told (λ e. omega (arith, e)) (λ e. omega (arith, e)) is status)
  done_by no_thread told suits leaves is status tells = absurd (no_status 0 no_thread told (λ e. omega (arith, e)) (λ e. omega (arith, e)) is status)
  done_by warned told suits leaves is status tells = absurd suits
  done_by (wrong_line number fault some) told suits leaves is status tells = absurd suits
  done_by (no_verdict line) told suits leaves is status tells = absurd suits
  done_by (wrong_entry fault) told suits leaves is status tells = absurd suits

  of_failure : (failure : Failure) (ending told : Ending) → error_line file ending ≡ error_line file (refused failure) → file_fault meaning bytes ≡ Some failure → (told ≡ ending) ⊎ (told ≡ no_memory)
      → 3 ≡ status_of told → AppendsFront err_old err_new (error_line file told)
      → (f : Failure) × (file_fault meaning bytes ≡ Some f) × AppendsFront err_old err_new (error_line file (refused f))
  of_failure failure ending told same is (inl at) status tells = (failure, is, subst (AppendsFront err_old err_new) (ap (error_line file) at ∙ same) tells)
  of_failure failure ending told same is (inr at) status tells = let other = status ∙ ap status_of at in absurd (omega (arith, other))

  pub refused_by : (ending told : Ending) → Suits meaning bytes ending → IsToldAs ending told → 3 ≡ status_of told → AppendsFront err_old err_new (error_line file told)
      → (f : Failure) × (file_fault meaning bytes ≡ Some f) × AppendsFront err_old err_new (error_line file (refused f))
  refused_by done told suits is status tells = let other = status ∙ ap status_of is in absurd (omega (arith, other))
  refused_by stale_used told suits is status tells = let other = status ∙ ap status_of is in absurd (omega (arith, other))
  refused_by (explained failure) told suits is status tells = of_failure failure (explained failure) told refl suits.2 is status tells
  refused_by misused told suits is status tells = absurd suits
  refused_by unreadable told suits is status tells = absurd (no_status 3 unreadable told (λ e. omega (arith, e)) (λ e. omega (arith, e)) is status)
  refused_by too_large told suits is status tells = absurd (no_status 3 too_large told (λ e. omega (arith, e)) (λ e. omega (arith, e)) is status)
  refused_by (refused failure) told suits is status tells = of_failure failure (refused failure) told refl suits.2 is status tells
  refused_by output_failed told suits is status tells = absurd (no_status 3 output_failed told (λ e. omega (arith, e)) (λ e. omega (arith, e)) is status)
  refused_by no_memory told suits is status tells = absurd (no_status 3 no_memory told (λ e. omega (arith, e)) (λ e. omega (arith, e)) is status)
  refused_by no_thread told suits is status tells = absurd (no_status 3 no_thread told (λ e. omega (arith, e)) (λ e. omega (arith, e)) is status)
  refused_by warned told suits is status tells = absurd suits
  refused_by (wrong_line number fault some) told suits is status tells = absurd suits
  refused_by (no_verdict line) told suits is status tells = absurd suits
  refused_by (wrong_entry fault) told suits is status tells = absurd suits

-- ---- endings that are written out

abbrev is_layout : Option Failure → Bool
is_layout (Some bad_layout) = true
is_layout _ = false

-- a byte of a beginning is the text's, or is not there
taken : (k i : ℕ) (text : List ℕ) → (get_or (take k text) i 0 ≡ 0) ⊎ (get_or (take k text) i 0 ≡ get_or text i 0)
taken zero i text = inl refl
taken (suc k) i [] = inl refl
taken (suc k) zero (byte ∷ text) = inr refl
taken (suc k) (suc i) (byte ∷ text) = taken k i text

-- no beginning of a text has another byte
no_front : (i k : ℕ) (written text : List ℕ) → (get_or written i 0 ≡ 0 → ⊥) → (get_or written i 0 ≡ get_or text i 0 → ⊥) → written ≡ take k text → ⊥
no_front i k written text there other is =
    elim (taken k i text) [
      | inl none ↦ there (ap (λ bytes. get_or bytes i 0) is ∙ none)
      | inr same ↦ other (ap (λ bytes. get_or bytes i 0) is ∙ same)
    ]

pub layout_refused : EndsBy faults.Layout (Some bad_layout) IsOkLine (Some []) (Some [])
layout_refused = (refl, refl)

pub another_fault : ¬ EndsBy faults.Layout (Some too_many) IsOkLine (Some []) (Some [])
another_fault (is, keeps) = true≢false (ap is_layout (sym is))

pub no_fault : ¬ EndsBy faults.Layout None IsOkLine (Some []) (Some [])
no_fault (is, keeps) = true≢false (ap is_layout (sym is))

pub printed_before : ¬ EndsBy faults.Layout (Some bad_layout) IsOkLine (Some []) (Some (codes "1 ok\n"))
printed_before (is, keeps) = let lengths = ap length keeps in omega (arith, lengths)

pub cut_off : EndsBy faults.Output None IsOkLine (Some []) (Some (codes "1 o"))
cut_off = (refl, (codes "1 ok\n", refl, (3, refl)))

pub other_line : ¬ EndsBy faults.Output None IsOkLine (Some []) (Some (codes "1 leaf\n"))
other_line (none, (lines, is, (k, grows))) = no_front 2 k (codes "1 leaf\n") (codes "1 ok\n") (λ e. omega (arith, e)) (λ e. omega (arith, e)) (grows ∙ ap (take k) is)

pub faulty : ¬ EndsBy faults.Output (Some bad_layout) IsOkLine (Some []) (Some (codes "1 o"))
faulty (is, rest) = true≢false (ap is_layout is)

pub no_memory_left : EndsBy faults.NoMemory None IsOkLine (Some []) (Some [])
no_memory_left = refl

pub printed_without_memory : ¬ EndsBy faults.NoMemory None IsOkLine (Some []) (Some (codes "1 ok\n"))
printed_without_memory keeps = let lengths = ap length keeps in omega (arith, lengths)

-- reports
pub told_line : Reports (codes "f") (refused bad_layout) 3 (Some []) (Some (codes "svsim: layout refused\n"))
told_line = record { told = refused bad_layout; is_told = inl refl; status_is = refl; tells = (22, refl) }

pub told_front : Reports (codes "f") (refused bad_layout) 3 (Some []) (Some (codes "svsim: lay"))
told_front = record { told = refused bad_layout; is_told = inl refl; status_is = refl; tells = (10, refl) }

pub told_no_memory : Reports (codes "f") (refused bad_layout) 5 (Some []) (Some (codes "svsim: no memory\n"))
told_no_memory = record { told = no_memory; is_told = inr refl; status_is = refl; tells = (17, refl) }

pub told_done : Reports (codes "f") done 0 (Some []) (Some [])
told_done = record { told = done; is_told = refl; status_is = refl; tells = (0, refl) }

-- what is reported of a refused layout: itself, or that there was no memory
abbrev ToldLayout : ℕ → List ℕ → Type 0
ToldLayout status written =
    ((status ≡ 3) × AppendsFront (Some []) (Some written) (codes "svsim: layout refused\n")) ⊎ ((status ≡ 5) × AppendsFront (Some []) (Some written) (codes "svsim: no memory\n"))

told_layout : (status : ℕ) (written : List ℕ) → Reports (codes "f") (refused bad_layout) status (Some []) (Some written) → ToldLayout status written
told_layout status written report = by_told report.told report.is_told report.status_is report.tells where
  by_told : (told : Ending) → (told ≡ refused bad_layout) ⊎ (told ≡ no_memory) → status ≡ status_of told → AppendsFront (Some []) (Some written) (error_line (codes "f") told) → ToldLayout status written
  by_told told (inl is) same tells = inl (same ∙ ap status_of is, line_is (codes "f") (Some []) (Some written) told (refused bad_layout) is tells)
  by_told told (inr is) same tells = inr (same ∙ ap status_of is, line_is (codes "f") (Some []) (Some written) told no_memory is tells)

pub other_fault : ¬ Reports (codes "f") (refused bad_layout) 3 (Some []) (Some (codes "svsim: too many steps\n"))
other_fault report = not_told (told_layout 3 (codes "svsim: too many steps\n") report) where
  not_told : ToldLayout 3 (codes "svsim: too many steps\n") → ⊥
  not_told (inl (status, (k, grows))) = no_front 7 k (codes "svsim: too many steps\n") (codes "svsim: layout refused\n") (λ e. omega (arith, e)) (λ e. omega (arith, e)) grows
  not_told (inr (status, tells)) = omega (arith, status)

pub other_status : ¬ Reports (codes "f") (refused bad_layout) 2 (Some []) (Some (codes "svsim: layout refused\n"))
other_status report = not_told (told_layout 2 (codes "svsim: layout refused\n") report) where
  not_told : ToldLayout 2 (codes "svsim: layout refused\n") → ⊥
  not_told (inl (status, tells)) = omega (arith, status)
  not_told (inr (status, tells)) = omega (arith, status)

pub line_of_another_status : ¬ Reports (codes "f") (refused bad_layout) 5 (Some []) (Some (codes "svsim: layout refused\n"))
line_of_another_status report = not_told (told_layout 5 (codes "svsim: layout refused\n") report) where
  not_told : ToldLayout 5 (codes "svsim: layout refused\n") → ⊥
  not_told (inl (status, tells)) = omega (arith, status)
  not_told (inr (status, (k, grows))) = no_front 7 k (codes "svsim: layout refused\n") (codes "svsim: no memory\n") (λ e. omega (arith, e)) (λ e. omega (arith, e)) grows

pub done_with_a_line : ¬ Reports (codes "f") done 0 (Some []) (Some (codes "svsim: no memory\n"))
done_with_a_line report = not_told (line_is (codes "f") (Some []) (Some (codes "svsim: no memory\n")) report.told done report.is_told report.tells) where
  not_told : AppendsFront (Some []) (Some (codes "svsim: no memory\n")) [] → ⊥
  not_told (k, grows) = no_front 0 k (codes "svsim: no memory\n") [] (λ e. omega (arith, e)) (λ e. omega (arith, e)) grows

pub done_by_another_status : ¬ Reports (codes "f") done 5 (Some []) (Some [])
done_by_another_status report = let other = report.status_is ∙ ap status_of report.is_told in omega (arith, other)
