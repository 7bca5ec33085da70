-- How the program ends on words that ask for no file, or where memory ran out over them.
use Rattle.std.proofs.Common.{◌≡◌, ◌∙◌, ℕ, List, [], Option, Some, None, IfErr, IfOk, inl, inr, refl, sym, ap, subst, option_map}
use Rattle.std.specs.Option.{ok_or}
use Rattle.std.specs.Io.KnownBytes.{Appends, Keeps}
use Rattle.std.proofs.KnownBytes.{Appends-nil}
use Rattle.files.specs.declared.fault.Fault.{Fault}
use Rattle.files.specs.declared.fault.Fault.TheVariants.{Output}
use Rattle.scenario.specs.declared.shown.Shown.{Shown}
use Rattle.scenario.specs.declared.command_line.Ask.{Ask}
use Rattle.scenario.specs.Command.{Ending, Reports, done, ending_of_fault, misused, no_memory, output_failed}
use Rattle.scenario.specs.CommandLine.{Asked, ask_view}
use Rattle.scenario.specs.Output.{AppendsFront}
use Rattle.scenario.specs.Shown.{EndsShown, EndsUnasked}

module _ (s : ℕ) (out_old out_new err_old err_new : Option (List ℕ)) where
  -- the line of want of memory may stand for the usage line
  for_usage : Reports [] no_memory s err_old err_new → Reports [] misused s err_old err_new
  for_usage r = record {
    told = r.told;
    is_told = elim r.is_told [ inl e ↦ inr e | inr e ↦ inr e ];
    status_is = r.status_is;
    tells = r.tells;
  }

  without_memory : (what : Option Shown) → Keeps out_old out_new → Reports [] no_memory s err_old err_new → EndsUnasked what misused s out_old out_new err_old err_new
  without_memory None kept r = (for_usage r, kept)
  without_memory (Some shown) kept r = inr (r, kept)

  -- memory ran out
  pub unasked : (found : Option Asked) (what : Option Shown) → Keeps out_old out_new → Reports [] no_memory s err_old err_new
      → IfErr (ok_or found misused) (λ ending. EndsUnasked what ending s out_old out_new err_old err_new)
  unasked (Some ask) what kept r = tt
  unasked None what kept r = without_memory what kept r

  -- what was to be shown was written, or not
  pub shown_failed : (fault : Fault) (text : List ℕ) → fault ≡ Output → AppendsFront out_old out_new text → Reports [] (ending_of_fault fault) s err_old err_new
      → EndsShown s out_old out_new err_old err_new
  shown_failed fault text is written r = record {
    ending = output_failed;
    is = inr refl;
    leaves = (text, tt, written);
    reports = subst (λ (f : Fault). Reports [] (ending_of_fault f) s err_old err_new) is r;
  }

pub shown_done : (text : List ℕ) (out_old out_new err : Option (List ℕ)) → Appends out_old out_new text → EndsShown 0 out_old out_new err err
shown_done text out_old out_new err written = record {
  ending = done;
  is = inl refl;
  leaves = (text, tt, written);
  reports = record { told = done; is_told = refl; status_is = refl; tells = (0, Appends-nil err) };
}

-- ---- what the words ask for, as it was looked up

module _ (found : Option Asked) (looked : Option Ask) (is_found : option_map ask_view looked ≡ found) where
  same_found : (other : Option Ask) → looked ≡ other → option_map ask_view other ≡ found
  same_found other is = ap (option_map ask_view) (sym is) ∙ is_found

  pub some_asked : (F : Asked → Type 0) (ask : Ask) → looked ≡ Some ask → F (ask_view ask) → IfOk (ok_or found misused) F
  some_asked F ask is does = subst (λ (o : Option Asked). IfOk (ok_or o misused) F) (same_found (Some ask) is) does

  pub some_unasked : (F : Ending → Type 0) (ask : Ask) → looked ≡ Some ask → IfErr (ok_or found misused) F
  some_unasked F ask is = subst (λ (o : Option Asked). IfErr (ok_or o misused) F) (same_found (Some ask) is) tt

  pub none_asked : (F : Asked → Type 0) → looked ≡ None → IfOk (ok_or found misused) F
  none_asked F is = subst (λ (o : Option Asked). IfOk (ok_or o misused) F) (same_found None is) tt

  pub none_unasked : (F : Ending → Type 0) → looked ≡ None → F misused → IfErr (ok_or found misused) F
  none_unasked F is does = subst (λ (o : Option Asked). IfErr (ok_or o misused) F) (same_found None is) does
