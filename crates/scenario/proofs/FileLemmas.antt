-- How a file ends that was not read, and what is reported of an ending.
use Rattle.std.proofs.Common.{◌≡◌, ℕ, ◌+◌, ◌<◌, List, [], length, replicate, Option, Some, Err, inl, inr, ◌⊎◌, sym, subst, refl, None, arith}
use Rattle.std.specs.Io.KnownBytes.{Keeps}
use Rattle.std.proofs.KnownBytes.{Appends-nil}
use Rattle.std.proofs.lemmas.List.{length-replicate}
use Rattle.files.specs.declared.fault.Fault.TheVariants as faults
use Rattle.scenario.specs.declared.trouble.Trouble.{Trouble}
use Rattle.scenario.specs.declared.trouble.Trouble.TheVariants as troubles
use Rattle.scenario.specs.Command.{done, Ending, explained, misused, ending_of, Ends, IsToldAs, Leaves, no_memory, no_thread, output_failed, refused, Reports, stale_used, status_of, Suits, too_large, unreadable, warned, wrong_line, no_verdict, wrong_entry}
use Rattle.scenario.specs.Commands.{Meaning}
use Rattle.scenario.specs.Outcomes.{IsAnswered}
use Rattle.scenario.specs.Input.{AreLeft, IsReadTrouble}
use Rattle.scenario.specs.KnownFiles.{ReadsAs}
use Rattle.scenario.specs.Limits.{most_bytes}

-- bytes that a reader may have
some_bytes : (left : Option (List ℕ)) → (bytes : List ℕ) × AreLeft left bytes
some_bytes None = ([], tt)
some_bytes (Some bytes) = (bytes, refl)

long_bytes : (n : ℕ) → (bytes : List ℕ) × (n < length bytes)
long_bytes n = let byte : ℕ = 0 in (replicate (n + 1) byte, omega (arith, length-replicate (n + 1) byte))

-- a file that was not read ends so, whatever is known of its bytes
pub unread : (meaning : Meaning) (left : Option (List ℕ)) (trouble : Trouble) → IsReadTrouble trouble left → (bytes : List ℕ) × AreLeft left bytes × IsAnswered meaning bytes (Err trouble)
unread meaning left troubles.Usage h = absurd h
unread meaning left troubles.Unreadable h = let any = some_bytes left in (any.0, any.1, λ old new kept. record { suits = tt; leaves = kept })
unread meaning None troubles.TooLarge h = let long = long_bytes most_bytes in (long.0, tt, λ old new kept. record { suits = long.1; leaves = kept })
unread meaning (Some bytes) troubles.TooLarge h = (bytes, refl, λ old new kept. record { suits = h; leaves = kept })
unread meaning left troubles.NoThread h = absurd h
unread meaning left (troubles.Line number fault some) h = absurd h
unread meaning left (troubles.NoVerdict line) h = absurd h
unread meaning left (troubles.KnownLine fault) h = absurd h
unread meaning left (troubles.Refused fault) h =
    let any = some_bytes left in
    subst (λ f. (bytes : List ℕ) × AreLeft left bytes × IsAnswered meaning bytes (Err (troubles.Refused f))) (sym h) (any.0, any.1, λ old new kept. record { suits = tt; leaves = kept })

-- and so does a list
pub list_unread : (left : Option (List ℕ)) (trouble : Trouble) → IsReadTrouble trouble left → (bytes : List ℕ) × AreLeft left bytes × ReadsAs bytes (Err (ending_of trouble))
list_unread left troubles.Usage h = absurd h
list_unread left troubles.Unreadable h = let any = some_bytes left in (any.0, any.1, tt)
list_unread None troubles.TooLarge h = let long = long_bytes most_bytes in (long.0, tt, long.1)
list_unread (Some bytes) troubles.TooLarge h = (bytes, refl, h)
list_unread left troubles.NoThread h = absurd h
list_unread left (troubles.Line number fault some) h = absurd h
list_unread left (troubles.NoVerdict line) h = absurd h
list_unread left (troubles.KnownLine fault) h = absurd h
list_unread left (troubles.Refused fault) h =
    let any = some_bytes left in
    subst (λ f. (bytes : List ℕ) × AreLeft left bytes × ReadsAs bytes (Err (ending_of (troubles.Refused f)))) (sym h) (any.0, any.1, tt)

-- a trouble is reported as it is, or as no memory
pub told_itself : (trouble : Trouble) → IsToldAs (ending_of trouble) (ending_of trouble)
told_itself troubles.Usage = inl refl
told_itself troubles.Unreadable = inl refl
told_itself troubles.TooLarge = inl refl
told_itself troubles.NoThread = inl refl
told_itself (troubles.Line number fault some) = inl refl
told_itself (troubles.NoVerdict line) = inl refl
told_itself (troubles.KnownLine fault) = inl refl
told_itself (troubles.Refused faults.NotToml) = inl refl
told_itself (troubles.Refused (faults.Key name)) = inl refl
told_itself (troubles.Refused faults.Layout) = inl refl
told_itself (troubles.Refused faults.TooMany) = inl refl
told_itself (troubles.Refused (faults.Step n fault)) = inl refl
told_itself (troubles.Refused (faults.Script hart n fault)) = inl refl
told_itself (troubles.Refused faults.Output) = inl refl
told_itself (troubles.Refused faults.NoMemory) = inl refl

pub told_memory : (trouble : Trouble) → IsToldAs (ending_of trouble) no_memory
told_memory troubles.Usage = inr refl
told_memory troubles.Unreadable = inr refl
told_memory troubles.TooLarge = inr refl
told_memory troubles.NoThread = inr refl
told_memory (troubles.Line number fault some) = inr refl
told_memory (troubles.NoVerdict line) = inr refl
told_memory (troubles.KnownLine fault) = inr refl
told_memory (troubles.Refused faults.NotToml) = inr refl
told_memory (troubles.Refused (faults.Key name)) = inr refl
told_memory (troubles.Refused faults.Layout) = inr refl
told_memory (troubles.Refused faults.TooMany) = inr refl
told_memory (troubles.Refused (faults.Step n fault)) = inr refl
told_memory (troubles.Refused (faults.Script hart n fault)) = inr refl
told_memory (troubles.Refused faults.Output) = inr refl
told_memory (troubles.Refused faults.NoMemory) = inr refl

-- a command that is done has no line
pub nothing_reported : (file : List ℕ) (err : Option (List ℕ)) → Reports file done 0 err err
nothing_reported file err = record { told = done; is_told = refl; status_is = refl; tells = (0, Appends-nil err) }

-- ---- at status 2 and 3 nothing was written

abbrev IsRefusal : ℕ → Type 0
IsRefusal status = (status ≡ 2) ⊎ (status ≡ 3)

not_done : IsRefusal 0 → ⊥
not_done (inl e) = cc
not_done (inr e) = cc

not_failed : IsRefusal 4 → ⊥
not_failed (inl e) = cc
not_failed (inr e) = cc

not_memory : IsRefusal 5 → ⊥
not_memory (inl e) = cc
not_memory (inr e) = cc

not_used : IsRefusal 1 → ⊥
not_used (inl e) = cc
not_used (inr e) = cc

silent_by : (meaning : Meaning) (bytes : List ℕ) (ending told : Ending) (old new : Option (List ℕ)) → ¬ meaning.Explains → Suits meaning bytes ending → IsToldAs ending told → IsRefusal (status_of told)
    → Leaves (meaning.Lines bytes) ending old new → Keeps old new
silent_by meaning bytes done told old new quiet suits is refused_so h = absurd (not_done (subst (λ e. IsRefusal (status_of e)) is refused_so))
silent_by meaning bytes stale_used told old new quiet suits is refused_so h = absurd (not_used (subst (λ e. IsRefusal (status_of e)) is refused_so))
silent_by meaning bytes (explained failure) told old new quiet suits is refused_so h = absurd (quiet suits.0.0)
silent_by meaning bytes misused told old new quiet suits is refused_so h = h
silent_by meaning bytes unreadable told old new quiet suits is refused_so h = h
silent_by meaning bytes too_large told old new quiet suits is refused_so h = h
silent_by meaning bytes (refused failure) told old new quiet suits is refused_so h = h
silent_by meaning bytes output_failed told old new quiet suits (inl is) refused_so h = absurd (not_failed (subst (λ e. IsRefusal (status_of e)) is refused_so))
silent_by meaning bytes output_failed told old new quiet suits (inr is) refused_so h = absurd (not_memory (subst (λ e. IsRefusal (status_of e)) is refused_so))
silent_by meaning bytes no_memory told old new quiet suits is refused_so h = h
silent_by meaning bytes no_thread told old new quiet suits is refused_so h = h
silent_by meaning bytes warned told old new quiet suits is refused_so h = absurd suits
silent_by meaning bytes (wrong_line number fault some) told old new quiet suits is refused_so h = absurd suits
silent_by meaning bytes (no_verdict line) told old new quiet suits is refused_so h = absurd suits
silent_by meaning bytes (wrong_entry fault) told old new quiet suits is refused_so h = absurd suits

pub silent : (meaning : Meaning) → ¬ meaning.Explains → (file : List ℕ) (left : Option (List ℕ)) (status : ℕ) (out_old out_new err_old err_new : Option (List ℕ))
    → (bytes : List ℕ) × AreLeft left bytes × Ends meaning file bytes status out_old out_new err_old err_new → (status ≡ 2) ⊎ (status ≡ 3) → Keeps out_old out_new
silent meaning quiet file left status out_old out_new err_old err_new (bytes, has, e) refused_so =
    silent_by meaning bytes e.ending e.reports.told out_old out_new quiet e.ends_as.suits e.reports.is_told (subst IsRefusal e.reports.status_is refused_so) e.ends_as.leaves
