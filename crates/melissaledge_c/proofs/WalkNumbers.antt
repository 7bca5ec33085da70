-- The numbers of a walk are those of this walk.
use Rattle.std.proofs.Common.{◌≡◌, ℕ, Bool, true, false, cond, Ok, Err, Some, ◌^◌, ap, ◌∙◌, refl}
use Rattle.std.specs.Prelude.{◌&&◌, nat_le, nat_lt}
use Rattle.std.proofs.lemmas.Bool.{and_from, le-leb, lt-ltb}
use Rattle.pte.specs.Address.{is_canonical, top_level, widest}
use Rattle.pte.specs.declared.entry.TheConstants.{PPN_BITS}
use Rattle.pte.proofs.Tests.{is_canonical-IsCanonical}
use Rattle.walk.specs.declared.stepping.AccessedDirty.{AccessedDirty}
use Rattle.walk.specs.Stage.{IsInLimits, Stage, stage_of}
use Rattle.melissaledge_c.specs.declared.codes.Fault.TheVariants as fault
use Rattle.melissaledge_c.specs.declared.requests.AccessAsked.{AccessAsked}
use Rattle.melissaledge_c.specs.Codes.{is_set, number_of, or_fault}
use Rattle.melissaledge_c.specs.Requests.{and_then, asked_of}
use Rattle.melissaledge_c.specs.Walks.{is_in_limits, limited, policy_of, walk_given, walk_of}

flag : (b : Bool) → is_set (number_of b) ≡ b
flag true = refl
flag false = refl

in_limits : (s : Stage) → IsInLimits s → is_in_limits s ≡ true
in_limits s is =
    let va = is_canonical widest s.va in
    let level = nat_le s.level (top_level widest) in
    and_from (va && level) (nat_lt s.table (2 ^ PPN_BITS))
    (and_from va level ((is_canonical-IsCanonical widest s.va).1 is.canonical) (le-leb _ _ is.level))
    (lt-ltb _ _ is.table)

pub one_walk : (asked : AccessAsked) (ad : ℕ) (s : Stage) (policy : AccessedDirty) → IsInLimits s → asked.va ≡ s.va → asked_of asked ≡ Ok (s.access, s.ctx) → policy_of ad ≡ Some policy → walk_of (walk_given asked ad s) ≡ Ok (s, policy)
one_walk asked ad s policy limits va access code =
    let t : Stage = stage_of asked.va s.access s.ctx s.level s.table (is_set (number_of s.global)) in
    let same : t ≡ s = ap (λ v. stage_of v s.access s.ctx s.level s.table (is_set (number_of s.global))) va ∙ ap (stage_of s.va s.access s.ctx s.level s.table) (flag s.global) in
    ap (λ r. and_then r (λ x. or_fault (policy_of ad) fault.Policy (λ p. limited (stage_of asked.va x.0 x.1 s.level s.table (is_set (number_of s.global))) p))) access
    ∙ ap (λ o. or_fault o fault.Policy (λ p. limited t p)) code
    ∙ ap (λ u. limited u policy) same
    ∙ ap (λ b. cond b (Ok (s, policy)) (Err fault.Walk)) (in_limits s limits)
