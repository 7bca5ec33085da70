-- `empty` makes the null pointer, which owns nothing.
use Rattle.std.proofs.Common.{[], ◌∷◌, refl, ◌≡◌}
use mir.Val.{Val}
use base.Logic.{SProp, emp}
use contract.Monad.{fact, fact_i}
use contract.Running.{tables}
use types.Kit.{‵, raw, ◌⊛◌, ◌$◌, ◌∵◌, !, qed, by, move, use0, split, drop, feq_i}
use types.Part.{agg}
use types.Run.{lit, no_more, and_then, returns, enter}
use types.ByLocal.{alloc_all, pass_all, free_all, look_at, sets}
use denote.RattleType.{owns}
use denote.RawPtr.{Ptr, null_ptr}
use Rattle.melissaledge_c.specs.MachineHeld.{Held}
use Rattle.melissaledge_c.proofs.MachineValues.{word, word_good, word_in}
use denote.Signature.{types_at}
use denote.Steps.{nothing}
use denote.Triple.Entry.{alive}
use denote.Triple.Walked.{Stays, walk_of}
use Rattle.std.specs.Prelude.{None}
use Rattle.std.proofs.raw_atomic.Walks.{proved_at, leaves}
use Rattle.melissaledge_c.specs.contracts.machine_handle.MachineHandle.empty.{ended, clauses}
use Rattle.melissaledge_c.specs.contracts.machine_handle.MachineHandle.empty.Key.{name as #self}
use Rattle.melissaledge_c.proofs.machine_handle.MachineHandle.empty.Statement.{statement}
use Rattle.melissaledge_c.proofs.machine_handle.MachineHandle.empty.Code as code

abbrev Held_none : Held
Held_none = None

pub empty_spec : {M : Type 1} → statement M
empty_spec 𝓤 𝓛 𝓜 𝓡 wired =
    let H = 𝓛.H in let 𝓣 = tables 𝓤 H 𝓜 𝓡 𝓡.env in let En = ended in let c = clauses 𝓛 𝓜.mem 𝓡.returns in let fn = code.function in
    let hs : Stays En.signature.params En.kept = tt in
    proved_at 𝓛 En hs c 𝓜 𝓡 tt #self fn (code.unfolded 𝓤 H 𝓜 𝓡 wired) (λ z are.
    let Post : Val → SProp 𝓤 = (walk_of 𝓛 En hs c).post z in
    qed 𝓛 ((raw (alive 𝓛 En.signature z.0.0 z.0.1) ⊛ ‵ (owns (types_at En.signature.params z.0.0) z.0.3 z.0.4)) ∷ raw ((c z.0.0 z.0.3).requires z.1) ∷ []) ∵ split ! $ move ! (1 ∷ 2 ∷ []) $ drop ! $ drop ! $
    enter ! 𝓣.C 𝓣.Λ fn [] Post $ alloc_all ! (λ l. pass_all ! refl tt $
    sets ! (agg ! (and_then ! (lit ! tt) (no_more !))) refl (word_good null_ptr) $
    returns ! (look_at ! 0 refl) $ free_all ! refl $
    use0 𝓛 (raw (fact 𝓤 (Held_none ≡ Held_none))) (fact_i 𝓤 (Held_none ≡ Held_none) (emp 𝓤) refl) $
    feq_i ! Ptr null_ptr null_ptr refl $ word_in ! null_ptr None $ nothing ! $ move ! (3 ∷ 0 ∷ 1 ∷ 2 ∷ []) $
    by ! (leaves 𝓛 En hs c z (word null_ptr) (record { at = null_ptr; held = None }) tt tt)))
