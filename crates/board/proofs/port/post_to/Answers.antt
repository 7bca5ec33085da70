use Rattle.std.proofs.Common.{◌≡◌, Option, Some, None, Ok, Err, ap, sym, refl, ◌∙◌}
use Rattle.std.specs.Prelude.{Result}
use Rattle.shoot.specs.Request.{Request}
use Rattle.shoot.specs.declared.mailbox.PostFault.{PostFault}
use Rattle.history.specs.declared.refusal.Refusal.{Refusal}
use Rattle.board.specs.Ends.{post_fault}
use Rattle.history.specs.Refusal.{posting_refusal}
use Rattle.board.specs.Answers.{box_refusal, outbox_refusal}
use Rattle.board.proofs.port.post_to.Goals as goal

-- the fault of an error, or else this one
abbrev fault_or : {X : Type 0} → PostFault → Result X (PostFault × Request) → PostFault
fault_or none (Ok x) = none
fault_or none (Err e) = e.0

-- two errors of one answer have the same fault
same : {X : Type 0} (f g : PostFault) (q r : Request) (answer : Result X (PostFault × Request)) → answer ≡ Err (f, q) → answer ≡ Err (g, r) → f ≡ g
same f g q r answer a b = ap (fault_or f) (sym a ∙ b)

-- a post that is refused with the end's fault has its refusal
refused_so : (of : Option PostFault) (fault : PostFault) (refusal : Refusal) → ((f : PostFault) → of ≡ Some f → f ≡ fault) → box_refusal of ≡ Some refusal → posting_refusal fault ≡ refusal
refused_so None fault refusal is e = cc
refused_so (Some f) fault refusal is e = let same_fault = is f refl in cc

pub returns-in-Err-clause-refused : goal.returns-in-Err-clause-refused
returns-in-Err-clause-refused c refusal e =
    ap (λ r. Err r) (c.posting_refusal.ensures ∙ refused_so (post_fault c.in-Some.outbox) c.in-Err.fault refusal
    (λ f is. same f _ _ _ c.post.result (c.post.ensures.refused f is) c.in-Err.is)
    (sym (ap outbox_refusal c.in-Some.is) ∙ e))
