use Rattle.std.proofs.Common.{◌≡◌, ℕ, Some, true, ap, sym, ◌∙◌, subst, rules}
use Rattle.std.proofs.lemmas.Bool.{false_from_ne_true}
use Rattle.pte.specs.Address.{IsCanonical, is_canonical}
use Rattle.pte.proofs.Schemes.{is_canonical-IsCanonical}
use Rattle.tlb.specs.Banks.{entries_of}
use Rattle.tlb.specs.Fence.{is_fenced}
use Rattle.tlb.proofs.Keeping.{fenced_holds, fenced_none}
use Rattle.tlb.proofs.store.drop_fenced.Goals as goal

pub returns-in_default-new_in-clause-entries : goal.returns-in_default-new_in-clause-entries
returns-in_default-new_in-clause-entries c =
    let off = false_from_ne_true (is_canonical c.args.scheme c.in-Some.va) (λ on. c.in_default-new_in.ensures ((is_canonical-IsCanonical c.args.scheme c.in-Some.va).0 on)) in
    rw c.in-Some.is (sym (fenced_none c.args.scheme (entries_of c.args.banks.now) c.in-Some.va c.args.rs2 off))

pub returns-clause-entries : goal.returns-clause-entries
returns-clause-entries c =
    let scheme = c.args.scheme in
    let va : ℕ = c.in-Some-new_in.va in
    let told = c.in-Some-new_in.ensures in
    let canonical : IsCanonical scheme va = subst (IsCanonical scheme) (sym told.1) told.0 in
    let on : is_canonical scheme va ≡ true = (is_canonical-IsCanonical scheme va).1 canonical in
    let rs1 : c.args.rs1 ≡ Some va = c.in-Some.is ∙ ap Some (sym told.1) in
    rw rs1
    (c.drop_among.ensures.entries (is_fenced scheme (Some va) c.args.rs2) (λ e r told. search rules)
    (λ slot e at used goes. c.near_address.ensures slot e at used (fenced_holds scheme va c.args.rs2 e goes)))
