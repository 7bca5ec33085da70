use Rattle.std.proofs.Common.{◌∙◌, sym, rules, refl}
use Rattle.tlb.specs.Banks.{entries_of}
use Rattle.tlb.specs.Fence.{is_of_space}
use Rattle.tlb.proofs.Keeping.{fenced_all}
use Rattle.tlb.proofs.store.drop_of_space.Goals as goal

pub returns-in-None-clause-entries : goal.returns-in-None-clause-entries
returns-in-None-clause-entries c = λ scheme. c.clear.ensures.empty ∙ rw c.in-None.is (sym (fenced_all scheme (entries_of c.args.banks.now)))

pub returns-in-Some-clause-entries : goal.returns-in-Some-clause-entries
returns-in-Some-clause-entries c =
    λ scheme.
    rw c.in-Some.is (c.drop_among.ensures.entries (is_of_space c.in-Some.rs2) (λ e r told. search rules) (λ slot e at used on. c.in_use.ensures slot e at used refl))
