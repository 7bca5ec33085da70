use Rattle.std.proofs.Common.{◌≡◌, sym, ◌∙◌, subst}
use Rattle.std.proofs.lemmas.Bool.{false≢true}
use Rattle.walk.specs.Maps.{page_number}
use Rattle.std.specs.Prelude.{Ok, Err, is_none}
use Rattle.walk.specs.declared.found_or_trap.Found.{Found}
use Rattle.spaces.specs.Held.{memory_words}
use Rattle.spaces.specs.Layout.{root_ppn}
use Rattle.stale.specs.Mapped.{mapping_of}
use Rattle.stale.proofs.Walked.{global_is, mapped_found, found_mapped}
use Rattle.stale.proofs.mapped.found_in.Goals as goal

pub returns-then-is_found-clause-some : goal.returns-then-is_found-clause-some
returns-then-is_found-clause-some c =
    let memory = c.args.memory.now in
    let e = c.args.entry.now in
    let m = mapping_of e (page_number c.args.va) in
    let none : is_none m.asid ≡ e.global = global_is e.global e.asid in
    let is = c.is_found.ensures.0 c.if-is_found.true in
    found_mapped memory.layout.scheme (memory_words memory) (root_ppn memory.layout c.args.space) c.args.va m.ppn c.args.access c.args.ctx m.flags (is_none m.asid) c.in-Ok.found c.in-Ok.ensures is.0 is.1 (is.2 ∙ sym none)

pub returns-else-is_found-clause-none : goal.returns-else-is_found-clause-none
returns-else-is_found-clause-none c = λ maps.
    let memory = c.args.memory.now in
    let e = c.args.entry.now in
    let m = mapping_of e (page_number c.args.va) in
    let none : is_none m.asid ≡ e.global = global_is e.global e.asid in
    let f = mapped_found memory.layout.scheme (memory_words memory) (root_ppn memory.layout c.args.space) c.args.va m.ppn c.args.access c.args.ctx m.flags (is_none m.asid) (Ok c.in-Ok.found) c.in-Ok.ensures c.requires.answers maps in
    let same : c.in-Ok.found ≡ f.0 = cc in
    false≢true (sym c.if-is_found.false ∙ c.is_found.ensures.1 (subst (λ (x : Found). (page_number x.pa ≡ m.ppn) × (x.flags ≡ e.flags) × (x.global ≡ e.global)) (sym same) (f.2, f.3, f.4 ∙ none)))

pub returns-in-Err-clause-none : goal.returns-in-Err-clause-none
returns-in-Err-clause-none c = λ maps.
    let memory = c.args.memory.now in
    let m = mapping_of c.args.entry.now (page_number c.args.va) in
    let f = mapped_found memory.layout.scheme (memory_words memory) (root_ppn memory.layout c.args.space) c.args.va m.ppn c.args.access c.args.ctx m.flags (is_none m.asid) (Err c.in-Err.field-0) c.in-Err.ensures c.requires.answers maps in
    let same : Err c.in-Err.field-0 ≡ Ok f.0 = f.1 in absurd (cc)
