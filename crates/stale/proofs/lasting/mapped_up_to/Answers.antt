use Rattle.std.proofs.Common.{◌≡◌, ℕ, ◌*◌, subst, sym, arith}
use Rattle.std.specs.Prelude.{is_none}
use Rattle.walk.specs.Maps.{page_number, LiesIn}
use Rattle.spaces.specs.Held.{memory_words}
use Rattle.spaces.specs.Layout.{root_ppn}
use Rattle.stale.specs.Mapped.{IsMappedFrom, mapping_of, reach_of}
use Rattle.stale.proofs.Whole.{found_lies, whole}
use Rattle.stale.proofs.lasting.mapped_up_to.Goals as goal

number_is : (n : ℕ) → page_number (n * 4096) ≡ n
number_is n = omega arith

pub returns-in-Some-clause-further : goal.returns-in-Some-clause-further
returns-in-Some-clause-further c =
    let memory = c.args.memory.now in
    let lies = found_lies memory.layout.scheme (memory_words memory) (root_ppn memory.layout c.args.space) (c.args.number * 4096) c.args.access c.args.ctx c.in-Some.found c.in-Some.ensures.walked in
    let there : LiesIn c.in-Some.found.page c.args.number = subst (LiesIn c.in-Some.found.page) (number_is c.args.number) lies in
    ((c.numbers.ensures.each c.args.number).0 there).1

pub returns-in-Some-clause-some : goal.returns-in-Some-clause-some
returns-in-Some-clause-some c = λ n from below own.
    let memory = c.args.memory.now in
    let e = c.args.entry.now in
    let va = c.args.number * 4096 in
    let root = root_ppn memory.layout c.args.space in
    let lies = found_lies memory.layout.scheme (memory_words memory) root va c.args.access c.args.ctx c.in-Some.found c.in-Some.ensures.walked in
    let first = ((c.numbers.ensures.each (page_number va)).0 lies).0 in
    let number = number_is c.args.number in
    let there : LiesIn c.in-Some.found.page n = (c.numbers.ensures.each n).1 (omega (arith, first, from, number), below) in
    let here : LiesIn e.page (page_number va) = subst (LiesIn e.page) (sym number) c.requires.in_page in
    whole memory.layout.scheme (memory_words memory) root va c.args.access c.args.ctx c.in-Some.found c.in-Some.ensures.walked e.page c.recall.ensures c.recall-in-Some.ensures e.ppn e.flags (is_none (reach_of e))
    here c.in-Some.ensures.some n own there

pub returns-in-None-clause-none : goal.returns-in-None-clause-none
returns-in-None-clause-none c = λ maps.
    c.in-None.ensures.none (subst (λ (n : ℕ). IsMappedFrom c.args.memory.now c.args.space (mapping_of c.args.entry.now n)) (sym (number_is c.args.number)) maps)
