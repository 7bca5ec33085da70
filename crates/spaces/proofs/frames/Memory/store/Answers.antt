use Rattle.std.proofs.Common.{◌<◌, ◌-◌, sym, ◌∙◌, ap, subst, arith}
use Rattle.spaces.specs.Held.{IsMemory, holders_of, memory_words}
use Rattle.spaces.proofs.Applying.{facts-of, held-by, at-index, product-bound, sum-bound, held-pointer, held-leaf}
use Rattle.spaces.proofs.frames.Memory.store.Goals as goal

pub overflow_sub-at : goal.overflow_sub-at
overflow_sub-at c = (facts-of _ _ _ c.self.view_is c.self.invariant c.requires).place.from

pub overflow_mul-at : goal.overflow_mul-at
overflow_mul-at c =
    let f = facts-of _ _ _ c.self.view_is c.self.invariant c.requires in
    let frame : c.args.ppn - c.self.inside.base < 512 = omega (arith, c.self.invariant.layout.frames_fit, f.place.from, f.place.to) in
    let bound = product-bound (c.args.ppn - c.self.inside.base) c.from.result c.from.ensures frame in
    record { fits = bound }

pub overflow_add-at : goal.overflow_add-at
overflow_add-at c =
    let f = facts-of _ _ _ c.self.view_is c.self.invariant c.requires in
    let frame : c.args.ppn - c.self.inside.base < 512 = omega (arith, c.self.invariant.layout.frames_fit, f.place.from, f.place.to) in
    let index : c.from-2.result < 512 = omega (arith, f.place.index, c.from-2.ensures) in
    let bound = sum-bound (c.args.ppn - c.self.inside.base) c.from.result c.from-2.result c.from.ensures index frame in
    record { fits = bound }

pub index_mut-requires : goal.index_mut-requires
index_mut-requires c =
    let f = facts-of _ _ _ c.self.view_is c.self.invariant c.requires in
    let at = at-index c.self.inside.base c.args.ppn c.args.index c.from.result c.from-2.result c.from.ensures c.from-2.ensures in
    let below = f.index in
    omega arith

pub overflow_sub-table : goal.overflow_sub-table
overflow_sub-table c = ((facts-of _ _ _ c.self.view_is c.self.invariant c.requires).table c.in-Some.table (sym c.target.ensures ∙ c.in-Some.is)).0

pub take-requires : goal.take-requires
take-requires c =
    let there = (facts-of _ _ _ c.self.view_is c.self.invariant c.requires).table c.in-Some.table (sym c.target.ensures ∙ c.in-Some.is) in
    let below = there.1 in
    omega arith

pub invariant_of-self : goal.invariant_of-self
invariant_of-self c =
    let f = facts-of _ _ _ c.self.view_is c.self.invariant c.requires in
    subst IsMemory (sym (held-by _ (record { place = c.args.place; ppn = c.args.ppn; index = c.args.index; word = c.args.word }) _ _ (at-index c.self.inside.base c.args.ppn c.args.index c.from.result c.from-2.result c.from.ensures c.from-2.ensures)
    (held-pointer c.self.inside.base c.self.inside.frames _ c.args.place c.args.word c.in-Some.table c.target.result c.target.ensures c.in-Some.is c.take.ensures))) f.memory

pub invariant_of-self-in_default : goal.invariant_of-self-in_default
invariant_of-self-in_default c =
    let f = facts-of _ _ _ c.self.view_is c.self.invariant c.requires in
    subst IsMemory (sym (held-by _ (record { place = c.args.place; ppn = c.args.ppn; index = c.args.index; word = c.args.word }) _ _ (at-index c.self.inside.base c.args.ppn c.args.index c.from.result c.from-2.result c.from.ensures c.from-2.ensures)
    (held-leaf c.self.inside.base c.self.inside.frames c.args.place c.args.word c.target.result c.target.ensures c.in_default.is))) f.memory

pub returns-in-Some-clause-words : goal.returns-in-Some-clause-words
returns-in-Some-clause-words c f i =
    let fact = facts-of _ _ _ c.self.view_is c.self.invariant c.requires in
    ap (λ h. memory_words h f i) (held-by _ (record { place = c.args.place; ppn = c.args.ppn; index = c.args.index; word = c.args.word }) _ _ (at-index c.self.inside.base c.args.ppn c.args.index c.from.result c.from-2.result c.from.ensures c.from-2.ensures)
    (held-pointer c.self.inside.base c.self.inside.frames _ c.args.place c.args.word c.in-Some.table c.target.result c.target.ensures c.in-Some.is c.take.ensures)) ∙ fact.words f i

pub returns-in-Some-clause-holders : goal.returns-in-Some-clause-holders
returns-in-Some-clause-holders c f =
    let fact = facts-of _ _ _ c.self.view_is c.self.invariant c.requires in
    ap (λ h. holders_of h f) (held-by (record { layout = record { scheme = c.self.inside.scheme; window = c.self.inside.window; base = c.self.inside.base; homes = c.self.inside.homes.items; spares = c.self.inside.spares.items }; words = c.self.inside.words.items; holders = c.self.inside.frames })
    (record { place = c.args.place; ppn = c.args.ppn; index = c.args.index; word = c.args.word }) _ _ (at-index c.self.inside.base c.args.ppn c.args.index c.from.result c.from-2.result c.from.ensures c.from-2.ensures)
    (held-pointer c.self.inside.base c.self.inside.frames _ c.args.place c.args.word c.in-Some.table c.target.result c.target.ensures c.in-Some.is c.take.ensures)) ∙ fact.holders f

pub returns-in_default-clause-words : goal.returns-in_default-clause-words
returns-in_default-clause-words c f i =
    let fact = facts-of _ _ _ c.self.view_is c.self.invariant c.requires in
    ap (λ h. memory_words h f i) (held-by _ (record { place = c.args.place; ppn = c.args.ppn; index = c.args.index; word = c.args.word }) _ _ (at-index c.self.inside.base c.args.ppn c.args.index c.from.result c.from-2.result c.from.ensures c.from-2.ensures)
    (held-leaf c.self.inside.base c.self.inside.frames c.args.place c.args.word c.target.result c.target.ensures c.in_default.is)) ∙ fact.words f i
