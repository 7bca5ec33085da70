use Rattle.std.proofs.Common.{ℕ, ◌≡◌, ◌+◌, ◌*◌, ◌∙◌, Some, ap, refl, arith}
use Rattle.std.specs.Prelude.{◌==◌, ◌&&◌, not}
use Rattle.watch_tables.specs.Stored.{is_table, table_of}
use Rattle.watch_tables.specs.Pointers.{has_pointer}
use Rattle.watch_tables.proofs.FramePointers.{left-all, left-next, taken-all, taken-next}
use Rattle.watch_tables.proofs.tables.remove_pointers.Goals as goal

pub loop-index-init : goal.loop-index-init
loop-index-init c = record { from = omega arith; taken = λ t i below. absurd (omega arith); left = λ t n place. refl }

pub loop-index-preserved : goal.loop-index-preserved
loop-index-preserved c =
    let number = ap (λ k. c.args.ppn * k + c.from-in-Some.result) c.from.ensures ∙ ap (λ k. c.args.ppn * 512 + k) c.from-in-Some.ensures in
    let removed : (t n : ℕ) → has_pointer c.remove.new.self t n ≡ (not (is_table (table_of (Some c.in-Some.stored)) t && (c.args.ppn * c.from.result + c.from-in-Some.result == n)) && has_pointer c.loop-index.pointers t n) = λ t n.
    c.remove.ensures t n ∙ ap (λ o. not (is_table o t && (c.args.ppn * c.from.result + c.from-in-Some.result == n)) && has_pointer c.loop-index.pointers t n) c.pointed.ensures in
    record {
      from = let below = c.in-Some.ensures.below in omega arith;
      taken = taken-next c.args.frame.now c.args.ppn (has_pointer c.args.pointers.now) c.loop-index.from (has_pointer c.loop-index.pointers) c.loop-index.invariant.taken c.loop-index.invariant.left c.in-Some.index c.in-Some.stored (has_pointer c.remove.new.self) _ number
          c.in-Some.ensures.from c.in-Some.ensures.present c.in-Some.ensures.least removed;
      left = left-next c.args.frame.now c.args.ppn (has_pointer c.args.pointers.now) c.loop-index.from (has_pointer c.loop-index.pointers) c.loop-index.invariant.taken c.loop-index.invariant.left c.in-Some.index c.in-Some.stored (has_pointer c.remove.new.self) _ number
          c.in-Some.ensures.from c.in-Some.ensures.present c.in-Some.ensures.least removed;
    }

pub returns-clause-inside : goal.returns-clause-inside
returns-clause-inside c =
    taken-all c.args.frame.now c.args.ppn (has_pointer c.args.pointers.now) c.loop-index.from (has_pointer c.loop-index.pointers) c.loop-index.invariant.taken c.loop-index.invariant.left (c.next_word.ensures.none c.in_default.is)

pub returns-clause-outside : goal.returns-clause-outside
returns-clause-outside c =
    left-all c.args.frame.now c.args.ppn (has_pointer c.args.pointers.now) c.loop-index.from (has_pointer c.loop-index.pointers) c.loop-index.invariant.taken c.loop-index.invariant.left c.loop-index.invariant.from
