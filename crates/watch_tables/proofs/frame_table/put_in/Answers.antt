use Rattle.std.proofs.Common.{◌≡◌, ◌∙◌, ℕ, List, Option, ap, set, slice_get, sym, arith}
use Rattle.std.specs.Option.{option_map}
use Rattle.tlb.proofs.Dropping.{slice_get-set_same}
use Rattle.watch_tables.specs.declared.frame_table.PlacedFrame.{PlacedFrame}
use Rattle.watch_tables.specs.InFrame.{word_in, word_of}
use Rattle.watch_tables.proofs.frame_table.put_in.Goals as goal

pub returns-clause-empty : goal.returns-clause-empty
returns-clause-empty c =
    let row : List PlacedFrame = c.args.row.now.items in
    let placed : PlacedFrame = record { ppn = c.index_mut.result.now.ppn; frame = c.put.new.self } in
    let at : (i : ℕ) → word_of (option_map (λ (f : PlacedFrame). f.frame) (slice_get (set row c.args.place placed) c.args.place)) i ≡ word_in c.put.new.self i =
    λ i. ap (λ (o : Option PlacedFrame). word_of (option_map (λ (f : PlacedFrame). f.frame) o) i) (slice_get-set_same row c.args.place placed (omega arith)) in (
      (λ empty i. at i ∙ c.is_empty.ensures.0 empty i),
      (λ none. c.is_empty.ensures.1 (λ i. sym (at i) ∙ none i)),
    )
