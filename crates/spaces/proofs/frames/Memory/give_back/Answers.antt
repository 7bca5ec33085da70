use Rattle.std.proofs.Common.{rules, ◌+◌, arith}
use Rattle.spaces.proofs.GivingBack.{left-of, left-list}
use Rattle.spaces.proofs.frames.Memory.give_back.Goals as goal

pub invariant_of-self : goal.invariant_of-self
invariant_of-self c =
    let list = left-list c.self.inside.words c.deref_mut.result.now c.empty_words.new.words c.holders.result.now c.self.inside.frames
    (c.from.result + c.from-2.result) (c.self.inside.window + c.args.space) c.args.space c.deref_mut.ensures.value c.holders.ensures
    (omega (arith, c.from.ensures, c.from-2.ensures)) (search rules) c.empty_words.ensures.length c.empty_words.ensures.words in
    (left-of _ c.args.self.now _ _ c.args.space c.self.view_is c.self.invariant c.requires list.0 c.give_back.ensures.length list.1 c.give_back.ensures.holders).memory

pub returns-clause-words : goal.returns-clause-words
returns-clause-words c =
    let list = left-list c.self.inside.words c.deref_mut.result.now c.empty_words.new.words c.holders.result.now c.self.inside.frames
    (c.from.result + c.from-2.result) (c.self.inside.window + c.args.space) c.args.space c.deref_mut.ensures.value c.holders.ensures
    (omega (arith, c.from.ensures, c.from-2.ensures)) (search rules) c.empty_words.ensures.length c.empty_words.ensures.words in
    (left-of _ c.args.self.now _ _ c.args.space c.self.view_is c.self.invariant c.requires list.0 c.give_back.ensures.length list.1 c.give_back.ensures.holders).words

pub returns-clause-empties : goal.returns-clause-empties
returns-clause-empties c =
    let list = left-list c.self.inside.words c.deref_mut.result.now c.empty_words.new.words c.holders.result.now c.self.inside.frames
    (c.from.result + c.from-2.result) (c.self.inside.window + c.args.space) c.args.space c.deref_mut.ensures.value c.holders.ensures
    (omega (arith, c.from.ensures, c.from-2.ensures)) (search rules) c.empty_words.ensures.length c.empty_words.ensures.words in
    (left-of _ c.args.self.now _ _ c.args.space c.self.view_is c.self.invariant c.requires list.0 c.give_back.ensures.length list.1 c.give_back.ensures.holders).empties
