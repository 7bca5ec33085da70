use Rattle.std.proofs.Common.{◌≡◌, sym, ◌∙◌, ap, subst, map, replicate, None, rules}
use Rattle.spaces.specs.Limits.{MeetsLimits}
use Rattle.spaces.specs.declared.configuration.TheConstants.{MAX_FRAMES}
use Rattle.spaces.specs.Layout.{layout_of}
use Rattle.spaces.specs.Held.{IsMemory, holders_of, memory_words}
use Rattle.spaces.proofs.Opened.{made, words-open, opened, opened-is}
use Rattle.spaces.proofs.OpenedMemory.{memory-open, holders-open}
use Rattle.spaces.proofs.frames.Memory.open.Goals as goal
use Rattle.spaces.proofs.frames.Memory.open.Goals.{After-copy_of}

is_opened : (c : After-copy_of) → made c.args.config.now c.homes_of.result.items c.copy_of.result.items c.in_ok-words.words.items c.in_ok-frames.frames ≡ opened c.args.config.now
is_opened c =
    opened-is c.args.config.now c.homes_of.result.items c.copy_of.result.items c.in_ok-words.words.items c.in_ok-frames.frames
    (c.homes_of.ensures ∙ ap (map (λ s. s.home)) c.deref.ensures.0) (c.copy_of.ensures ∙ c.deref-2.ensures.0) c.in_ok-words.ensures
    (c.in_ok-frames.ensures ∙ ap (λ n. replicate n None) c.frame_count.ensures)

limits : (c : After-copy_of) → MeetsLimits MAX_FRAMES c.args.config.now
limits c = search rules

pub invariant_of-result : goal.invariant_of-result
invariant_of-result c = subst IsMemory (sym (is_opened c)) (memory-open c.args.config.now (limits c))

pub returns-clause-words : goal.returns-clause-words
returns-clause-words c ppn i =
    ap (λ m. memory_words m ppn i) (is_opened c) ∙ words-open (layout_of c.args.config.now) _ ppn i

pub returns-clause-holders : goal.returns-clause-holders
returns-clause-holders c ppn = ap (λ m. holders_of m ppn) (is_opened c) ∙ holders-open c.args.config.now ppn
