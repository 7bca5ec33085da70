use Rattle.std.proofs.Common.{◌≡◌, ℕ, zero, suc, ◌+◌, ◌*◌, ◌%◌, ◌^◌, ◌≤◌, refl, ap, ◌∙◌, arith}
use Rattle.pte.specs.Address.{level_bytes}
use Rattle.walk.specs.Stage.{Stage}
use Rattle.walk.proofs.walking.Walk.bytes.Goals as goal

-- a page of 4 KiB, once for each that a leaf of a level has
shifted : (level : ℕ) → level ≤ 3 → 4096 * 2 ^ (9 * level) % 2 ^ 64 ≡ 2 ^ (12 + 9 * level)
shifted zero le = refl
shifted (suc zero) le = refl
shifted (suc (suc zero)) le = refl
shifted (suc (suc (suc zero))) le = refl
shifted (suc (suc (suc (suc n)))) le = absurd (omega arith)

pub returns : goal.returns
returns c =
    rw c.from.ensures
    (shifted c.self.inside.level c.self.invariant.level ∙ ap (λ (s : Stage). level_bytes s.level) c.self.view_is)
