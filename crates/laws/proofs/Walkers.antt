-- A walk in flight is of a live space, and holds no unused table frame.
use Rattle.std.proofs.Common.{◌≡◌, ℕ, ◌<◌, cond, not, [], ◌∷◌, Option, Some, None, refl, ap, sym, ◌∙◌, subst, eqb}
use Rattle.std.proofs.lemmas.Bool.{eqb-true, not-false, ltb-true}
use Rattle.pte.specs.declared.permission.Access.{Access}
use Rattle.pte.specs.declared.permission.Ctx.{Ctx}
use Rattle.spaces.proofs.Reaching.{unreached}
use Rattle.history.specs.Setup.{Setup, is_hart}
use Rattle.history.specs.Spaces.{holder_of}
use Rattle.history.specs.declared.event.Event.{Event}
use Rattle.history.specs.declared.event.Event.TheVariants.{Begin, Load}
use Rattle.history.specs.declared.refusal.Refusal.TheVariants.{NoHart}
use Rattle.history.specs.declared.reply.Reply.{Reply}
use Rattle.history.specs.declared.reply.Reply.TheVariants as reply
use Rattle.history.specs.Turns.{History}
use Rattle.history.specs.Tables.{words_of}
use Rattle.history.specs.Harts.{Walking, begun, loaded, with_load, walk_of, walk_after, space_of}
use Rattle.history.specs.Due.{due, Lawful}
use Rattle.history.specs.Staleness.{WalksUsedFrames}
use Rattle.laws.specs.Kept.{HavePages, IsSetup}
use Rattle.laws.proofs.Tools.{by_test}
use Rattle.laws.proofs.Accepted.{passed}
use Rattle.laws.proofs.Causes.{space_there}
use Rattle.laws.proofs.Asids.{live_hart}
use Rattle.laws.proofs.TreeKept.{tree}

module _ (C : Setup) where
  abbrev IsThere : ℕ → Option Walking → Type 0
  IsThere h walk = (w : Walking) → walk ≡ Some w → h < C.harts

  begun_there : (h va : ℕ) (access : Access) (ctx : Ctx) (r : Reply) (H : History) (old : Option Walking) → r ≡ due C H (Begin h va access ctx) → IsThere h old → IsThere h (begun r va access ctx old)
  begun_there h va access ctx reply.More H old d there w e =
      ltb-true h C.harts (not-false (is_hart C h) (passed (not (is_hart C h)) NoHart _ reply.More (sym d) refl).0)
  begun_there h va access ctx _ H old d there w e = there w e

  load_there : (h : ℕ) (old : Option Walking) → IsThere h old → IsThere h (with_load old)
  load_there h None there w e = there w e
  load_there h (Some walk) there w e = there walk refl

  loaded_there : (h : ℕ) (r : Reply) (old : Option Walking) → IsThere h old → IsThere h (loaded r old)
  loaded_there h reply.More old there w e = load_there h old there w e
  loaded_there h (reply.Filled pa) old there w e = absurd (cc (e))
  loaded_there h (reply.Trap trap) old there w e = absurd (cc (e))
  loaded_there h _ old there w e = there w e

  walk_there : (event : Event) (r : Reply) (H : History) (h : ℕ) (old : Option Walking) → r ≡ due C H event → IsThere h old → IsThere h (walk_after event r h old)
  walk_there (Begin b va access ctx) r H h old d there =
      by_test (λ v. IsThere h (cond v (begun r va access ctx old) old)) (eqb b h)
      (λ t. begun_there h va access ctx r H old (d ∙ ap (λ x. due C H (Begin x va access ctx)) (eqb-true b h t)) there) (λ _. there)
  walk_there (Load b) r H h old d there = by_test (λ v. IsThere h (cond v (loaded r old) old)) (eqb b h) (λ _. loaded_there h r old there) (λ _. there)
  walk_there _ r H h old d there = there

  pub walking_there : (H : History) (h : ℕ) → Lawful C H → IsThere h (walk_of H h)
  walking_there [] h l = λ w e. cc
  walking_there (turn ∷ H) h l = walk_there turn.event turn.reply H h (walk_of H h) l.1 (walking_there H h l.0)

  pub walks_used : IsSetup C → (H : History) (h : ℕ) → Lawful C H → HavePages H → WalksUsedFrames C H h
  walks_used setup H h l pages = λ walk walking. (
    live_hart C setup H h l (walking_there H h l walk walking),
    λ g k frame less is unused e.
        unreached C.layout setup.layout (words_of C H) (holder_of H) (tree C setup.layout setup.homes H l pages) g k frame less is unused (space_of H h) walk.va walk.loads
        (subst (λ n. space_of H h < n) setup.homes (space_there C H h setup.asids l)) e,
  )
