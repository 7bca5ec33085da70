-- A Reclaim empties the words of a retiring space: a walk in flight is of a live one, and stays on
-- its path.
use Rattle.std.proofs.Common.{◌≡◌, ℕ, ◌+◌, ◌-◌, ◌<◌, cond, length, Option, Some, sym, ◌∙◌, ap, subst, arith}
use Rattle.pte.specs.Address.{top_level}
use Rattle.walk.specs.Leads.{word_at}
use Rattle.walk.specs.Pointers.{table_below}
use Rattle.walk.specs.Stage.{Stage, OnPath}
use Rattle.walk.proofs.Downward.{leads_by_pointers}
use Rattle.walk.proofs.Paths.{leads-above}
use Rattle.walk.proofs.Stored.{Agree, on_path_agreed}
use Rattle.spaces.specs.Holders.{emptied}
use Rattle.spaces.specs.Layout.{root_ppn}
use Rattle.spaces.proofs.Emptying.{kept-below}
use Rattle.history.specs.Setup.{Setup}
use Rattle.history.specs.Spaces.{Live, Retires, status_of, holder_of}
use Rattle.history.specs.declared.event.Event.TheVariants.{Reclaim}
use Rattle.history.specs.declared.reply.Reply.{Reply}
use Rattle.history.specs.Turns.{History, is_ok}
use Rattle.history.specs.Tables.{words_of}
use Rattle.history.specs.Harts.{Walking, space_of}
use Rattle.history.specs.Due.{due, Lawful}
use Rattle.history.specs.Runs.{with_turn}
use Rattle.laws.specs.Kept.{HavePages, IsSetup}
use Rattle.laws.proofs.Accepted.{reclaim_found}
use Rattle.laws.proofs.Asids.{live_hart}
use Rattle.laws.proofs.Causes.{space_there}
use Rattle.laws.proofs.Tools.{by_test}
use Rattle.laws.proofs.TreeKept.{tree}
use Rattle.stepcore.specs.Stands.{AreSameWalk}
use Rattle.stepcore.proofs.PointersKept.{same_walk_moved}

module _ (C : Setup) (within : IsSetup C) where
  -- giving back a space keeps the words on the paths from the root of another
  emptied_agrees : (H : History) (s t : ℕ) → Lawful C H → HavePages H → s < length C.asids → t < length C.asids → (t ≡ s → ⊥)
      → (stage : Stage) (on : OnPath C.layout.scheme (words_of C H) (root_ppn C.layout t) stage)
      → Agree C.layout.scheme (words_of C H) (emptied C.layout (holder_of H) s (words_of C H)) (root_ppn C.layout t) stage.va on.leads.tables (stage.level + 1)
  emptied_agrees H s t l has there_s there_t apart stage on j above below =
      let scheme = C.layout.scheme in
      let words = words_of C H in
      let top = top_level scheme in
      let table = on.leads.tables j in
      let path = leads-above scheme words (root_ppn C.layout t) stage.va stage.level j stage.table _ (omega arith) below on.leads in
      let leads : table_below words stage.va top (root_ppn C.layout t) (top - j) ≡ Some table = ((leads_by_pointers scheme words (root_ppn C.layout t) stage.va j table _).0 path).1 in
      let kept = kept-below C.layout within.layout words (holder_of H) (tree C within.layout within.homes H l has) s (subst (λ n. s < n) within.homes there_s)
      t stage.va (top - j) table (subst (λ n. t < n) within.homes there_t) apart leads
      in
      let level : top - (top - j) ≡ j = omega arith in
      subst (λ k. word_at (emptied C.layout (holder_of H) s words) stage.va k table ≡ word_at words stage.va k table) level kept

  -- the walk of a hart, over a Reclaim
  pub walk_kept : (H : History) (hart space : ℕ) (r : Reply) (h : ℕ) (stage : Option Stage) (walk : Option Walking) → Lawful C H → HavePages H → r ≡ due C H (Reclaim hart space) → h < C.harts
      → AreSameWalk C.layout.scheme (words_of C H) (root_ppn C.layout (space_of H h)) stage walk
      → AreSameWalk C.layout.scheme (words_of C (with_turn (Reclaim hart space) r H)) (root_ppn C.layout (space_of H h)) stage walk
  walk_kept H hart space r h stage walk l has d below same =
      let root = root_ppn C.layout (space_of H h) in
      let words = words_of C H in
      by_test (λ v. AreSameWalk C.layout.scheme (cond v (emptied C.layout (holder_of H) space words) words) root stage walk) (is_ok r)
      (λ ok. let found = reclaim_found C H hart space r d ok in
      let apart : space_of H h ≡ space → ⊥ = λ is.
      let both : Live ≡ Retires found.order = sym (live_hart C within H h l below) ∙ ap (status_of H) is ∙ found.retiring in
      cc (both)
      in
      same_walk_moved C.layout.scheme words (emptied C.layout (holder_of H) space words) root stage walk
      (λ s on. on_path_agreed C.layout.scheme words (emptied C.layout (holder_of H) space words) root s on
      (emptied_agrees H space (space_of H h) l has found.there (space_there C H h within.asids l) apart s on)) same)
      (λ _. same)
