-- An edit over a view reads words at home alone.
use Rattle.std.proofs.Common.{◌≡◌, ℕ, ◌+◌, ◌<◌, cond, Option, Some, None, Result, Ok, Err, sym, ap, ◌∙◌, subst, arith}
use Rattle.std.specs.Prelude.{nat_lt, slice_index}
use Rattle.spaces.specs.declared.faults.MapFault.{MapFault}
use Rattle.spaces.specs.declared.wishes.Wish.{Wish}
use Rattle.spaces.specs.declared.edit_walks.Next.{Next}
use Rattle.spaces.specs.declared.edit_walks.Next.TheVariants as next
use Rattle.spaces.specs.Layout.{Layout, HasPlace, spare_ppn}
use Rattle.spaces.specs.Held.{holders_of, spare_of, memory_words}
use Rattle.spaces.specs.Edits.{EditStage, IsStage, Store, place_of}
use Rattle.spaces.specs.EditStages.{Continues, WaitsAtHome, answer_from, answer_of, edit_next, edit_start, index_of}
use Rattle.spaces.proofs.HomeReads.{goes-home, starts-home}
use Rattle.spaces.proofs.Stages.{begun-as, goes-on, read-there}
use Rattle.views.specs.declared.view.View.{View}
use Rattle.views.specs.Rule.{Local, memory_of}
use Rattle.views.specs.Edits.{edit_over}
use Rattle.views.proofs.EditKeeps.{local-home, next-spare}

-- an edit in mid course waits for a word at home, and ends as it is due
pub record IsReading (l : Layout) (v : View) (wish : Wish) (spare : Option ℕ) (e : EditStage) : Type 0 where
  pub waits : WaitsAtHome l v.hart e
  pub end : answer_from e (memory_words (memory_of l v)) spare ≡ edit_over l v wish

module _ (l : Layout) (v : View) (local : Local l v) (wish : Wish) (spare : Option ℕ) (spare-is : spare ≡ spare_of (memory_of l v) v.hart) where
  pub begins-ok : (e : EditStage) → HasPlace l (place_of wish) → Ok e ≡ edit_start l v.hart wish → IsReading l v wish spare e
  begins-ok e has is = record {
    waits = starts-home (memory_of l v) local.memory v.hart wish e has is;
    end = ap (answer_of (Ok e) (memory_words (memory_of l v))) spare-is ∙ begun-as (memory_of l v) local.memory v.hart wish (Ok e) is;
  }

  pub begins-err : (fault : MapFault) → Err fault ≡ edit_start l v.hart wish → Err fault ≡ edit_over l v wish
  begins-err fault is = begun-as (memory_of l v) local.memory v.hart wish (Err fault) is

module _ (l : Layout) (v : View) (local : Local l v) (wish : Wish) (spare : Option ℕ) (e : EditStage) (reading : IsReading l v wish spare e) (stage : IsStage e) (table index word : ℕ)
    (p : table ≡ e.table) (i : index ≡ index_of e) (read : memory_words (memory_of l v) table index ≡ Some word) where
  goes : (made : Next) → made ≡ edit_next e word spare → Continues e (memory_words (memory_of l v)) spare made
  goes made is = subst (Continues e (memory_words (memory_of l v)) spare) (sym is) (goes-on e (memory_words (memory_of l v)) spare word table index stage p i read)

  pub reads-on : (after : EditStage) → next.More after ≡ edit_next e word spare → IsReading l v wish spare after × (after.level < e.level)
  reads-on after is =
      let on = goes (next.More after) is in (
        record {
          waits =
              goes-home l (memory_words (memory_of l v)) v.hart (holders_of (memory_of l v)) (local-home l v local) e word after spare reading.waits
              (read-there e (memory_words (memory_of l v)) spare word table index stage p i read) (sym is);
          end = on.3 ∙ reading.end;
        },
        omega (arith, on.2),
      )

  pub ends-store : (store : Store) → next.Edit store ≡ edit_next e word spare → edit_over l v wish ≡ Ok store
  ends-store store is = sym reading.end ∙ goes (next.Edit store) is

  pub ends-fault : (fault : MapFault) → next.Refused fault ≡ edit_next e word spare → edit_over l v wish ≡ Err fault
  ends-fault fault is = sym reading.end ∙ goes (next.Refused fault) is

-- the same as the steps of a loop
pub spare-of-view : (l : Layout) (v : View) (local : Local l v) (hart used : ℕ) (spare : Option ℕ) → v.hart ≡ hart → v.used ≡ used
    → spare ≡ cond (nat_lt used (slice_index l.spares hart)) (Some (spare_ppn l hart + used)) None → spare ≡ spare_of (memory_of l v) v.hart
spare-of-view l v local hart used spare p q e =
    e ∙ ap (λ h. cond (nat_lt used (slice_index l.spares h)) (Some (spare_ppn l h + used)) None) (sym p)
    ∙ ap (λ u. cond (nat_lt u (slice_index l.spares v.hart)) (Some (spare_ppn l v.hart + u)) None) (sym q)
    ∙ next-spare l (holders_of (memory_of l v)) v.hart v.used local.lowest

pub start-of-view : (l : Layout) (v : View) (hart : ℕ) (wish : Wish) (r : Result EditStage MapFault) → v.hart ≡ hart → r ≡ edit_start l hart wish → r ≡ edit_start l v.hart wish
start-of-view l v hart wish r p e = e ∙ ap (λ h. edit_start l h wish) (sym p)

pub read-of-view : (l : Layout) (v u : View) → u ≡ v → (table index word : ℕ) → memory_words (memory_of l u) table index ≡ Some word → memory_words (memory_of l v) table index ≡ Some word
read-of-view l v u same table index word read = ap (λ x. memory_words (memory_of l x) table index) (sym same) ∙ read
