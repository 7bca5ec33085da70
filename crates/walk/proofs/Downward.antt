-- The tables that lead are the ones that are computed from the root down.
use Rattle.std.proofs.Common.{◌≡◌, ℕ, zero, suc, ◌+◌, ◌-◌, ◌≤◌, Option, Some, None, ap, sym, ◌∙◌, subst, refl, arith}
use Rattle.std.specs.Prelude.{◌↔◌}
use Rattle.pte.specs.declared.scheme.Scheme.{Scheme}
use Rattle.pte.specs.declared.entry.Kind.{Kind}
use Rattle.pte.specs.declared.entry.Kind.TheVariants as kinds
use Rattle.pte.specs.Address.{top_level}
use Rattle.pte.specs.Entry.{kind_of}
use Rattle.walk.specs.Leads.{Tables, word_at, PointsTo, Leads}
use Rattle.walk.specs.Pointers.{pointed_kind, pointed, next_table, table_after}
use Rattle.walk.proofs.Paths.{leads-start, leads-below, leads-above}

-- a word points to a table exactly if the pointer that it holds is to that one
pub points-to : (word : Option ℕ) (table : ℕ) → PointsTo word table → pointed word ≡ Some table
points-to word table p = ap pointed p.is ∙ ap pointed_kind p.kind

kind-points : (entry : ℕ) (kind : Kind) (table : ℕ) → kind_of entry ≡ kind → pointed_kind kind ≡ Some table → PointsTo (Some entry) table
kind-points entry kinds.Invalid table of is = cc
kind-points entry kinds.Reserved table of is = cc
kind-points entry (kinds.Leaf ppn flags) table of is = cc
kind-points entry (kinds.Table ppn global) table of is =
    let same : ppn ≡ table = cc in
    record { entry = entry; global = global; is = refl; kind = of ∙ ap (λ n. kinds.Table n global) same }

points-from : (word : Option ℕ) (table : ℕ) → pointed word ≡ Some table → PointsTo word table
points-from None table is = cc
points-from (Some entry) table is = kind-points entry (kind_of entry) table refl is

module _ (scheme : Scheme) (words : Tables) (root va : ℕ) where
  -- n levels below the root
  pub after-leads : (n i t : ℕ) (w : Option ℕ) → i + n ≡ top_level scheme → (path : Leads scheme words root va i t w) → table_after scheme words root va n ≡ Some (path.tables i)
  after-leads zero i t w at path = let top : i ≡ top_level scheme = omega arith in ap Some (sym path.first ∙ ap path.tables (sym top))
  after-leads (suc n) i t w at path =
      let above = leads-above scheme words root va i (i + 1) t w (omega arith) (omega arith) path in
      let known : table_after scheme words root va n ≡ Some (path.tables (i + 1)) = after-leads n (i + 1) (path.tables (i + 1)) _ (omega arith) above in
      let level : top_level scheme - n ≡ i + 1 = omega arith in
      let back : i + 1 - 1 ≡ i = omega arith in
      ap (next_table words va (top_level scheme - n)) known ∙ ap (λ k. pointed (word_at words va k (path.tables (i + 1)))) level
      ∙ points-to _ _ (path.pointers (i + 1) (omega arith) (omega arith)) ∙ ap (λ k. Some (path.tables k)) back

  next-from : (level : ℕ) (o : Option ℕ) (t : ℕ) → next_table words va level o ≡ Some t → (table : ℕ) × (o ≡ Some table) × PointsTo (word_at words va level table) t
  next-from level None t is = cc
  next-from level (Some table) t is = (table, refl, points-from (word_at words va level table) t is)

  pub leads-after : (n i t : ℕ) → i + n ≡ top_level scheme → table_after scheme words root va n ≡ Some t → Leads scheme words root va i t (word_at words va i t)
  leads-after zero i t at is =
      let top : i ≡ top_level scheme = omega arith in
      let same : root ≡ t = cc in
      subst (λ k. Leads scheme words root va k t (word_at words va k t)) (sym top) (subst (λ m. Leads scheme words root va (top_level scheme) m (word_at words va (top_level scheme) m)) same (leads-start scheme words root va))
  leads-after (suc n) i t at is =
      let level : top_level scheme - n ≡ i + 1 = omega arith in
      let next = next-from (top_level scheme - n) (table_after scheme words root va n) t is in
      let above : Leads scheme words root va (i + 1) next.0 (word_at words va (i + 1) next.0) = leads-after n (i + 1) next.0 (omega arith) next.1 in
      let point : PointsTo (word_at words va (i + 1) next.0) t = subst (λ k. PointsTo (word_at words va k next.0) t) level next.2 in
      leads-below scheme words root va i next.0 point.entry t point.global (subst (Leads scheme words root va (i + 1) next.0) point.is above) point.kind

  pub leads_by_pointers : (i t : ℕ) (w : Option ℕ) → Leads scheme words root va i t w ↔ ((i ≤ top_level scheme) × (table_after scheme words root va (top_level scheme - i) ≡ Some t) × (w ≡ word_at words va i t))
  leads_by_pointers i t w = (
    (λ path. (path.level, after-leads (top_level scheme - i) i t w (omega (arith, path.level)) path ∙ ap Some path.last, path.here)),
    (λ h. let level = h.0 in subst (Leads scheme words root va i t) (sym h.2) (leads-after (top_level scheme - i) i t (omega arith) h.1)),
  )
