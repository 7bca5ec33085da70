-- Where the path of an edit ends, as a table on the path of a place.
use Rattle.std.proofs.Common.{◌≡◌, ℕ, zero, suc, ◌+◌, ◌-◌, ◌<◌, ◌≤◌, Bool, Option, Some, None, ap, sym, ◌∙◌, subst, refl, arith}
use Rattle.std.specs.Prelude.{unwrap_or}
use Rattle.pte.specs.declared.entry.Kind.{Kind}
use Rattle.pte.specs.declared.entry.Kind.TheVariants as kinds
use Rattle.pte.specs.Entry.{kind_of}
use Rattle.walk.specs.Leads.{Tables, word_at}
use Rattle.walk.specs.Pointers.{next_table}
use Rattle.spaces.specs.declared.wishes.PathEnd.{PathEnd}
use Rattle.spaces.specs.Edits.{end_at, go_on, path_end}
use Rattle.walk.specs.Pointers.{pointed, pointed_kind, table_below}
use Rattle.spaces.proofs.Paths.{below}
use Rattle.spaces.proofs.Trees.{kind-zero}

-- a path may be followed from its second table
pub table_below-front : (words : Tables) (va level table t n : ℕ) → pointed (word_at words va level table) ≡ Some t → table_below words va level table (suc n) ≡ table_below words va (level - 1) t n
table_below-front words va level table t zero e = let same : level - 0 ≡ level = omega arith in ap (λ k. pointed (word_at words va k table)) same ∙ e
table_below-front words va level table t (suc n) e =
    let at : level - suc n ≡ level - 1 - n = omega arith in
    ap (next_table words va (level - suc n)) (table_below-front words va level table t n e)
    ∙ ap (λ k. next_table words va k (table_below words va (level - 1) t n)) at

pub pointed-entry : (o : Option ℕ) (ppn : ℕ) (global : Bool) → kind_of (unwrap_or o 0) ≡ kinds.Table ppn global → pointed o ≡ Some ppn
pointed-entry (Some w) ppn global e = ap pointed_kind e
pointed-entry None ppn global e = let no-table : kinds.Invalid ≡ kinds.Table ppn global = sym kind-zero ∙ e in absurd cc

-- the end of a path from a table of a level, not below the level `lowest`
pub record EndsOn (words : Tables) (va lowest level table : ℕ) (end : PathEnd) : Type 0 where
  pub from : lowest ≤ end.level
  pub to : end.level ≤ level
  pub on : table_below words va level table (level - end.level) ≡ Some end.table
  pub entry : end.entry ≡ unwrap_or (word_at words va end.level end.table) 0
  pub stops : (ppn : ℕ) (global : Bool) → lowest < end.level → kind_of end.entry ≡ kinds.Table ppn global → ⊥

ends-here : (words : Tables) (va lowest level table : ℕ) → lowest ≤ level → ((ppn : ℕ) (global : Bool) → lowest < level → kind_of (end_at words va level table).entry ≡ kinds.Table ppn global → ⊥)
    → EndsOn words va lowest level table (end_at words va level table)
ends-here words va lowest level table from stops = record {
  from = from;
  to = omega arith;
  on = let at : level - level ≡ 0 = omega arith in ap (table_below words va level table) at;
  entry = refl;
  stops = stops;
}

ends-by-kind : (words : Tables) (va lowest n table : ℕ) → ((q : ℕ) → EndsOn words va lowest (lowest + n) q (path_end words va lowest n q))
    → (kind : Kind) → kind_of (end_at words va (lowest + suc n) table).entry ≡ kind
    → EndsOn words va lowest (lowest + suc n) table (go_on kind (path_end words va lowest n) (end_at words va (lowest + suc n) table))
ends-by-kind words va lowest n table below kinds.Invalid is =
    ends-here words va lowest _ table (omega arith) (λ ppn global less kind. let bad : kinds.Invalid ≡ kinds.Table ppn global = sym is ∙ kind in cc)
ends-by-kind words va lowest n table below kinds.Reserved is =
    ends-here words va lowest _ table (omega arith) (λ ppn global less kind. let bad : kinds.Reserved ≡ kinds.Table ppn global = sym is ∙ kind in cc)
ends-by-kind words va lowest n table below (kinds.Leaf q f) is =
    ends-here words va lowest _ table (omega arith) (λ ppn global less kind. let bad : kinds.Leaf q f ≡ kinds.Table ppn global = sym is ∙ kind in cc)
ends-by-kind words va lowest n table below (kinds.Table q g) is =
    let rest = below q in
    let level-below : lowest + suc n - 1 ≡ lowest + n = omega arith in
    record {
      from = rest.from;
      to = omega (arith, rest.to);
      on =
          let steps : lowest + suc n - (path_end words va lowest n q).level ≡ suc (lowest + n - (path_end words va lowest n q).level) = omega (arith, rest.to) in
          ap (table_below words va (lowest + suc n) table) steps
          ∙ table_below-front words va (lowest + suc n) table q (lowest + n - (path_end words va lowest n q).level) (pointed-entry (word_at words va (lowest + suc n) table) q g is)
          ∙ ap (λ k. table_below words va k q (lowest + n - (path_end words va lowest n q).level)) level-below
          ∙ rest.on;
      entry = rest.entry;
      stops = rest.stops;
    }

pub ends-on : (words : Tables) (va lowest n level table : ℕ) → level ≡ lowest + n → EndsOn words va lowest level table (path_end words va lowest n table)
unfolding path_end
ends-on words va lowest zero level table e =
    let at : level ≡ lowest = omega arith in
    subst (λ k. EndsOn words va lowest k table (end_at words va lowest table)) (sym at)
    (ends-here words va lowest lowest table (omega arith) (λ ppn global less kind. absurd (omega arith)))
ends-on words va lowest (suc n) level table e =
    subst (λ k. EndsOn words va lowest k table (go_on (kind_of (end_at words va (lowest + suc n) table).entry) (path_end words va lowest n) (end_at words va (lowest + suc n) table))) (sym e)
    (ends-by-kind words va lowest n table (λ q. ends-on words va lowest n (lowest + n) q refl) (kind_of (end_at words va (lowest + suc n) table).entry) refl)
