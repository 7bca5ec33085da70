-- Paths in a tree: which tables they pass, and that a table is on one path.
use Rattle.std.proofs.Common.{◌≡◌, ℕ, zero, suc, ◌+◌, ◌-◌, ◌<◌, ◌≤◌, ◌⊎◌, Option, Some, None, ap, sym, ◌∙◌, subst, refl, inl, inr, arith}
use Rattle.std.proofs.lemmas.Bool.{cases_lt}
use Rattle.pte.specs.Address.{top_level, vpn_of}
use Rattle.pte.specs.declared.address.TheConstants.{TABLE_LENGTH}
use Rattle.walk.specs.Leads.{Tables, word_at}
use Rattle.walk.specs.Pointers.{next_table}
use Rattle.spaces.specs.declared.places.Place.{Place}
use Rattle.spaces.specs.declared.places.Place.TheVariants.{Space, Kernel}
use Rattle.spaces.specs.Layout.{Layout, HasPlace, home_of, first_window_slot, user_slots}
use Rattle.spaces.specs.Held.{IsLayout}
use Rattle.spaces.specs.Tree.{start_level, start_table, IsIn, table_on, IsAtHome, of_root, of_window, IsSpareFor, IsTop, IsTableOf, IsOwn, IsHome}
use Rattle.spaces.specs.Holders.{Holders}
use Rattle.walk.specs.Pointers.{pointed, table_below}
use Rattle.spaces.proofs.Homes.{spare-home, place-unique, spare-own, window-own}

-- the table above
pub record Above (words : Tables) (va level table n g : ℕ) : Type 0 where
  pub table_above : ℕ
  pub on : table_below words va level table n ≡ Some table_above
  pub points : pointed (word_at words va (level - n) table_above) ≡ Some g

next-inverse : (words : Tables) (va level g : ℕ) (o : Option ℕ) → next_table words va level o ≡ Some g → (t : ℕ) × (o ≡ Some t) × (pointed (word_at words va level t) ≡ Some g)
next-inverse words va level g (Some t) e = (t, refl, e)
next-inverse words va level g None e = absurd (let x : None ≡ Some g = e in cc)

pub above : (words : Tables) (va level table n g : ℕ) → table_below words va level table (suc n) ≡ Some g → Above words va level table n g
above words va level table n g e =
    let u = next-inverse words va (level - n) g (table_below words va level table n) e in
    record { table_above = u.0; on = u.1; points = u.2 }

pub below : (words : Tables) (va level table n t : ℕ) → table_below words va level table n ≡ Some t → table_below words va level table (suc n) ≡ pointed (word_at words va (level - n) t)
below words va level table n t e = ap (next_table words va (level - n)) e

next-same : (words : Tables) (va va' level : ℕ) → vpn_of va level ≡ vpn_of va' level → (o : Option ℕ) → next_table words va level o ≡ next_table words va' level o
next-same words va va' level e None = refl
next-same words va va' level e (Some t) = ap (λ i. pointed (words t i)) e

-- words that point alike lead alike
pub table_below-like : (words words' : Tables) (va level table n : ℕ) → ((t i : ℕ) → pointed (words' t i) ≡ pointed (words t i)) → table_below words' va level table n ≡ table_below words va level table n
table_below-like words words' va level table zero like = refl
table_below-like words words' va level table (suc n) like =
    let rest = table_below-like words words' va level table n like in
    ap (next_table words' va (level - n)) rest
    ∙ by_option (table_below words va level table n)
  where
    by_option : (o : Option ℕ) → next_table words' va (level - n) o ≡ next_table words va (level - n) o
    by_option None = refl
    by_option (Some t) = like t (vpn_of va (level - n))

-- where a table of a path stands
pub record On (l : Layout) (h : ℕ) (holders : Holders) (place : Place) (va n t : ℕ) : Type 0 where
  pub home : IsAtHome l h t
  pub own : IsOwn l t (vpn_of va (start_level l place - n))
  pub from : ((n ≡ 0) × (t ≡ start_table l place va)) ⊎ ((0 < n) × IsSpareFor l h holders place t)

pub vpn-below : (va i : ℕ) → vpn_of va i < TABLE_LENGTH
vpn-below va i = omega arith

pub some-same : (a b : ℕ) → Some a ≡ Some b → a ≡ b
some-same a b e = cc

module _ (l : Layout) (fits : IsLayout l) (words : Tables) (h : ℕ) (holders : Holders) (tree : IsHome l words h holders) where
  on-start : (place : Place) (va t : ℕ) → HasPlace l place → home_of l place ≡ h → IsIn l place va → t ≡ start_table l place va → On l h holders place va 0 t
  on-start (Space s) va t has home within is = record {
    home = of_root s has home is;
    own = λ _. let level : top_level l.scheme - 0 ≡ top_level l.scheme = omega arith in subst (λ k. vpn_of va k < user_slots) (sym level) within;
    from = inl (refl, is);
  }
  on-start Kernel va t has home within is =
      let slot = vpn-below va (top_level l.scheme) in
      let k : vpn_of va (top_level l.scheme) - first_window_slot l < l.window = omega (arith, fits.window) in
      record {
        home = of_window (vpn_of va (top_level l.scheme) - first_window_slot l) k (sym home) is;
        own = subst (λ f. IsOwn l f (vpn_of va (start_level l Kernel - 0))) (sym is) (window-own l _ _ k);
        from = inl (refl, is);
      }

  -- a table of a path is one of the place, and so is what it points to
  pub of-place : (place : Place) (va n t : ℕ) → HasPlace l place → IsIn l place va → On l h holders place va n t → IsTableOf l h holders place t
  of-place place va n t has within o = elim o.from [ inl start ↦ inl (start-top place va t within start.1) | inr u ↦ inr u.1 ]
    where
      start-top : (place : Place) (va t : ℕ) → IsIn l place va → t ≡ start_table l place va → IsTop l place t
      start-top (Space s) va t within is = is
      start-top Kernel va t within is =
          let slot = vpn-below va (top_level l.scheme) in
          (vpn_of va (top_level l.scheme) - first_window_slot l, omega (arith, fits.window), is)

  next : (place : Place) (va n t g : ℕ) → HasPlace l place → On l h holders place va n t → IsIn l place va → pointed (word_at words va (start_level l place - n) t) ≡ Some g
      → IsSpareFor l h holders place g
  next place va n t g has o within points =
      let step = tree.closed t (vpn_of va (start_level l place - n)) g o.home o.own points in
      let same : step.place ≡ place = place-unique l h holders step.place place t step.from (of-place place va n t has within o) step.has has in
      subst (λ p. IsSpareFor l h holders p g) same step.to

  pub on : (place : Place) (va n t : ℕ) → HasPlace l place → home_of l place ≡ h → IsIn l place va → table_on l words place va n ≡ Some t → On l h holders place va n t
  on place va zero t has home within e = on-start place va t has home within (sym (some-same _ _ e))
  on place va (suc n) t has home within e =
      let up = above words va (start_level l place) (start_table l place va) n t e in
      let there = on place va n up.table_above has home within up.on in
      let u = next place va n up.table_above t has there within up.points in
      record {
        home = spare-home l h holders place t u;
        own = subst (λ f. IsOwn l f (vpn_of va (start_level l place - suc n))) (sym u.is) (spare-own l h u.number _);
        from = inr (omega arith, u);
      }

-- two paths to one table are one path as far as it
pub record SamePath (l : Layout) (place place' : Place) (va va' n n' : ℕ) : Type 0 where
  pub same_place : place ≡ place'
  pub same_depth : n ≡ n'
  pub same_vpns : (j : ℕ) → start_level l place < j + n → j ≤ top_level l.scheme → vpn_of va j ≡ vpn_of va' j

module _ (l : Layout) (fits : IsLayout l) where
  -- the topmost tables differ
  same-start : (place place' : Place) (va va' : ℕ) → HasPlace l place → HasPlace l place' → IsIn l place va → IsIn l place' va'
      → start_table l place va ≡ start_table l place' va' → SamePath l place place' va va' 0 0
  same-start (Space s) (Space s') va va' has has' within within' e =
      record { same_place = ap Space (let same : s ≡ s' = omega arith in same); same_depth = refl; same_vpns = λ j more less. absurd (omega arith) }
  same-start (Space s) Kernel va va' has has' within within' e =
      let slot = vpn-below va' (top_level l.scheme) in absurd (omega (arith, fits.window))
  same-start Kernel (Space s) va va' has has' within within' e =
      let slot = vpn-below va (top_level l.scheme) in absurd (omega (arith, fits.window))
  same-start Kernel Kernel va va' has has' within within' e =
      let slots : vpn_of va (top_level l.scheme) ≡ vpn_of va' (top_level l.scheme) = omega arith in
      record {
        same_place = refl;
        same_depth = refl;
        same_vpns = λ j more less. let top : j ≡ top_level l.scheme = omega arith in subst (λ k. vpn_of va k ≡ vpn_of va' k) (sym top) slots;
      }

  start-used : (place : Place) (va h : ℕ) (holders : Holders) (of : Place) (t : ℕ) → HasPlace l place → IsIn l place va → t ≡ start_table l place va → IsSpareFor l h holders of t → ⊥
  start-used (Space s) va h holders of t has within is u = omega (arith, u.is)
  start-used Kernel va h holders of t has within is u = let slot = vpn-below va (top_level l.scheme) in omega (arith, u.is, fits.window)

  module _ (words : Tables) (h : ℕ) (holders : Holders) (tree : IsHome l words h holders) where
    pub same-path : (place place' : Place) (va va' n n' t : ℕ) → HasPlace l place → HasPlace l place' → home_of l place ≡ h → home_of l place' ≡ h
        → IsIn l place va → IsIn l place' va' → table_on l words place va n ≡ Some t → table_on l words place' va' n' ≡ Some t
        → SamePath l place place' va va' n n'
    same-path place place' va va' zero zero t has has' home home' within within' e e' =
        same-start place place' va va' has has' within within' (some-same _ _ e ∙ sym (some-same _ _ e'))
    same-path place place' va va' zero (suc n') t has has' home home' within within' e e' =
        let up = above words va' (start_level l place') (start_table l place' va') n' t e' in
        let there = on l fits words h holders tree place' va' n' up.table_above has' home' within' up.on in
        let step = tree.closed up.table_above _ t there.home there.own up.points in
        absurd (start-used place va h holders step.place t has within (sym (some-same _ _ e)) step.to)
    same-path place place' va va' (suc n) zero t has has' home home' within within' e e' =
        let up = above words va (start_level l place) (start_table l place va) n t e in
        let there = on l fits words h holders tree place va n up.table_above has home within up.on in
        let step = tree.closed up.table_above _ t there.home there.own up.points in
        absurd (start-used place' va' h holders step.place t has' within' (sym (some-same _ _ e')) step.to)
    same-path place place' va va' (suc n) (suc n') t has has' home home' within within' e e' =
        let up = above words va (start_level l place) (start_table l place va) n t e in
        let up' = above words va' (start_level l place') (start_table l place' va') n' t e' in
        let there = on l fits words h holders tree place va n up.table_above has home within up.on in
        let there' = on l fits words h holders tree place' va' n' up'.table_above has' home' within' up'.on in
        let one = tree.once up.table_above _ up'.table_above _ t there.home there'.home there.own there'.own up.points up'.points in
        let same = same-path place place' va va' n n' up.table_above has has' home home' within within' up.on (up'.on ∙ ap Some (sym one.0)) in
        let level : start_level l place - n ≡ start_level l place' - n' = ap (λ p. start_level l p - n) same.same_place ∙ ap (λ m. start_level l place' - m) same.same_depth in
        record {
          same_place = same.same_place;
          same_depth = ap suc same.same_depth;
          same_vpns = λ j more less.
              elim (cases_lt (start_level l place) (j + n)) [
                | inl further ↦ same.same_vpns j further less
                | inr last ↦
                    let at : start_level l place - n ≡ j = omega arith in
                    subst (λ k. vpn_of va k ≡ vpn_of va' k) at (one.1 ∙ ap (vpn_of va') (sym level))
              ];
        }

  -- addresses with the same indices above a level have one path down to it
  pub paths-agree : (words : Tables) (place : Place) (va va' n : ℕ) → n ≤ start_level l place → start_level l place ≤ top_level l.scheme
      → ((j : ℕ) → start_level l place < j + n → j ≤ top_level l.scheme → vpn_of va j ≡ vpn_of va' j)
      → start_table l place va ≡ start_table l place va' → table_on l words place va n ≡ table_on l words place va' n
  paths-agree words place va va' zero deep top same start = ap Some start
  paths-agree words place va va' (suc n) deep top same start =
      let rest = paths-agree words place va va' n (omega arith) top (λ j more less. same j (omega arith) less) start in
      let at : vpn_of va (start_level l place - n) ≡ vpn_of va' (start_level l place - n) = same (start_level l place - n) (omega arith) (omega arith) in
      ap (next_table words va (start_level l place - n)) rest ∙ next-same words va va' (start_level l place - n) at (table_on l words place va' n)
