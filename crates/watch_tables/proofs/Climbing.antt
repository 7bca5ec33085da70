-- The ways to a table, found from the table up.
use Rattle.std.proofs.Common.{◌≡◌, ℕ, true, false, ◌+◌, ◌-◌, ◌*◌, ◌/◌, ◌%◌, ◌^◌, ◌<◌, ◌≤◌, ◌⊎◌, Some, List, [], ◌∷◌, ◌++◌, ap, sym, ◌∙◌, subst, refl, inl, inr, mod-lt, arith}
use Rattle.std.specs.Prelude.{◌==◌}
use Rattle.std.specs.List.{Contains}
use Rattle.std.proofs.lemmas.Bool.{cases_lt, eqb-true, or_cases, or_left, or_right}
use Rattle.std.proofs.lemmas.List.Elements.{Contains-push_cases}
use Rattle.std.proofs.lemmas.Nat.{div-mul-add, mod-mul-add, mod-pow-add, mul-add-lt, pow-add, pow_pos, shr-shr}
use Rattle.pte.specs.declared.scheme.Scheme.{Scheme}
use Rattle.pte.specs.Address.{level_bytes, top_level, vpn_of}
use Rattle.pte.specs.Entry.{is_global}
use Rattle.pte.proofs.EntryKinds.{Table-global}
use Rattle.walk.specs.Leads.{Tables, word_at, Leads, IsGlobalAt, PointsTo}
use Rattle.walk.proofs.Paths.{leads-start, leads_down, leads_up, global-above, global-cases, none_above}
use Rattle.watch_tables.specs.declared.way.Way.{Way}
use Rattle.watch_tables.specs.declared.pointers.Pointer.{Pointer}
use Rattle.watch_tables.specs.Words.{word_number}
use Rattle.watch_tables.specs.Pointers.{has_number}
use Rattle.watch_tables.specs.Paths.{IsPathSince}
use Rattle.watch_tables.specs.Ways.{HasWay, IsWay, vpn_from, way_to}
use Rattle.watch_tables.specs.Climbs.{ComesTo, HasWayBy, IsPointer, IsWayDown, vpn_between, way_by}
use Rattle.watch_tables.proofs.PathSince.{later-le, since-here, since-top}

-- the VPNs up to one level more
between-split : (level height va : ℕ) → level ≤ height → vpn_between level (height + 1) va ≡ vpn_of va (height + 1) * 2 ^ (9 * (height - level)) + vpn_between level height va
between-split level height va le =
    let here : ℕ = va / level_bytes (level + 1) in
    let rows : ℕ = 9 * (height - level) in
    let whole : 9 * (height + 1 - level) ≡ 9 + rows = omega arith in
    let up : 12 + 9 * (level + 1) + rows ≡ 12 + 9 * (height + 1) = omega arith in
    ap (λ k. here % 2 ^ k) whole ∙ mod-pow-add here 9 rows ∙ ap (λ q. q % 512 * 2 ^ rows + here % 2 ^ rows) (shr-shr va (12 + 9 * (level + 1)) rows ∙ ap (λ k. va / 2 ^ k) up)

-- a number has one row and one column
row-is : (a b w r s : ℕ) → r < w → s < w → a * w + r ≡ b * w + s → a ≡ b
row-is a b w r s small_r small_s same = sym (div-mul-add a w r small_r) ∙ ap (λ n. n / w) same ∙ div-mul-add b w s small_s

column-is : (a b w r s : ℕ) → r < w → s < w → a * w + r ≡ b * w + s → r ≡ s
column-is a b w r s small_r small_s same = sym (mod-mul-add a w r small_r) ∙ ap (λ n. n % w) same ∙ mod-mul-add b w s small_s

module _ (scheme : Scheme) (words : Tables) (since : ℕ → ℕ → ℕ) (height : ℕ) (way : Way) (down : IsWayDown scheme words since height way) where
  digits-below : (va : ℕ) → vpn_between way.level height va < 2 ^ (9 * (height - way.level))
  digits-below va = mod-lt (va / level_bytes (way.level + 1)) (pow_pos (9 * (height - way.level)))

  -- with a pointer to its first table above it, it is a way down again
  module _ (pointer : Pointer) (points : IsPointer words since way.root pointer) where
    comes-down : (root va : ℕ) → ComesTo scheme words root va (height + 1) (way_by way height pointer) → (vpn_of va (height + 1) ≡ pointer.number % 512) × ComesTo scheme words root va height way
    comes-down root va comes =
        let split : vpn_of va (height + 1) * 2 ^ (9 * (height - way.level)) + vpn_between way.level height va ≡ pointer.number % 512 * 2 ^ (9 * (height - way.level)) + way.vpn =
        sym (between-split way.level height va down.level) ∙ comes.vpn
        in
        let asked : vpn_of va (height + 1) ≡ pointer.number % 512 = row-is _ _ (2 ^ (9 * (height - way.level))) _ _ (digits-below va) down.vpn split in
        let below : vpn_between way.level height va ≡ way.vpn = column-is _ _ (2 ^ (9 * (height - way.level))) _ _ (digits-below va) down.vpn split in
        let word : word_at words va (height + 1) (pointer.number / 512) ≡ Some points.entry = ap (words (pointer.number / 512)) asked ∙ points.is in
        (asked, record { vpn = below; leads = leads_down scheme words root va height (pointer.number / 512) way.root _ comes.leads (record { entry = points.entry; global = pointer.global; is = word; kind = points.kind }) })

    pub comes-up : (root va t : ℕ) → ComesTo scheme words root va height way → Leads scheme words root va (height + 1) t (word_at words va (height + 1) t) → word_number t (vpn_of va (height + 1)) ≡ pointer.number
        → ComesTo scheme words root va (height + 1) (way_by way height pointer)
    comes-up root va t comes path number =
        let table : t ≡ pointer.number / 512 = omega arith in
        let asked : vpn_of va (height + 1) ≡ pointer.number % 512 = omega arith in
        record {
          vpn = between-split way.level height va down.level ∙ ap (λ v. vpn_of va (height + 1) * 2 ^ (9 * (height - way.level)) + v) comes.vpn ∙ ap (λ i. i * 2 ^ (9 * (height - way.level)) + way.vpn) asked;
          leads = subst (λ u. Leads scheme words root va (height + 1) u (word_at words va (height + 1) u)) table path;
        }

    pub way-down-by : height < top_level scheme → IsWayDown scheme words since (height + 1) (way_by way height pointer)
    way-down-by lower = record {
      level = let le = down.level in omega arith;
      of_scheme = omega arith;
      vpn =
          let less = mul-add-lt (pointer.number % 512) (2 ^ (9 * (height - way.level))) way.vpn 512 (omega arith) down.vpn in
          let le = down.level in
          let rows : 9 * (height + 1 - way.level) ≡ 9 * (height - way.level) + 9 = omega arith in
          subst (λ k. pointer.number % 512 * 2 ^ (9 * (height - way.level)) + way.vpn < 2 ^ k) (sym rows) (subst (λ w. pointer.number % 512 * 2 ^ (9 * (height - way.level)) + way.vpn < w) (sym (pow-add 2 (9 * (height - way.level)) 9)) less);
      leads = λ root va comes. down.leads root va (comes-down root va comes).1;
      global = λ root va comes.
          let known = comes-down root va comes in
          let below = down.global root va known.1 in
          let word : word_at words va (height + 1) (pointer.number / 512) ≡ Some points.entry = ap (words (pointer.number / 512)) known.0 ∙ points.is in
          let g : pointer.global ≡ is_global points.entry = sym (Table-global points.entry way.root pointer.global points.kind) in (
            (λ at. elim (below.0 at) [
              | inl on ↦ inl (or_left way.at.global pointer.global on)
              | inr above ↦
                  elim (global-cases scheme words root va (height + 1) (pointer.number / 512) (word_at words va (height + 1) (pointer.number / 512)) comes.leads above) [
                    | inl more ↦ inr more
                    | inr here ↦ let same : points.entry ≡ above.entry = let e : Some points.entry ≡ Some above.entry = sym word ∙ here in cc in inl (or_right way.at.global pointer.global (g ∙ ap is_global same ∙ above.global))
                  ]
            ]),
            (λ either. below.1 (elim either [
              | inr more ↦ inr (global-above scheme words root va (height + 1) more)
              | inl on ↦
                  elim (or_cases way.at.global pointer.global on) [
                    | inl lower_one ↦ inl lower_one
                    | inr here ↦ inr (record { level = height + 1; table = pointer.number / 512; entry = points.entry; from = omega arith; leads = subst (Leads scheme words root va (height + 1) (pointer.number / 512)) word comes.leads; global = sym g ∙ here })
                  ]
            ])),
          );
      since_is = λ root va n comes.
          let known = comes-down root va comes in
          let below = down.since_is root va n known.1 in
          let here = since-here scheme words since root va (height + 1) (pointer.number / 512) comes.leads n in
          let age : since (pointer.number / 512) (vpn_of va (height + 1)) ≡ pointer.since = ap (since (pointer.number / 512)) known.0 ∙ points.since_is in
          let le = later-le way.since pointer.since n in (
            (λ all.
                let lower_part = below.0 all in
                let upper_part = here.0 lower_part.1 in
                (le.1 (lower_part.0, subst (λ s. s ≤ n) age upper_part.0), upper_part.1)),
            (λ both.
                let ages = le.0 both.0 in
                below.1 (ages.0, here.1 (subst (λ s. s ≤ n) (sym age) ages.1, both.1))),
          );
    }

pub has-more : (old new : List Way) (root level vpn : ℕ) → ((w : Way) → Contains old w → Contains new w) → HasWay old root level vpn → HasWay new root level vpn
has-more old new root level vpn more has = record { way = has.way; among = more has.way has.among; root_is = has.root_is; level_is = has.level_is; vpn_is = has.vpn_is }

-- from the root down it is a way
module _ (scheme : Scheme) (words : Tables) (since : ℕ → ℕ → ℕ) (height : ℕ) (way : Way) (down : IsWayDown scheme words since height way) (top : height ≡ top_level scheme) where
  exponents : 9 * (height - way.level) ≡ 9 * (top_level scheme + 1 - (way.level + 1))
  exponents = omega arith

  comes-at-root : (va : ℕ) → vpn_from scheme (way.level + 1) va ≡ way.vpn → ComesTo scheme words way.root va height way
  comes-at-root va same = record {
    vpn = ap (λ k. va / level_bytes (way.level + 1) % 2 ^ k) exponents ∙ same;
    leads = subst (λ k. Leads scheme words way.root va k way.root (word_at words va k way.root)) (sym top) (leads-start scheme words way.root va);
  }

  no-global-above : (root va : ℕ) → IsGlobalAt scheme words root va (height + 1) → ⊥
  no-global-above root va g = none_above scheme words root va (subst (λ k. IsGlobalAt scheme words root va (k + 1)) top g)

  pub way-from-root : IsWay scheme words since way
  way-from-root = record {
    levels = record {
      level = let le = down.level in omega arith;
      vpn = subst (λ k. way.vpn < 2 ^ (9 * (k - way.level))) top down.vpn;
    };
    reached = λ va same.
        let comes = comes-at-root va same in
        let g = down.global way.root va comes in
        record {
          leads = down.leads way.root va comes;
          global = (
            (λ on. g.1 (inl on)),
            (λ at. elim (g.0 at) [
              | inl on ↦ on
              | inr above ↦ absurd (no-global-above way.root va above)
            ]),
          );
        };
    since_is = λ va n same.
        let s = down.since_is way.root va n (comes-at-root va same) in (
          (λ le. s.1 (le, subst (λ k. IsPathSince scheme words since way.root va (k + 1) n) (sym top) (since-top scheme words since way.root va n))),
          (λ all. (s.0 all).0),
        );
  }

  -- and it is the one by which an address comes to its first table
  pub way-of-root : (ways : List Way) → Contains ways way → (root va : ℕ) → ComesTo scheme words root va height way → HasWayBy scheme ways way root va
  way-of-root ways among root va comes = record {
    way = way;
    among = among;
    root_is = (let path = comes.leads in sym path.last ∙ ap path.tables top ∙ path.first);
    level_is = refl;
    vpn_is = sym comes.vpn ∙ ap (λ k. va / level_bytes (way.level + 1) % 2 ^ k) exponents;
  }

-- each address that comes to the first table comes by a pointer that is left, or has its way
abbrev pub EachBut : Scheme → Tables → ℕ → Way → List (ℕ × ℕ) → List Way → Type 0
EachBut scheme words height way left ways = (root va t : ℕ) → ComesTo scheme words root va height way → Leads scheme words root va (height + 1) t (word_at words va (height + 1) t)
    → PointsTo (word_at words va (height + 1) t) way.root → (has_number left (word_number t (vpn_of va (height + 1))) ≡ true) ⊎ HasWayBy scheme ways way root va

-- what is added by all pointers but those that are left
module _ (scheme : Scheme) (words : Tables) (since : ℕ → ℕ → ℕ) (height : ℕ) (way : Way) (down : IsWayDown scheme words since height way) where
  abbrev pub AreSound : List Way → List Way → Type 0
  AreSound first ways = (w : Way) → Contains ways w → Contains first w ⊎ (IsWay scheme words since w × (w.at.table ≡ way.at.table))

  pub sound-on : (first old new : List Way) → AreSound first old → ((w : Way) → Contains new w → Contains old w ⊎ (IsWay scheme words since w × (w.at.table ≡ way.at.table))) → AreSound first new
  sound-on first old new before more w has =
      elim (more w has) [
        | inl there ↦ before w there
        | inr is ↦ inr is
      ]

  module _ (pair : ℕ × ℕ) (left all : List (ℕ × ℕ)) (first : all ≡ pair ∷ left) (old : List Way) (each : EachBut scheme words height way all old) where
    now-or-later : (root va t : ℕ) → ComesTo scheme words root va height way → Leads scheme words root va (height + 1) t (word_at words va (height + 1) t)
        → PointsTo (word_at words va (height + 1) t) way.root → (word_number t (vpn_of va (height + 1)) ≡ pair.1) ⊎ ((has_number left (word_number t (vpn_of va (height + 1))) ≡ true) ⊎ HasWayBy scheme old way root va)
    now-or-later root va t comes path point =
        elim (each root va t comes path point) [
          | inl has ↦
              elim (or_cases (pair.1 == word_number t (vpn_of va (height + 1))) (has_number left (word_number t (vpn_of va (height + 1)))) (subst (λ l. has_number l (word_number t (vpn_of va (height + 1))) ≡ true) first has)) [
                | inl same ↦ inl (sym (eqb-true pair.1 (word_number t (vpn_of va (height + 1))) same))
                | inr later ↦ inr (inl later)
              ]
          | inr there ↦ inr (inr there)
        ]

    pub each-on : (pointer : Pointer) → IsPointer words since way.root pointer → pointer.number ≡ pair.1 → (new : List Way) → ((w : Way) → Contains old w → Contains new w)
        → ((root va : ℕ) → ComesTo scheme words root va (height + 1) (way_by way height pointer) → HasWayBy scheme new (way_by way height pointer) root va)
        → EachBut scheme words height way left new
    each-on pointer points number new more by root va t comes path point =
        elim (now-or-later root va t comes path point) [
          | inl same ↦ inr (by root va (comes-up scheme words since height way down pointer points root va t comes path (same ∙ sym number)))
          | inr either ↦
              elim either [
                | inl later ↦ inl later
                | inr there ↦ inr (has-more old new root way.level _ more there)
              ]
        ]

    pub each-past : ((t i : ℕ) → word_number t i ≡ pair.1 → PointsTo (words t i) way.root → ⊥) → EachBut scheme words height way left old
    each-past none root va t comes path point =
        elim (now-or-later root va t comes path point) [
          | inl same ↦ absurd (none t (vpn_of va (height + 1)) same point)
          | inr either ↦ either
        ]

  -- each address that comes to the first table comes by one of its pointers
  pub each-of-all : height < top_level scheme → (ways : List Way) (left : List (ℕ × ℕ)) → left ≡ [] → EachBut scheme words height way left ways
      → (root va : ℕ) → ComesTo scheme words root va height way → HasWayBy scheme ways way root va
  each-of-all lower ways left none each root va comes =
      let up = leads_up scheme words root va height way.root (word_at words va height way.root) lower comes.leads in
      let path = up.2 in
      let word : up.1 ≡ word_at words va (height + 1) up.0 = path.here in
      let here : Leads scheme words root va (height + 1) up.0 (word_at words va (height + 1) up.0) = subst (Leads scheme words root va (height + 1) up.0) word path in
      let point : PointsTo (word_at words va (height + 1) up.0) way.root = subst (λ o. PointsTo o way.root) word up.3 in
      elim (each root va up.0 comes here point) [
        | inl has ↦ let never : false ≡ true = subst (λ l. has_number l (word_number up.0 (vpn_of va (height + 1))) ≡ true) none has in absurd (cc)
        | inr there ↦ there
      ]

-- a way that is pushed
pub pushed-sound : (scheme : Scheme) (words : Tables) (since : ℕ → ℕ → ℕ) (height : ℕ) (way : Way) → IsWayDown scheme words since height way → height ≡ top_level scheme → (old new : List Way) → new ≡ old ++ way ∷ []
    → (w : Way) → Contains new w → Contains old w ⊎ (IsWay scheme words since w × (w.at.table ≡ way.at.table))
pushed-sound scheme words since height way down top old new pushed w has =
    elim (Contains-push_cases old way w (subst (λ (l : List Way). Contains l w) pushed has)) [
      | inl before ↦ inl before
      | inr same ↦ inr (subst (λ (x : Way). IsWay scheme words since x × (x.at.table ≡ way.at.table)) same (way-from-root scheme words since height way down top, refl))
    ]

-- each way to a table begins with the one from it to itself
pub starts : (scheme : Scheme) (words : Tables) (since : ℕ → ℕ → ℕ) (table level : ℕ) → level ≤ top_level scheme → IsWayDown scheme words since level (way_to table level)
starts scheme words since table level le = record {
  level = omega arith;
  of_scheme = le;
  vpn = pow_pos (9 * (level - level));
  leads = λ root va comes. comes.leads;
  global = λ root va comes. (
    (λ g. inr g),
    (λ either. elim either [
      | inl never ↦ absurd (cc)
      | inr g ↦ g
    ]),
  );
  since_is = λ root va n comes. ((λ all. (omega arith, all)), (λ both. both.1));
}

pub comes-to : (scheme : Scheme) (words : Tables) (table root va level : ℕ) → Leads scheme words root va level table (word_at words va level table) → ComesTo scheme words root va level (way_to table level)
comes-to scheme words table root va level path =
    let none : 9 * (level - level) ≡ 0 = omega arith in
    let one : (n : ℕ) → n % 2 ^ 0 ≡ 0 = λ n. omega arith in
    record { vpn = ap (λ k. va / level_bytes (level + 1) % 2 ^ k) none ∙ one (va / level_bytes (level + 1)); leads = path }

-- the ways of one level more
module _ (scheme : Scheme) (words : Tables) (since : ℕ → ℕ → ℕ) (table level : ℕ) (old new : List Way) where
  pub sound-level : ((w : Way) → Contains old w → IsWay scheme words since w × (w.at.table ≡ table)) → ((w : Way) → Contains new w → Contains old w ⊎ (IsWay scheme words since w × (w.at.table ≡ table)))
      → (w : Way) → Contains new w → IsWay scheme words since w × (w.at.table ≡ table)
  sound-level before more w has =
      elim (more w has) [
        | inl there ↦ before w there
        | inr is ↦ is
      ]

  pub each-level : ((root va at : ℕ) → at < level → Leads scheme words root va at table (word_at words va at table) → HasWay old root at (vpn_from scheme (at + 1) va)) → ((w : Way) → Contains old w → Contains new w)
      → ((root va : ℕ) → ComesTo scheme words root va level (way_to table level) → HasWayBy scheme new (way_to table level) root va)
      → (root va at : ℕ) → at < level + 1 → Leads scheme words root va at table (word_at words va at table) → HasWay new root at (vpn_from scheme (at + 1) va)
  each-level before more by root va at less path =
      elim (cases_lt at level) [
        | inl lower ↦ has-more old new root at _ more (before root va at lower path)
        | inr here ↦
            let same : at ≡ level = omega arith in
            let there : Leads scheme words root va level table (word_at words va level table) = subst (λ k. Leads scheme words root va k table (word_at words va k table)) same path in
            subst (λ k. HasWay new root k (vpn_from scheme (k + 1) va)) (sym same) (by root va (comes-to scheme words table root va level there))
      ]
