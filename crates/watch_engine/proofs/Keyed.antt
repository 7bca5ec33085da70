-- What is found by which keys.
use Rattle.std.proofs.Common.{◌≡◌, ℕ, Bool, true, false, ◌+◌, ◌-◌, ◌/◌, ◌%◌, ◌^◌, ◌<◌, ◌≤◌, ap, sym, subst, refl, ◌∙◌, arith, inl, inr}
use Rattle.std.specs.Prelude.{Option, Some, None, ◌==◌, ◌&&◌, ◌||◌, if◌then◌else◌, nat_le, nat_lt}
use Rattle.std.proofs.lemmas.Bool.{and_parts, cases_Bool, eqb-true, true≢false}
use Rattle.std.proofs.lemmas.Bool.Decides.{nat_tests}
use Rattle.pte.specs.declared.scheme.Scheme.{Scheme}
use Rattle.pte.specs.Address.{Span, bytes_of, holds, is_canonical, level_bytes, level_of, level_pages, pages_of}
use Rattle.tlb.specs.declared.store.Entry.{Entry}
use Rattle.tlb.specs.Fence.{is_fenced, is_of_address, is_of_space}
use Rattle.watch.specs.declared.trace.AddressRange.{AddressRange}
use Rattle.watch.specs.declared.trace.Frames.{Frames}
use Rattle.watch.specs.declared.trace.Space.{Space}
use Rattle.watch.specs.Holding.{reaches}
use Rattle.watch_engine.specs.declared.held.Held.{Held}
use Rattle.watch_engine.specs.declared.keys.By.TheVariants.{Frame, Page}
use Rattle.watch_engine.specs.declared.keys.Keys.{Keys}
use Rattle.watch.specs.declared.trace.Verdict.TheVariants.{Claimed, Free}
use Rattle.watch_engine.specs.Held.{is_given, is_served_in, is_used_by, shares}
use Rattle.watch_engine.specs.Keys.{IsAmong, frame_key, key_at, page_key}
use Rattle.watch_engine.proofs.Lists.{within}

-- the first keys are of pages
pub small_at : (keys : Keys) (n : ℕ) → n < keys.count → key_at keys n ≡ (keys.first + n) % keys.limit
small_at keys n h =
    let below : nat_lt n keys.count ≡ true = grind (arith, nat_tests) in
    ap (λ (b : Bool). if b then (keys.first + n) % keys.limit else keys.limit + 1 + (keys.first / 512 + (n - keys.count)) % 2 ^ 18) below

-- those behind them of megapages
mega_at : (keys : Keys) (n : ℕ) → key_at keys (keys.count + n) ≡ keys.limit + 1 + (keys.first / 512 + n) % 2 ^ 18
mega_at keys n =
    let behind : nat_lt (keys.count + n) keys.count ≡ false = grind (arith, nat_tests) in
    let rest : keys.count + n - keys.count ≡ n = omega arith in
    ap (λ (b : Bool). if b then (keys.first + (keys.count + n)) % keys.limit else keys.limit + 1 + (keys.first / 512 + (keys.count + n - keys.count)) % 2 ^ 18) behind
    ∙ ap (λ (m : ℕ). keys.limit + 1 + (keys.first / 512 + m) % 2 ^ 18) rest

among_small : (keys : Keys) (key n : ℕ) → n < keys.count → key ≡ (keys.first + n) % keys.limit → IsAmong keys key
among_small keys key n h is = inl (n, omega arith, is ∙ sym (small_at keys n h))

among_mega : (keys : Keys) (key n : ℕ) → n < keys.megapages → key ≡ keys.limit + 1 + (keys.first / 512 + n) % 2 ^ 18 → IsAmong keys key
among_mega keys key n h is = inl (keys.count + n, omega arith, is ∙ sym (mega_at keys n))

-- the key of a page as its two tests tell it
abbrev chosen : Span → Bool → Bool → ℕ
chosen page small mega =
    if small then page.base / 4096 % 2 ^ 27 else (if mega then 2 ^ 27 + 1 + page.base / 2097152 % 2 ^ 18 else 2 ^ 27)

-- a page of 4 KiB has the key of its number, and so has a megapage
pub page_among : (page : Span) (keys : Keys) → keys.limit ≡ 2 ^ 27
    → (level_of page.size ≡ 0 → page.base % 4096 ≡ 0 → (n : ℕ) × (n < keys.count) × (page.base / 4096 ≡ keys.first + n))
    → (level_of page.size ≡ 1 → page.base % 2097152 ≡ 0 → (n : ℕ) × (n < keys.megapages) × (page.base / 2097152 ≡ keys.first / 512 + n))
    → IsAmong keys (page_key page)
page_among page keys limit of_small of_mega =
    let small : Bool = (level_of page.size == 0) && (page.base % 4096 == 0) in
    let mega : Bool = (level_of page.size == 1) && (page.base % 2097152 == 0) in
    elim (cases_Bool ((level_of page.size == 0) && (page.base % 4096 == 0))) [
      | inl is ↦
          (let p = and_parts (level_of page.size == 0) (page.base % 4096 == 0) is in
          let k = of_small (eqb-true _ _ p.0) (eqb-true _ _ p.1) in
          among_small keys (page_key page) k.0 k.1 (ap (λ (b : Bool). chosen page b mega) is ∙ (λ j. k.2 j % sym limit j)))
      | inr not_small ↦
          elim (cases_Bool ((level_of page.size == 1) && (page.base % 2097152 == 0))) [
            | inl is ↦
                (let p = and_parts (level_of page.size == 1) (page.base % 2097152 == 0) is in
                let k = of_mega (eqb-true _ _ p.0) (eqb-true _ _ p.1) in
                among_mega keys (page_key page) k.0 k.1 ((λ j. chosen page (not_small j) (is j)) ∙ (λ j. sym limit j + 1 + k.2 j % 2 ^ 18)))
            | inr larger ↦ inr ((λ j. chosen page (not_small j) (larger j)) ∙ sym limit)
          ]
    ]

pub shared_among : (frames : Frames) (e : Entry) (keys : Keys) → keys ≡ record { by = Frame; first = frames.first % 2 ^ 52; count = frames.count; limit = 2 ^ 52; megapages = 0 }
    → shares frames e ≡ true → IsAmong keys (frame_key e)
shared_among frames e keys are shared =
    let p = and_parts (nat_lt frames.first (e.ppn + pages_of e.page.size)) _ shared in
    let q = and_parts (nat_lt e.ppn (frames.first + frames.count)) _ p.1 in
    let before : frames.first < e.ppn + pages_of e.page.size = within _ _ p.0 in
    let after : e.ppn < frames.first + frames.count = within _ _ q.0 in
    let these : Keys = record { by = Frame; first = frames.first % 2 ^ 52; count = frames.count; limit = 2 ^ 52; megapages = 0 } in
    subst (λ (k : Keys). IsAmong k (frame_key e)) (sym are) (elim (cases_Bool (level_of e.page.size == 0)) [
      | inl small ↦
          (let one : pages_of e.page.size ≡ 1 = ap level_pages (eqb-true _ _ small) in
          let from : frames.first ≤ e.ppn = omega arith in
          among_small these (frame_key e) (e.ppn - frames.first) (omega arith) (ap (λ (b : Bool). if b then e.ppn % 2 ^ 52 else 2 ^ 52) small ∙ omega arith))
      | inr large ↦ inr (ap (λ (b : Bool). if b then e.ppn % 2 ^ 52 else 2 ^ 52) large)
    ])

-- the keys of pages from a number on
abbrev pub pages_from : ℕ → ℕ → Keys
pages_from first count = record { by = Page; first = first; count = count; limit = 2 ^ 27; megapages = (first % 512 + count + 511) / 512 }

pub reached_among : (range : AddressRange) (page : Span) → reaches (Some range) page ≡ true
    → IsAmong (pages_from (range.start / 4096) ((range.start % 4096 + range.size + 4095) / 4096)) (page_key page)
reached_among range page reached =
    let p = and_parts (nat_lt 0 range.size) _ reached in
    let q = and_parts (nat_lt range.start (page.base + bytes_of page.size)) _ p.1 in
    let some : 0 < range.size = within _ _ p.0 in
    let before : range.start < page.base + bytes_of page.size = within _ _ q.0 in
    let after : page.base < range.start + range.size = within _ _ q.1 in
    page_among page (pages_from (range.start / 4096) ((range.start % 4096 + range.size + 4095) / 4096)) refl
    (λ small aligned.
    let one : bytes_of page.size ≡ 4096 = ap level_bytes small in
    let from : range.start / 4096 ≤ page.base / 4096 = omega arith in
    (page.base / 4096 - range.start / 4096, omega arith, omega arith))
    (λ mega aligned.
    let one : bytes_of page.size ≡ 2097152 = ap level_bytes mega in
    let from : range.start / 4096 / 512 ≤ page.base / 2097152 = omega arith in
    (page.base / 2097152 - range.start / 4096 / 512, omega arith, omega arith))

-- a page that has an address is among the pages from that of the address on
held_among : (va : ℕ) (page : Span) → holds page va ≡ true → IsAmong (pages_from (va / 4096) 1) (page_key page)
held_among va page held =
    let p = and_parts (nat_le page.base va) (nat_lt va (page.base + bytes_of page.size)) held in
    let low : page.base ≤ va = grind (arith, nat_tests) in
    let high : va < page.base + bytes_of page.size = grind (arith, nat_tests) in
    page_among page (pages_from (va / 4096) 1) refl
    (λ small aligned.
    let one : bytes_of page.size ≡ 4096 = ap level_bytes small in
    (0, omega arith, omega arith))
    (λ mega aligned.
    let one : bytes_of page.size ≡ 2097152 = ap level_bytes mega in
    (0, omega arith, omega arith))

pub fenced_among : (scheme : Scheme) (va : ℕ) (rs2 : Option ℕ) (e : Entry) → is_fenced scheme (Some va) rs2 e ≡ true → IsAmong (pages_from (va / 4096) 1) (page_key e.page)
fenced_among scheme va None e is = held_among va e.page (and_parts (is_canonical scheme va) (holds e.page va) is).1
fenced_among scheme va (Some rs2) e is =
    let of = and_parts (is_of_address scheme va e) (is_of_space rs2 e) is in
    held_among va e.page (and_parts (is_canonical scheme va) (holds e.page va) of.0).1

served_among : (space : Option Space) (address : ℕ) (i : Held) → is_served_in space address i ≡ true → IsAmong (pages_from (address / 4096) 1) (page_key i.entry.page)
served_among None address i is = absurd (true≢false (sym is))
served_among (Some space) address i is = held_among address i.entry.page (and_parts (holds i.entry.page address) _ is).0

pub used_among : (hart : ℕ) (space : Option Space) (address : ℕ) (i : Held) → is_used_by hart space address i ≡ true → IsAmong (pages_from (address / 4096) 1) (page_key i.entry.page)
used_among hart space address i is =
    served_among space address i (and_parts (is_given Free i || is_given Claimed i) _ (and_parts (hart == i.hart) _ is).1).1

pub same_some : (a b : Keys) → Some a ≡ Some b → a ≡ b
same_some a b e = cc
