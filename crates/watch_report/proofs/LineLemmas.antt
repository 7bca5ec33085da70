-- A line in front of a text.
use Rattle.std.proofs.Common.{◌≡◌, ◌≢◌, ℕ, ◌+◌, ◌<◌, Bool, true, false, List, [], ◌∷◌, ◌++◌, All, Option, None, Some, IfSome, cond, eqb, length, take, get_or, refl, sym, ap, subst, ◌∙◌, append_assoc, ne_eqb, eq-eqb, eqb-true, arith, get_or-take, length-take-le}
use Rattle.std.specs.List.{position_or_len}
use Rattle.std.specs.Io.KnownBytes.{Consumes, IsAtEnd, Keeps}
use Rattle.std.specs.Io.BufRead.{take_through, drop_through, DropsThrough}
use Rattle.std.proofs.lemmas.List.{take_more}
use Rattle.std.proofs.lemmas.List.Elements.{All-from_get_or, All-head, All-tail}
use Rattle.std.proofs.lemmas.Bool.{both_ways}
use Rattle.std.proofs.lemmas.List.Sums.{fails_before_first, passes_at_first}
use Rattle.std.proofs.lemmas.List.Splits.{slice_split_at, slice_split_none}
use Rattle.watch_report.specs.Reading.{CutsLine, IsLastUnless, ReadsLine}
use Rattle.watch_report.specs.TraceText.{is_feed, lines_of}

no_feed : (line : List ℕ) → All (λ byte. byte ≢ 10) line → All (λ byte. is_feed byte ≡ false) line
no_feed line h = λ k d less. ne_eqb _ 10 (h k d less)

-- bytes that were read up to a line feed
cut_feed : (bytes line : List ℕ) → bytes ≡ line ++ 10 ∷ [] → All (λ byte. byte ≢ 10) line → CutsLine true bytes line
cut_feed bytes line ends none =
    λ after. ap (λ (b : List ℕ). lines_of (b ++ after)) ends ∙ ap lines_of (append_assoc line (10 ∷ []) after) ∙ slice_split_at is_feed line 10 after (no_feed line none) refl

-- or to the end
cut : (more : Bool) (bytes line : List ℕ) → (more ≡ true → bytes ≡ line ++ 10 ∷ []) → (more ≡ false → line ≡ bytes) → All (λ byte. byte ≢ 10) line → CutsLine more bytes line
cut true bytes line ends whole none = cut_feed bytes line (ends refl) none
cut false bytes line ends whole none = ap lines_of (sym (whole refl)) ∙ slice_split_none is_feed line (no_feed line none)

-- what has no line feed was read to the end
nothing_after_one : (b : Bool) (x : ℕ) (all : List ℕ) → eqb x 10 ≡ b → (All (λ byte. byte ≢ 10) (take_through 10 all) → drop_through 10 all ≡ [])
    → All (λ byte. byte ≢ 10) (cond b (x ∷ []) (x ∷ take_through 10 all)) → cond b all (drop_through 10 all) ≡ []
nothing_after_one true x all e rest h = absurd (All-head (λ byte. byte ≢ 10) x [] h (eqb-true x 10 e))
nothing_after_one false x all e rest h = rest (All-tail (λ byte. byte ≢ 10) x (take_through 10 all) h)

nothing_after : (all : List ℕ) → All (λ byte. byte ≢ 10) (take_through 10 all) → drop_through 10 all ≡ []
nothing_after [] none = refl
nothing_after (x ∷ all) none = nothing_after_one (eqb x 10) x all refl (nothing_after all) none

last : (more : Bool) (left rest : Option (List ℕ)) (bytes line : List ℕ) → (more ≡ false → line ≡ bytes) → All (λ byte. byte ≢ 10) line
    → IfSome left (λ all. bytes ≡ take_through 10 all) → DropsThrough left rest 10 → Consumes left rest bytes → IsLastUnless more left rest
last true left rest bytes line whole none read drops consumed = tt
last false (Some all) rest bytes line whole none read drops consumed =
    subst IsAtEnd (sym (drops ∙ ap Some (nothing_after all (subst (All (λ byte. byte ≢ 10)) (whole refl ∙ read) none)))) refl
last false None rest bytes line whole none read drops consumed = tt

pub reads_line : (more : Bool) (left rest : Option (List ℕ)) (bytes line : List ℕ) → (more ≡ true → bytes ≡ line ++ 10 ∷ []) → (more ≡ false → line ≡ bytes) → All (λ byte. byte ≢ 10) line
    → IfSome left (λ all. bytes ≡ take_through 10 all) → DropsThrough left rest 10 → Consumes left rest bytes → ReadsLine left rest line more
reads_line more left rest bytes line ends whole none read drops consumed =
    record {
      bytes = bytes;
      consumed = consumed;
      cut = cut more bytes line ends whole none;
      last = last more left rest bytes line whole none read drops consumed;
    }

-- a reader that showed its bytes kept them
unknown_last : (more : Bool) (rest : Option (List ℕ)) → IsLastUnless more None rest
unknown_last true rest = tt
unknown_last false rest = tt

pub kept_line : (left mid rest : Option (List ℕ)) (line : List ℕ) (more : Bool) → Keeps left mid → ReadsLine mid rest line more → ReadsLine left rest line more
kept_line None mid rest line more kept read = record { bytes = read.bytes; consumed = tt; cut = read.cut; last = unknown_last more rest }
kept_line (Some all) None rest line more kept read = absurd kept
kept_line (Some all) (Some same) rest line more kept read = subst (λ (l : List ℕ). ReadsLine (Some l) rest line more) kept read

-- the line before the first line feed that a reader shows
pub shown_line : (left rest : Option (List ℕ)) (shown line : List ℕ) (end : ℕ) → end ≡ position_or_len is_feed shown → end < length shown → line ≡ take end shown → Consumes left rest (take (end + 1) shown)
    → ReadsLine left rest line true
shown_line left rest shown line end first less is consumed =
    let long : length (take end shown) ≡ end = length-take-le end shown (omega (arith, less)) in
    let none : All (λ byte. byte ≢ 10) (take end shown) =
    All-from_get_or (λ byte. byte ≢ 10) (take end shown) 0 (λ i within feed.
    let before : i < end = omega (arith, within, long) in
    let none : is_feed (get_or shown i 0) ≡ false = fails_before_first is_feed shown i 0 (omega (arith, before, first)) in
    both_ways _ none (eq-eqb _ 10 (sym (get_or-take end shown i 0 before) ∙ feed))) in
    let feed : is_feed (get_or shown end 0) ≡ true = subst (λ n. is_feed (get_or shown n 0) ≡ true) (sym first) (passes_at_first is_feed shown 0 (omega (arith, less, first))) in
    let ends : take (end + 1) shown ≡ line ++ 10 ∷ [] =
    take_more shown end 0 less ∙ ap (λ byte. take end shown ++ byte ∷ []) (eqb-true (get_or shown end 0) 10 feed) ∙ ap (λ (l : List ℕ). l ++ 10 ∷ []) (sym is) in
    record {
      bytes = take (end + 1) shown;
      consumed = consumed;
      cut = cut_feed (take (end + 1) shown) line ends (subst (All (λ byte. byte ≢ 10)) (sym is) none);
      last = tt;
    }
