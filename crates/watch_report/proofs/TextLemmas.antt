-- Texts that stand one after another.
use Rattle.std.proofs.Common.{◌≡◌, ℕ, ◌+◌, ◌-◌, ◌≤◌, zero, suc, List, [], ◌∷◌, ◌++◌, length, take, drop, slice_range, ap, ap₂, ◌∙◌, refl, arith, length-drop}
use Rattle.std.proofs.lemmas.List.{drop-append-le, get_or_append_left, take-append-le}
use Rattle.watch_report.specs.TextEnds.{AreEnds, end_at, text_at, text_in}

-- none ends behind the bytes
ends_within : (ends : List ℕ) (count : ℕ) → AreEnds ends count → (more place : ℕ) → place + more ≡ length ends → end_at ends place ≤ count
ends_within ends count are zero place is = let at : place ≡ length ends = omega (arith, is) in omega (arith, ap (end_at ends) at, are.last)
ends_within ends count are (suc more) place is =
    omega (arith, are.order place (omega (arith, is)), ends_within ends count are more (suc place) (omega (arith, is)))

pub end_within : (ends : List ℕ) (count place : ℕ) → AreEnds ends count → place ≤ length ends → end_at ends place ≤ count
end_within ends count place are within = ends_within ends count are (length ends - place) place (omega (arith, within))

-- ---- one text more

end_at-append : (ends : List ℕ) (e place : ℕ) → place ≤ length ends → end_at (ends ++ e ∷ []) place ≡ end_at ends place
end_at-append ends e zero within = refl
end_at-append ends e (suc p) within = get_or_append_left ends (e ∷ []) 0 p (omega (arith, within))

range-append : (bytes text : List ℕ) (start end : ℕ) → start ≤ end → end ≤ length bytes → slice_range (bytes ++ text) start end ≡ slice_range bytes start end
range-append bytes text start end order within =
    ap (take (end - start)) (drop-append-le start bytes text (omega (arith, order, within)))
    ∙ take-append-le (end - start) (drop start bytes) text (omega (arith, within, length-drop start bytes))

pub text_in-append : (bytes ends text : List ℕ) (e place : ℕ) → AreEnds ends (length bytes) → place ≤ length ends
    → text_in (bytes ++ text) (ends ++ e ∷ []) place ≡ text_in bytes ends place
unfolding text_at
text_in-append bytes ends text e zero are within = refl
text_in-append bytes ends text e (suc p) are within =
    ap₂ (slice_range (bytes ++ text)) (end_at-append ends e p (omega (arith, within))) (end_at-append ends e (suc p) within)
    ∙ range-append bytes text (end_at ends p) (end_at ends (suc p)) (are.order p (omega (arith, within))) (end_within ends (length bytes) (suc p) are within)
