-- One count more.
use Rattle.std.proofs.Common.{◌≡◌, ℕ, ◌+◌, ◌<◌, Bool, List, ◌∷◌, ◌++◌, ◌&&◌, length, drop, get_or, map, ap, sym, ◌∙◌, append_assoc, append-nil, ◌≤◌}
use Rattle.std.specs.Prelude.{◌==◌}
use Rattle.std.proofs.lemmas.List.{drop_all, drop_more}
use Rattle.watch_report.specs.declared.counts.Count.{Count}
use Rattle.watch_report.specs.Warnings.{count_text, verdict_counts_text, printed_count}

front_count : (counts : List Count) (is_first : Bool) (c : Count) (rest : List Count) (front new all : List ℕ) → counts ≡ c ∷ rest → new ≡ front ++ count_text is_first (printed_count c)
    → front ++ verdict_counts_text is_first (map printed_count counts) ≡ all → new ++ verdict_counts_text (is_first && (c.number == 0)) (map printed_count rest) ≡ all
front_count counts is_first c rest front new all is e h =
    ap (λ (n : List ℕ). n ++ verdict_counts_text (is_first && (c.number == 0)) (map printed_count rest)) e
    ∙ append_assoc front (count_text is_first (printed_count c)) (verdict_counts_text (is_first && (c.number == 0)) (map printed_count rest))
    ∙ ap (λ (xs : List Count). front ++ verdict_counts_text is_first (map printed_count xs)) (sym is)
    ∙ h

pub one_more_count : (counts : List Count) (i : ℕ) (d : Count) (is_first : Bool) (front new all : List ℕ) → i < length counts → new ≡ front ++ count_text is_first (printed_count (get_or counts i d))
    → front ++ verdict_counts_text is_first (map printed_count (drop i counts)) ≡ all → new ++ verdict_counts_text (is_first && ((get_or counts i d).number == 0)) (map printed_count (drop (i + 1) counts)) ≡ all
one_more_count counts i d is_first front new all less e h =
    front_count (drop i counts) is_first (get_or counts i d) (drop (i + 1) counts) front new all (drop_more counts i d less) e h

-- no count is left
pub no_more_counts : (counts : List Count) (i : ℕ) (is_first : Bool) (front all : List ℕ) → length counts ≤ i → front ++ verdict_counts_text is_first (map printed_count (drop i counts)) ≡ all → front ≡ all
no_more_counts counts i is_first front all most h =
    sym (append-nil front)
    ∙ ap (λ (xs : List Count). front ++ verdict_counts_text is_first (map printed_count xs)) (sym (drop_all i counts most))
    ∙ h
