-- Answers to whether harts can fill a leaf now stay right.
use Rattle.std.proofs.Common.{◌≡◌, zero, suc, ℕ, Bool, true, false, ◌<◌, ◌≤◌, List, [], ◌∷◌, length, get_or, set, ap, sym, ◌∙◌, subst, refl, inl, inr, arith}
use Rattle.std.proofs.lemmas.Bool.{and_parts, cases_eq, cases_lt}
use Rattle.std.proofs.lemmas.List.{get_or-set_same, get_or-set_other, get_or-replicate, get_or_past, length-replicate, length-set, set_past}
use Rattle.std.proofs.Math.ListN.{replicate}
use Rattle.tlb.specs.declared.store.Entry.{Entry}
use Rattle.watch.specs.declared.trace.Space.{Space}
use Rattle.watch.specs.Holding.{Translation}
use Rattle.watch_engine.specs.declared.live.Answer.{Answer}
use Rattle.watch_engine.specs.declared.live.Answer.TheVariants.{Unasked}
use Rattle.watch_tables.specs.declared.leaf.RootLeaf.{RootLeaf}
use Rattle.watch_engine.specs.Held.{is_same_entry, own, translation_in}
use Rattle.watch_engine.specs.Filling.{Agrees, AreAnswers, answer_from, are_alike}
use Rattle.watch_engine.proofs.Lists.{same_entry}
use Rattle.watch_engine.specs.View.{View, is_live_for}

agrees-itself : (live : Bool) → Agrees (answer_from live) live
agrees-itself true = refl
agrees-itself false = refl

-- of what is global the translation is the same in each space
one-translation : (e : Entry) (a b : Space) → e.global ≡ true → translation_in a e ≡ translation_in b e
one-translation e a b is =
    let left : translation_in a e ≡ record { root = 0; entry = record e { asid = 0 } } =
    (λ j. record { root = own (is j) a.root; entry = record e { asid = own (is j) a.asid } }) in
    let right : translation_in b e ≡ record { root = 0; entry = record e { asid = 0 } } =
    (λ j. record { root = own (is j) b.root; entry = record e { asid = own (is j) b.asid } }) in
    left ∙ sym right

pub alike_entry : (leaf other : RootLeaf) → are_alike leaf other ≡ true → leaf.entry ≡ other.entry
alike_entry leaf other h = same_entry leaf.entry other.entry (and_parts leaf.entry.global (is_same_entry leaf.entry other.entry) h).1

pub same_default : (leaves : List RootLeaf) (k : ℕ) (d e : RootLeaf) → k < length leaves → get_or leaves k d ≡ get_or leaves k e
same_default [] k d e within = absurd (omega arith)
same_default (f ∷ leaves) zero d e within = refl
same_default (f ∷ leaves) (suc k) d e within = same_default leaves k d e (omega arith)

module _ (v : View) where
  unasked : (n hart : ℕ) → get_or (replicate n Unasked) hart Unasked ≡ Unasked
  unasked n hart =
      elim (cases_lt hart n) [
        | inl within ↦ get_or-replicate n hart Unasked Unasked within
        | inr past ↦ get_or_past (replicate n Unasked) hart Unasked (subst (λ m. m ≤ hart) (sym (length-replicate n Unasked)) past)
      ]

  pub none_asked : (n : ℕ) (e : Entry) → e.global ≡ true → AreAnswers v e (replicate n Unasked)
  none_asked n e is = record {
    global = λ hart within. is;
    each = λ hart space. subst (λ (a : Answer). Agrees a (is_live_for v hart (translation_in space e))) (sym (unasked n hart)) tt;
  }

  pub one_kept : (e : Entry) (answers : List Answer) (hart : ℕ) (space : Space) (live : Bool) → AreAnswers v e answers
      → live ≡ is_live_for v hart (translation_in space e) → AreAnswers v e (set answers hart (answer_from live))
  one_kept e answers hart space live are is = record {
    global = λ h within. are.global h (subst (λ n. h < n) (length-set answers hart (answer_from live)) within);
    each = λ h s. kept-at h s;
  }
    where
      kept-at : (h : ℕ) (s : Space) → Agrees (get_or (set answers hart (answer_from live)) h Unasked) (is_live_for v h (translation_in s e))
      kept-at h s =
          let now : Bool = is_live_for v h (translation_in s e) in
          elim (cases_eq h hart) [
            | inl same ↦ elim (cases_lt hart (length answers)) [
              | inl within ↦
                  let at : live ≡ now =
                  is ∙ (ap (λ (x : Translation). is_live_for v hart x) (one-translation e space s (are.global hart within))
                  ∙ ap (λ n. is_live_for v n (translation_in s e)) (sym same)) in
                  let got : get_or (set answers hart (answer_from live)) h Unasked ≡ answer_from live =
                  ap (λ n. get_or (set answers hart (answer_from live)) n Unasked) same ∙ get_or-set_same answers hart (answer_from live) Unasked within in
                  subst (λ (a : Answer). Agrees a now) (sym got) (subst (Agrees (answer_from live)) at (agrees-itself live))
              | inr past ↦ subst (λ (kept : List Answer). Agrees (get_or kept h Unasked) now) (sym (set_past answers hart (answer_from live) past)) (are.each h s)
            ]
            | inr other ↦ subst (λ (a : Answer). Agrees a now) (sym (get_or-set_other answers hart h (answer_from live) Unasked other)) (are.each h s)
          ]
