-- What a load records, and that a walk's answer follows from what its own loads found.
use Rattle.std.proofs.Common.{◌≡◌, ℕ, ◌+◌, ◌≤◌, ◌⊎◌, ◌↔◌, true, List, [], ◌∷◌, ◌++◌, length, Result, refl, sym, ap, subst, ◌∙◌, inl, inr, arith, length-append, append-nil}
use Rattle.std.specs.Prelude.{All}
use Rattle.std.proofs.lemmas.Bool.Decides.{nat_tests}
use Rattle.std.proofs.lemmas.List.{append_assoc}
use Rattle.std.proofs.lemmas.List.Elements.{All-cons, All-nil, All-push, All-weaker, Contains-append_left, Contains-append_right}
use Rattle.pte.specs.declared.permission.Access.{Access}
use Rattle.pte.specs.declared.permission.Ctx.{Ctx}
use Rattle.pte.specs.Address.{vpn_of}
use Rattle.walk.specs.declared.found_or_trap.Found.{Found}
use Rattle.walk.specs.declared.found_or_trap.Trap.{Trap}
use Rattle.walk.specs.Stage.{Stage}
use Rattle.spaces.specs.Layout.{Layout, is_frame}
use Rattle.spaces.specs.Held.{word_index}
use Rattle.spaces.specs.Opening.{is_word}
use Rattle.spaces.proofs.Paths.{vpn-below}
use Rattle.views.specs.declared.view.Read.{Read}
use Rattle.views.specs.declared.view.View.{View}
use Rattle.views.specs.Turns.{read_of, walked}
use Rattle.views.specs.Reads.{by_load, by_other, none_yet, IsOneOf, IsRead, Loaded, StandsAt}
use Rattle.views.specs.Walks.{AnswersByLoads}

-- the last of a list
same-last : (xs ys : List Read) (a b : Read) → xs ++ a ∷ [] ≡ ys ++ b ∷ [] → a ≡ b
same-last [] [] a b is = cc
same-last [] (y ∷ ys) a b is = absurd (omega (arith, ap length is, length-append ys (b ∷ [])))
same-last (x ∷ xs) [] a b is = absurd (omega (arith, ap length is, length-append xs (a ∷ [])))
same-last (x ∷ xs) (y ∷ ys) a b is = same-last xs ys a b (let rest : xs ++ a ∷ [] ≡ ys ++ b ∷ [] = cc in rest)

-- the word that a walk waits for stands in its table
pub wanted : (l : Layout) (st : Stage) → is_frame l st.table ≡ true → is_word l st.table (vpn_of st.va st.level) ≡ true
wanted l st frame = let less = vpn-below st.va st.level in rw frame (grind (arith, nat_tests))

-- a load of a walk that found its word records it
pub records : (l : Layout) (v : View) (root : ℕ) (st : Stage) (reads : List Read) (word : ℕ) → is_word l st.table (vpn_of st.va st.level) ≡ true
    → (reads ≡ []) ⊎ (reads ≡ v.reads) → IsRead l (word_index l st.table (vpn_of st.va st.level)) word v (walked v root st reads word)
records l v root st reads word there (inl none) = inr (read_of st word, (there, refl), refl, (refl, inl (ap (λ rs. rs ++ read_of st word ∷ []) none)))
records l v root st reads word there (inr all) = inr (read_of st word, (there, refl), refl, (refl, inr (ap (λ rs. rs ++ read_of st word ∷ []) all)))

-- and none that found another, or elsewhere
of-last : (l : Layout) (st : Stage) (at found word : ℕ) (read : Read) → StandsAt l at read → read.word ≡ found → read_of st word ≡ read
    → (at ≡ word_index l st.table (vpn_of st.va st.level)) × (found ≡ word)
of-last l st at found word read stands is same =
    (sym stands.1 ∙ sym (ap (λ (r : Read). word_index l r.table r.index) same), sym is ∙ sym (ap (λ (r : Read). r.word) same))

recorded : (l : Layout) (v : View) (root : ℕ) (st : Stage) (reads : List Read) (at found word : ℕ) → IsRead l at found v (walked v root st reads word)
    → (at ≡ word_index l st.table (vpn_of st.va st.level)) × (found ≡ word)
recorded l v root st reads at found word (inl nothing) = absurd (omega (arith, nothing.0))
recorded l v root st reads at found word (inr (read, stands, is, (count, inl alone))) = of-last l st at found word read stands is (same-last reads [] (read_of st word) read alone)
recorded l v root st reads at found word (inr (read, stands, is, (count, inr last))) = of-last l st at found word read stands is (same-last reads v.reads (read_of st word) read last)

pub walk_records_what_its_load_found : (l : Layout) (v : View) (root : ℕ) (st : Stage) (reads : List Read) (at found word : ℕ)
    → is_word l st.table (vpn_of st.va st.level) ≡ true → (reads ≡ []) ⊎ (reads ≡ v.reads)
    → IsRead l at found v (walked v root st reads word)
    ↔ ((at ≡ word_index l st.table (vpn_of st.va st.level)) × (found ≡ word))
walk_records_what_its_load_found l v root st reads at found word there from = (
  recorded l v root st reads at found word,
  λ is. rw (is.0, is.1) (records l v root st reads word there from),
)

-- The reads after some steps: what stood before them, if no load began a walk, and then those of
-- own loads, of which no more are there than are counted.
record Own (l : Layout) (v : View) (loads : List (ℕ × ℕ)) (w : View) : Type 0 where
  front : List Read
  own : List Read
  reads : w.reads ≡ front ++ own
  each : All (IsOneOf l loads) own
  counted : v.loads + length own ≤ w.loads
  whole : (front ≡ []) ⊎ (w.loads ≡ v.loads + length own)

grown : (l : Layout) (loads : List (ℕ × ℕ)) (step : ℕ × ℕ) (own : List Read) → All (IsOneOf l loads) own → All (IsOneOf l (loads ++ step ∷ [])) own
grown l loads step own each =
    All-weaker (IsOneOf l loads) (IsOneOf l (loads ++ step ∷ [])) (λ r at. Contains-append_left loads (step ∷ []) (word_index l r.table r.index, r.word) at) own each

newest : (l : Layout) (loads : List (ℕ × ℕ)) (at word : ℕ) (read : Read) → StandsAt l at read → read.word ≡ word → IsOneOf l (loads ++ (at, word) ∷ []) read
newest l loads at word read stands is =
    Contains-append_right loads ((at, word) ∷ []) (word_index l read.table read.index, read.word) (rw (stands.1, is) (0, omega arith, refl))

begins : (l : Layout) (v u w : View) (loads : List (ℕ × ℕ)) (at word : ℕ) (read : Read) → Own l v loads u → StandsAt l at read → read.word ≡ word
    → w.loads ≡ u.loads + 1 → w.reads ≡ read ∷ [] → Own l v (loads ++ (at, word) ∷ []) w
begins l v u w loads at word read own stands is count alone = record {
  front = [];
  own = read ∷ [];
  reads = alone;
  each = All-cons (IsOneOf l (loads ++ (at, word) ∷ [])) read [] (newest l loads at word read stands is) (All-nil (IsOneOf l (loads ++ (at, word) ∷ [])));
  counted = omega (arith, own.counted, count);
  whole = inl refl;
}

goes-on : (l : Layout) (v u w : View) (loads : List (ℕ × ℕ)) (at word : ℕ) (read : Read) → Own l v loads u → StandsAt l at read → read.word ≡ word
    → w.loads ≡ u.loads + 1 → w.reads ≡ u.reads ++ read ∷ [] → Own l v (loads ++ (at, word) ∷ []) w
goes-on l v u w loads at word read own stands is count last = record {
  front = own.front;
  own = own.own ++ read ∷ [];
  reads = last ∙ (ap (λ rs. rs ++ read ∷ []) own.reads ∙ append_assoc own.front own.own (read ∷ []));
  each = All-push (IsOneOf l (loads ++ (at, word) ∷ [])) own.own read (grown l loads (at, word) own.own own.each) (newest l loads at word read stands is);
  counted = omega (arith, own.counted, count, length-append own.own (read ∷ []));
  whole = elim own.whole [
    | inl none ↦ inl none
    | inr all ↦ inr (omega (arith, all, count, length-append own.own (read ∷ [])))
  ];
}

own-of : (l : Layout) (v w : View) (loads : List (ℕ × ℕ)) → Loaded l v loads w → Own l v loads w
own-of l v w loads (none_yet) = record {
  front = v.reads;
  own = [];
  reads = sym (append-nil v.reads);
  each = All-nil (IsOneOf l []);
  counted = omega arith;
  whole = inr (omega arith);
}
own-of l v w loads (by_load before u w' at word loaded (inl nothing)) =
    let own = own-of l v u before loaded in
    record {
      front = own.front;
      own = own.own;
      reads = nothing.1 ∙ own.reads;
      each = grown l before (at, word) own.own own.each;
      counted = omega (arith, own.counted, nothing.0);
      whole = elim own.whole [
        | inl none ↦ inl none
        | inr all ↦ inr (nothing.0 ∙ all)
      ];
    }
own-of l v w loads (by_load before u w' at word loaded (inr (read, stands, is, (count, inl alone)))) = begins l v u w' before at word read (own-of l v u before loaded) stands is count alone
own-of l v w loads (by_load before u w' at word loaded (inr (read, stands, is, (count, inr last)))) = goes-on l v u w' before at word read (own-of l v u before loaded) stands is count last
own-of l v w loads (by_other before u w' loaded nothing) =
    let own = own-of l v u before loaded in
    record {
      front = own.front;
      own = own.own;
      reads = nothing.1 ∙ own.reads;
      each = own.each;
      counted = omega (arith, own.counted, nothing.0);
      whole = elim own.whole [
        | inl none ↦ inl none
        | inr all ↦ inr (nothing.0 ∙ all)
      ];
    }

-- where as many loads are counted as stand there, none is from before
nil-of-length : (xs : List Read) → length xs ≡ 0 → xs ≡ []
nil-of-length [] is = refl
nil-of-length (x ∷ xs) is = absurd (omega (arith, is))

none-before : (l : Layout) (v w : View) (loads : List (ℕ × ℕ)) (own : Own l v loads w) → w.loads ≡ v.loads + length w.reads → own.front ≡ []
none-before l v w loads own count = elim own.whole [
  | inl none ↦ none
  | inr all ↦ nil-of-length own.front (omega (arith, all, count, ap length own.reads, length-append own.front own.own))
]

pub each_read_is_of_an_own_load : (l : Layout) (v w : View) (root va : ℕ) (access : Access) (ctx : Ctx) (answer : Result Found Trap) (loads : List (ℕ × ℕ))
    → Loaded l v loads w → AnswersByLoads l v root va access ctx answer w → All (IsOneOf l loads) w.reads
each_read_is_of_an_own_load l v w root va access ctx answer loads loaded answers =
    let own = own-of l v w loads loaded in
    let only : w.reads ≡ own.own = own.reads ∙ ap (λ rs. rs ++ own.own) (none-before l v w loads own answers.count) in
    subst (All (IsOneOf l loads)) (sym only) own.each
