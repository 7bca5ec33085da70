-- Lines of replies, one after the other.
use Rattle.std.proofs.Common.{◌≡◌, ℕ, zero, suc, ◌+◌, ◌<◌, Bool, true, false, cond, List, [], ◌∷◌, ◌++◌, length, get_or, drop, codes, refl, sym, ap, ◌∙◌, append_assoc, append-nil, arith}
use Rattle.std.specs.Fmt.{decimal}
use Rattle.std.specs.List.{filter, flat_map, join_by, range_with_len}
use Rattle.std.proofs.lemmas.List.{drop_more}
use Rattle.std.proofs.lemmas.List.Elements.{filter-append}
use Rattle.std.proofs.Math.Seq.{drop-length}
use Rattle.shoot.specs.HartSet.{contains}
use Rattle.history.specs.declared.reply.Reply.{Reply}
use Rattle.lines.specs.ReplyLines.{lines_from, next_text, reply_line, reply_lines}

-- ---- replies

abbrev pub RepliesSoFar : List Reply → ℕ → List ℕ → Type 0
RepliesSoFar replies i front = reply_lines replies ≡ front ++ lines_from (i + 1) (drop i replies)

pub replies_more : (replies : List Reply) (i : ℕ) (front new : List ℕ) (d : Reply) → i < length replies → new ≡ front ++ reply_line (i + 1) (get_or replies i d)
    → RepliesSoFar replies i front → RepliesSoFar replies (i + 1) new
replies_more replies i front new d lt e so_far =
    so_far ∙ rw (drop_more replies i d lt, e) (sym (append_assoc front (reply_line (i + 1) (get_or replies i d)) (lines_from (i + 1 + 1) (drop (i + 1) replies))))

pub replies_end : (replies : List Reply) (front : List ℕ) → RepliesSoFar replies (length replies) front → front ≡ reply_lines replies
replies_end replies front so_far = sym (so_far ∙ rw (drop-length replies) (append-nil front))

-- ---- harts, with commas between

-- the harts below n that are in a set
abbrev pub members_below : List Bool → ℕ → List ℕ
members_below set n = filter (contains set) (range_with_len 0 n)

abbrev pub joined : List ℕ → List ℕ
joined harts = join_by decimal (codes ",") harts

abbrev pub none_yet : List ℕ → Bool
none_yet [] = true
none_yet (h ∷ hs) = false

rest_more : (hs : List ℕ) (h : ℕ) → flat_map (λ y. codes "," ++ decimal y) (hs ++ h ∷ []) ≡ flat_map (λ y. codes "," ++ decimal y) hs ++ next_text false h
rest_more [] h = append-nil (codes "," ++ decimal h)
rest_more (g ∷ hs) h = rw (rest_more hs h) (sym (append_assoc (codes "," ++ decimal g) (flat_map (λ y. codes "," ++ decimal y) hs) (next_text false h)))

joined_more : (hs : List ℕ) (h : ℕ) → joined (hs ++ h ∷ []) ≡ joined hs ++ next_text (none_yet hs) h
joined_more [] h = append-nil (decimal h)
joined_more (g ∷ hs) h = rw (rest_more hs h) (sym (append_assoc (decimal g) (flat_map (λ y. codes "," ++ decimal y) hs) (next_text false h)))

none_yet-more : (hs : List ℕ) (h : ℕ) → none_yet (hs ++ h ∷ []) ≡ false
none_yet-more [] h = refl
none_yet-more (g ∷ hs) h = refl

range_more : (a n j : ℕ) → a + n ≡ j → range_with_len a (suc n) ≡ range_with_len a n ++ j ∷ []
range_more a zero j e = ap (λ x. x ∷ []) (omega (arith, e))
range_more a (suc n) j e = ap (λ rest. a ∷ rest) (range_more (a + 1) n j (omega (arith, e)))

kept_one : (set : List Bool) (h : ℕ) (b : Bool) → contains set h ≡ b → filter (contains set) (h ∷ []) ≡ cond b (h ∷ []) []
kept_one set h b e = rw e

members_more : (set : List Bool) (h : ℕ) (b : Bool) → contains set h ≡ b → members_below set (h + 1) ≡ members_below set h ++ cond b (h ∷ []) []
members_more set h b e =
    let next : h + 1 ≡ suc h = omega arith in
    ap (λ n. members_below set n) next ∙ ap (filter (contains set)) (range_more 0 h h (omega arith)) ∙ filter-append (contains set) (range_with_len 0 h) (h ∷ [])
    ∙ ap (λ last. members_below set h ++ last) (kept_one set h b e)

-- a hart that is in the set is written
pub hart_in : (set : List Bool) (h : ℕ) (is_first : Bool) → contains set h ≡ true → is_first ≡ none_yet (members_below set h)
    → (joined (members_below set h) ++ next_text is_first h ≡ joined (members_below set (h + 1))) × (false ≡ none_yet (members_below set (h + 1)))
hart_in set h is_first there first =
    let harts = members_below set h in let more : members_below set (h + 1) ≡ harts ++ h ∷ [] = members_more set h true there in (
      rw first (sym (ap joined more ∙ joined_more harts h)),
      sym (ap none_yet more ∙ none_yet-more harts h),
    )

-- and one that is not changes nothing
pub hart_out : (set : List Bool) (h : ℕ) → contains set h ≡ false → members_below set (h + 1) ≡ members_below set h
hart_out set h absent = members_more set h false absent ∙ append-nil (members_below set h)
