-- Spaces that were left, in the order of their roots.
use Rattle.std.proofs.Common.{◌≡◌, ℕ, zero, suc, Bool, true, false, ◌+◌, ◌-◌, ◌<◌, ◌≤◌, List, Some, None, [], ◌∷◌, ◌++◌, length, get_or, take, drop, filter, ap, sym, ◌∙◌, subst, refl, inl, inr, arith}
use Rattle.std.specs.Prelude.{◌==◌, ◌&&◌, cond, not}
use Rattle.std.specs.List.{insert, slice_range}
use Rattle.std.proofs.lemmas.List.{drop_more, get_or_default}
use Rattle.std.proofs.lemmas.Bool.{and_parts, cases_lt, eq-eqb, eqb-true, lt-leb, ne_eqb, not_from_false, false_from_ne_true}
use Rattle.watch.specs.declared.trace.Space.{Space}
use Rattle.watch_engine.specs.declared.held.LastLive.{LastLive}
use Rattle.watch_engine.specs.declared.left.Left.{Left}
use Rattle.watch_tables.specs.declared.leaf.RootLeaf.{RootLeaf}
use Rattle.watch_engine.specs.Left.{added, is_of, is_other, is_space}
use Rattle.watch_engine.specs.LeftOrder.{AreByRoot, Begins, Ends}
use Rattle.watch_engine.specs.Seen.{is_kept, kept_for, last_of, with_kept, with_leaf, with_leaves, with_live}
use Rattle.watch_engine.proofs.Lists.{from_at_most}
use Rattle.watch_engine.specs.View.{View}

-- a run ends no earlier than it begins
pub ends_late : (left : List Left) (start end root : ℕ) → start ≤ length left → Begins left start root → Ends left end root → start ≤ end
ends_late [] start end root long begins ends = omega arith
ends_late (l ∷ left) start end root long begins ends =
    elim (cases_lt end start) [
      | inl early ↦
          let low = begins.0 end l (omega arith) early in
          let high = ends.1 end l (omega arith) (omega arith) in
          absurd (omega arith)
      | inr late ↦ late
    ]

-- a run begins where the one before is below and the one there is not, and ends where the one there is of another root
pub begins_there : (left : List Left) (place root : ℕ) (e : Left) → AreByRoot left → (0 < place → (get_or left (place - 1) e).space.root < root)
    → (place < length left → root ≤ (get_or left place e).space.root) → place ≤ length left → Begins left place root
begins_there left place root e order below from_here within =
    let before : (k : ℕ) (d : Left) → 0 ≤ k → k < place → (get_or left k d).space.root < root =
    λ k d from early.
    let low = below (omega arith) in
    let up = order k (place - 1) d (omega arith) (omega arith) in
    let read = ap (λ (l : Left). l.space.root) (get_or_default left (place - 1) d e (omega arith)) in
    omega arith in
    let behind : (k : ℕ) (d : Left) → place ≤ k → k < length left → root ≤ (get_or left k d).space.root =
    λ k d from among.
    let least = from_here (omega arith) in
    let up = order place k d from among in
    let read = ap (λ (l : Left). l.space.root) (get_or_default left place d e (omega arith)) in
    omega arith in
    (before, behind)

pub ends_there : (left : List Left) (start end root : ℕ) (e : Left) → AreByRoot left → Begins left start root → start ≤ end → ((k : ℕ) (d : Left) → k < end → k < length left → (get_or left k d).space.root ≤ root)
    → (end < length left → (get_or left end e).space.root ≡ root → ⊥) → end ≤ length left → Ends left end root
ends_there left start end root e order begins late low other within =
    let before : (k : ℕ) (d : Left) → 0 ≤ k → k < end → (get_or left k d).space.root ≤ root =
    λ k d from early. low k d early (omega arith) in
    let behind : (k : ℕ) (d : Left) → end ≤ k → k < length left → root < (get_or left k d).space.root =
    λ k d from among.
    let least = begins.1 end d late (omega arith) in
    let differs = other (omega arith) in
    let up = order end k d from among in
    let read = ap (λ (l : Left). l.space.root) (get_or_default left end d e (omega arith)) in
    omega arith in
    (before, behind)

-- one more stands where the run of its root ends
pub insert_is_added : (one : Left) (left : List Left) (place : ℕ) → Ends left place one.space.root → insert left place one ≡ added one left
insert_is_added one [] zero ends = refl
insert_is_added one [] (suc place) ends = refl
insert_is_added one (l ∷ left) zero ends =
    sym (ap (λ b. cond b (l ∷ added one left) (one ∷ l ∷ left)) (lt-leb l.space.root one.space.root (ends.1 0 l (omega arith) (omega arith))))
insert_is_added one (l ∷ left) (suc place) ends =
    ap (λ (ls : List Left). l ∷ ls) (insert_is_added one left place ((λ k d from early. ends.0 (suc k) d (omega arith) (omega arith)), (λ k d from among. ends.1 (suc k) d (omega arith) (omega arith))))
    ∙ sym (ap (λ b. cond b (l ∷ added one left) (one ∷ l ∷ left)) (from_at_most l.space.root one.space.root (ends.0 0 l (omega arith) (omega arith))))

-- a run in the middle, of which a test is so and of all others not
take_none : (n : ℕ) → ◌≡◌ {A = List Left} (take n []) []
take_none zero = refl
take_none (suc n) = refl

front : (p : Left → Bool) (left : List Left) (n : ℕ) → ((k : ℕ) (d : Left) → k < n → k < length left → p (get_or left k d) ≡ true) → ((k : ℕ) (d : Left) → n ≤ k → k < length left → p (get_or left k d) ≡ false) → take n left ≡ filter p left
front p [] n is not_is = take_none n
front p (l ∷ left) zero is not_is =
    front p left zero (λ k d early among. absurd (omega arith)) (λ k d late among. not_is (suc k) d (omega arith) (omega arith))
    ∙ sym (ap (λ b. cond b (l ∷ filter p left) (filter p left)) (not_is 0 l (omega arith) (omega arith)))
front p (l ∷ left) (suc n) is not_is =
    ap (λ (ls : List Left). l ∷ ls) (front p left n (λ k d early among. is (suc k) d (omega arith) (omega arith)) (λ k d late among. not_is (suc k) d (omega arith) (omega arith)))
    ∙ sym (ap (λ b. cond b (l ∷ filter p left) (filter p left)) (is 0 l (omega arith) (omega arith)))

run : (p : Left → Bool) (left : List Left) (start end : ℕ) → start ≤ end → ((k : ℕ) (d : Left) → k < start → k < length left → p (get_or left k d) ≡ false) → ((k : ℕ) (d : Left) → start ≤ k → k < end → k < length left → p (get_or left k d) ≡ true)
    → ((k : ℕ) (d : Left) → end ≤ k → k < length left → p (get_or left k d) ≡ false) → slice_range left start end ≡ filter p left
run p [] zero end order before is behind = take_none (end - 0)
run p [] (suc start) end order before is behind = take_none (end - suc start)
run p (l ∷ left) zero end order before is behind =
    let same : end - 0 ≡ end = omega arith in
    ap (λ n. take n (l ∷ left)) same ∙ front p (l ∷ left) end (λ k d early among. is k d (omega arith) early among) behind
run p (l ∷ left) (suc start) end order before is behind =
    let same : end - suc start ≡ (end - 1) - start = omega arith in
    ap (λ n. take n (drop start left)) same
    ∙ (run p left start (end - 1) (omega arith) (λ k d early among. before (suc k) d (omega arith) (omega arith)) (λ k d from early among. is (suc k) d (omega arith) (omega arith) (omega arith)) (λ k d late among. behind (suc k) d (omega arith) (omega arith))
    ∙ sym (ap (λ b. cond b (l ∷ filter p left) (filter p left)) (before 0 l (omega arith) (omega arith))))

pub run_of_root : (left : List Left) (start end root : ℕ) → start ≤ end → Begins left start root → Ends left end root → slice_range left start end ≡ filter (λ l. l.space.root == root) left
run_of_root left start end root order begins ends =
    run (λ l. l.space.root == root) left start end order
    (λ k d early among. ne_eqb _ _ (λ same. let low = begins.0 k d (omega arith) early in absurd (omega arith)))
    (λ k d from early among. let low = begins.1 k d from among in let high = ends.0 k d (omega arith) early in eq-eqb _ _ (omega arith))
    (λ k d late among. ne_eqb _ _ (λ same. let high = ends.1 k d late among in absurd (omega arith)))

-- those of other roots add nothing
append_none : (seen : List LastLive) → seen ++ [] ≡ seen
append_none [] = refl
append_none (s ∷ seen) = ap (λ (ss : List LastLive). s ∷ ss) (append_none seen)

pub kept_of_root : (v : View) (leaf : RootLeaf) (left : List Left) (seen : List LastLive)
    → with_kept v leaf (filter (λ l. l.space.root == leaf.root) left) seen ≡ with_kept v leaf left seen
kept_of_root v leaf [] seen = refl
kept_of_root v leaf (l ∷ left) seen =
    let rest : List Left = filter (λ l. l.space.root == leaf.root) left in
    let go : (b : Bool) → (l.space.root == leaf.root) ≡ b → with_kept v leaf (cond b (l ∷ rest) rest) seen ≡ with_kept v leaf left (seen ++ kept_for v leaf l) =
    λ b. elim b as (λ b. (l.space.root == leaf.root) ≡ b → with_kept v leaf (cond b (l ∷ rest) rest) seen ≡ with_kept v leaf left (seen ++ kept_for v leaf l)) [
      | true ↦ λ same. kept_of_root v leaf left (seen ++ kept_for v leaf l)
      | false ↦ λ other.
          let none : is_kept v leaf l ≡ false = false_from_ne_true _ (λ kept. let p = and_parts (l.space.root == leaf.root) _ kept in let no = sym p.0 ∙ other in cc) in
          let nothing : kept_for v leaf l ≡ [] = ap (λ b. cond b (last_of leaf l ∷ []) []) none in
          kept_of_root v leaf left seen
          ∙ sym (ap (with_kept v leaf left) (ap (λ (ks : List LastLive). seen ++ ks) nothing ∙ append_none seen))
    ] in
    go (l.space.root == leaf.root) refl

-- one leaf more of those with a root, of which the spaces with that root are asked
pub leaf_added : (v : View) (run : List Left)
    (leaves : List RootLeaf) (at root : ℕ) (leaf : RootLeaf) (seen new : List LastLive)
    → at < length leaves → leaf ≡ get_or leaves at leaf → (get_or leaves at leaf).root ≡ root
    → run ≡ filter (λ l. l.space.root == root) v.left
    → new ≡ with_leaf v leaf run seen
    → with_leaves v (drop (at + 1) leaves) new
    ≡ with_leaves v (drop at leaves) seen
leaf_added v run leaves at root leaf seen new within is of among added =
    let live : List LastLive = with_live v.count leaf 0 v.satps seen in
    let same : leaf.root ≡ root = ap (λ (l : RootLeaf). l.root) is ∙ of in
    let all : run ≡ filter (λ l. l.space.root == leaf.root) v.left =
    among ∙ ap (λ (r : ℕ). filter (λ (l : Left). l.space.root == r) v.left) (sym same) in
    let more : new ≡ with_kept v leaf v.left live =
    added ∙ (ap (λ (ls : List Left). with_kept v leaf ls live) all
    ∙ kept_of_root v leaf v.left live) in
    let rest : drop at leaves ≡ leaf ∷ drop (at + 1) leaves =
    drop_more leaves at leaf within ∙ ap (λ (l : RootLeaf). l ∷ drop (at + 1) leaves) (sym is) in
    ap (with_leaves v (drop (at + 1) leaves)) more
    ∙ ap (λ (ls : List RootLeaf). with_leaves v ls seen) (sym rest)

-- what is behind a place without those that a test drops
abbrev pub dropped_from : (Left → Bool) → ℕ → List Left → List Left
dropped_from p place left = take place left ++ filter p (drop place left)

pub before_stays : (p : Left → Bool) (left : List Left) (place : ℕ) → ((k : ℕ) (d : Left) → k < place → k < length left → p (get_or left k d) ≡ true) → dropped_from p place left ≡ filter p left
before_stays p [] zero stays = refl
before_stays p [] (suc place) stays = refl
before_stays p (l ∷ left) zero stays = refl
before_stays p (l ∷ left) (suc place) stays =
    ap (λ (ls : List Left). l ∷ ls) (before_stays p left place (λ k d early among. stays (suc k) d (omega arith) (omega arith)))
    ∙ sym (ap (λ b. cond b (l ∷ filter p left) (filter p left)) (stays 0 l (omega arith) (omega arith)))

pub rest_stays : (p : Left → Bool) (left : List Left) (place : ℕ) → ((k : ℕ) (d : Left) → place ≤ k → k < length left → p (get_or left k d) ≡ true) → filter p (drop place left) ≡ drop place left
rest_stays p [] zero stays = refl
rest_stays p [] (suc place) stays = refl
rest_stays p (l ∷ left) zero stays =
    ap (λ b. cond b (l ∷ filter p left) (filter p left)) (stays 0 l (omega arith) (omega arith))
    ∙ ap (λ (ls : List Left). l ∷ ls) (rest_stays p left zero (λ k d from among. stays (suc k) d (omega arith) (omega arith)))
rest_stays p (l ∷ left) (suc place) stays = rest_stays p left place (λ k d from among. stays (suc k) d (omega arith) (omega arith))

-- where two lists are the same from a place on, they are there, and from the next place on
first_there : (left : List Left) (place : ℕ) (d : Left) → get_or (drop place left) 0 d ≡ get_or left place d
first_there [] zero d = refl
first_there [] (suc place) d = refl
first_there (l ∷ left) zero d = refl
first_there (l ∷ left) (suc place) d = first_there left place d

rest_there : (left : List Left) (place : ℕ) → drop 1 (drop place left) ≡ drop (suc place) left
rest_there [] zero = refl
rest_there [] (suc place) = refl
rest_there (l ∷ left) zero = refl
rest_there (l ∷ left) (suc place) = rest_there left place

pub one_behind : (left old : List Left) (place : ℕ) (d : Left) → drop place left ≡ drop place old → get_or left place d ≡ get_or old place d
one_behind left old place d same = sym (first_there left place d) ∙ (ap (λ (ls : List Left). get_or ls 0 d) same ∙ first_there old place d)

pub one_less : (left old : List Left) (place : ℕ) → drop place left ≡ drop place old → drop (place + 1) left ≡ drop (place + 1) old
one_less left old place same =
    let next : suc place ≡ place + 1 = omega arith in
    subst (λ n. drop n left ≡ drop n old) next (sym (rest_there left place) ∙ (ap (λ (ls : List Left). drop 1 ls) same ∙ rest_there old place))

-- what is of another root is of another space
pub other_root : (hart : ℕ) (space : Space) (l : Left) → (space.root ≡ l.space.root → ⊥) → is_other hart (Some space) l ≡ true
other_root hart space l other =
    not_from_false _ (false_from_ne_true _ (λ t. other (eqb-true _ _ (and_parts (space.root == l.space.root) (space.asid == l.space.asid) (and_parts (l.hart == hart) (is_space (Some space) l.space) t).1).0)))

-- of the same root it is of another space, if it is not of the hart with the ASID
pub other_of_root : (hart : ℕ) (space : Space) (l : Left) → l.space.root ≡ space.root → is_other hart (Some space) l ≡ not (is_of hart space.asid l)
other_of_root hart space l same = ap (λ b. not ((l.hart == hart) && (b && (space.asid == l.space.asid)))) (eq-eqb space.root l.space.root (sym same))

pub others_before : (hart : ℕ) (space : Space) (left : List Left) (start first end : ℕ) → Begins left start space.root → Ends left end space.root → first ≤ end
    → ((k : ℕ) (d : Left) → start ≤ k → k < first → is_of hart space.asid (get_or left k d) ≡ false) → (k : ℕ) (d : Left) → k < first → k < length left → is_other hart (Some space) (get_or left k d) ≡ true
others_before hart space left start first end begins ends order none k d early among =
    elim (cases_lt k start) [
      | inl below ↦ other_root hart space (get_or left k d) (λ same. let low = begins.0 k d (omega arith) below in absurd (omega arith))
      | inr from ↦
          let low = begins.1 k d from among in
          let high = ends.0 k d (omega arith) (omega arith) in
          other_of_root hart space (get_or left k d) (omega arith) ∙ ap not (none k d from early)
    ]

pub others_behind : (hart : ℕ) (space : Space) (left : List Left) (end : ℕ) → Ends left end space.root → (k : ℕ) (d : Left) → end ≤ k → k < length left → is_other hart (Some space) (get_or left k d) ≡ true
others_behind hart space left end ends k d late among = other_root hart space (get_or left k d) (λ same. let high = ends.1 k d late among in absurd (omega arith))

-- no space is one to which a hart comes back
none-and : (b : Bool) → not (b && false) ≡ true
none-and true = refl
none-and false = refl

pub none_back : (hart : ℕ) (left : List Left) → filter (is_other hart None) left ≡ left
none_back hart [] = refl
none_back hart (l ∷ left) = ap (λ b. cond b (l ∷ filter (is_other hart None) left) (filter (is_other hart None) left)) (none-and (l.hart == hart)) ∙ ap (λ (ls : List Left). l ∷ ls) (none_back hart left)
