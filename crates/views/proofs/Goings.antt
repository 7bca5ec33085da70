-- A whole walk, load by load.
use Rattle.std.proofs.Common.{◌≡◌, ℕ, ◌+◌, ◌<◌, List, [], ◌∷◌, ◌++◌, length, Some, None, Ok, Err, Result, sym, refl, ap, ◌∙◌, subst, inl, inr, arith, length-append}
use Rattle.std.proofs.lemmas.Bool.{cases_lt}
use Rattle.std.specs.declared.ops.ControlFlow.TheVariants.{Continue, Break}
use Rattle.pte.specs.declared.permission.Access.{Access}
use Rattle.pte.specs.declared.permission.Ctx.{Ctx}
use Rattle.pte.specs.Address.{IsCanonical, level_count, top_level, vpn_of}
use Rattle.walk.specs.declared.found_or_trap.Found.{Found}
use Rattle.walk.specs.declared.found_or_trap.Trap.{Trap}
use Rattle.walk.specs.declared.walking.Progress.{Progress}
use Rattle.walk.specs.declared.walking.Progress.TheVariants as progress
use Rattle.walk.specs.Leads.{Tables}
use Rattle.walk.specs.Loads.{GoesOn}
use Rattle.walk.specs.Pointers.{pointed}
use Rattle.walk.specs.Stage.{Stage, OnPath, IsFor, start_of}
use Rattle.walk.specs.Step.{flow_of, load_of}
use Rattle.walk.proofs.Ending.{goes-load, more-points, on_path-start, outcome-same, same-access}
use Rattle.spaces.specs.Layout.{Layout, layout_of, user_slots}
use Rattle.spaces.specs.Held.{holders_of, memory_words}
use Rattle.spaces.specs.Tree.{IsAtHome, of_root, IsOwn, IsHome}
use Rattle.spaces.proofs.Homes.{spare-home, spare-own}
use Rattle.spaces.proofs.Trees.{pointed-zero}
use Rattle.views.specs.declared.view.Read.{Read}
use Rattle.views.specs.declared.view.View.{View}
use Rattle.views.specs.Rule.{Has, Local, memory_of, tables_in}
use Rattle.views.specs.Turns.{asid_at, onward, read_of, walked, with_fill, IsStart, TellsFrame, TellsLoad}
use Rattle.views.specs.OnBoard.{HasReads}
use Rattle.views.specs.Walks.{AnswersByLoads, IsHomePath, IsSameHome, Loads, first, further}
use Rattle.views.proofs.EditKeeps.{local-home}
use Rattle.views.proofs.Readings.{has-snoc, snoc-has}

-- the words of a walk's path at home are as the view says, and its table is at home; a pointer
-- there is in a slot that edits write
pub record IsGoingHome (l : Layout) (v w : View) (st : Stage) (word : ℕ) : Type 0 where
  pub has : Has (memory_words (memory_of l v)) w.reads
  pub table : IsAtHome l v.hart st.table
  pub own : (g : ℕ) → pointed (Some word) ≡ Some g → IsOwn l st.table (vpn_of st.va st.level)

-- a walk in mid course: its last word was found, and not yet taken
pub record IsGoing (l : Layout) (v : View) (root va : ℕ) (access : Access) (ctx : Ctx) (st : Stage) (word : ℕ) (w : View) : Type 0 where
  pub about : IsFor st va access ctx
  pub canonical : IsCanonical l.scheme va
  pub on : (words : Tables) → Has words w.reads → OnPath l.scheme words root st × (words st.table (vpn_of st.va st.level) ≡ Some word)
  pub frame : TellsFrame l st word
  pub own_loads : Loads v root w
  pub at_home : (s : ℕ) → IsHomePath l v root va s → IsGoingHome l v w st word
  pub stands : w.walk ≡ onward (load_of st (Some word))
  pub at_root : w.root ≡ root
  pub entries : w.entries ≡ with_fill (asid_at v.config root) v.entries (load_of st (Some word))
  pub count : w.loads ≡ v.loads + length w.reads
  pub depth : st.level + length w.reads ≡ level_count l.scheme
  pub home : IsSameHome v w

-- a load that does not end the walk has the walk that goes on
pub flow-more : (made : Progress) (next : Stage) → flow_of made ≡ Continue next → progress.More next ≡ made
flow-more (progress.More one) next on = let same : next ≡ one = cc in ap (λ (s : Stage). progress.More s) same
flow-more (progress.Found found) next on = cc
flow-more (progress.Trap trap) next on = cc

-- after a load a state of the board has all that was read
pub loads-read : (v : View) (root : ℕ) (w : View) → Loads v root w → HasReads w
loads-read v root w (first st word w' is has) = has
loads-read v root w (further u st word w' before walking is has) = has

length-snoc : (rs : List Read) (r : Read) → length (rs ++ r ∷ []) ≡ length rs + 1
length-snoc rs r = omega (arith, length-append rs (r ∷ []))

module _ (l : Layout) (v : View) (local : Local l v) (root va : ℕ) (access : Access) (ctx : Ctx) where
  pub is-start : (st : Stage) → IsCanonical l.scheme va → st ≡ start_of l.scheme root va access ctx → IsStart l.scheme root st
  is-start st canonical is = subst (IsStart l.scheme root) (sym is) (record { canonical = canonical; is = refl })

  tree : IsHome l (memory_words (memory_of l v)) v.hart (holders_of (memory_of l v))
  tree = local-home l v local

  -- the root's slots below the window: those of the user's half are written by edits, and the
  -- others are 0
  root-own : (s : ℕ) (own : IsHomePath l v root va s) (word : ℕ) → memory_words (memory_of l v) root (vpn_of va (top_level l.scheme)) ≡ Some word
      → (g : ℕ) → pointed (Some word) ≡ Some g → IsOwn l root (vpn_of va (top_level l.scheme))
  root-own s own word read g points = elim (cases_lt (vpn_of va (top_level l.scheme)) user_slots) [
    | inl low ↦ λ _. low
    | inr high ↦
        let zero-word : memory_words (memory_of l v) root (vpn_of va (top_level l.scheme)) ≡ Some 0 =
        ap (λ f. memory_words (memory_of l v) f (vpn_of va (top_level l.scheme))) own.root_is ∙ tree.upper s (vpn_of va (top_level l.scheme)) own.has own.home high own.outside
        in
        absurd (let bad : None ≡ Some g = sym pointed-zero ∙ ap pointed (sym zero-word ∙ read) ∙ points in cc)
  ]

  begun-at : (word : ℕ) → IsCanonical l.scheme va → TellsLoad l v root (start_of l.scheme root va access ctx) [] word
      → IsGoing l v root va access ctx (start_of l.scheme root va access ctx) word (walked v root (start_of l.scheme root va access ctx) [] word)
  begun-at word canonical tells = record {
    about = record { same_va = refl; same_access = refl; same_ctx = refl };
    canonical = canonical;
    on = λ words has. (on_path-start l.scheme words root va access ctx canonical, has.0);
    frame = tells.frame;
    own_loads = first (start_of l.scheme root va access ctx) word (walked v root (start_of l.scheme root va access ctx) [] word) refl tells.has_reads;
    at_home = λ s own.
        let home : IsAtHome l v.hart root = of_root s own.has own.home own.root_is in
        let read = tells.at_home home in
        record { has = (read, tt); table = home; own = root-own s own word read };
    stands = refl;
    at_root = refl;
    entries = refl;
    count = refl;
    depth = refl;
    home = record { config = refl; next = refl; hart = refl; words = refl; holders = refl; used = refl; stores = refl; versions = refl; orders = refl; cell_steps = refl };
  }

  pub begun : (st : Stage) (word : ℕ) (w : View) → IsCanonical l.scheme va → st ≡ start_of l.scheme root va access ctx → w ≡ walked v root st [] word → TellsLoad l v root st [] word
      → IsGoing l v root va access ctx st word w
  begun st word w canonical is after tells =
      let after' : w ≡ walked v root (start_of l.scheme root va access ctx) [] word = after ∙ ap (λ s. walked v root s [] word) is in
      let tells' : TellsLoad l v root (start_of l.scheme root va access ctx) [] word = subst (λ s. TellsLoad l v root s [] word) is tells in
      subst (λ s. IsGoing l v root va access ctx s word w) (sym is)
      (subst (IsGoing l v root va access ctx (start_of l.scheme root va access ctx) word) (sym after') (begun-at word canonical tells'))

  module _ (st : Stage) (word : ℕ) (w : View) (going : IsGoing l v root va access ctx st word w) where
    goes : (words : Tables) → Has words w.reads → (made : Progress) → made ≡ load_of st (Some word) → GoesOn l.scheme words root st made
    goes words has made is =
        let on = going.on words has in
        goes-load l.scheme words root st (Some word) st.table (vpn_of st.va st.level) made on.0 (sym on.1) refl refl is

    pub lower : (next : Stage) → progress.More next ≡ load_of st (Some word) → next.level < st.level
    lower next is = let m = loads-read v root w going.own_loads in let g = goes (tables_in (layout_of w.config) m.on.state.words) m.has (progress.More next) is in omega (arith, g.1)

    pub walks-on : (next : Stage) → progress.More next ≡ load_of st (Some word) → w.walk ≡ Some next
    walks-on next is = going.stands ∙ ap onward (sym is)

    -- the words and the holders are those of the view before
    memory-is : memory_of l w ≡ memory_of l v
    memory-is = ap (λ ws. record { layout = l; words = ws; holders = w.holders }) going.home.words ∙ ap (λ hs. record { layout = l; words = v.words; holders = hs }) going.home.holders

    home-on : (next : Stage) (found : ℕ) → progress.More next ≡ load_of st (Some word) → TellsLoad l w root next w.reads found → IsGoingHome l v w st word
        → IsGoingHome l v (walked w root next w.reads found) next found
    home-on next found is tells old =
        let here = going.on (memory_words (memory_of l v)) old.has in
        let points = more-points st word next (sym is) in
        let step = tree.closed st.table (vpn_of st.va st.level) next.table old.table (old.own next.table points) (ap pointed here.1 ∙ points) in
        let home = spare-home l v.hart (holders_of (memory_of l v)) step.place next.table step.to in
        let read = ap (λ m. memory_words m next.table (vpn_of next.va next.level)) (sym memory-is) ∙ tells.at_home (subst (λ h. IsAtHome l h next.table) (sym going.home.hart) home) in
        record {
          has = has-snoc (memory_words (memory_of l v)) w.reads (read_of next found) old.has read;
          table = home;
          own = λ g e. subst (λ f. IsOwn l f (vpn_of next.va next.level)) (sym step.to.is) (spare-own l v.hart step.to.number _);
        }

    gone-to : (next : Stage) (found : ℕ) → progress.More next ≡ load_of st (Some word) → TellsLoad l w root next w.reads found → IsGoing l v root va access ctx next found (walked w root next w.reads found)
    gone-to next found is tells =
        let m = loads-read v root w going.own_loads in
        let some = goes (tables_in (layout_of w.config) m.on.state.words) m.has (progress.More next) is in
        record {
          about = same-access next st va access ctx some.2 going.about;
          canonical = going.canonical;
          on = λ words has.
              let parts = snoc-has words w.reads (read_of next found) has in
              let g = goes words parts.0 (progress.More next) is in
              (g.0, parts.1);
          frame = tells.frame;
          own_loads = further w next found (walked w root next w.reads found) going.own_loads (walks-on next is) refl tells.has_reads;
          at_home = λ s own. home-on next found is tells (going.at_home s own);
          stands = refl;
          at_root = refl;
          entries =
              ap (λ a. with_fill (asid_at a root) w.entries (load_of next (Some found))) going.home.config
              ∙ ap (λ es. with_fill (asid_at v.config root) es (load_of next (Some found))) (going.entries ∙ ap (with_fill (asid_at v.config root) v.entries) (sym is));
          count = omega (arith, going.count, length-snoc w.reads (read_of next found));
          depth = omega (arith, going.depth, length-snoc w.reads (read_of next found), some.1);
          home = record {
            config = going.home.config;
            next = going.home.next;
            hart = going.home.hart;
            words = going.home.words;
            holders = going.home.holders;
            used = going.home.used;
            stores = going.home.stores;
            versions = going.home.versions;
            orders = going.home.orders;
            cell_steps = going.home.cell_steps;
          };
        }

    pub gone : (next : Stage) (found : ℕ) (w' : View) → progress.More next ≡ load_of st (Some word) → w' ≡ walked w root next w.reads found → TellsLoad l w root next w.reads found
        → IsGoing l v root va access ctx next found w'
    gone next found w' is after tells = subst (IsGoing l v root va access ctx next found) (sym after) (gone-to next found is tells)

    pub found-at : (found : Found) → progress.Found found ≡ load_of st (Some word) → AnswersByLoads l v root va access ctx (Ok found) w
    found-at found is = record {
      own_loads = going.own_loads;
      each_memory = λ words has. outcome-same l.scheme words root st va access ctx (Ok found) going.about (goes words has (progress.Found found) is);
      read_back = λ s own.
          let old = going.at_home s own in
          outcome-same l.scheme (memory_words (memory_of l v)) root st va access ctx (Ok found) going.about (goes (memory_words (memory_of l v)) old.has (progress.Found found) is);
      count = going.count;
      few = omega (arith, going.depth);
      entries = going.entries ∙ ap (with_fill (asid_at v.config root) v.entries) (sym is);
      home = going.home;
    }

    pub trap-at : (trap : Trap) → progress.Trap trap ≡ load_of st (Some word) → AnswersByLoads l v root va access ctx (Err trap) w
    trap-at trap is = record {
      own_loads = going.own_loads;
      each_memory = λ words has. outcome-same l.scheme words root st va access ctx (Err trap) going.about (goes words has (progress.Trap trap) is);
      read_back = λ s own.
          let old = going.at_home s own in
          outcome-same l.scheme (memory_words (memory_of l v)) root st va access ctx (Err trap) going.about (goes (memory_words (memory_of l v)) old.has (progress.Trap trap) is);
      count = going.count;
      few = omega (arith, going.depth);
      entries = going.entries ∙ ap (with_fill (asid_at v.config root) v.entries) (sym is);
      home = going.home;
    }

    pub answer-at : (made : Progress) (answer : Result Found Trap) → made ≡ load_of st (Some word) → flow_of made ≡ Break answer → AnswersByLoads l v root va access ctx answer w
    answer-at (progress.More next) answer is over = cc
    answer-at (progress.Found found) answer is over = let same : Ok found ≡ answer = cc in subst (λ a. AnswersByLoads l v root va access ctx a w) same (found-at found is)
    answer-at (progress.Trap trap) answer is over = let same : Err trap ≡ answer = cc in subst (λ a. AnswersByLoads l v root va access ctx a w) same (trap-at trap is)
