-- Where there are more harts a text says the same, unless it named one that did not exist; and then
-- it is a step still.
use Rattle.pte.specs.declared.scheme.Scheme.{Scheme}
use Rattle.std.proofs.Common.{◌≡◌, ◌⊎◌, ℕ, ◌<◌, ◌≤◌, Bool, true, false, nat_lt, List, [], ◌∷◌, Option, Some, None, Result, Ok, Err, refl, sym, ap, ◌∙◌, inl, inr, arith, if◌then◌else◌}
use Rattle.std.proofs.lemmas.Bool.{cases_lt}
use Rattle.std.proofs.lemmas.Bool.Decides.{nat_tests}
use Rattle.history.specs.declared.live_step.LiveStep.{LiveStep}
use Rattle.steps.specs.declared.fault.StepFault.{StepFault}
use Rattle.steps.specs.declared.fault.StepFault.TheVariants.{NotStep, NoSuchHart, NotPage}
use Rattle.steps.specs.declared.parts.Parts.{Parts}
use Rattle.steps.specs.declared.table.Field.{Field}
use Rattle.steps.specs.declared.table.Field.TheVariants as fields
use Rattle.steps.specs.declared.table.StepName.{StepName}
use Rattle.steps.specs.declared.table.StepName.TheVariants.{Begin, Translate, Load, Map, Unmap, Protect, Flush, Switch, Fence, Post, Take, Serve, ServeFence, Ack, AckSelf, Collect, Finish, Close, Wait, Retire, Reclaim, Create}
use Rattle.steps.specs.Fields.{among, are_there, hart_in, named_among, named_in, named_of, page_in, place_of, register_of, scope_of, space_of, ticket_of, asid_of, flags_of}
use Rattle.steps.specs.Accesses.{access_of, ctx_of}
use Rattle.steps.specs.LiveSteps.{live_step_in, live_words, setup_step_in, setup_words}
use Rattle.steps.specs.Num.{num_of}
use Rattle.steps.specs.Reading.{at_least, followed, read, read_each, read_hart, read_step}
use Rattle.steps.specs.RunStep.{step_among}
use Rattle.steps.specs.StepFaults.{asked, ◌>>=◌}
use Rattle.steps.specs.Table.{event_of, live_fields, live_of, name_of, nothing, run_fields}
use Rattle.steps.specs.Words.{words_of}

abbrev Reading : Type 0 → Type 0
Reading X = Result X StepFault

-- whether a text is no step
abbrev is_not_step : StepFault → Bool
is_not_step NotStep = true
is_not_step NoSuchHart = false
is_not_step NotPage = false

abbrev is_none : {X : Type 0} → Reading X → Bool
is_none (Ok x) = false
is_none (Err fault) = is_not_step fault

none_is : {X : Type 0} (r : Reading X) → is_none r ≡ true → r ≡ Err NotStep
none_is (Ok x) h = cc
none_is (Err NotStep) h = refl
none_is (Err NoSuchHart) h = cc
none_is (Err NotPage) h = cc

-- the second, of more harts, is the first, unless that names a hart that does not exist
abbrev Keeps : {X : Type 0} → Reading X → Reading X → Type 0
Keeps r s = (s ≡ r) ⊎ ((r ≡ Err NoSuchHart) × (is_none s ≡ false))

same_none : {X : Type 0} (r s : Reading X) → Keeps r s → is_none s ≡ is_none r
same_none r s (inl same) = ap is_none same
same_none r s (inr (absent, is)) = is ∙ sym (ap is_none absent)

-- both are read, or have one fault
abbrev Alike : {X Y : Type 0} → Reading X → Reading Y → Type 0
Alike (Ok x) (Ok y) = Unit {0}
Alike (Ok x) (Err f) = ⊥
Alike (Err e) (Ok y) = ⊥
Alike (Err e) (Err f) = e ≡ f

alike_none : {X : Type 0} (r s : Reading X) → Alike r s → is_none r ≡ is_none s
alike_none (Ok x) (Ok y) a = refl
alike_none (Ok x) (Err f) a = absurd a
alike_none (Err e) (Ok y) a = absurd a
alike_none (Err e) (Err f) a = ap is_not_step a

-- ---- the fault of a word does not depend on what was read before it

put_alike : {A : Type 0} (r : Reading A) (g h : A → Parts) → Alike (r >>= λ x. Ok (g x)) (r >>= λ x. Ok (h x))
put_alike (Ok x) g h = tt
put_alike (Err e) g h = refl

field_alike : (scheme : Scheme) (n : ℕ) (field : Field) (word : List ℕ) (p q : Parts) → Alike (read scheme n field word p) (read scheme n field word q)
field_alike scheme n fields.Hart word p q = put_alike (hart_in n word) _ _
field_alike scheme n fields.Mode word p q = put_alike (asked (ctx_of word)) _ _
field_alike scheme n fields.Access word p q = put_alike (asked (access_of word)) _ _
field_alike scheme n fields.Va word p q = put_alike (asked (num_of word)) _ _
field_alike scheme n fields.Address word p q = put_alike (asked (num_of word)) _ _
field_alike scheme n fields.Place word p q = put_alike (asked (place_of word)) _ _
field_alike scheme n fields.Page word p q = put_alike (page_in scheme word) _ _
field_alike scheme n fields.Ppn word p q = put_alike (asked (num_of word)) _ _
field_alike scheme n fields.Flags word p q = put_alike (asked (flags_of word)) _ _
field_alike scheme n fields.Named word p q = put_alike (named_in n word) _ _
field_alike scheme n fields.Scope word p q = put_alike (asked (scope_of word)) _ _
field_alike scheme n fields.Rs1 word p q = put_alike (asked (register_of word)) _ _
field_alike scheme n fields.Rs2 word p q = put_alike (asked (register_of word)) _ _
field_alike scheme n fields.Space word p q = put_alike (asked (space_of word)) _ _
field_alike scheme n fields.Asid word p q = put_alike (asked (asid_of word)) _ _
field_alike scheme n fields.Ticket word p q = put_alike (asked (ticket_of word)) _ _
field_alike scheme n fields.From word p q = put_alike (hart_in n word) _ _
field_alike scheme n fields.To word p q = put_alike (hart_in n word) _ _

at_least_alike : {X : Type 0} (e f : StepFault) (r s : Reading X) → e ≡ f → Alike r s → Alike (at_least e r) (at_least f s)
at_least_alike e f (Ok x) (Ok y) same a = same
at_least_alike e f (Ok x) (Err g) same a = absurd a
at_least_alike e f (Err g) (Ok y) same a = absurd a
at_least_alike e f (Err g) (Err h) same a = rw (same, a) refl

followed_alike : {X : Type 0} (r s : Reading Parts) (p q : Parts) (k : Parts → Reading X) → Alike r s → ((x y : Parts) → Alike (k x) (k y)) → Alike (followed r p k) (followed s q k)
followed_alike (Ok x) (Ok y) p q k a h = h x y
followed_alike (Ok x) (Err f) p q k a h = absurd a
followed_alike (Err e) (Ok y) p q k a h = absurd a
followed_alike (Err e) (Err f) p q k a h = at_least_alike e f (k p) (k q) a (h p q)

each_alike : (scheme : Scheme) (n : ℕ) (fields : List Field) (words : List (List ℕ)) (p q : Parts) → Alike (read_each scheme n fields words p) (read_each scheme n fields words q)
each_alike scheme n [] [] p q = tt
each_alike scheme n [] (word ∷ words) p q = refl
each_alike scheme n (field ∷ fields) [] p q = refl
each_alike scheme n (field ∷ fields) (word ∷ words) p q =
    followed_alike (read scheme n field word p) (read scheme n field word q) p q (λ s. read_each scheme n fields words s) (field_alike scheme n field word p q) (each_alike scheme n fields words)

-- ---- more harts

lt_more : (m n hart : ℕ) → m ≤ n → nat_lt hart m ≡ true → nat_lt hart n ≡ true
lt_more m n hart less h = grind (arith, nat_tests)

there_more : (m n : ℕ) (greatest : Option ℕ) → m ≤ n → are_there m greatest ≡ true → are_there n greatest ≡ true
there_more m n None less h = refl
there_more m n (Some hart) less h = lt_more m n hart less h

-- a test that passes with the one number of harts passes with the other
if_there : {A : Type 0} (x : A) (b b' : Bool) → (b ≡ true → b' ≡ true) → Keeps (if b then Ok x else Err NoSuchHart) (if b' then Ok x else Err NoSuchHart)
if_there x true true t = inl refl
if_there x true false t = let wrong = t refl in cc
if_there x false true t = inr (refl, refl)
if_there x false false t = inl refl

asked_keeps : {A X : Type 0} (o : Option A) (f g : A → Reading X) → ((x : A) → Keeps (f x) (g x)) → Keeps (asked o >>= f) (asked o >>= g)
asked_keeps None f g h = inl refl
asked_keeps (Some x) f g h = h x

bind_step : {A X : Type 0} (r : Reading A) (f : A → Reading X) → is_none r ≡ false → ((x : A) → is_none (f x) ≡ false) → is_none (r >>= f) ≡ false
bind_step (Ok x) f h k = k x
bind_step (Err NotStep) f h k = cc
bind_step (Err NoSuchHart) f h k = refl
bind_step (Err NotPage) f h k = refl

bind_keeps : {A X : Type 0} (r s : Reading A) (f : A → Reading X) → Keeps r s → ((x : A) → is_none (f x) ≡ false) → Keeps (r >>= f) (s >>= f)
bind_keeps r s f (inl same) k = inl (ap (λ x. x >>= f) same)
bind_keeps r s f (inr (absent, is)) k = inr (ap (λ x. x >>= f) absent, bind_step s f is k)

at_least_hart : {X : Type 0} (r : Reading X) → is_none r ≡ false → at_least NoSuchHart r ≡ Err NoSuchHart
at_least_hart (Ok x) h = refl
at_least_hart (Err NotStep) h = cc
at_least_hart (Err NoSuchHart) h = refl
at_least_hart (Err NotPage) h = refl

at_least_step : {X : Type 0} (e : StepFault) (r : Reading X) → is_not_step e ≡ false → is_none r ≡ false → is_none (at_least e r) ≡ false
at_least_step e (Ok x) g h = g
at_least_step e (Err NotStep) g h = cc
at_least_step NotStep (Err NoSuchHart) g h = g
at_least_step NoSuchHart (Err NoSuchHart) g h = refl
at_least_step NotPage (Err NoSuchHart) g h = refl
at_least_step NotStep (Err NotPage) g h = g
at_least_step NoSuchHart (Err NotPage) g h = refl
at_least_step NotPage (Err NotPage) g h = refl

at_least_none : {X : Type 0} (r : Reading X) → at_least NotStep r ≡ Err NotStep
at_least_none (Ok x) = refl
at_least_none (Err f) = refl

at_least_keeps : {X : Type 0} (e : StepFault) (r s : Reading X) → Keeps r s → Keeps (at_least e r) (at_least e s)
at_least_keeps e r s (inl same) = inl (ap (at_least e) same)
at_least_keeps NotStep r s (inr other) = inl (at_least_none s ∙ sym (at_least_none r))
at_least_keeps NoSuchHart r s (inr (absent, is)) = inl (at_least_hart s is ∙ sym (ap (at_least NoSuchHart) absent))
at_least_keeps NotPage r s (inr (absent, is)) = inr (ap (at_least NotPage) absent, at_least_step NotPage s refl is)

-- what follows a hart that did not exist
after_absent : {X : Type 0} (r s : Reading X) (b : Bool) → is_none r ≡ b → is_none s ≡ b → (t : Reading X) → is_none t ≡ is_none s → Keeps (at_least NoSuchHart r) t
after_absent r s true is same t alike = inl (none_is t (alike ∙ same) ∙ sym (ap (at_least NoSuchHart) (none_is r is)))
after_absent r s false is same t alike = inr (at_least_hart r is, alike ∙ same)

graver_none : {X : Type 0} (e : StepFault) (r : Reading X) → is_not_step e ≡ false → is_none (at_least e r) ≡ is_none r
graver_none NotStep r h = cc
graver_none NoSuchHart (Ok x) h = refl
graver_none NoSuchHart (Err NotStep) h = refl
graver_none NoSuchHart (Err NoSuchHart) h = refl
graver_none NoSuchHart (Err NotPage) h = refl
graver_none NotPage (Ok x) h = refl
graver_none NotPage (Err f) h = refl

followed_keeps : {X : Type 0} (r s : Reading Parts) (p : Parts) (k l : Parts → Reading X) → Keeps r s → ((x : Parts) → Keeps (k x) (l x)) → ((x y : Parts) → Alike (l x) (l y))
    → Keeps (followed r p k) (followed s p l)
followed_keeps {X} r s p k l (inl same) h a = rw same (by_first r)
  where
    by_first : (r : Reading Parts) → Keeps (followed r p k) (followed r p l)
    by_first (Ok x) = h x
    by_first (Err e) = at_least_keeps e (k p) (l p) (h p)
followed_keeps {X} r s p k l (inr (absent, is)) h a = rw absent (by_second s is)
  where
    none : is_none (l p) ≡ is_none (k p)
    none = same_none (k p) (l p) (h p)

    by_second : (s : Reading Parts) → is_none s ≡ false → Keeps (at_least NoSuchHart (k p)) (followed s p l)
    by_second (Ok y) is = after_absent (k p) (l p) (is_none (k p)) refl none (l y) (alike_none (l y) (l p) (a y p))
    by_second (Err e) is = after_absent (k p) (l p) (is_none (k p)) refl none (at_least e (l p)) (graver_none e (l p) is)

module _ (scheme : Scheme) (m n : ℕ) (less : m ≤ n) where
  hart_keeps : (word : List ℕ) → Keeps (hart_in m word) (hart_in n word)
  hart_keeps word = asked_keeps (num_of word) (among m) (among n) (λ hart. if_there hart (nat_lt hart m) (nat_lt hart n) (lt_more m n hart less))

  named_keeps : (word : List ℕ) → Keeps (named_in m word) (named_in n word)
  named_keeps word =
      asked_keeps (named_of word) (named_among m) (named_among n) (λ named. if_there _ (are_there m named.greatest) (are_there n named.greatest) (there_more m n named.greatest less))

  field_keeps : (field : Field) (word : List ℕ) (p : Parts) → Keeps (read scheme m field word p) (read scheme n field word p)
  field_keeps fields.Hart word p = bind_keeps (hart_in m word) (hart_in n word) _ (hart_keeps word) (λ x. refl)
  field_keeps fields.Named word p = bind_keeps (named_in m word) (named_in n word) _ (named_keeps word) (λ x. refl)
  field_keeps fields.From word p = bind_keeps (hart_in m word) (hart_in n word) _ (hart_keeps word) (λ x. refl)
  field_keeps fields.To word p = bind_keeps (hart_in m word) (hart_in n word) _ (hart_keeps word) (λ x. refl)
  field_keeps fields.Mode word p = inl refl
  field_keeps fields.Access word p = inl refl
  field_keeps fields.Va word p = inl refl
  field_keeps fields.Address word p = inl refl
  field_keeps fields.Place word p = inl refl
  field_keeps fields.Page word p = inl refl
  field_keeps fields.Ppn word p = inl refl
  field_keeps fields.Flags word p = inl refl
  field_keeps fields.Scope word p = inl refl
  field_keeps fields.Rs1 word p = inl refl
  field_keeps fields.Rs2 word p = inl refl
  field_keeps fields.Space word p = inl refl
  field_keeps fields.Asid word p = inl refl
  field_keeps fields.Ticket word p = inl refl

  each_keeps : (fields : List Field) (words : List (List ℕ)) (p : Parts) → Keeps (read_each scheme m fields words p) (read_each scheme n fields words p)
  each_keeps [] [] p = inl refl
  each_keeps [] (word ∷ words) p = inl refl
  each_keeps (field ∷ fields) [] p = inl refl
  each_keeps (field ∷ fields) (word ∷ words) p =
      followed_keeps (read scheme m field word p) (read scheme n field word p) p (λ s. read_each scheme m fields words s) (λ s. read_each scheme n fields words s) (field_keeps field word p)
      (each_keeps fields words) (each_alike scheme n fields words)

-- ---- a table's step, which each row makes of whatever its words say

abbrev Makes : {X : Type 0} → (StepName → Option (List Field)) → (StepName → Parts → Option X) → Type 0
Makes {X} fields_of makes = (name : StepName) (row : List Field) → fields_of name ≡ Some row → (p : Parts) → is_none (asked (makes name p)) ≡ false

module _ {X : Type 0} (fields_of : StepName → Option (List Field)) (makes : StepName → Parts → Option X) (made : Makes fields_of makes) (scheme : Scheme) where
  bind_alike : (r s : Reading Parts) (f : Parts → Option X) → Alike r s → ((p : Parts) → is_none (asked (f p)) ≡ false) → Alike (r >>= λ p. asked (f p)) (s >>= λ p. asked (f p))
  bind_alike (Ok p) (Ok q) f a h = by_options (f p) (f q) (h p) (h q)
    where
      by_options : (o u : Option X) → is_none (asked o) ≡ false → is_none (asked u) ≡ false → Alike (asked o) (asked u)
      by_options (Some x) (Some y) g h = tt
      by_options None u g h = cc
      by_options (Some x) None g h = cc
  bind_alike (Ok p) (Err f) g a h = absurd a
  bind_alike (Err e) (Ok q) g a h = absurd a
  bind_alike (Err e) (Err f) g a h = a

  step_alike : (n : ℕ) (words : List (List ℕ)) (p q : Parts) → Alike (read_step fields_of makes scheme n words p) (read_step fields_of makes scheme n words q)
  step_alike n [] p q = refl
  step_alike n (word ∷ words) p q = by_name (name_of word)
    where
      by_row : (name : StepName) (o : Option (List Field)) → fields_of name ≡ o
          → Alike (asked o >>= λ row. read_each scheme n row words p >>= λ s. asked (makes name s)) (asked o >>= λ row. read_each scheme n row words q >>= λ s. asked (makes name s))
      by_row name None is = refl
      by_row name (Some row) is =
          bind_alike (read_each scheme n row words p) (read_each scheme n row words q) (makes name) (each_alike scheme n row words p q) (made name row is)

      by_name : (o : Option StepName)
          → Alike (asked o >>= λ name. asked (fields_of name) >>= λ row. read_each scheme n row words p >>= λ s. asked (makes name s))
          (asked o >>= λ name. asked (fields_of name) >>= λ row. read_each scheme n row words q >>= λ s. asked (makes name s))
      by_name None = refl
      by_name (Some name) = by_row name (fields_of name) refl

  step_keeps : (m n : ℕ) → m ≤ n → (words : List (List ℕ)) (p : Parts) → Keeps (read_step fields_of makes scheme m words p) (read_step fields_of makes scheme n words p)
  step_keeps m n less [] p = inl refl
  step_keeps m n less (word ∷ words) p = asked_keeps (name_of word) _ _ (λ name. by_row name (fields_of name) refl)
    where
      by_row : (name : StepName) (o : Option (List Field)) → fields_of name ≡ o
          → Keeps (asked o >>= λ row. read_each scheme m row words p >>= λ s. asked (makes name s)) (asked o >>= λ row. read_each scheme n row words p >>= λ s. asked (makes name s))
      by_row name None is = inl refl
      by_row name (Some row) is = bind_keeps (read_each scheme m row words p) (read_each scheme n row words p) (λ s. asked (makes name s)) (each_keeps scheme m n less row words p) (made name row is)

-- the hart's number, before what keeps its steps
hart_first_keeps : {X : Type 0} (scheme : Scheme) (m n : ℕ) (k l : List (List ℕ) → Parts → Reading X) → m ≤ n → ((words : List (List ℕ)) (p : Parts) → Keeps (k words p) (l words p))
    → ((words : List (List ℕ)) (p q : Parts) → Alike (l words p) (l words q)) → (words : List (List ℕ)) → Keeps (read_hart scheme m k words) (read_hart scheme n l words)
hart_first_keeps scheme m n k l less keeps alike [] = inl refl
hart_first_keeps scheme m n k l less keeps alike (word ∷ words) =
    followed_keeps (read scheme m fields.Hart word nothing) (read scheme n fields.Hart word nothing) nothing (k words) (l words) (field_keeps scheme m n less fields.Hart word nothing) (keeps words)
    (alike words)

run_makes : Makes run_fields event_of
run_makes Begin row is p = refl
run_makes Translate row is p = cc
run_makes Load row is p = refl
run_makes Map row is p = refl
run_makes Unmap row is p = refl
run_makes Protect row is p = refl
run_makes Flush row is p = refl
run_makes Switch row is p = refl
run_makes Fence row is p = refl
run_makes Post row is p = refl
run_makes Take row is p = refl
run_makes Serve row is p = cc
run_makes ServeFence row is p = refl
run_makes Ack row is p = refl
run_makes AckSelf row is p = refl
run_makes Collect row is p = refl
run_makes Finish row is p = refl
run_makes Close row is p = refl
run_makes Wait row is p = cc
run_makes Retire row is p = refl
run_makes Reclaim row is p = refl
run_makes Create row is p = refl

live_makes : Makes live_fields live_of
live_makes Begin row is p = cc
live_makes Translate row is p = refl
live_makes Load row is p = cc
live_makes Map row is p = refl
live_makes Unmap row is p = refl
live_makes Protect row is p = refl
live_makes Flush row is p = refl
live_makes Switch row is p = refl
live_makes Fence row is p = refl
live_makes Post row is p = refl
live_makes Take row is p = cc
live_makes Serve row is p = refl
live_makes ServeFence row is p = cc
live_makes Ack row is p = cc
live_makes AckSelf row is p = refl
live_makes Collect row is p = refl
live_makes Finish row is p = refl
live_makes Close row is p = refl
live_makes Wait row is p = refl
live_makes Retire row is p = cc
live_makes Reclaim row is p = cc
live_makes Create row is p = cc

beside_alike : {A X : Type 0} (r s : Reading A) (f g : A → X) → Alike r s → Alike (r >>= λ x. Ok (f x)) (s >>= λ x. Ok (g x))
beside_alike (Ok x) (Ok y) f g a = tt
beside_alike (Ok x) (Err e) f g a = absurd a
beside_alike (Err e) (Ok y) f g a = absurd a
beside_alike (Err e) (Err h) f g a = a

-- ---- of a reader that keeps its steps

more_by : {X : Type 0} (r s : Reading X) → Keeps r s → ¬ (r ≡ Err NoSuchHart) → s ≡ r
more_by r s k h = elim k [ inl same ↦ same | inr other ↦ absurd (h other.0) ]

none_by : {X : Type 0} (read : ℕ → Reading X) (m n : ℕ) → ((i j : ℕ) → i ≤ j → Keeps (read i) (read j)) → read m ≡ Err NotStep → read n ≡ Err NotStep
none_by read m n keeps h = by_order (cases_lt m n)
  where
    by_order : (m < n) ⊎ (n ≤ m) → read n ≡ Err NotStep
    by_order (inl less) = none_is (read n) (same_none (read m) (read n) (keeps m n (omega arith)) ∙ ap is_none h)
    by_order (inr less) = none_is (read n) (sym (same_none (read n) (read m) (keeps n m less)) ∙ ap is_none h)

run_keeps : (scheme : Scheme) (text : List ℕ) (m n : ℕ) → m ≤ n → Keeps (step_among scheme m text) (step_among scheme n text)
run_keeps scheme text m n less =
    hart_first_keeps scheme m n (read_step run_fields event_of scheme m) (read_step run_fields event_of scheme n) less (step_keeps run_fields event_of run_makes scheme m n less)
    (step_alike run_fields event_of run_makes scheme n) (words_of text)

live_keeps : (scheme : Scheme) (text : List ℕ) (m n : ℕ) → m ≤ n → Keeps (live_step_in scheme m text) (live_step_in scheme n text)
live_keeps scheme text m n less = step_keeps live_fields live_of live_makes scheme m n less (words_of text) nothing

setup_keeps : (scheme : Scheme) (text : List ℕ) (m n : ℕ) → m ≤ n → Keeps (setup_step_in scheme m text) (setup_step_in scheme n text)
setup_keeps scheme text m n less =
    hart_first_keeps scheme m n (setup_words scheme m) (setup_words scheme n) less
    (λ words p. bind_keeps (live_words scheme m words p) (live_words scheme n words p) (λ s. Ok (p.hart, s)) (step_keeps live_fields live_of live_makes scheme m n less words p) (λ s. refl))
    (λ words p q. beside_alike {X = ℕ × LiveStep} (live_words scheme n words p) (live_words scheme n words q) (λ s. (p.hart, s)) (λ s. (q.hart, s)) (step_alike live_fields live_of live_makes scheme n words p q))
    (words_of text)

pub more_harts : (scheme : Scheme) (m n : ℕ) (text : List ℕ) → m ≤ n → ¬ (step_among scheme m text ≡ Err NoSuchHart) → step_among scheme n text ≡ step_among scheme m text
more_harts scheme m n text less h = more_by _ _ (run_keeps scheme text m n less) h

-- a text that is no step for some harts is none for any
pub no_step_for_any : (scheme : Scheme) (m n : ℕ) (text : List ℕ) → step_among scheme m text ≡ Err NotStep → step_among scheme n text ≡ Err NotStep
no_step_for_any scheme m n text h = none_by (λ harts. step_among scheme harts text) m n (run_keeps scheme text) h

pub more_harts_live : (scheme : Scheme) (m n : ℕ) (text : List ℕ) → m ≤ n → ¬ (live_step_in scheme m text ≡ Err NoSuchHart) → live_step_in scheme n text ≡ live_step_in scheme m text
more_harts_live scheme m n text less h = more_by _ _ (live_keeps scheme text m n less) h

pub no_live_step_for_any : (scheme : Scheme) (m n : ℕ) (text : List ℕ) → live_step_in scheme m text ≡ Err NotStep → live_step_in scheme n text ≡ Err NotStep
no_live_step_for_any scheme m n text h = none_by (λ harts. live_step_in scheme harts text) m n (live_keeps scheme text) h

pub more_harts_setup : (scheme : Scheme) (m n : ℕ) (text : List ℕ) → m ≤ n → ¬ (setup_step_in scheme m text ≡ Err NoSuchHart) → setup_step_in scheme n text ≡ setup_step_in scheme m text
more_harts_setup scheme m n text less h = more_by _ _ (setup_keeps scheme text m n less) h

pub no_setup_step_for_any : (scheme : Scheme) (m n : ℕ) (text : List ℕ) → setup_step_in scheme m text ≡ Err NotStep → setup_step_in scheme n text ≡ Err NotStep
no_setup_step_for_any scheme m n text h = none_by (λ harts. setup_step_in scheme harts text) m n (setup_keeps scheme text) h
