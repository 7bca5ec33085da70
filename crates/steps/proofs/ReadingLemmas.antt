-- What is read of a word, of the words of a step and of a text is what is written there.
use Rattle.std.proofs.Common.{◌≡◌, ℕ, ◌<◌, ◌^◌, Bool, true, false, nat_lt, if◌then◌else◌, List, [], ◌∷◌, ◌++◌, Option, Some, None, option_map, Result, Ok, Err, refl, sym, ap, subst, ◌∙◌}
use Rattle.std.specs.Result.{result_ok}
use Rattle.std.proofs.lemmas.Option.{same_Some}
use Rattle.pte.specs.Address.{IsPageOf, Span}
use Rattle.pte.specs.declared.TheConstants.{ASID_BITS}
use Rattle.pte.specs.declared.scheme.Scheme.{Scheme}
use Rattle.pte.specs.declared.scheme.Scheme.TheVariants.{Sv39}
use Rattle.pte.specs.declared.permission.Access.{Access}
use Rattle.pte.specs.declared.permission.Access.TheVariants.{Fetch, Load, Store}
use Rattle.pte.specs.declared.permission.Ctx.{Ctx}
use Rattle.pte.specs.declared.permission.Mode.TheVariants.{User, Super}
use Rattle.steps.specs.declared.fault.StepFault.{StepFault}
use Rattle.steps.specs.declared.fault.StepFault.TheVariants.{NotStep, NoSuchHart}
use Rattle.steps.specs.declared.parts.Parts.{Parts}
use Rattle.steps.specs.declared.step.WalkStep.{WalkStep}
use Rattle.steps.specs.declared.table.Field.{Field}
use Rattle.steps.specs.declared.table.Field.TheVariants as fields
use Rattle.steps.specs.declared.table.StepName.{StepName}
use Rattle.steps.specs.Accesses.{access_of, access_text, ctx_of, ctx_text, ctxs_of}
use Rattle.steps.specs.Fields.{among, asid_of, flags_of, hart_in, named_among, named_in, named_of, page_at, page_in, page_of, place_of, register_of, scope_of, space_of, ticket_of}
use Rattle.steps.specs.Grammar.{HasWords, WritesStep}
use Rattle.steps.specs.Num.{num_of}
use Rattle.steps.specs.Reading.{at_least, followed, read, read_each, read_hart, read_step}
use Rattle.steps.specs.Step.{walk_step_of}
use Rattle.steps.specs.StepFaults.{asked, graver, ◌>>=◌}
use Rattle.steps.specs.StepGrammar.{Puts, Tells, WritesBelow, WritesEach, WritesField, WritesNamed, WritesPage}
use Rattle.steps.specs.Table.{name_of, nothing, walk_fields, walk_of}
use Rattle.steps.specs.Words.{words_of}
use Rattle.steps.proofs.FieldLemmas.{below-writes, flags-writes, lt_from_test, lt_test, not_Ok, page-writes, page_is_there, place-writes, register-writes, same_Ok, scope-writes, there-is_page, writes-below, writes-flags, writes-page_word, writes-place, writes-register, writes-scope}
use Rattle.steps.proofs.GrammarLemmas.{num_of-writes, writes-num_of}
use Rattle.steps.proofs.NamedLemmas.{named-writes, writes-named}
use Rattle.steps.proofs.TableLemmas.{name_of-word, word-name_of}
use Rattle.steps.proofs.WordLemmas.{access_of-text, ctx_of-text, has-words_of, named-Some, words_of-has}

-- ---- one after another

pub result_bind : {A B : Type 0} (r : Result A StepFault) (f : A → Result B StepFault) (y : B) → (r >>= f) ≡ Ok y → (x : A) × (r ≡ Ok x) × (f x ≡ Ok y)
result_bind (Err e) f y h = absurd (not_Ok _ e y refl h)
result_bind (Ok x) f y h = (x, refl, h)

asked_Some : {A : Type 0} (o : Option A) (x : A) → asked o ≡ Ok x → o ≡ Some x
asked_Some None x h = absurd (not_Ok _ NotStep x refl h)
asked_Some (Some y) x h = ap Some (same_Ok _ y x refl h)

followed_Ok : {X : Type 0} (r : Result Parts StepFault) (p : Parts) (rest : Parts → Result X StepFault) (y : X) → followed r p rest ≡ Ok y → (q : Parts) × (r ≡ Ok q) × (rest q ≡ Ok y)
followed_Ok (Ok q) p rest y h = (q, refl, h)
followed_Ok {X} (Err e) p rest y h = absurd (never (rest p) h)
  where
    never : (s : Result X StepFault) → at_least e s ≡ Ok y → ⊥
    never (Ok x) h = not_Ok _ e y refl h
    never (Err f) h = not_Ok _ (graver e f) y refl h

-- ---- the words that a scheme or the harts may refuse

hart-writes : (harts : ℕ) (word : List ℕ) (hart : ℕ) → WritesBelow harts word hart → hart_in harts word ≡ Ok hart
hart-writes harts word hart h = rw (num_of-writes word hart h.0, lt_test hart harts h.1) refl

among_Ok : (harts n hart : ℕ) → among harts n ≡ Ok hart → (n < harts) × (n ≡ hart)
among_Ok harts n hart h = by_test (nat_lt n harts) refl h
  where
    by_test : (b : Bool) → nat_lt n harts ≡ b → (if b then Ok n else Err NoSuchHart) ≡ Ok hart → (n < harts) × (n ≡ hart)
    by_test true e h = (lt_from_test n harts e, same_Ok _ n hart refl h)
    by_test false e h = absurd (not_Ok _ NoSuchHart hart refl h)

writes-hart : (harts : ℕ) (word : List ℕ) (hart : ℕ) → hart_in harts word ≡ Ok hart → WritesBelow harts word hart
writes-hart harts word hart h =
    let n = result_bind (asked (num_of word)) (among harts) hart h in
    let is = among_Ok harts n.0 hart n.2 in
    subst (WritesBelow harts word) is.1 (writes-num_of word n.0 (asked_Some (num_of word) n.0 n.1), is.0)

page_in-writes : (scheme : Scheme) (word : List ℕ) (page : Span) → WritesPage scheme word page → page_in scheme word ≡ Ok page
page_in-writes scheme word page h = rw (page-writes scheme word page h) (page_is_there scheme page h.3)

writes-page_in : (scheme : Scheme) (word : List ℕ) (page : Span) → page_in scheme word ≡ Ok page → WritesPage scheme word page
writes-page_in scheme word page h =
    let w = result_bind (asked (page_of scheme word)) (page_at scheme) page h in
    let writes = writes-page_word scheme word w.0 (asked_Some (page_of scheme word) w.0 w.1) in
    let is = there-is_page scheme w.0 page writes.0 w.2 in
    subst (WritesPage scheme word) (sym is.1) (writes.1.0, writes.1.1, writes.1.2, subst (IsPageOf scheme) is.1 is.0)

named_in-writes : (harts : ℕ) (word : List ℕ) (set : ℕ) → WritesNamed harts word set → named_in harts word ≡ Ok set
named_in-writes harts word set h = let n = named-writes harts word set h in rw n.read n.there

writes-named_in : (harts : ℕ) (word : List ℕ) (set : ℕ) → named_in harts word ≡ Ok set → WritesNamed harts word set
writes-named_in harts word set h =
    let n = result_bind (asked (named_of word)) (named_among harts) set h in
    writes-named harts word n.0 set (asked_Some (named_of word) n.0 n.1) n.2

-- ---- the words of an access

ctx-writes : (word : List ℕ) (ctx : Ctx) → word ≡ ctx_text ctx → ctx_of word ≡ Some ctx
ctx-writes word ctx h = ap ctx_of h ∙ ctx_of-text ctx.mode ctx.sum ctx.mxr

access-writes : (word : List ℕ) (access : Access) → word ≡ access_text access → access_of word ≡ Some access
access-writes word access h = ap access_of h ∙ access_of-text access

-- ---- what is put into the parts

puts-found : {X : Type 0} (r : Result X StepFault) (Writes : X → Type 0) (put : X → Parts) (q : Parts) → ((x : X) → Writes x → r ≡ Ok x) → Puts Writes put q → (r >>= λ x. Ok (put x)) ≡ Ok q
puts-found r Writes put q found (x, w, is) = ap (λ (s : Result _ StepFault). s >>= λ x. Ok (put x)) (found x w) ∙ ap Ok (sym is)

found-puts : {X : Type 0} (r : Result X StepFault) (Writes : X → Type 0) (put : X → Parts) (q : Parts) → ((x : X) → r ≡ Ok x → Writes x) → (r >>= λ x. Ok (put x)) ≡ Ok q → Puts Writes put q
found-puts r Writes put q written h = let b = result_bind r (λ x. Ok (put x)) q h in (b.0, written b.0 b.1, sym (same_Ok (Ok (put b.0)) (put b.0) q refl b.2))

-- the same of a word that is asked for
asked-found : {X : Type 0} (o : Option X) (Writes : X → Type 0) (put : X → Parts) (q : Parts) → ((x : X) → Writes x → o ≡ Some x) → Puts Writes put q → (asked o >>= λ x. Ok (put x)) ≡ Ok q
asked-found o Writes put q found w = puts-found (asked o) Writes put q (λ x w. ap asked (found x w)) w

found-asked : {X : Type 0} (o : Option X) (Writes : X → Type 0) (put : X → Parts) (q : Parts) → ((x : X) → o ≡ Some x → Writes x) → (asked o >>= λ x. Ok (put x)) ≡ Ok q → Puts Writes put q
found-asked o Writes put q written h = found-puts (asked o) Writes put q (λ x e. written x (asked_Some o x e)) h

pub field-writes : (scheme : Scheme) (harts : ℕ) (field : Field) (word : List ℕ) (p q : Parts) → WritesField scheme harts field word p q → read scheme harts field word p ≡ Ok q
field-writes scheme harts fields.Hart word p q w = puts-found (hart_in harts word) _ _ q (hart-writes harts word) w
field-writes scheme harts fields.Mode word p q w = asked-found (ctx_of word) _ _ q (ctx-writes word) w
field-writes scheme harts fields.Access word p q w = asked-found (access_of word) _ _ q (access-writes word) w
field-writes scheme harts fields.Va word p q w = asked-found (num_of word) _ _ q (num_of-writes word) w
field-writes scheme harts fields.Address word p q w = asked-found (num_of word) _ _ q (num_of-writes word) w
field-writes scheme harts fields.Place word p q w = asked-found (place_of word) _ _ q (place-writes word) w
field-writes scheme harts fields.Page word p q w = puts-found (page_in scheme word) _ _ q (page_in-writes scheme word) w
field-writes scheme harts fields.Ppn word p q w = asked-found (num_of word) _ _ q (num_of-writes word) w
field-writes scheme harts fields.Flags word p q w = asked-found (flags_of word) _ _ q (flags-writes word) w
field-writes scheme harts fields.Named word p q w = puts-found (named_in harts word) _ _ q (named_in-writes harts word) w
field-writes scheme harts fields.Scope word p q w = asked-found (scope_of word) _ _ q (scope-writes word) w
field-writes scheme harts fields.Rs1 word p q w = asked-found (register_of word) _ _ q (register-writes word) w
field-writes scheme harts fields.Rs2 word p q w = asked-found (register_of word) _ _ q (register-writes word) w
field-writes scheme harts fields.Space word p q w = asked-found (space_of word) _ _ q (below-writes (2 ^ 8) word) w
field-writes scheme harts fields.Asid word p q w = asked-found (asid_of word) _ _ q (below-writes (2 ^ ASID_BITS) word) w
field-writes scheme harts fields.Ticket word p q w = asked-found (ticket_of word) _ _ q (below-writes (2 ^ 32) word) w
field-writes scheme harts fields.From word p q w = puts-found (hart_in harts word) _ _ q (hart-writes harts word) w
field-writes scheme harts fields.To word p q w = puts-found (hart_in harts word) _ _ q (hart-writes harts word) w

pub writes-field : (scheme : Scheme) (harts : ℕ) (field : Field) (word : List ℕ) (p q : Parts) → read scheme harts field word p ≡ Ok q → WritesField scheme harts field word p q
writes-field scheme harts fields.Hart word p q h = found-puts (hart_in harts word) _ _ q (writes-hart harts word) h
writes-field scheme harts fields.Mode word p q h = found-asked (ctx_of word) _ _ q (named-Some ctx_text (ctxs_of User ++ ctxs_of Super) word) h
writes-field scheme harts fields.Access word p q h = found-asked (access_of word) _ _ q (named-Some access_text (Fetch ∷ Load ∷ Store ∷ []) word) h
writes-field scheme harts fields.Va word p q h = found-asked (num_of word) _ _ q (writes-num_of word) h
writes-field scheme harts fields.Address word p q h = found-asked (num_of word) _ _ q (writes-num_of word) h
writes-field scheme harts fields.Place word p q h = found-asked (place_of word) _ _ q (writes-place word) h
writes-field scheme harts fields.Page word p q h = found-puts (page_in scheme word) _ _ q (writes-page_in scheme word) h
writes-field scheme harts fields.Ppn word p q h = found-asked (num_of word) _ _ q (writes-num_of word) h
writes-field scheme harts fields.Flags word p q h = found-asked (flags_of word) _ _ q (writes-flags word) h
writes-field scheme harts fields.Named word p q h = found-puts (named_in harts word) _ _ q (writes-named_in harts word) h
writes-field scheme harts fields.Scope word p q h = found-asked (scope_of word) _ _ q (writes-scope word) h
writes-field scheme harts fields.Rs1 word p q h = found-asked (register_of word) _ _ q (writes-register word) h
writes-field scheme harts fields.Rs2 word p q h = found-asked (register_of word) _ _ q (writes-register word) h
writes-field scheme harts fields.Space word p q h = found-asked (space_of word) _ _ q (writes-below (2 ^ 8) word) h
writes-field scheme harts fields.Asid word p q h = found-asked (asid_of word) _ _ q (writes-below (2 ^ ASID_BITS) word) h
writes-field scheme harts fields.Ticket word p q h = found-asked (ticket_of word) _ _ q (writes-below (2 ^ 32) word) h
writes-field scheme harts fields.From word p q h = found-puts (hart_in harts word) _ _ q (writes-hart harts word) h
writes-field scheme harts fields.To word p q h = found-puts (hart_in harts word) _ _ q (writes-hart harts word) h

-- ---- the words of a step

module _ (scheme : Scheme) (harts : ℕ) where
  pub each-writes : (fields : List Field) (words : List (List ℕ)) (p q : Parts) → WritesEach scheme harts fields words p q → read_each scheme harts fields words p ≡ Ok q
  each-writes [] [] p q w = ap Ok (sym w)
  each-writes [] (word ∷ words) p q w = absurd w
  each-writes (field ∷ fields) [] p q w = absurd w
  each-writes (field ∷ fields) (word ∷ words) p q (r, one, more) =
      ap (λ (x : Result Parts StepFault). followed x p (λ s. read_each scheme harts fields words s)) (field-writes scheme harts field word p r one) ∙ each-writes fields words r q more

  pub writes-each : (fields : List Field) (words : List (List ℕ)) (p q : Parts) → read_each scheme harts fields words p ≡ Ok q → WritesEach scheme harts fields words p q
  writes-each [] [] p q h = sym (same_Ok (Ok p) p q refl h)
  writes-each [] (word ∷ words) p q h = absurd (not_Ok _ NotStep q refl h)
  writes-each (field ∷ fields) [] p q h = absurd (not_Ok _ NotStep q refl h)
  writes-each (field ∷ fields) (word ∷ words) p q h =
      let r = followed_Ok (read scheme harts field word p) p (λ s. read_each scheme harts fields words s) q h in
      (r.0, writes-field scheme harts field word p r.0 r.1, writes-each fields words r.0 q r.2)

module _ {X : Type 0} (fields_of : StepName → Option (List Field)) (makes : StepName → Parts → Option X) (scheme : Scheme) (harts : ℕ) where
  pub tells-step : (words : List (List ℕ)) (p : Parts) (step : X) → Tells fields_of makes scheme harts words p step → read_step fields_of makes scheme harts words p ≡ Ok step
  tells-step words p step t =
      ap (λ ws. read_step fields_of makes scheme harts ws p) t.words_are
      ∙ rw (name_of-word t.name, t.row_is, each-writes scheme harts t.row t.rest p t.parts t.each, t.makes_step) refl

  pub step-tells : (words : List (List ℕ)) (p : Parts) (step : X) → read_step fields_of makes scheme harts words p ≡ Ok step → Tells fields_of makes scheme harts words p step
  step-tells [] p step h = absurd (not_Ok _ NotStep step refl h)
  step-tells (word ∷ words) p step h =
      let name = result_bind (asked (name_of word)) _ step h in
      let row = result_bind (asked (fields_of name.0)) _ step name.2 in
      let q = result_bind (read_each scheme harts row.0 words p) _ step row.2 in
      record {
        name = name.0;
        row = row.0;
        rest = words;
        parts = q.0;
        words_are = ap (λ w. w ∷ words) (word-name_of word name.0 (asked_Some (name_of word) name.0 name.1));
        row_is = asked_Some (fields_of name.0) row.0 row.1;
        each = writes-each scheme harts row.0 words p q.0 q.1;
        makes_step = asked_Some (makes name.0 q.0) step q.2;
      }

-- the number of the hart, and then what follows
pub hart-first : {X : Type 0} (scheme : Scheme) (harts : ℕ) (rest : List (List ℕ) → Parts → Result X StepFault) (text hart : List ℕ) (words : List (List ℕ)) (own : Parts) (step : X)
    → HasWords text (hart ∷ words) → WritesField scheme harts fields.Hart hart nothing own → rest words own ≡ Ok step → read_hart scheme harts rest (words_of text) ≡ Ok step
hart-first scheme harts rest text hart words own step has number is =
    ap (read_hart scheme harts rest) (words_of-has (hart ∷ words) text has)
    ∙ ap (λ (x : Result Parts StepFault). followed x nothing (rest words)) (field-writes scheme harts fields.Hart hart nothing own number)
    ∙ is

pub record HartFirst {X : Type 0} (scheme : Scheme) (harts : ℕ) (rest : List (List ℕ) → Parts → Result X StepFault) (text : List ℕ) (step : X) : Type 0 where
  pub hart : List ℕ
  pub words : List (List ℕ)
  pub own : Parts
  pub text_has : HasWords text (hart ∷ words)
  pub number : WritesField scheme harts fields.Hart hart nothing own
  pub is : rest words own ≡ Ok step

of_words : {X : Type 0} (scheme : Scheme) (harts : ℕ) (rest : List (List ℕ) → Parts → Result X StepFault) (text : List ℕ) (words : List (List ℕ)) (step : X)
    → HasWords text words → read_hart scheme harts rest words ≡ Ok step → HartFirst scheme harts rest text step
of_words scheme harts rest text [] step has h = absurd (not_Ok _ NotStep step refl h)
of_words scheme harts rest text (hart ∷ words) step has h =
    let own = followed_Ok (read scheme harts fields.Hart hart nothing) nothing (rest words) step h in
    record { hart = hart; words = words; own = own.0; text_has = has; number = writes-field scheme harts fields.Hart hart nothing own.0 own.1; is = own.2 }

pub first-hart : {X : Type 0} (scheme : Scheme) (harts : ℕ) (rest : List (List ℕ) → Parts → Result X StepFault) (text : List ℕ) (step : X)
    → read_hart scheme harts rest (words_of text) ≡ Ok step → HartFirst scheme harts rest text step
first-hart scheme harts rest text step h = of_words scheme harts rest text (words_of text) step (has-words_of text) h

-- ---- the steps of `walk`

pub walk-writes : (text : List ℕ) (step : WalkStep) → WritesStep text step → walk_step_of text ≡ Some step
walk-writes text step h =
    let words = ctx_text step.ctx ∷ access_text step.access ∷ h.address ∷ [] in
    ap (λ ws. option_map walk_of (result_ok (read_each Sv39 0 walk_fields ws nothing))) (words_of-has words text h.words)
    ∙ rw (ctx_of-text step.ctx.mode step.ctx.sum step.ctx.mxr, access_of-text step.access, num_of-writes h.address step.va h.number) refl

walk_is : (ctx : Ctx) (access : Access) (va : ℕ) (r s t q : Parts) → r ≡ record nothing { ctx = ctx } → s ≡ record r { access = access } → t ≡ record s { va = va } → q ≡ t
    → walk_of q ≡ record { ctx = ctx; access = access; va = va }
walk_is ctx access va r s t q a b c d =
    ap walk_of d ∙ ap walk_of c ∙ ap (λ (x : Parts). walk_of (record x { va = va })) b ∙ ap (λ (x : Parts). walk_of (record (record x { access = access }) { va = va })) a

walk_written : (text : List ℕ) (words : List (List ℕ)) (q : Parts) → HasWords text words → WritesEach Sv39 0 walk_fields words nothing q → WritesStep text (walk_of q)
walk_written text [] q has w = absurd w
walk_written text (a ∷ []) q has (r, one, w) = absurd w
walk_written text (a ∷ b ∷ []) q has (r, one, (s, two, w)) = absurd w
walk_written text (a ∷ b ∷ c ∷ []) q has (r, (ctx, mode_is, r_is), (s, (access, access_is, s_is), (t, (va, number, t_is), q_is))) =
    subst (WritesStep text) (sym (walk_is ctx access va r s t q r_is s_is t_is q_is))
    (record {
      address = c;
      words = subst (λ m. HasWords text (m ∷ access_text access ∷ c ∷ [])) mode_is (subst (λ x. HasWords text (a ∷ x ∷ c ∷ [])) access_is has);
      number = number;
    })
walk_written text (a ∷ b ∷ c ∷ d ∷ words) q has (r, one, (s, two, (t, three, w))) = absurd w

pub writes-walk : (text : List ℕ) (step : WalkStep) → walk_step_of text ≡ Some step → WritesStep text step
writes-walk text step h = by_result (read_each Sv39 0 walk_fields (words_of text) nothing) refl h
  where
    by_result : (r : Result Parts StepFault) → read_each Sv39 0 walk_fields (words_of text) nothing ≡ r → option_map walk_of (result_ok r) ≡ Some step → WritesStep text step
    by_result (Err e) is h = cc
    by_result (Ok q) is h = subst (WritesStep text) (same_Some _ _ h) (walk_written text (words_of text) q (has-words_of text) (writes-each Sv39 0 walk_fields (words_of text) nothing q is))
