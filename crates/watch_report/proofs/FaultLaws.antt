-- A line has a fault exactly when it has no form, and a first line when it is no header.
use Rattle.std.proofs.Common.{◌≡◌, ℕ, ◌+◌, ◌/◌, ◌%◌, ◌^◌, Bool, true, false, ◌&&◌, ◌||◌, ◌==◌, nat_lt, nat_le, Option, Some, None, is_some, is_none, option_map, List, [], ◌∷◌, length, if◌then◌else◌, refl, sym, ap, ◌∙◌, ne_eqb, arith, drop, nat_eq, codes}
use Rattle.std.specs.List.{before_first, position_or_len, starts_with}
use Rattle.std.specs.Str.{bytes_eq}
use Rattle.std.proofs.lemmas.Bool.{false≢true}
use Rattle.pte.specs.declared.TheConstants.{ASID_BITS}
use Rattle.pte.specs.declared.scheme.Scheme.{Scheme}
use Rattle.watch.specs.declared.trace.Record.{Record}
use Rattle.watch.specs.declared.trace.Space.{Space}
use Rattle.watch_report.specs.declared.header.Header.{Header}
use Rattle.watch_report.specs.declared.line_fault.LineFault.{LineFault}
use Rattle.watch_report.specs.declared.line_fault.LineReason.{LineReason}
use Rattle.watch_report.specs.declared.line_fault.LineReason.TheVariants.{EmptyStart, NoSpace, NoTrace, OtherLetter, OtherVersion, OtherScheme, OtherMode, Unaligned, WideAsid}
use Rattle.watch_report.specs.declared.line_form.Field.{Field}
use Rattle.watch_report.specs.declared.line_form.Field.TheVariants as named
use Rattle.watch_report.specs.declared.line_form.FieldKind.{FieldKind}
use Rattle.watch_report.specs.declared.line_form.FieldKind.TheVariants as kinds
use Rattle.watch_report.specs.declared.line_form.LineForm.{LineForm}
use Rattle.watch_report.specs.declared.line_form.LineForm.TheVariants as forms
use Rattle.watch_report.specs.Fields.{◌>>=◌, fields_of, hart_field, hexadecimal_field, number_field, only_if, optional_field}
use Rattle.watch_report.specs.LineForms.{form_fields, form_of, kind_of}
use Rattle.watch_report.specs.LineFaults.{any_machine, ends_at_space, fault_at, fault_of, fields_fault, first_of, first_reason, header_fault, kind_reason, noted_fault, or_wrong, record_fault, unless, word_reason, words_fault}
use Rattle.watch_report.specs.Records.{asid_field, claim_begin_in, claim_end_in, fence_in, give_back_in, give_out_in, record_by, remote_begin_in, remote_end_in, satp_in, satp_write_in, small_asid, store_in, use_in}
use Rattle.watch_report.specs.TraceLines.{LineText, comment, empty, mark_of, before_note, begins_note, hart_count_field, header_in, note_of, record_in, record_of, scheme_field}
use Rattle.watch_report.specs.TraceText.{has_no_form}

or_true : (b : Bool) → (b || true) ≡ true
or_true true = refl
or_true false = refl

or_same : (a b c d : Bool) → a ≡ c → b ≡ d → (a || b) ≡ (c || d)
or_same a b c d p q = ap (λ x. x || b) p ∙ ap (λ x. c || x) q

some_first : {A : Type 0} (x y : Option A) → is_some (first_of x y) ≡ (is_some x || is_some y)
some_first None y = refl
some_first (Some a) y = refl

some_map : {A B : Type 0} (x : Option A) (f : A → B) → is_some (option_map f x) ≡ is_some x
some_map None f = refl
some_map (Some a) f = refl

none_then : {A B : Type 0} (x : Option A) (f : A → B) → is_none x ≡ is_none (x >>= λ a. Some (f a))
none_then None f = refl
none_then (Some a) f = refl

none_after : {A B : Type 0} (x : Option A) (f : A → Option B) → ((a : A) → f a ≡ None) → true ≡ is_none (x >>= f)
none_after None f h = refl
none_after (Some a) f h = rw (h a) refl

-- ---- words

-- whether a word is wrong, or their number
abbrev bad : Header → List Field → List (List ℕ) → Bool
bad machine [] [] = false
bad machine [] (word ∷ words) = true
bad machine (field ∷ fields) [] = true
bad machine (field ∷ fields) (word ∷ words) = is_some (word_reason machine field word) || bad machine fields words

-- no field may hold an empty word
empty_wrong : (machine : Header) (field : Field) (kind : FieldKind) → is_some (kind_reason machine field [] kind) ≡ true
empty_wrong machine field kinds.Name = refl
empty_wrong machine field kinds.Version = refl
empty_wrong machine field kinds.HartCount = refl
empty_wrong machine field kinds.Scheme = refl
empty_wrong machine field kinds.Hart = refl
empty_wrong machine field kinds.WordAddress = refl
empty_wrong machine field kinds.Number = refl
empty_wrong machine field kinds.Optional = refl
empty_wrong machine field kinds.Asid = refl
empty_wrong machine field kinds.Satp = refl

empty_bad : (machine : Header) (field : Field) (fields : List Field) (word : List ℕ) (words : List (List ℕ)) → ends_at_space word words ≡ true → (is_some (word_reason machine field word) || bad machine fields words) ≡ true
empty_bad machine field fields [] words e = ap (λ b. b || bad machine fields words) (empty_wrong machine field (kind_of field))
empty_bad machine field fields (byte ∷ rest) words e =
    absurd (false≢true (sym (ap (λ b. b && (length words == 0)) (ne_eqb (length (byte ∷ rest)) 0 (λ z. omega (arith, z)))) ∙ e))

-- where a test holds there is a fault, and else it goes by the rest
early : (test : Bool) (one : LineFault) (rest : Option LineFault) (wrong : Bool) → (test ≡ true → wrong ≡ true) → is_some rest ≡ wrong → is_some (if test then Some one else rest) ≡ wrong
early true one rest wrong h e = sym (h refl)
early false one rest wrong h e = e

words_bad : (machine : Header) (form : LineForm) (fields : List Field) (before : ℕ) (words : List (List ℕ)) → is_some (words_fault machine form fields before words) ≡ bad machine fields words
words_bad machine form [] before [] = refl
words_bad machine form [] before (word ∷ words) = refl
words_bad machine form (field ∷ fields) before [] = refl
words_bad machine form (field ∷ fields) before (word ∷ words) =
    early (ends_at_space word words) _ _ _ (empty_bad machine field fields word words)
    (some_first _ _ ∙ or_same _ _ _ _ (some_map (word_reason machine field word) _) (words_bad machine form fields (before + length word + 1) words))

-- whether they are not as many as the fields
abbrev uneven : List Field → List (List ℕ) → Bool
uneven [] [] = false
uneven [] (word ∷ words) = true
uneven (field ∷ fields) [] = true
uneven (field ∷ fields) (word ∷ words) = uneven fields words

bad_uneven : (machine : Header) (fields : List Field) (words : List (List ℕ)) → uneven fields words ≡ true → bad machine fields words ≡ true
bad_uneven machine [] [] h = absurd (false≢true h)
bad_uneven machine [] (word ∷ words) h = refl
bad_uneven machine (field ∷ fields) [] h = refl
bad_uneven machine (field ∷ fields) (word ∷ words) h = ap (λ b. is_some (word_reason machine field word) || b) (bad_uneven machine fields words h) ∙ or_true _

-- ---- one word

unless_bad : {A B : Type 0} (test : Bool) (fault : A) (read : B) → is_some (unless test fault) ≡ is_none (only_if test read)
unless_bad true fault read = refl
unless_bad false fault read = refl

number_bad : (read : Option ℕ) (why : LineReason) → is_some (or_wrong read why (λ n. None)) ≡ is_none read
number_bad None why = refl
number_bad (Some n) why = refl

wrong_bad : {A : Type 0} (read : Option ℕ) (why : LineReason) (test : ℕ → Bool) (wrong : ℕ → LineReason) (said : ℕ → A)
    → is_some (or_wrong read why (λ n. unless (test n) (wrong n))) ≡ is_none (read >>= λ n. only_if (test n) (said n))
wrong_bad None why test wrong said = refl
wrong_bad (Some n) why test wrong said = unless_bad (test n) (wrong n) (said n)

optional_bad : (dash : Bool) (read : Option ℕ) (why : LineReason) → is_some (if dash then None else or_wrong read why (λ n. None)) ≡ is_none (if dash then Some None else option_map Some read)
optional_bad true read why = refl
optional_bad false None why = refl
optional_bad false (Some n) why = refl

asid_bad : (dash : Bool) (read : Option ℕ) (why : LineReason)
    → is_some (if dash then None else or_wrong read why (λ n. unless (nat_lt n (2 ^ ASID_BITS)) (WideAsid n))) ≡ is_none ((if dash then Some None else option_map Some read) >>= small_asid)
asid_bad true read why = refl
asid_bad false None why = refl
asid_bad false (Some n) why = unless_bad (nat_lt n (2 ^ ASID_BITS)) (WideAsid n) (Some n)

hart_bad : (harts : ℕ) (read : Option ℕ) (why : LineReason) (wrong : ℕ → LineReason) → is_some (or_wrong read why (λ n. unless (nat_lt n harts) (wrong n))) ≡ is_none (read >>= λ n. only_if (nat_lt n harts) n)
hart_bad harts read why wrong = wrong_bad read why (λ n. nat_lt n harts) wrong (λ n. n)

-- ---- one word after another

chain : {A B : Type 0} (read : Option A) (first rest : Bool) (f : A → Option B) → first ≡ is_none read → ((a : A) → rest ≡ is_none (f a)) → (first || rest) ≡ is_none (read >>= f)
chain None first rest f e h = ap (λ b. b || rest) e
chain (Some a) first rest f e h = ap (λ b. b || rest) e ∙ h a

-- the address of a word is looked at once both fields are read
store_two : {A : Type 0} (address word : Option ℕ) (why other : LineReason) (made : ℕ → ℕ → A)
    → (is_some (or_wrong address why (λ n. unless (n % 8 == 0) (Unaligned n))) || (is_some (or_wrong word other (λ n. None)) || false))
    ≡ is_none (address >>= λ m. word >>= λ n. only_if (m % 8 == 0) (made m n))
store_two None word why other made = refl
store_two (Some m) None why other made = or_true _
store_two (Some m) (Some n) why other made = by_test (m % 8 == 0)
  where
    by_test : (test : Bool) → (is_some (unless test (Unaligned m)) || false) ≡ is_none (only_if test (made m n))
    by_test true = refl
    by_test false = refl

satp_one : {A : Type 0} (scheme : Scheme) (read : Option ℕ) (why : LineReason) (made : Option Space → A)
    → (is_some (or_wrong read why (λ n. unless (is_some (satp_in scheme n)) (OtherMode (n / 2 ^ 60) scheme))) || false) ≡ is_none (read >>= λ satp. satp_in scheme satp >>= λ space. Some (made space))
satp_one scheme None why made = refl
satp_one scheme (Some n) why made = by_space (satp_in scheme n)
  where
    by_space : (space : Option (Option Space)) → (is_some (unless (is_some space) (OtherMode (n / 2 ^ 60) scheme)) || false) ≡ is_none (space >>= λ s. Some (made s))
    by_space None = refl
    by_space (Some s) = refl

module _ (m : Header) (hart : ℕ) where
  one_number : (made : ℕ → Record) (a : List ℕ) (why : LineReason) → (is_some (or_wrong (hexadecimal_field a) why (λ n. None)) || false) ≡ is_none (hexadecimal_field a >>= λ n. Some (made n))
  one_number made a why = chain (hexadecimal_field a) _ false _ (number_bad (hexadecimal_field a) why) (λ n. refl)

  two_numbers : {A : Type 0} (made : ℕ → ℕ → A) (a b : List ℕ) (why other : LineReason)
      → (is_some (or_wrong (hexadecimal_field a) why (λ n. None)) || (is_some (or_wrong (hexadecimal_field b) other (λ n. None)) || false))
      ≡ is_none (hexadecimal_field a >>= λ first. hexadecimal_field b >>= λ count. Some (made first count))
  two_numbers made a b why other =
      chain (hexadecimal_field a) _ _ _ (number_bad (hexadecimal_field a) why) (λ n. chain (hexadecimal_field b) _ false _ (number_bad (hexadecimal_field b) other) (λ k. refl))

  store_bad : (words : List (List ℕ)) → bad m (named.PhysicalAddress ∷ named.Value ∷ []) words ≡ is_none (store_in hart words)
  store_bad [] = refl
  store_bad (a ∷ []) = bad_uneven m (named.PhysicalAddress ∷ named.Value ∷ []) (a ∷ []) refl
  store_bad (a ∷ b ∷ []) = store_two (hexadecimal_field a) (hexadecimal_field b) _ _ _
  store_bad (a ∷ b ∷ c ∷ words) = bad_uneven m (named.PhysicalAddress ∷ named.Value ∷ []) (a ∷ b ∷ c ∷ words) refl

  satp_bad : (words : List (List ℕ)) → bad m (named.Satp ∷ []) words ≡ is_none (satp_write_in m.scheme hart words)
  satp_bad [] = refl
  satp_bad (a ∷ []) = satp_one m.scheme (hexadecimal_field a) _ _
  satp_bad (a ∷ b ∷ words) = bad_uneven m (named.Satp ∷ []) (a ∷ b ∷ words) refl

  fence_bad : (words : List (List ℕ)) → bad m (named.Rs1 ∷ named.Rs2 ∷ []) words ≡ is_none (fence_in hart words)
  fence_bad [] = refl
  fence_bad (a ∷ []) = bad_uneven m (named.Rs1 ∷ named.Rs2 ∷ []) (a ∷ []) refl
  fence_bad (a ∷ b ∷ []) =
      chain (optional_field a) _ _ _ (optional_bad (bytes_eq a (codes "-")) (hexadecimal_field a) _)
      (λ n. chain (optional_field b) _ false _ (optional_bad (bytes_eq b (codes "-")) (hexadecimal_field b) _) (λ k. refl))
  fence_bad (a ∷ b ∷ c ∷ words) = bad_uneven m (named.Rs1 ∷ named.Rs2 ∷ []) (a ∷ b ∷ c ∷ words) refl

  remote_bad : (words : List (List ℕ)) → bad m (named.Token ∷ named.Mask ∷ named.Start ∷ named.Size ∷ named.Asid ∷ []) words ≡ is_none (remote_begin_in hart words)
  remote_bad [] = refl
  remote_bad (a ∷ []) = bad_uneven m (named.Token ∷ named.Mask ∷ named.Start ∷ named.Size ∷ named.Asid ∷ []) (a ∷ []) refl
  remote_bad (a ∷ b ∷ []) = bad_uneven m (named.Token ∷ named.Mask ∷ named.Start ∷ named.Size ∷ named.Asid ∷ []) (a ∷ b ∷ []) refl
  remote_bad (a ∷ b ∷ c ∷ []) = bad_uneven m (named.Token ∷ named.Mask ∷ named.Start ∷ named.Size ∷ named.Asid ∷ []) (a ∷ b ∷ c ∷ []) refl
  remote_bad (a ∷ b ∷ c ∷ d ∷ []) = bad_uneven m (named.Token ∷ named.Mask ∷ named.Start ∷ named.Size ∷ named.Asid ∷ []) (a ∷ b ∷ c ∷ d ∷ []) refl
  remote_bad (a ∷ b ∷ c ∷ d ∷ e ∷ []) =
      chain (hexadecimal_field a) _ _ _ (number_bad (hexadecimal_field a) _) (λ k. chain (hexadecimal_field b) _ _ _ (number_bad (hexadecimal_field b) _)
      (λ l. chain (hexadecimal_field c) _ _ _ (number_bad (hexadecimal_field c) _) (λ n. chain (hexadecimal_field d) _ _ _ (number_bad (hexadecimal_field d) _)
      (λ o. chain (asid_field e) _ false _ (asid_bad (bytes_eq e (codes "-")) (hexadecimal_field e) _) (λ p. refl)))))
  remote_bad (a ∷ b ∷ c ∷ d ∷ e ∷ f ∷ words) = bad_uneven m (named.Token ∷ named.Mask ∷ named.Start ∷ named.Size ∷ named.Asid ∷ []) (a ∷ b ∷ c ∷ d ∷ e ∷ f ∷ words) refl

  remote_end_bad : (words : List (List ℕ)) → bad m (named.Token ∷ []) words ≡ is_none (remote_end_in hart words)
  remote_end_bad [] = refl
  remote_end_bad (a ∷ []) = one_number _ a _
  remote_end_bad (a ∷ b ∷ words) = bad_uneven m (named.Token ∷ []) (a ∷ b ∷ words) refl

  give_out_bad : (words : List (List ℕ)) → bad m (named.Ppn ∷ named.Count ∷ []) words ≡ is_none (give_out_in hart words)
  give_out_bad [] = refl
  give_out_bad (a ∷ []) = bad_uneven m (named.Ppn ∷ named.Count ∷ []) (a ∷ []) refl
  give_out_bad (a ∷ b ∷ []) = two_numbers _ a b _ _
  give_out_bad (a ∷ b ∷ c ∷ words) = bad_uneven m (named.Ppn ∷ named.Count ∷ []) (a ∷ b ∷ c ∷ words) refl

  give_back_bad : (words : List (List ℕ)) → bad m (named.Ppn ∷ named.Count ∷ []) words ≡ is_none (give_back_in hart words)
  give_back_bad [] = refl
  give_back_bad (a ∷ []) = bad_uneven m (named.Ppn ∷ named.Count ∷ []) (a ∷ []) refl
  give_back_bad (a ∷ b ∷ []) = two_numbers _ a b _ _
  give_back_bad (a ∷ b ∷ c ∷ words) = bad_uneven m (named.Ppn ∷ named.Count ∷ []) (a ∷ b ∷ c ∷ words) refl

  claim_bad : (words : List (List ℕ)) → bad m (named.Token ∷ named.Root ∷ named.Start ∷ named.Size ∷ []) words ≡ is_none (claim_begin_in hart words)
  claim_bad [] = refl
  claim_bad (a ∷ []) = bad_uneven m (named.Token ∷ named.Root ∷ named.Start ∷ named.Size ∷ []) (a ∷ []) refl
  claim_bad (a ∷ b ∷ []) = bad_uneven m (named.Token ∷ named.Root ∷ named.Start ∷ named.Size ∷ []) (a ∷ b ∷ []) refl
  claim_bad (a ∷ b ∷ c ∷ []) = bad_uneven m (named.Token ∷ named.Root ∷ named.Start ∷ named.Size ∷ []) (a ∷ b ∷ c ∷ []) refl
  claim_bad (a ∷ b ∷ c ∷ d ∷ []) =
      chain (hexadecimal_field a) _ _ _ (number_bad (hexadecimal_field a) _) (λ k. chain (optional_field b) _ _ _ (optional_bad (bytes_eq b (codes "-")) (hexadecimal_field b) _)
      (λ l. chain (hexadecimal_field c) _ _ _ (number_bad (hexadecimal_field c) _) (λ n. chain (hexadecimal_field d) _ false _ (number_bad (hexadecimal_field d) _) (λ o. refl))))
  claim_bad (a ∷ b ∷ c ∷ d ∷ e ∷ words) = bad_uneven m (named.Token ∷ named.Root ∷ named.Start ∷ named.Size ∷ []) (a ∷ b ∷ c ∷ d ∷ e ∷ words) refl

  claim_end_bad : (words : List (List ℕ)) → bad m (named.Token ∷ []) words ≡ is_none (claim_end_in hart words)
  claim_end_bad [] = refl
  claim_end_bad (a ∷ []) = one_number _ a _
  claim_end_bad (a ∷ b ∷ words) = bad_uneven m (named.Token ∷ []) (a ∷ b ∷ words) refl

  use_bad : (words : List (List ℕ)) → bad m (named.VirtualAddress ∷ []) words ≡ is_none (use_in hart words)
  use_bad [] = refl
  use_bad (a ∷ []) = one_number _ a _
  use_bad (a ∷ b ∷ words) = bad_uneven m (named.VirtualAddress ∷ []) (a ∷ b ∷ words) refl

-- ---- the letter

module _ (m : Header) (letter hart : List ℕ) (words : List (List ℕ)) where
  -- a form and the records that are read by it
  abbrev Agree : Option LineForm → (ℕ → Option Record) → Type 0
  Agree form read = is_some (fields_fault m letter (hart ∷ words) form) ≡ is_none (hart_field m.harts hart >>= read)

  agree : (form : LineForm) (fields : List Field) (read : ℕ → Option Record) → form_fields form ≡ named.Hart ∷ fields → ((h : ℕ) → bad m fields words ≡ is_none (read h)) → Agree (Some form) read
  agree form fields read is same =
      words_bad m form (form_fields form) (length letter + 1) (hart ∷ words) ∙ ap (λ (f : List Field). bad m f (hart ∷ words)) is
      ∙ chain (hart_field m.harts hart) _ _ read (hart_bad m.harts (number_field 10 hart) _ _) same

  by_test : (test : Bool) (x y : Option LineForm) (a b : ℕ → Option Record) → Agree x a → Agree y b → Agree (if test then x else y) (λ h. if test then a h else b h)
  by_test true x y a b p q = p
  by_test false x y a b p q = q

  letter_law : Agree (form_of letter) (λ h. record_by m.scheme letter h words)
  letter_law =
      by_test (bytes_eq letter (codes "w")) _ _ _ _ (agree forms.Store _ _ refl (λ h. store_bad m h words))
      (by_test (bytes_eq letter (codes "s")) _ _ _ _ (agree forms.SatpWrite _ _ refl (λ h. satp_bad m h words))
      (by_test (bytes_eq letter (codes "f")) _ _ _ _ (agree forms.Fence _ _ refl (λ h. fence_bad m h words))
      (by_test (bytes_eq letter (codes "r")) _ _ _ _ (agree forms.RemoteBegin _ _ refl (λ h. remote_bad m h words))
      (by_test (bytes_eq letter (codes "e")) _ _ _ _ (agree forms.RemoteEnd _ _ refl (λ h. remote_end_bad m h words))
      (by_test (bytes_eq letter (codes "a")) _ _ _ _ (agree forms.GiveOut _ _ refl (λ h. give_out_bad m h words))
      (by_test (bytes_eq letter (codes "z")) _ _ _ _ (agree forms.GiveBack _ _ refl (λ h. give_back_bad m h words))
      (by_test (bytes_eq letter (codes "c")) _ _ _ _ (agree forms.ClaimBegin _ _ refl (λ h. claim_bad m h words))
      (by_test (bytes_eq letter (codes "d")) _ _ _ _ (agree forms.ClaimEnd _ _ refl (λ h. claim_end_bad m h words))
      (by_test (bytes_eq letter (codes "u")) _ _ _ _ (agree forms.Use _ _ refl (λ h. use_bad m h words))
      (none_after (hart_field m.harts hart) (λ h. None) (λ h. refl)))))))))))

-- no record has a letter alone
alone : (m : Header) (letter : List ℕ) (form : Option LineForm) → is_some (fields_fault m letter [] form) ≡ true
alone m letter None = refl
alone m letter (Some forms.Header) = refl
alone m letter (Some forms.Store) = refl
alone m letter (Some forms.SatpWrite) = refl
alone m letter (Some forms.Fence) = refl
alone m letter (Some forms.RemoteBegin) = refl
alone m letter (Some forms.RemoteEnd) = refl
alone m letter (Some forms.GiveOut) = refl
alone m letter (Some forms.GiveBack) = refl
alone m letter (Some forms.ClaimBegin) = refl
alone m letter (Some forms.ClaimEnd) = refl
alone m letter (Some forms.Use) = refl

record_law : (m : Header) (words : List (List ℕ)) → is_some (record_fault m words) ≡ is_none (record_in m words)
record_law m [] = refl
record_law m (letter ∷ []) = alone m letter (form_of letter)
record_law m (letter ∷ hart ∷ words) = letter_law m letter hart words

-- ---- a line

-- a fault at the start, or of two of which one is there
late : (start : Bool) (fault : Option LineFault) (one two : LineFault) → is_some (if start then Some one else first_of fault (Some two)) ≡ true
late true fault one two = refl
late false fault one two = some_first fault (Some two) ∙ or_true (is_some fault)

noted_law : (m : Header) (text : List ℕ) (body : Option (List ℕ))
    → is_some (noted_fault m text body) ≡ is_none (body >>= λ b. record_in m (fields_of b) >>= λ made. Some (record_of made (note_of text)))
noted_law m text None =
    late (position_or_len begins_note text == 0) (record_fault m (fields_of (before_first begins_note text))) (fault_at 1 OtherLetter) (fault_at (position_or_len begins_note text + 1) NoSpace)
noted_law m text (Some body) = record_law m (fields_of body) ∙ none_then (record_in m (fields_of body)) (λ made. record_of made (note_of text))

passed : (test : Bool) (said : LineText) (fault : Option LineFault) (line : Option LineText) → is_some fault ≡ is_none line → is_some (if test then None else fault) ≡ is_none (if test then Some said else line)
passed true said fault line e = refl
passed false said fault line e = e

pub fault_law : (header : Header) (text : List ℕ) → is_some (fault_of header text) ≡ has_no_form header text
fault_law header text =
    passed (length text == 0) empty _ _ (passed (starts_with nat_eq text (codes "#")) comment _ _ (passed (starts_with nat_eq text (codes "m ")) (mark_of (drop 2 text)) _ _
    (noted_law header text (before_note text))))

-- ---- the first line

first_four : {A : Type 0} (p q : Bool) (why : LineReason) (harts : Option ℕ) (scheme : Option Scheme) (said : ℕ → Scheme → A)
    → (is_some (unless p why) || (is_some (unless q OtherVersion) || (is_none harts || (is_some (unless (is_some scheme) OtherScheme) || false))))
    ≡ is_none (harts >>= λ h. scheme >>= λ s. only_if (p && q) (said h s))
first_four true true why None scheme said = refl
first_four true true why (Some h) None said = refl
first_four true true why (Some h) (Some s) said = refl
first_four true false why None scheme said = refl
first_four true false why (Some h) None said = refl
first_four true false why (Some h) (Some s) said = refl
first_four false q why None scheme said = refl
first_four false q why (Some h) None said = refl
first_four false q why (Some h) (Some s) said = refl

harts_bad : (read : Option ℕ) (why : LineReason) (wrong : ℕ → LineReason)
    → is_some (or_wrong read why (λ n. unless (nat_lt 0 n && nat_le n 64) (wrong n))) ≡ is_none (read >>= λ n. only_if (nat_lt 0 n && nat_le n 64) n)
harts_bad read why wrong = wrong_bad read why (λ n. nat_lt 0 n && nat_le n 64) wrong (λ n. n)

words_law : (words : List (List ℕ)) → bad any_machine (form_fields forms.Header) words ≡ is_none (header_in words)
words_law [] = refl
words_law (a ∷ []) = bad_uneven any_machine (form_fields forms.Header) (a ∷ []) refl
words_law (a ∷ b ∷ []) = bad_uneven any_machine (form_fields forms.Header) (a ∷ b ∷ []) refl
words_law (a ∷ b ∷ c ∷ []) = bad_uneven any_machine (form_fields forms.Header) (a ∷ b ∷ c ∷ []) refl
words_law (a ∷ b ∷ c ∷ d ∷ []) =
    ap (λ x. is_some (unless (bytes_eq a (codes "watch")) (first_reason NoTrace a)) || (is_some (unless (bytes_eq b (codes "1")) OtherVersion) || (x || (is_some (unless (is_some (scheme_field d)) OtherScheme) || false))))
    (harts_bad (number_field 10 c) _ _)
    ∙ first_four (bytes_eq a (codes "watch")) (bytes_eq b (codes "1")) (first_reason NoTrace a) (hart_count_field c) (scheme_field d) _
words_law (a ∷ b ∷ c ∷ d ∷ e ∷ words) = bad_uneven any_machine (form_fields forms.Header) (a ∷ b ∷ c ∷ d ∷ e ∷ words) refl

not_empty : (test : Bool) (one : LineFault) (fault : Option LineFault) (b : Bool) → test ≡ false → is_some fault ≡ b → is_some (if test then Some one else fault) ≡ b
not_empty true one fault b e is = absurd (false≢true (sym e))
not_empty false one fault b e is = is

pub header_law : (text : List ℕ) → is_some (header_fault text) ≡ is_none (header_in (fields_of text))
header_law [] = refl
header_law (x ∷ text) =
    not_empty (length (x ∷ text) == 0) (fault_at 1 EmptyStart) (words_fault any_machine forms.Header (form_fields forms.Header) 0 (fields_of (x ∷ text))) _ (ne_eqb (length (x ∷ text)) 0 (λ e. omega (arith, e)))
    (words_bad any_machine forms.Header (form_fields forms.Header) 0 (fields_of (x ∷ text)) ∙ words_law (fields_of (x ∷ text)))
