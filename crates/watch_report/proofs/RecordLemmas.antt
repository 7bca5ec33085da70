-- The fields of a record say the same whether they are split first, or read one after another.
use Rattle.std.proofs.Common.{◌≡◌, ℕ, Bool, true, false, ◌&&◌, Option, Some, None, List, [], ◌∷◌, eqb, nat_lt, refl, sym, ◌∙◌, if◌then◌else◌}
use Rattle.std.specs.Str.{bytes_eq}
use Rattle.pte.specs.declared.scheme.Scheme.{Scheme}
use Rattle.watch.specs.declared.trace.Frames.{Frames}
use Rattle.watch.specs.declared.trace.Record.{Record}
use Rattle.watch.specs.declared.trace.Record.TheVariants.{GiveOut, GiveBack}
use Rattle.watch_report.specs.declared.header.Header.{Header}
use Rattle.watch_report.specs.Fields.{◌>>=◌, number_field, only_if, hart_field, optional_field}
use Rattle.watch_report.specs.NextFields.{last_number, next_hart, only_byte}
use Rattle.watch_report.specs.ReadRecords.{read_claim_begin, read_fence, read_fields, read_give_back, read_give_out, read_record, read_remote_begin, read_satp_write, read_store}
use Rattle.watch_report.specs.Records.{claim_begin_in, fence_in, give_back_in, give_out_in, record_by, remote_begin_in, satp_write_in, store_in}
use Rattle.watch_report.specs.TraceLines.{record_in}
use Rattle.watch_report.proofs.DashLemmas.{with_rest}

then_same : {A X : Type 0} (read : Option A) (rest : List (List ℕ)) (f : A × List (List ℕ) → Option X) (g : A → Option X) → ((a : A) → f (a, rest) ≡ g a) → (with_rest read rest >>= f) ≡ (read >>= g)
then_same None rest f g h = refl
then_same (Some a) rest f g h = h a

then_none : {A X : Type 0} (read : Option A) (rest : List (List ℕ)) (f : A × List (List ℕ) → Option X) → ((a : A) → f (a, rest) ≡ None) → (with_rest read rest >>= f) ≡ None
then_none None rest f h = refl
then_none (Some a) rest f h = h a

store_same : (hart : ℕ) (fields : List (List ℕ)) → read_store hart fields ≡ store_in hart fields
store_same hart [] = refl
store_same hart (a ∷ []) = refl
store_same hart (a ∷ b ∷ []) = then_same (number_field 16 a) (b ∷ []) _ _ (λ m. refl)
store_same hart (a ∷ b ∷ c ∷ fields) = then_none (number_field 16 a) (b ∷ c ∷ fields) _ (λ m. refl)

satp_write_same : (scheme : Scheme) (hart : ℕ) (fields : List (List ℕ)) → read_satp_write scheme hart fields ≡ satp_write_in scheme hart fields
satp_write_same scheme hart [] = refl
satp_write_same scheme hart (a ∷ []) = refl
satp_write_same scheme hart (a ∷ b ∷ fields) = refl

fence_same : (hart : ℕ) (fields : List (List ℕ)) → read_fence hart fields ≡ fence_in hart fields
fence_same hart [] = refl
fence_same hart (a ∷ []) = refl
fence_same hart (a ∷ b ∷ []) = then_same (optional_field a) (b ∷ []) _ _ (λ m. refl)
fence_same hart (a ∷ b ∷ c ∷ fields) = then_none (optional_field a) (b ∷ c ∷ fields) _ (λ m. refl)

remote_begin_same : (hart : ℕ) (fields : List (List ℕ)) → read_remote_begin hart fields ≡ remote_begin_in hart fields
remote_begin_same hart [] = refl
remote_begin_same hart (a ∷ []) = refl
remote_begin_same hart (a ∷ b ∷ []) = then_none (number_field 16 a) _ _ (λ k. refl)
remote_begin_same hart (a ∷ b ∷ c ∷ []) = then_none (number_field 16 a) _ _ (λ k. then_none (number_field 16 b) _ _ (λ l. refl))
remote_begin_same hart (a ∷ b ∷ c ∷ d ∷ []) = then_none (number_field 16 a) _ _ (λ k. then_none (number_field 16 b) _ _ (λ l. then_none (number_field 16 c) _ _ (λ m. refl)))
remote_begin_same hart (a ∷ b ∷ c ∷ d ∷ e ∷ []) = then_same (number_field 16 a) _ _ _ (λ k. then_same (number_field 16 b) _ _ _ (λ l. then_same (number_field 16 c) _ _ _ (λ m. then_same (number_field 16 d) _ _ _ (λ n. refl))))
remote_begin_same hart (a ∷ b ∷ c ∷ d ∷ e ∷ f ∷ fields) =
    then_none (number_field 16 a) _ _ (λ k. then_none (number_field 16 b) _ _ (λ l. then_none (number_field 16 c) _ _ (λ m. then_none (number_field 16 d) _ _ (λ n. refl))))

claim_begin_same : (hart : ℕ) (fields : List (List ℕ)) → read_claim_begin hart fields ≡ claim_begin_in hart fields
claim_begin_same hart [] = refl
claim_begin_same hart (a ∷ []) = refl
claim_begin_same hart (a ∷ b ∷ []) = then_none (number_field 16 a) _ _ (λ k. refl)
claim_begin_same hart (a ∷ b ∷ c ∷ []) = then_none (number_field 16 a) _ _ (λ k. then_none (optional_field b) _ _ (λ l. refl))
claim_begin_same hart (a ∷ b ∷ c ∷ d ∷ []) = then_same (number_field 16 a) _ _ _ (λ k. then_same (optional_field b) _ _ _ (λ l. then_same (number_field 16 c) _ _ _ (λ m. refl)))
claim_begin_same hart (a ∷ b ∷ c ∷ d ∷ e ∷ fields) = then_none (number_field 16 a) _ _ (λ k. then_none (optional_field b) _ _ (λ l. then_none (number_field 16 c) _ _ (λ m. refl)))

-- ---- frames

abbrev frames_of : ℕ → ℕ → Frames
frames_of first count = record { first = first; count = count }

counted : (made : Frames → Record) (first : ℕ) (read : Option ℕ) → ((read >>= λ n. Some (frames_of first n)) >>= λ frames. Some (made frames)) ≡ (read >>= λ n. Some (made (frames_of first n)))
counted made first None = refl
counted made first (Some n) = refl

abbrev frames_after : Option ℕ → List (List ℕ) → Option Frames
frames_after first rest = with_rest first rest >>= λ next. last_number 16 next.1 >>= λ n. Some (frames_of next.0 n)

frames_by : (made : Frames → Record) (first : Option ℕ) (b : List ℕ) → (frames_after first (b ∷ []) >>= λ frames. Some (made frames)) ≡ (first >>= λ m. number_field 16 b >>= λ n. Some (made (frames_of m n)))
frames_by made None b = refl
frames_by made (Some m) b = counted made m (number_field 16 b)

no_frames : (made : Frames → Record) (first : Option ℕ) (b c : List ℕ) (fields : List (List ℕ)) → (frames_after first (b ∷ c ∷ fields) >>= λ frames. Some (made frames)) ≡ None
no_frames made None b c fields = refl
no_frames made (Some m) b c fields = refl

give_out_same : (hart : ℕ) (fields : List (List ℕ)) → read_give_out hart fields ≡ give_out_in hart fields
give_out_same hart [] = refl
give_out_same hart (a ∷ []) = refl
give_out_same hart (a ∷ b ∷ []) = frames_by (GiveOut hart) (number_field 16 a) b
give_out_same hart (a ∷ b ∷ c ∷ fields) = no_frames (GiveOut hart) (number_field 16 a) b c fields

give_back_same : (hart : ℕ) (fields : List (List ℕ)) → read_give_back hart fields ≡ give_back_in hart fields
give_back_same hart [] = refl
give_back_same hart (a ∷ []) = refl
give_back_same hart (a ∷ b ∷ []) = frames_by (GiveBack hart) (number_field 16 a) b
give_back_same hart (a ∷ b ∷ c ∷ fields) = no_frames (GiveBack hart) (number_field 16 a) b c fields

-- ---- the letter

and_true : (b : Bool) → b ≡ (b && true)
and_true true = refl
and_true false = refl

and_false : (b : Bool) → (b && false) ≡ false
and_false true = refl
and_false false = refl

-- a step of two cascades
both : (x k : ℕ) (a b c d : Option Record) → a ≡ b → c ≡ d → (if eqb x k then a else c) ≡ (if bytes_eq (x ∷ []) (k ∷ []) then b else d)
both x k a b c d e f = by_test (eqb x k) (eqb x k && true) (and_true (eqb x k))
  where
    by_test : (s t : Bool) → s ≡ t → (if s then a else c) ≡ (if t then b else d)
    by_test true true same = e
    by_test false false same = f
    by_test true false same = cc
    by_test false true same = cc

record_same : (scheme : Scheme) (x hart : ℕ) (fields : List (List ℕ)) → read_record scheme x hart fields ≡ record_by scheme (x ∷ []) hart fields
record_same scheme x hart fields =
    both x 119 _ _ _ _ (store_same hart fields) (both x 115 _ _ _ _ (satp_write_same scheme hart fields) (both x 102 _ _ _ _ (fence_same hart fields)
    (both x 114 _ _ _ _ (remote_begin_same hart fields) (both x 101 _ _ _ _ refl (both x 97 _ _ _ _ (give_out_same hart fields) (both x 122 _ _ _ _ (give_back_same hart fields)
    (both x 99 _ _ _ _ (claim_begin_same hart fields) (both x 100 _ _ _ _ refl (both x 117 _ _ _ _ refl refl)))))))))

-- two bytes are no letter
skip : (x y k : ℕ) (bytes : List ℕ) (a c : Option Record) → c ≡ None → (if bytes_eq (x ∷ y ∷ bytes) (k ∷ []) then a else c) ≡ None
skip x y k bytes a c e = rw (and_false (eqb x k)) e

no_record : (scheme : Scheme) (x y : ℕ) (bytes : List ℕ) (hart : ℕ) (fields : List (List ℕ)) → record_by scheme (x ∷ y ∷ bytes) hart fields ≡ None
no_record scheme x y bytes hart fields =
    skip x y 119 bytes _ _ (skip x y 115 bytes _ _ (skip x y 102 bytes _ _ (skip x y 114 bytes _ _ (skip x y 101 bytes _ _ (skip x y 97 bytes _ _ (skip x y 122 bytes _ _
    (skip x y 99 bytes _ _ (skip x y 100 bytes _ _ (skip x y 117 bytes _ _ refl)))))))))

-- no record has a letter and a hart alone
none_or : (a : List ℕ) (k : ℕ) (c : Option Record) → c ≡ None → (if bytes_eq a (k ∷ []) then None else c) ≡ None
none_or a k c e = by_test (bytes_eq a (k ∷ []))
  where
    by_test : (t : Bool) → (if t then None else c) ≡ None
    by_test true = refl
    by_test false = e

no_fields : (scheme : Scheme) (a : List ℕ) (hart : ℕ) → record_by scheme a hart [] ≡ None
no_fields scheme a hart =
    none_or a 119 _ (none_or a 115 _ (none_or a 102 _ (none_or a 114 _ (none_or a 101 _ (none_or a 97 _ (none_or a 122 _ (none_or a 99 _ (none_or a 100 _ (none_or a 117 _ refl)))))))))

all_none : {A X : Type 0} (read : Option A) (f : A → Option X) → ((a : A) → f a ≡ None) → (read >>= f) ≡ None
all_none None f h = refl
all_none (Some a) f h = h a

hart_same : (scheme : Scheme) (x n : ℕ) (fields : List (List ℕ)) (test : Bool) → (only_if {A = ℕ × List (List ℕ)} test (n, fields) >>= λ hart. read_record scheme x hart.0 hart.1) ≡ (only_if test n >>= λ hart. record_by scheme (x ∷ []) hart fields)
hart_same scheme x n fields true = record_same scheme x n fields
hart_same scheme x n fields false = refl

-- the hart, and what the letter asks for
then_record : (scheme : Scheme) (harts x : ℕ) (read : Option ℕ) (fields : List (List ℕ))
    → ((with_rest read fields >>= λ next. only_if (nat_lt next.0 harts) next) >>= λ hart. read_record scheme x hart.0 hart.1)
    ≡ ((read >>= λ hart. only_if (nat_lt hart harts) hart) >>= λ hart. record_by scheme (x ∷ []) hart fields)
then_record scheme harts x None fields = refl
then_record scheme harts x (Some n) fields = hart_same scheme x n fields (nat_lt n harts)

pub fields_same : (header : Header) (fields : List (List ℕ)) → read_fields header fields ≡ record_in header fields
fields_same header [] = refl
fields_same header (a ∷ []) = refl
fields_same header (a ∷ h ∷ []) = no_next (only_byte a) ∙ sym (all_none (hart_field header.harts h) _ (λ hart. no_fields header.scheme a hart))
  where
    no_next : (read : Option ℕ) → (with_rest read (h ∷ []) >>= λ letter. next_hart header.harts letter.1 >>= λ hart. read_record header.scheme letter.0 hart.0 hart.1) ≡ None
    no_next None = refl
    no_next (Some x) = refl
fields_same header ([] ∷ h ∷ b ∷ fields) = sym (all_none (hart_field header.harts h) _ (λ hart. refl))
fields_same header ((x ∷ []) ∷ h ∷ b ∷ fields) = then_record header.scheme header.harts x (number_field 10 h) (b ∷ fields)
fields_same header ((x ∷ y ∷ bytes) ∷ h ∷ b ∷ fields) = sym (all_none (hart_field header.harts h) _ (λ hart. no_record header.scheme x y bytes hart (b ∷ fields)))
