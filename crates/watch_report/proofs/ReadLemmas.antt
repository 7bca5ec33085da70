-- What was read of a trace: bytes, lines, and their records.
use Rattle.std.proofs.Common.{◌≡◌, ℕ, ◌+◌, Bool, true, false, List, [], ◌∷◌, ◌++◌, length, Option, Some, None, IfSome, OnSome, cond, not, refl, sym, ap, subst, ◌∙◌, arith, append_assoc, append-nil, length-append, take_at}
use Rattle.std.specs.Io.KnownBytes.{Consumes, IsAtEnd}
use Rattle.std.specs.List.{position_or_len}
use Rattle.std.specs.Option.{unwrap_or}
use Rattle.std.proofs.KnownBytes.{Consumes-nil, Consumes-trans}
use Rattle.watch_report.specs.declared.header.Header.{Header}
use Rattle.watch_report.specs.TraceLines.{line_in}
use Rattle.watch_report.specs.Reading.{ReadsLine}
use Rattle.watch_report.specs.TraceText.{Noted, has_no_form, lines_of, records_after, records_of, with_record}

-- the bytes that were read are these lines, each with its line feed
pub record AreRead (left rest : Option (List ℕ)) (read : List (List ℕ)) : Type 0 where
  pub bytes : List ℕ
  pub consumed : Consumes left rest bytes
  pub cut : (after : List ℕ) → lines_of (bytes ++ after) ≡ read ++ lines_of after

-- each of these lines has a form, and they have these records
pub record AreTaken (header : Header) (read : List (List ℕ)) (records : List Noted) : Type 0 where
  pub formed : (after : List (List ℕ)) → position_or_len (has_no_form header) (read ++ after) ≡ length read + position_or_len (has_no_form header) after
  pub are : (after : List (List ℕ)) → records_after header 2 [] (read ++ after) ≡ records_after header (length read + 2) records after

-- ---- bytes

pub none_read : (left : Option (List ℕ)) → AreRead left left []
none_read left = record { bytes = []; consumed = Consumes-nil left; cut = λ after. refl }

pub more_read : (left mid rest : Option (List ℕ)) (read : List (List ℕ)) (line : List ℕ) → AreRead left mid read → ReadsLine mid rest line true → AreRead left rest (read ++ line ∷ [])
more_read left mid rest read line at next =
    record {
      bytes = at.bytes ++ next.bytes;
      consumed = Consumes-trans left mid rest at.bytes next.bytes at.consumed next.consumed;
      cut = λ after. ap lines_of (append_assoc at.bytes next.bytes after) ∙ at.cut (next.bytes ++ after) ∙ ap (λ (l : List (List ℕ)). read ++ l) (next.cut after)
          ∙ sym (append_assoc read (line ∷ []) (lines_of after));
    }

-- a text that begins with what was read, and has these lines
pub record IsText (left : Option (List ℕ)) (lines : List (List ℕ)) : Type 0 where
  pub text : List ℕ
  pub is_left : IfSome left (λ all. text ≡ all)
  pub has : lines_of text ≡ lines

is_left_by : (left rest : Option (List ℕ)) (bytes : List ℕ) → Consumes left rest bytes → IfSome left (λ all. bytes ++ unwrap_or rest [] ≡ all)
is_left_by None rest bytes consumed = tt
is_left_by (Some all) None bytes consumed = absurd consumed
is_left_by (Some all) (Some after) bytes consumed = sym consumed

-- what comes after what was read
pub some_text : (left rest : Option (List ℕ)) (read : List (List ℕ)) → AreRead left rest read → IsText left (read ++ lines_of (unwrap_or rest []))
some_text left rest read at = record { text = at.bytes ++ unwrap_or rest []; is_left = is_left_by left rest at.bytes at.consumed; has = at.cut (unwrap_or rest []) }

-- and after part of a line
pub torn_text : (left mid rest : Option (List ℕ)) (read : List (List ℕ)) (bytes : List ℕ) → AreRead left mid read → Consumes mid rest bytes → IsText left (read ++ lines_of (bytes ++ unwrap_or rest []))
torn_text left mid rest read bytes at consumed =
    record {
      text = (at.bytes ++ bytes) ++ unwrap_or rest [];
      is_left = is_left_by left rest (at.bytes ++ bytes) (Consumes-trans left mid rest at.bytes bytes at.consumed consumed);
      has = ap lines_of (append_assoc at.bytes bytes (unwrap_or rest [])) ∙ at.cut (bytes ++ unwrap_or rest []);
    }

all_left : (left mid rest : Option (List ℕ)) (before bytes : List ℕ) → Consumes left mid before → Consumes mid rest bytes → OnSome mid (IsAtEnd rest) → IfSome left (λ all. before ++ bytes ≡ all)
all_left None mid rest before bytes one two end = tt
all_left (Some all) None rest before bytes one two end = absurd one
all_left (Some all) (Some after) None before bytes one two end = absurd two
all_left (Some all) (Some after) (Some more) before bytes one two end =
    sym (one ∙ ap (λ (l : List ℕ). before ++ l) (two ∙ ap (λ (l : List ℕ). bytes ++ l) end ∙ append-nil bytes))

-- the whole, once the last line was read
pub last_text : (left mid rest : Option (List ℕ)) (read : List (List ℕ)) (line : List ℕ) → AreRead left mid read → ReadsLine mid rest line false → IsText left (read ++ line ∷ [])
last_text left mid rest read line at next =
    record {
      text = at.bytes ++ next.bytes;
      is_left = all_left left mid rest at.bytes next.bytes at.consumed next.consumed next.last;
      has = at.cut next.bytes ∙ ap (λ (l : List (List ℕ)). read ++ l) next.cut;
    }

-- a line, and what may come after it
pub line_text : (more : Bool) (left mid rest : Option (List ℕ)) (read : List (List ℕ)) (line : List ℕ) → AreRead left mid read → ReadsLine mid rest line more
    → (tail : List (List ℕ)) × IsText left (read ++ line ∷ tail)
line_text true left mid rest read line at next =
    let whole = some_text left rest (read ++ line ∷ []) (more_read left mid rest read line at next) in
    (lines_of (unwrap_or rest []), subst (IsText left) (append_assoc read (line ∷ []) (lines_of (unwrap_or rest []))) whole)
line_text false left mid rest read line at next = ([], last_text left mid rest read line at next)

-- ---- lines

pub none_taken : (header : Header) → AreTaken header [] []
none_taken header = record { formed = λ after. omega arith; are = λ after. refl }

pub passes : {X : Type 0} (test : X → Bool) (x : X) (xs : List X) → test x ≡ false → position_or_len test (x ∷ xs) ≡ 1 + position_or_len test xs
passes test x xs e = ap (λ b. cond (not b) (1 + position_or_len test xs) 0) e

pub stops : {X : Type 0} (test : X → Bool) (x : X) (xs : List X) → test x ≡ true → position_or_len test (x ∷ xs) ≡ 0
stops test x xs e = ap (λ b. cond (not b) (1 + position_or_len test xs) 0) e

pub more_taken : (header : Header) (read : List (List ℕ)) (number : ℕ) (line : List ℕ) (records : List Noted) → number ≡ length read + 2 → AreTaken header read records → has_no_form header line ≡ false
    → AreTaken header (read ++ line ∷ []) (with_record (line_in header line) number records)
more_taken header read number line records e at formed =
    record {
      formed = λ after.
          let joined = ap (position_or_len (has_no_form header)) (append_assoc read (line ∷ []) after) in
          omega (arith, joined, at.formed (line ∷ after), passes (has_no_form header) line after formed, length-append read (line ∷ []));
      are = λ after.
          let next : length read + 2 + 1 ≡ length (read ++ line ∷ []) + 2 = omega (arith, length-append read (line ∷ [])) in
          ap (records_after header 2 []) (append_assoc read (line ∷ []) after) ∙ at.are (line ∷ after)
          ∙ (λ j. records_after header (next j) (with_record (line_in header line) (sym e j) records) after);
    }

pub all_formed : (header : Header) (read : List (List ℕ)) (records : List Noted) → AreTaken header read records → position_or_len (has_no_form header) read ≡ length read
all_formed header read records at = omega (arith, ap (position_or_len (has_no_form header)) (append-nil read), at.formed [])

records_are : (header : Header) (read : List (List ℕ)) (records : List Noted) → AreTaken header read records → records_after header 2 [] read ≡ records
records_are header read records at = ap (records_after header 2 []) (sym (append-nil read)) ∙ at.are []

-- the records of lines of which each has a form, and of those before one that has none
pub records_of_front : (header : Header) (read after : List (List ℕ)) (records : List Noted) → AreTaken header read records → position_or_len (has_no_form header) after ≡ 0 → records_of header (read ++ after) ≡ records
records_of_front header read after records at none =
    ap (records_after header 2 []) (take_at read after (position_or_len (has_no_form header) (read ++ after)) (omega (arith, at.formed after, none))) ∙ records_are header read records at

pub records_of_all : (header : Header) (read : List (List ℕ)) (records : List Noted) → AreTaken header read records → records_of header read ≡ records
records_of_all header read records at = ap (records_of header) (sym (append-nil read)) ∙ records_of_front header read [] records at refl

-- ---- the first line

next_left : (left mid : Option (List ℕ)) (bytes text : List ℕ) → Consumes left mid bytes → IfSome mid (λ after. text ≡ after) → IfSome left (λ all. bytes ++ text ≡ all)
next_left None mid bytes text consumed is = tt
next_left (Some all) None bytes text consumed is = absurd consumed
next_left (Some all) (Some after) bytes text consumed is = ap (λ (l : List ℕ). bytes ++ l) is ∙ sym consumed

pub first_text : (left mid : Option (List ℕ)) (first text : List ℕ) → ReadsLine left mid first true → IfSome mid (λ after. text ≡ after) → IsText left (first ∷ lines_of text)
first_text left mid first text next is = record { text = next.bytes ++ text; is_left = next_left left mid next.bytes text next.consumed is; has = next.cut text }

pub all_text : (left : Option (List ℕ)) → IfSome left (λ all. unwrap_or left [] ≡ all)
all_text None = tt
all_text (Some all) = refl
