-- A text that is written in several writes.
use Rattle.std.proofs.Common.{ℕ, ◌+◌, ◌++◌, List, length, take, drop, Option, Result, Ok, Err, OnOk, OnErr, sym, subst, arith}
use Rattle.std.specs.Io.KnownBytes.{Appends}
use Rattle.std.proofs.Math.Seq.{take-add, take-append-add}
use Rattle.std.proofs.lemmas.List.{take_all}
use Rattle.std.proofs.KnownBytes.{Appends-trans}
use Rattle.watch_report.specs.Output.{AppendsFront}

-- a write goes on where the last one ended
pub appends_more : (a b c : Option (List ℕ)) (m n : ℕ) (xs : List ℕ) → Appends a b (take m xs) → Appends b c (take n (drop m xs)) → Appends a c (take (m + n) xs)
appends_more a b c m n xs p q = subst (Appends a c) (sym (take-add m n xs)) (Appends-trans a b c _ _ p q)

-- all is a beginning
pub front_of_all : (old new : Option (List ℕ)) (bs : List ℕ) → Appends old new bs → AppendsFront old new bs
front_of_all old new bs h = (length bs, rw (take_all (length bs) bs (omega arith)) h)

-- a write that may have failed
pub front_written : {E : Type 0} (old new : Option (List ℕ)) (bs : List ℕ) (r : Result (Unit {0}) E) → OnOk r (Appends old new bs) → OnErr r (AppendsFront old new bs) → AppendsFront old new bs
front_written old new bs (Ok done) ok err = front_of_all old new bs ok
front_written old new bs (Err e) ok err = err

-- a beginning that was written after a text
pub front_after : (a b c : Option (List ℕ)) (xs ys : List ℕ) → Appends a b xs → AppendsFront b c ys → AppendsFront a c (xs ++ ys)
front_after a b c xs ys written front =
    (length xs + front.0, subst (Appends a c) (sym (take-append-add xs ys front.0)) (Appends-trans a b c xs (take front.0 ys) written front.1))
