use Rattle.std.proofs.Common.{◌≡◌, ◌++◌, List, ℕ, IfSome, length, drop, ap, subst, rules}
use Rattle.std.specs.Io.{StopsAt}
use Rattle.std.specs.Io.BufRead.{take_through}
use Rattle.std.specs.Io.KnownBytes.{Consumes}
use Rattle.watch_report.proofs.LineLemmas.{kept_line, reads_line}
use Rattle.watch_report.proofs.input.read_line.Goals as goal

pub returns-clause-ok : goal.returns-clause-ok
returns-clause-ok g c =
    let left = g.R.Read.remaining c.read_shown.new.input in
    let rest = g.R.Read.remaining c.read_until.new.self in
    let bytes = c.read_until.new.buf.items in
    let kept = c.read_shown.ensures.kept (search rules) in
    let all : drop (length c.read_shown.new.line.items) bytes ≡ bytes = ap (λ (l : List ℕ). drop (length l) bytes) kept.0 in
    let stops = subst (λ (l : List ℕ). StopsAt l 10) all c.read_until.ensures.stops in
    kept_line _ _ _ _ _ kept.1
    (reads_line c.take_feed.result left rest bytes c.take_feed.new.line.items c.take_feed.ensures.taken c.take_feed.ensures.left
    (c.take_feed.ensures.gone stops)
    (subst (λ (l : List ℕ). IfSome left (λ known. bytes ≡ l ++ take_through 10 known)) kept.0 c.in_default-read_until.ensures.bytes)
    c.in_default-read_until.ensures.rest
    (subst (Consumes left rest) all c.read_until.ensures.none_lost))
