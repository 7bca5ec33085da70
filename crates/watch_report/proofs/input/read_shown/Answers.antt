use Rattle.std.proofs.Common.{◌≡◌, ◌+◌, ◌≤◌, ◌++◌, List, ℕ, length, take, ap, subst, ◌∙◌, arith}
use Rattle.std.specs.Io.BufRead.{FillKeeps}
use Rattle.std.proofs.BufReadLemmas.{Consumes_shown}
use Rattle.watch_report.proofs.LineLemmas.{shown_line}
use Rattle.watch_report.proofs.input.read_shown.Goals as goal

pub returns-clause-read : goal.returns-clause-read
returns-clause-read g c =
    let shown = c.in-Ok.shown.now in
    let end = c.first_of-end.result in
    let rested = c.fill_buf.follows.lender-at-none in
    let filled = subst (FillKeeps _ (g.R.Read.remaining rested) (g.R.BufRead.consumable_len rested)) c.in-Ok.is c.fill_buf.follows.holds-at-none in
    let within : end + 1 ≤ length shown = omega arith in
    let moved = Consumes_shown _ _ _ _ shown (end + 1) within c.in-Ok.ensures.front c.in-Ok.ensures.end filled.0 filled.1 c.consume.ensures.bytes in
    let copied : c.extend_from_slice.new.self.items ≡ take end shown = ◌∙◌ {A = List ℕ} c.in_ok-extend_from_slice.ensures.items (ap (λ (l : List ℕ). l ++ take end shown) c.requires.empty) in
    shown_line _ _ shown c.extend_from_slice.new.self.items end c.first_of-end.ensures (omega arith) copied moved.0
