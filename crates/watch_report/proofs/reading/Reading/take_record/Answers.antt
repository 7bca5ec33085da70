use Rattle.std.proofs.Common.{◌<◌, ◌∷◌, length, List, ℕ, refl, ap, sym, subst, ◌∙◌}
use Rattle.std.specs.Io.KnownBytes.{Appends}
use Rattle.std.proofs.KnownBytes.{Appends-trans}
use Rattle.watch_report.specs.declared.header.Header.{Header}
use Rattle.watch_report.specs.declared.reading_fault.ReadingFault.{ReadingFault}
use Rattle.watch_report.specs.Output.{AppendsFront}
use Rattle.watch_report.specs.Reading.{FailsAtRecord}
use Rattle.watch_report.specs.Reports.{told_of, told_of_taken, told_text}
use Rattle.watch_report.specs.VerdictLines.{noted_by}
use Rattle.watch_report.proofs.VerdictLemmas.{fails_at_record}
use Rattle.watch_report.proofs.reading.Reading.take_record.Goals as goal

pub returns-in-Ok-clause-ok : goal.returns-in-Ok-clause-ok
returns-in-Ok-clause-ok g c = λ options known start records at.
    let more = c.in_ok-text.ensures.ok options known records at.taken at.seen in
    let told = told_of options known c.args.file.now in
    let before = subst (λ (h : Header). Appends start (g.W.Write.contents c.args.out.now) (told_text told h.scheme records (told_of_taken told h.scheme records at.taken))) (sym c.judge.ensures.header) at.written in
    record {
      taken = more.warnings ∷ at.taken;
      seen = more.seen;
      written = Appends-trans start _ _ _ _ before (subst (Appends _ _) (c.as_slice.ensures.value ∙ more.is_told) c.in-Ok.ensures.ok);
    }

pub returns-clause-err : goal.returns-clause-err
returns-clause-err g c = λ options known start records at.
    let more = c.in_ok-text.ensures.ok options known records at.taken at.seen in
    let told = told_of options known c.args.file.now in
    let newest = noted_by c.args.newest.now in
    let before = subst (λ (h : Header). Appends start (g.W.Write.contents c.args.out.now) (told_text told h.scheme records (told_of_taken told h.scheme records at.taken))) (sym c.judge.ensures.header) at.written in
    let is = c.as_slice.ensures.value ∙ more.is_told in
    let fails = fails_at_record told c.in-Err.fault _ c.judge.new.self.header.scheme newest records at.taken more.warnings _ _ start _ _ more.seen.are refl more.seen.user more.seen.kernel before
    (subst (λ (l : List ℕ). 0 < length l) is c.in-Err.ensures.some) (subst (AppendsFront _ _) is c.in-Err.ensures.err) in
    rw (← ap (λ (h : Header). h.scheme) c.judge.ensures.header) (subst (λ (f : ReadingFault). FailsAtRecord f told c.judge.new.self.header.scheme newest records start (g.W.Write.contents c.write_whole.new.out)) (sym c.unwritten.ensures) fails)
