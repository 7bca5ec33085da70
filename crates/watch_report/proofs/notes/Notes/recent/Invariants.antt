use Rattle.std.proofs.Common.{◌≡◌, ◌≢◌, ◌<◌, ℕ}
use Rattle.watch_report.specs.NoteTexts.{place_back, text_of}
use Rattle.watch_report.proofs.notes.Notes.recent.Given as goal

abbrev pub invariant-loop-step : goal.invariant-loop-step
invariant-loop-step l = record {
  at : l.place ≡ place_back l.self l.row l.step;
  others : (steps : ℕ) → steps < l.step → text_of l.self.texts (place_back l.self l.row steps) ≢ l.note;
}
