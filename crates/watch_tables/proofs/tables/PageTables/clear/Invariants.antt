use Rattle.std.proofs.Common.{ℕ, ◌≡◌, ◌<◌, ◌≤◌, ◌*◌}
use Rattle.watch_tables.specs.FrameTables.{frame_count, in_frames}
use Rattle.watch_tables.proofs.tables.PageTables.clear.Given as goal

-- what lies outside the frames stays
abbrev pub invariant-loop-ppn : goal.invariant-loop-ppn
invariant-loop-ppn l = record {
  below : (n : ℕ) → n < l.start * 512 → in_frames l.self.frames n ≡ in_frames l.fn.self.frames n;
  above : (n : ℕ) → l.end * 512 ≤ n → in_frames l.self.frames n ≡ in_frames l.fn.self.frames n;
}

abbrev pub decreases-loop-ppn : goal.decreases-loop-ppn
decreases-loop-ppn l = frame_count l.self.frames
