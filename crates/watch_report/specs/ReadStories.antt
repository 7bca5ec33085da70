-- Stories whose text reads as a trace.
use Rattle.std.specs.Prelude.{ℕ, false, ◌≡◌, ◌<◌, ◌≤◌, List, [], ◌∷◌}
use Rattle.std.specs.List.{list_any}
use Rattle.watch.specs.Trace.{hart_of}
use Rattle.watch_causes.specs.declared.stories.Part.{Part}
use Rattle.watch_report.specs.declared.header.Header.{Header}
use Rattle.watch_report.specs.ReadBack.{HasLine}
use Rattle.watch_report.specs.TraceText.{Noted, is_feed}

abbrev pub HasNoFeed : List ℕ → Type 0
HasNoFeed text = list_any is_feed text ≡ false

abbrev pub HaveNoFeed : List Noted → Type 0
HaveNoFeed [] = Unit {0}
HaveNoFeed (r ∷ records) = HasNoFeed r.by × HaveNoFeed records

-- each is of a hart of the header, and has a line of its own
abbrev pub HaveLines : Header → List Part → Type 0
HaveLines header [] = Unit {0}
HaveLines header (part ∷ parts) =
    (hart_of part.made < header.harts) × HasLine part.made × HaveLines header parts

-- the story of a verdict at the newest record
pub record IsPrintable (file : List ℕ) (header : Header) (newest : Noted) (records : List Noted)
    (parts : List Part) : Type 0 where
  pub name : HasNoFeed file
  pub some : 0 < header.harts
  pub most : header.harts ≤ 64
  pub notes : HaveNoFeed (newest ∷ records)
  pub lines : HaveLines header parts
