-- The last answer of a question about a translation.
use Rattle.std.specs.Prelude.{Bool, ◌≡◌, Option}
use Rattle.std.specs.Option.{ForSome}
use Rattle.watch.specs.Holding.{Translation}
use Rattle.watch_engine.specs.declared.touched.LastAnswer.{LastAnswer}

-- if there was one, it is right
abbrev pub IsAnswered : (Translation → Bool) → Option LastAnswer → Type 0
IsAnswered test last =
    ForSome last (λ a. a.current ≡ test (record { root = a.root; entry = a.entry }))
