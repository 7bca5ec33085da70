-- What a gate says of the steps of the harts.
use Rattle.std.specs.Prelude.{ℕ}

-- of a hart's step, by their numbers: that the hart may do it; that its script may end before it;
-- and that the gate was told of its end
pub record GateSays : Type 1 where
  pub may_pass : (hart step : ℕ) → Type 0
  pub may_halt : (hart step : ℕ) → Type 0
  pub was_told : (hart step : ℕ) → Type 0

-- a gate that says nothing: each of the three holds of every step
abbrev pub says_nothing : GateSays
says_nothing = record {
  may_pass = λ _ _. Unit {0};
  may_halt = λ _ _. Unit {0};
  was_told = λ _ _. Unit {0};
}

-- a gate that halts no script
abbrev pub halts_none : GateSays
halts_none = record says_nothing { may_halt = λ _ _. ⊥ }
