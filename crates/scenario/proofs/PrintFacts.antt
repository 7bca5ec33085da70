-- What is printed of files that are written out.
use Rattle.std.proofs.Common.{◌≡◌, ◌↔◌, ℕ, codes, Result, Ok, Err, List, [], ◌∙◌, false, refl, subst, sym, arith}
use Rattle.std.specs.Fmt.{digits}
use Rattle.toml.proofs.OnLiterals.{toml_on_literals}
use Rattle.pte.specs.declared.permission.Access.TheVariants.{Load}
use Rattle.pte.specs.declared.permission.Mode.TheVariants.{User}
use Rattle.pte.specs.declared.scheme.Scheme.TheVariants.{Sv39}
use Rattle.pte.specs.Address.{level_count}
use Rattle.pte.specs.Entry.{kind_of}
use Rattle.pte.proofs.Schemes.{is_canonical-IsCanonical}
use Rattle.walk.specs.Stage.{start_of}
use Rattle.walk.proofs.Ending.{on_path-start}
use Rattle.walk.proofs.Unique.{computes}
use Rattle.spaces.specs.Edits.{edit_of, path_end, wish_fault}
use Rattle.spaces.specs.Limits.{is_within_limits}
use Rattle.shoot.specs.HartSet.{byte_of, difference}
use Rattle.lines.proofs.LineLemmas.{one_lines}
use Rattle.files.specs.Faults.{Failure}
use Rattle.files.specs.Settings.{config_at}
use Rattle.files.specs.RunFile.{RunPlan, run_plan_of, run_scenario_of}
use Rattle.files.specs.WalkFile.{WalkPlan, walk_plan_of, walk_scenario_of}
use Rattle.scenario.specs.Commands.{run, walk}
use Rattle.scenario.specs.Prints.{LinesOf, Prints, PrintsReplies}
use Rattle.scenario.specs.WorkedFiles.{layout_text, run_text, walk_text}

pub one_walk : (read : Result WalkPlan Failure) (a b : List ℕ) → LinesOf Prints read a → LinesOf Prints read b → a ≡ b
one_walk (Ok plan) a b p q = one_lines plan.scheme plan.tables plan.root 1 plan.steps a b p q
one_walk (Err e) a b p q = p ∙ sym q

pub one_run : (read : Result RunPlan Failure) (a b : List ℕ) → LinesOf PrintsReplies read a → LinesOf PrintsReplies read b → a ≡ b
one_run (Ok plan) a b p q = p ∙ sym q
one_run (Err e) a b p q = p ∙ sym q

-- one line is printed, and it is this one
both : (Printed : List ℕ → Type 0) (line : List ℕ) → Printed line → ((a b : List ℕ) → Printed a → Printed b → a ≡ b) → (lines : List ℕ) → Printed lines ↔ (lines ≡ line)
both Printed line printed one lines = (λ p. one lines line p printed, λ is. subst Printed (sym is) printed)

run_lines : LinesOf PrintsReplies (run_scenario_of run_text) (codes "1 leaf\n2 more\n3 fill 0x80001234\n4 hit 0x80001234\n5 opened 0\n")
unfolding toml_on_literals run_scenario_of run_plan_of config_at is_within_limits kind_of wish_fault path_end edit_of byte_of difference digits
run_lines = refl

pub run_prints : (lines : List ℕ) → run.Lines run_text lines ↔ (lines ≡ codes "1 leaf\n2 more\n3 fill 0x80001234\n4 hit 0x80001234\n5 opened 0\n")
run_prints = both (run.Lines run_text) _ run_lines (one_run (run_scenario_of run_text))

no_lines : LinesOf PrintsReplies (run_scenario_of layout_text) []
unfolding toml_on_literals run_scenario_of run_plan_of config_at is_within_limits
no_lines = refl

pub faulty_prints : (lines : List ℕ) → run.Lines layout_text lines ↔ (lines ≡ [])
faulty_prints = both (run.Lines layout_text) _ no_lines (one_run (run_scenario_of layout_text))

-- the walk of the one access takes three loads
walk_line : LinesOf Prints (walk_scenario_of walk_text) (codes "1 pa 0x12345abc 4K\n")
unfolding toml_on_literals walk_scenario_of walk_plan_of kind_of digits
walk_line = (
  _,
  [],
  computes Sv39 _ 0x80000 (level_count Sv39) (start_of Sv39 0x80000 0x80403abc Load (record { mode = User; sum = false; mxr = false }))
      (on_path-start Sv39 _ 0x80000 0x80403abc Load (record { mode = User; sum = false; mxr = false }) ((is_canonical-IsCanonical Sv39 0x80403abc).0 refl)) (omega arith),
  refl,
  refl,
)

pub walk_prints : (lines : List ℕ) → walk.Lines walk_text lines ↔ (lines ≡ codes "1 pa 0x12345abc 4K\n")
walk_prints = both (walk.Lines walk_text) _ walk_line (one_walk (walk_scenario_of walk_text))
