-- The test whether a page lies outside its place's part of a root.
use Rattle.std.proofs.Common.{◌↔◌, arith}
use Rattle.std.specs.Prelude.{IsTrue}
use Rattle.std.proofs.lemmas.Bool.Decides.{nat_tests}
use Rattle.pte.specs.Address.{Span}
use Rattle.spaces.specs.declared.places.Place.{Place}
use Rattle.spaces.specs.declared.places.Place.TheVariants.{Space, Kernel}
use Rattle.spaces.specs.Layout.{Layout}
use Rattle.spaces.specs.Edits.{is_outside}
use Rattle.spaces.specs.Tree.{IsIn}

pub outside_tests : (l : Layout) (place : Place) (page : Span) → IsTrue (is_outside l place page) ↔ (¬ IsIn l place page.base)
outside_tests l (Space s) page = (λ t. grind (arith, nat_tests, t), λ f. grind (arith, nat_tests, f))
outside_tests l Kernel page = (λ t. grind (arith, nat_tests, t), λ f. grind (arith, nat_tests, f))
