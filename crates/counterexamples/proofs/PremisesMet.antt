-- The worked runs meet the premises of the laws.
use Rattle.std.proofs.Common.{◌≡◌, ℕ, zero, suc, ◌<◌, ◌^◌, [], ◌∷◌, Some, None, refl, arith, inl, inr}
use Rattle.std.proofs.lemmas.List.Elements.{All-from_recursion}
use Rattle.pte.specs.Address.{IsPage}
use Rattle.history.specs.Spaces.{asid_of}
use Rattle.history.specs.Orders.{Unmapped, Protected}
use Rattle.history.specs.Staleness.{HasAnswered}
use Rattle.counterexamples.specs.WorkedRuns.{history_of, large_page, small_page, two_harts}
use Rattle.counterexamples.specs.KernelRuns as kernel
use Rattle.counterexamples.specs.ShootdownRuns as shootdowns
use Rattle.counterexamples.specs.RetireRuns as retirements
use Rattle.pte.specs.declared.TheConstants.{ASID_BITS}
use Rattle.laws.specs.Kept.{HavePages, IsSetup}

first : (s : ℕ) → s < 1 → asid_of two_harts [] s < 2 ^ 16
first zero below = omega arith
first (suc s) below = absurd (omega (arith, below))

second : (s : ℕ) → s < 2 → asid_of kernel.spaces_of_two_homes [] s < 2 ^ 16
second zero below = omega arith
second (suc zero) below = omega arith
second (suc (suc s)) below = absurd (omega (arith, below))

apart : (s t : ℕ) → s < 2 → t < 2 → asid_of kernel.spaces_of_two_homes [] s ≡ asid_of kernel.spaces_of_two_homes [] t → s ≡ t
apart zero zero below below' same = refl
apart zero (suc zero) below below' same = absurd (omega (arith, same))
apart (suc zero) zero below below' same = absurd (omega (arith, same))
apart (suc zero) (suc zero) below below' same = refl
apart (suc (suc s)) t below below' same = absurd (omega (arith, below))
apart s (suc (suc t)) below below' same = absurd (omega (arith, below'))

pub one_space : IsSetup two_harts
one_space = record {
  harts = omega arith;
  layout = record {
    some_space = omega arith;
    spaces = omega arith;
    harts = omega arith;
    homes = All-from_recursion (λ home. home < 2) (0 ∷ []) (omega arith, tt);
    some_window = omega arith;
    window = omega arith;
    frames_fit = omega arith;
    ppns_fit = omega arith;
  };
  homes = refl;
  asids = record {
    some_space = omega arith;
    bound = first;
    distinct = λ s t below below' same. omega (arith, below, below');
  };
}

pub two_spaces : IsSetup kernel.spaces_of_two_homes
two_spaces = record {
  harts = omega arith;
  layout = record {
    some_space = omega arith;
    spaces = omega arith;
    harts = omega arith;
    homes = All-from_recursion (λ home. home < 2) (0 ∷ 1 ∷ []) (omega arith, (omega arith, tt));
    some_window = omega arith;
    window = omega arith;
    frames_fit = omega arith;
    ppns_fit = omega arith;
  };
  homes = refl;
  asids = record { some_space = omega arith; bound = second; distinct = apart };
}

pub one_home : IsSetup shootdowns.spaces_of_one_home
one_home = record {
  harts = omega arith;
  layout = record {
    some_space = omega arith;
    spaces = omega arith;
    harts = omega arith;
    homes = All-from_recursion (λ home. home < 2) (0 ∷ 0 ∷ []) (omega arith, (omega arith, tt));
    some_window = omega arith;
    window = omega arith;
    frames_fit = omega arith;
    ppns_fit = omega arith;
  };
  homes = refl;
  asids = record { some_space = omega arith; bound = second; distinct = apart };
}

large : IsPage (large_page 0x400000)
large = record { canonical = inl (omega arith); aligned = refl }

kernel_small : IsPage (small_page 0xffffffffc0000000)
kernel_small = record { canonical = inr (omega arith, omega arith); aligned = refl }

pub superpage_pages : HavePages (history_of shootdowns.superpage_shootdown)
superpage_pages = (((((((((((((((((((tt, large), large), tt), tt), tt), large), tt), tt), tt), tt), tt), tt), tt), tt), tt), tt), tt), tt), tt)

pub superpage_answered : HasAnswered two_harts (history_of shootdowns.superpage_shootdown) 5 1 (Unmapped (Some 1) (large_page 0x400000))
superpage_answered = record { order = _; is = refl; same_cause = refl; named = refl; acked = refl }

pub read_only_pages : HavePages (history_of shootdowns.superpage_made_read_only)
read_only_pages = ((((((((((((((tt, large), large), tt), tt), tt), large), tt), tt), tt), tt), tt), tt), tt), tt)

pub read_only_answered : HasAnswered two_harts (history_of shootdowns.superpage_made_read_only) 5 1 (Protected (Some 1) (large_page 0x400000))
read_only_answered = record { order = _; is = refl; same_cause = refl; named = refl; acked = refl }

pub kernel_pages : HavePages (history_of kernel.kernel_page_outlives_an_asid_fence)
kernel_pages = (((((((((((((((((((tt, kernel_small), kernel_small), tt), tt), tt), tt), tt), tt), tt), tt), kernel_small), tt), tt), tt), tt), tt), tt), tt), tt)

pub kernel_answered : HasAnswered kernel.spaces_of_two_homes (history_of kernel.kernel_page_outlives_an_asid_fence) 10 1 (Unmapped None (small_page 0xffffffffc0000000))
kernel_answered = record { order = _; is = refl; same_cause = refl; named = refl; acked = refl }

small : IsPage (small_page 0x1000)
small = record { canonical = inl (omega arith); aligned = refl }

asid_2 : 2 < 2 ^ ASID_BITS
asid_2 = omega arith

asid_7 : 7 < 2 ^ ASID_BITS
asid_7 = omega arith

pub retired_pages : HavePages (history_of retirements.retired_until_acknowledged)
retired_pages = ((((((((((((((((((((tt, small), small), small), tt), tt), tt), tt), tt), tt), tt), tt), tt), tt), tt), asid_2), tt), tt), tt), tt), tt)

pub created_pages : HavePages (history_of retirements.orders_keep_their_asid)
created_pages = (((((((((((((((((((((((((((((((((((((((tt, small), small), small), tt), tt), tt), tt), tt), tt), tt), tt), small), tt), tt), tt), tt), tt), tt), tt), tt), asid_7), small), small), small), tt), tt), tt), tt), tt), tt), tt), tt), tt), tt), tt), tt), tt), tt), tt)

pub created_answered : HasAnswered shootdowns.spaces_of_one_home (history_of retirements.orders_keep_their_asid) 11 1 (Unmapped (Some 2) (small_page 0x1000))
created_answered = record { order = _; is = refl; same_cause = refl; named = refl; acked = refl }
