-- The pages of 4 KiB that the tables of a root map (privileged manual 4.3.2, step 8; 4.3.1, G).
use Rattle.std.specs.Prelude.{ℕ, Bool, ◌≡◌, ◌+◌, ◌*◌, ◌/◌, ◌%◌, ◌≤◌, ◌↔◌, Some, IsTrue}
use Rattle.pte.specs.declared.scheme.Scheme.{Scheme}
use Rattle.pte.specs.declared.address.PageSize.TheVariants.{Kib4}
use Rattle.pte.specs.declared.flags.PteFlags.{PteFlags}
use Rattle.pte.specs.declared.entry.Kind.TheVariants.{Leaf}
use Rattle.pte.specs.Address.{Span, IsCanonical, bytes_of, level_pages}
use Rattle.pte.specs.Entry.{kind_of}
use Rattle.walk.specs.Leads.{Tables, Leads, IsGlobalAt}

-- the number of the page of 4 KiB in which an address lies, virtual or physical
abbrev pub page_number : ℕ → ℕ
page_number address = address / bytes_of Kib4

-- the page of 4 KiB with this number lies in the page
pub record LiesIn (page : Span) (number : ℕ) : Type 0 where
  pub from : page.base ≤ number * bytes_of Kib4
  pub to : (number + 1) * bytes_of Kib4 ≤ page.base + bytes_of page.size

-- Maps is the set of these: for a canonical address of the page an aligned leaf leads; the PPN is
-- the leaf's and the page's place in the leaf's page, the flags are the leaf's, and global says
-- whether G is on the leaf or on a pointer above it
pub record Maps (scheme : Scheme) (words : Tables) (root page ppn : ℕ) (flags : PteFlags)
    (global : Bool) : Type 0 where
  pub va : ℕ
  pub level : ℕ
  pub table : ℕ
  pub entry : ℕ
  pub leaf : ℕ
  pub canonical : IsCanonical scheme va
  pub of_page : page_number va ≡ page
  pub leads : Leads scheme words root va level table (Some entry)
  pub kind : kind_of entry ≡ Leaf leaf flags
  pub aligned : leaf % level_pages level ≡ 0
  pub place : ppn ≡ leaf + page % level_pages level
  pub is_global : IsTrue global ↔ IsGlobalAt scheme words root va level
