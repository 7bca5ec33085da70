-- What the calls of a walk answer C, and the numbers that stand for a walk.
use Rattle.std.specs.Prelude.{ℕ, ℤ, pos, Bool, true, false, ◌≡◌, ◌+◌, ◌*◌, ◌^◌, ◌==◌, ◌&&◌, nat_le, nat_lt, if◌then◌else◌, Option, Some, None, Result, Ok, Err}
use Rattle.pte.specs.declared.permission.Access.{Access}
use Rattle.pte.specs.declared.permission.Mode.{Mode}
use Rattle.pte.specs.declared.permission.Ctx.{Ctx}
use Rattle.pte.specs.declared.entry.TheConstants.{PPN_BITS}
use Rattle.pte.specs.Address.{is_canonical, top_level, widest}
use Rattle.walk.specs.declared.found_or_trap.Why.TheVariants.{NotCanonical}
use Rattle.walk.specs.declared.permissions.Permitted.{Permitted}
use Rattle.walk.specs.declared.stepping.AccessedDirty.{AccessedDirty}
use Rattle.walk.specs.declared.stepping.AccessedDirty.TheVariants.{Trap, Set}
use Rattle.walk.specs.declared.stepping.Advance.{Advance}
use Rattle.walk.specs.declared.stepping.Advance.TheVariants as advance
use Rattle.walk.specs.declared.stepping.Granted.{Granted}
use Rattle.walk.specs.declared.stepping.ReadWord.{ReadWord}
use Rattle.walk.specs.declared.stepping.Trapped.{Trapped}
use Rattle.walk.specs.Answer.{page_trap}
use Rattle.walk.specs.Permits.{permits}
use Rattle.walk.specs.Policy.{load_under, word_address}
use Rattle.walk.specs.Stage.{Stage, start_of, stage_of}
use Rattle.melissaledge_c.specs.declared.bare.Translation.{Translation}
use Rattle.melissaledge_c.specs.declared.bare.Translation.TheVariants.{Bare, Paged}
use Rattle.melissaledge_c.specs.declared.codes.Fault.{Fault}
use Rattle.melissaledge_c.specs.declared.codes.Fault.TheVariants as fault
use Rattle.melissaledge_c.specs.declared.requests.AccessAsked.{AccessAsked}
use Rattle.melissaledge_c.specs.declared.requests.EntryGiven.{EntryGiven}
use Rattle.melissaledge_c.specs.declared.translations.Answer.{Answer}
use Rattle.melissaledge_c.specs.declared.walks.LeafGiven.{LeafGiven}
use Rattle.melissaledge_c.specs.declared.walks.Start.{Start}
use Rattle.melissaledge_c.specs.declared.walks.WalkGiven.{WalkGiven}
use Rattle.melissaledge_c.specs.Codes.{code_of, is_set, number_of, or_fault}
use Rattle.melissaledge_c.specs.Requests.{and_then, asked_of}
use Rattle.melissaledge_c.specs.Translations.{answer_of, bare_answer, bare_status, is_beyond, translation_of, trap_answer}

-- the numbers of a policy and of what a page permits
abbrev pub policy_of : ℕ → Option AccessedDirty
policy_of code = if code == 0 then Some Trap else if code == 1 then Some Set else None

abbrev pub permits_code : Permitted → ℕ
permits_code permitted =
    number_of permitted.fetch + number_of permitted.load * 2 + number_of permitted.store * 4

-- whether the numbers of a walk are in the limits that every walk keeps
abbrev pub is_in_limits : Stage → Bool
is_in_limits s =
    is_canonical widest s.va && nat_le s.level (top_level widest) && nat_lt s.table (2 ^ PPN_BITS)

abbrev pub limited : Stage → AccessedDirty → Result (Stage × AccessedDirty) Fault
limited s policy = if is_in_limits s then Ok (s, policy) else Err fault.Walk

-- the walk and the policy of numbers
abbrev pub walk_of : WalkGiven → Result (Stage × AccessedDirty) Fault
walk_of given =
    and_then (asked_of given.access) (λ asked.
    or_fault (policy_of given.ad) fault.Policy (λ policy.
    limited (stage_of given.access.va asked.0 asked.1 given.level given.table_ppn (is_set given.global))
    policy))

-- the numbers of a walk for an access and a policy that were asked so
abbrev pub walk_given : AccessAsked → ℕ → Stage → WalkGiven
walk_given asked ad s = record {
  pte_pa = word_address s;
  table_ppn = s.table;
  access = asked;
  level = s.level;
  global = number_of s.global;
  ad = ad;
}

-- an answer that no word decided
abbrev pub wordless : Answer → ℕ → LeafGiven
wordless answer permitted =
    record { answer = answer; pte_pa = 0; pte = 0; level = 0; permits = permitted; set = 0 }

abbrev pub granted_leaf : Granted → Ctx → LeafGiven
granted_leaf granted ctx = record {
  answer = answer_of (Ok granted.found);
  pte_pa = granted.read.pa;
  pte = granted.read.word;
  level = granted.read.level;
  permits = permits_code (permits ctx granted.found.flags);
  set = granted.set.0;
}

abbrev pub trap_leaf : Answer → Option ReadWord → LeafGiven
trap_leaf answer None = wordless answer 0
trap_leaf answer (Some read) = record {
  answer = answer;
  pte_pa = read.pa;
  pte = read.word;
  level = read.level;
  permits = 0;
  set = 0;
}

abbrev pub trapped_leaf : Trapped → LeafGiven
trapped_leaf trapped = trap_leaf (trap_answer trapped.trap) trapped.read

-- in Bare every access of the page goes through
abbrev pub bare_leaf : ℕ → Access → LeafGiven
bare_leaf va access = wordless (bare_answer va access) (if is_beyond va then 0 else 7)

-- the call is refused, and nothing has changed
abbrev pub Refused : Fault → ℤ → WalkGiven → WalkGiven → LeafGiven → LeafGiven → Type 0
Refused why result walk walk_new leaf leaf_new =
    (result ≡ code_of why) × (walk_new ≡ walk) × (leaf_new ≡ leaf)

-- the walk goes on, and the leaf is as it was; or it ends, and the walk is as it was
abbrev pub More : AccessAsked → ℕ → Stage → ℤ → WalkGiven → LeafGiven → LeafGiven → Type 0
More asked ad next result walk_new leaf leaf_new =
    (result ≡ pos 3) × (walk_new ≡ walk_given asked ad next) × (leaf_new ≡ leaf)

abbrev pub Ends : ℤ → LeafGiven → ℤ → WalkGiven → WalkGiven → LeafGiven → Type 0
Ends status told result walk walk_new leaf_new =
    (result ≡ status) × (walk_new ≡ walk) × (leaf_new ≡ told)

-- what comes of a load
abbrev pub Tells : Ctx → Advance → ℤ → WalkGiven → WalkGiven → LeafGiven → LeafGiven → Type 0
Tells ctx (advance.More next) result walk walk_new leaf leaf_new =
    More walk.access walk.ad next result walk_new leaf leaf_new
Tells ctx (advance.Granted granted) result walk walk_new leaf leaf_new =
    Ends (pos 0) (granted_leaf granted ctx) result walk walk_new leaf_new
Tells ctx (advance.Trapped trapped) result walk walk_new leaf leaf_new =
    Ends (pos 1) (trapped_leaf trapped) result walk walk_new leaf_new

-- the walk of the numbers takes the word, or none
abbrev pub GoesOn : Result (Stage × AccessedDirty) Fault → Option ℕ → ℤ → WalkGiven → WalkGiven
    → LeafGiven → LeafGiven → Type 0
GoesOn (Err why) word result walk walk_new leaf leaf_new =
    Refused why result walk walk_new leaf leaf_new
GoesOn (Ok resumed) word result walk walk_new leaf leaf_new =
    Tells resumed.0.ctx (load_under resumed.1 resumed.0 word) result walk walk_new leaf leaf_new

-- what is asked at the beginning
abbrev pub limited_start : Start → ℕ → Result Start Fault
limited_start start root = if nat_lt root (2 ^ PPN_BITS) then Ok start else Err fault.Root

abbrev pub start_asked : ℕ → ℕ → AccessAsked → ℕ → Result Start Fault
start_asked mode root asked ad =
    or_fault (translation_of mode) fault.Scheme (λ translation.
    and_then (asked_of asked) (λ access.
    or_fault (policy_of ad) fault.Policy (λ policy.
    limited_start (record { translation = translation; access = access.0; ctx = access.1 }) root)))

-- a walk of an address that is canonical waits for a word of the root
abbrev pub Waits : Bool → AccessAsked → ℕ → Stage → ℤ → WalkGiven → WalkGiven → LeafGiven
    → LeafGiven → Type 0
Waits false asked ad s result walk walk_new leaf leaf_new =
    Ends (pos 1) (wordless (trap_answer (page_trap s.access NotCanonical)) 0) result walk walk_new
    leaf_new
Waits true asked ad s result walk walk_new leaf leaf_new =
    More asked ad s result walk_new leaf leaf_new

abbrev pub Starts : Translation → ℕ → AccessAsked → ℕ → Start → ℤ → WalkGiven → WalkGiven → LeafGiven
    → LeafGiven → Type 0
Starts Bare root asked ad start result walk walk_new leaf leaf_new =
    Ends (bare_status asked.va) (bare_leaf asked.va start.access) result walk walk_new leaf_new
Starts (Paged scheme) root asked ad start result walk walk_new leaf leaf_new =
    Waits (is_canonical scheme asked.va) asked ad
    (start_of scheme root asked.va start.access start.ctx) result walk walk_new leaf leaf_new

abbrev pub Begins : Result Start Fault → ℕ → AccessAsked → ℕ → ℤ → WalkGiven → WalkGiven → LeafGiven
    → LeafGiven → Type 0
Begins (Err why) root asked ad result walk walk_new leaf leaf_new =
    Refused why result walk walk_new leaf leaf_new
Begins (Ok start) root asked ad result walk walk_new leaf leaf_new =
    Starts start.translation root asked ad start result walk walk_new leaf leaf_new

-- what an entry permits in a privilege mode
abbrev pub Permits : Option Mode → EntryGiven → ℕ → ℕ → ℤ → ℕ → ℕ → Type 0
Permits None entry sum mxr result old new = (result ≡ code_of fault.Mode) × (new ≡ old)
Permits (Some mode) entry sum mxr result old new =
    (result ≡ pos 0)
    × (new ≡ permits_code
    (permits (record { mode = mode; sum = is_set sum; mxr = is_set mxr }) (record { 0 = entry.flags })))
