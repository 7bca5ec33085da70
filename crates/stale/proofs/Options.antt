-- What is said of an option, and of none.
use Rattle.std.proofs.Common.{◌≡◌, false, Option, Some, None}
use Rattle.std.specs.Prelude.{is_some, IfNone, IfSome}

pub none_there : {X : Type 0} {P : Type 0} (o : Option X) → is_some o ≡ false → IfNone o P → P
none_there None e p = p
none_there (Some x) e p = absurd (cc)

pub weaker_some : {X : Type 0} {P Q : X → Type 0} (o : Option X) → ((x : X) → P x → Q x) → IfSome o P → IfSome o Q
weaker_some None f p = p
weaker_some (Some x) f p = f x p

pub weaker_none : {X : Type 0} {P Q : Type 0} (o : Option X) → (P → Q) → IfNone o P → IfNone o Q
weaker_none None f p = f p
weaker_none (Some x) f p = p

pub both_some : {X : Type 0} (P Q : X → Type 0) (o : Option X) → IfSome o P → IfSome o Q → IfSome o (λ x. P x × Q x)
both_some P Q None p q = p
both_some P Q (Some x) p q = (p, q)
