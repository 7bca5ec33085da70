-- The name that a word is.
use Rattle.std.proofs.Common.{◌≡◌, ℕ, Bool, true, false, List, Option, Some, None, refl, sym, ap, ◌∙◌, if◌then◌else◌}
use Rattle.std.specs.Str.{bytes_eq}
use Rattle.std.proofs.lemmas.Slice.Eq.{bytes_eq-Decides}
use Rattle.steps.specs.declared.table.StepName.{StepName}
use Rattle.steps.specs.declared.table.StepName.TheVariants.{Begin, Translate, Load, Map, Unmap, Protect, Flush, Switch, Fence, Post, Take, Serve, ServeFence, Ack, AckSelf, Collect, Finish, Close, Wait, Retire, Reclaim, Create}
use Rattle.steps.specs.Likely.{likely_of}
use Rattle.steps.specs.Table.{name_of, step_names, word_of}
use Rattle.steps.proofs.WordLemmas.{named-Some}

-- ---- a word is a name just where it is that name's word

pub name_of-word : (name : StepName) → name_of (word_of name) ≡ Some name
name_of-word Begin = refl
name_of-word Translate = refl
name_of-word Load = refl
name_of-word Map = refl
name_of-word Unmap = refl
name_of-word Protect = refl
name_of-word Flush = refl
name_of-word Switch = refl
name_of-word Fence = refl
name_of-word Post = refl
name_of-word Take = refl
name_of-word Serve = refl
name_of-word ServeFence = refl
name_of-word Ack = refl
name_of-word AckSelf = refl
name_of-word Collect = refl
name_of-word Finish = refl
name_of-word Close = refl
name_of-word Wait = refl
name_of-word Retire = refl
name_of-word Reclaim = refl
name_of-word Create = refl

pub word-name_of : (word : List ℕ) (name : StepName) → name_of word ≡ Some name → word ≡ word_of name
word-name_of word name h = named-Some word_of step_names word name h

-- ---- its letters and its length tell which it can be

likely_is : (name : StepName) → likely_of (word_of name) ≡ name
unfolding likely_of
likely_is Begin = refl
likely_is Translate = refl
likely_is Load = refl
likely_is Map = refl
likely_is Unmap = refl
likely_is Protect = refl
likely_is Flush = refl
likely_is Switch = refl
likely_is Fence = refl
likely_is Post = refl
likely_is Take = refl
likely_is Serve = refl
likely_is ServeFence = refl
likely_is Ack = refl
likely_is AckSelf = refl
likely_is Collect = refl
likely_is Finish = refl
likely_is Close = refl
likely_is Wait = refl
likely_is Retire = refl
likely_is Reclaim = refl
likely_is Create = refl

by_name : (word : List ℕ) (o : Option StepName) (b : Bool) → name_of word ≡ o → bytes_eq word (word_of (likely_of word)) ≡ b → o ≡ (if b then Some (likely_of word) else None)
by_name word o true is e = sym is ∙ ap name_of ((bytes_eq-Decides word (word_of (likely_of word))).0 e) ∙ name_of-word (likely_of word)
by_name word None false is e = refl
by_name word (Some name) false is e =
    let same = word-name_of word name is in
    let likely : likely_of word ≡ name = ap likely_of same ∙ likely_is name in
    let eq : bytes_eq word (word_of (likely_of word)) ≡ true = (bytes_eq-Decides word (word_of (likely_of word))).1 (same ∙ ap word_of (sym likely)) in
    let wrong : true ≡ false = sym eq ∙ e in
    cc

pub found_name : (word : List ℕ) (name : StepName) → name ≡ likely_of word → bytes_eq word (word_of name) ≡ true → Some name ≡ name_of word
found_name word name is e = sym (ap name_of ((bytes_eq-Decides word (word_of name)).0 e) ∙ name_of-word name)

pub not_found : (word : List ℕ) (name : StepName) → name ≡ likely_of word → bytes_eq word (word_of name) ≡ false → None ≡ name_of word
not_found word name is e = sym (by_name word (name_of word) false refl (ap (λ n. bytes_eq word (word_of n)) (sym is) ∙ e))
