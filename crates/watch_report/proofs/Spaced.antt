-- Fields that were added one after another, each after a space.
use Rattle.std.proofs.Common.{◌≡◌, List, [], ◌∷◌, ◌++◌, ℕ, codes, sym, ap, ◌∙◌, append_assoc}
use Rattle.std.specs.List.{join_with_byte}

pub three_fields : (o a b c : List ℕ) → o ++ a ++ codes " " ++ b ++ codes " " ++ c ≡ o ++ join_with_byte 32 (a ∷ b ∷ c ∷ [])
three_fields o a b c = simp append_assoc

pub four_fields : (o a b c d : List ℕ) → o ++ a ++ codes " " ++ b ++ codes " " ++ c ++ codes " " ++ d ≡ o ++ join_with_byte 32 (a ∷ b ∷ c ∷ d ∷ [])
four_fields o a b c d = simp append_assoc

pub six_fields : (o a b c d e f : List ℕ) → o ++ a ++ codes " " ++ b ++ codes " " ++ c ++ codes " " ++ d ++ codes " " ++ e ++ codes " " ++ f ≡ o ++ join_with_byte 32 (a ∷ b ∷ c ∷ d ∷ e ∷ f ∷ [])
six_fields o a b c d e f = simp append_assoc

pub seven_fields : (o a b c d e f g : List ℕ) → o ++ a ++ codes " " ++ b ++ codes " " ++ c ++ codes " " ++ d ++ codes " " ++ e ++ codes " " ++ f ++ codes " " ++ g ≡ o ++ join_with_byte 32 (a ∷ b ∷ c ∷ d ∷ e ∷ f ∷ g ∷ [])
seven_fields o a b c d e f g = simp append_assoc

-- ---- pieces that were added one after another

pub four_pieces : (o a b c d x y z w : List ℕ) → x ≡ o ++ a → y ≡ x ++ b → z ≡ y ++ c → w ≡ z ++ d → w ≡ o ++ (a ++ b ++ c ++ d)
four_pieces o a b c d x y z w e f g h =
    h ∙ ap (λ (t : List ℕ). t ++ d) (g ∙ ap (λ (t : List ℕ). t ++ c) (f ∙ ap (λ (t : List ℕ). t ++ b) e))
    ∙ append_assoc (o ++ a ++ b) c d ∙ append_assoc (o ++ a) b (c ++ d) ∙ append_assoc o a (b ++ (c ++ d))
    ∙ ap (λ (t : List ℕ). o ++ t) (sym (append_assoc (a ++ b) c d ∙ append_assoc a b (c ++ d)))

pub five_pieces : (o a b c d p x y z w v : List ℕ) → x ≡ o ++ a → y ≡ x ++ b → z ≡ y ++ c → w ≡ z ++ d → v ≡ w ++ p → v ≡ o ++ (a ++ b ++ c ++ d ++ p)
five_pieces o a b c d p x y z w v e f g h i =
    i ∙ ap (λ (t : List ℕ). t ++ p) (four_pieces o a b c d x y z w e f g h) ∙ append_assoc o (a ++ b ++ c ++ d) p

pub three_pieces : (o a b c x y z : List ℕ) → x ≡ o ++ a → y ≡ x ++ b → z ≡ y ++ c → z ≡ o ++ (a ++ b ++ c)
three_pieces o a b c x y z e f g =
    g ∙ ap (λ (t : List ℕ). t ++ c) (f ∙ ap (λ (t : List ℕ). t ++ b) e)
    ∙ append_assoc (o ++ a) b c ∙ append_assoc o a (b ++ c) ∙ ap (λ (t : List ℕ). o ++ t) (sym (append_assoc a b c))

pub six_pieces : (o a b c d p q x y z w v u : List ℕ) → x ≡ o ++ a → y ≡ x ++ b → z ≡ y ++ c → w ≡ z ++ d → v ≡ w ++ p → u ≡ v ++ q → u ≡ o ++ (a ++ b ++ c ++ d ++ p ++ q)
six_pieces o a b c d p q x y z w v u e f g h i j =
    j ∙ ap (λ (t : List ℕ). t ++ q) (five_pieces o a b c d p x y z w v e f g h i) ∙ append_assoc o (a ++ b ++ c ++ d ++ p) q
