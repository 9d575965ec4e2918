-- What is written step by step is the text of the pieces: by the laws of lists put together.
use Rattle.std.proofs.Common.{◌≡◌, ℕ, List, ◌++◌, ap, ◌∙◌, append_assoc}

-- two texts written one after the other
pub written_two : (o p q a b : List ℕ) → p ≡ o ++ a → q ≡ p ++ b → q ≡ o ++ (a ++ b)
written_two o p q a b e f = f ∙ ap (λ l. l ++ b) e ∙ append_assoc o a b

-- three
pub written_three : (o p q s a b c : List ℕ) → p ≡ o ++ a → q ≡ p ++ b → s ≡ q ++ c → s ≡ o ++ (a ++ (b ++ c))
written_three o p q s a b c e f g = written_two o p s a (b ++ c) e (written_two p q s b c f g)
