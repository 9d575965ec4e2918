-- What holds of each element of a list.
use Rattle.std.proofs.Common.{List, [], ◌∷◌}
use Rattle.rx_tree.specs.Lists.{Every}

pub both : {A : Type 0} (P Q S : A → Type 0) → ((x : A) → P x → Q x → S x) → (xs : List A) → Every P xs → Every Q xs → Every S xs
both P Q S f [] p q = tt
both P Q S f (x ∷ xs) p q = (f x p.0 q.0, both P Q S f xs p.1 q.1)

pub each : {A : Type 0} (P Q : A → Type 0) → ((x : A) → P x → Q x) → (xs : List A) → Every P xs → Every Q xs
each P Q f [] p = tt
each P Q f (x ∷ xs) p = (f x p.0, each P Q f xs p.1)
