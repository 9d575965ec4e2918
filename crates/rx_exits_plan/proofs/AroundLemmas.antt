-- What is around a place, where more is declared.
use Rattle.std.proofs.Common.{◌≡◌, ℕ, List, ap, ◌∷◌, []}
use Rattle.std.proofs.lemmas.List.{reverse-append}
use Rattle.rx_exits_plan.specs.Spots.{Around, with_variables, with_loop}
use Rattle.rx_exits_plan.specs.declared.around.Around as code
use Rattle.rx_exits_plan.specs.PlainSyntax.{plain-Around, grown}
use Rattle.std.proofs.Common.{reverse, ◌++◌}

pub plain_grown : (a : code.Around) (xs : List ℕ) → plain-Around (grown a xs) ≡ with_variables xs (plain-Around a)
plain_grown a xs = ap (λ (s : List ℕ). let b : Around = record { scope = s; loops = reverse a.loops } in b) (reverse-append a.scope xs)

pub plain_looped : (a : code.Around) (l : ℕ) → plain-Around (record { scope = a.scope; loops = a.loops ++ l ∷ [] }) ≡ with_loop l (plain-Around a)
plain_looped a l = ap (λ (s : List ℕ). let b : Around = record { scope = reverse a.scope; loops = s } in b) (reverse-append a.loops (l ∷ []))
