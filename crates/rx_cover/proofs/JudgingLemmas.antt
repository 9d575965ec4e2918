-- Matches are judged one after another.
use Rattle.std.proofs.Common.{◌≡◌, ℕ, zero, suc, ◌+◌, ◌<◌, ◌≤◌, List, [], ◌∷◌, map, drop, length, get_or, Option, Some, None, sym, subst, inl, inr, arith}
use Rattle.rx_typed.specs.Types.{Declarations}
use Rattle.rx_cover.specs.declared.judging.Problem.{Problem}
use Rattle.rx_cover.specs.declared.choices.Choice.{Choice}
use Rattle.rx_cover.specs.PlainChoices.{plain-Choice}
use Rattle.rx_cover.specs.Judging.{Judged, Told}
use Rattle.rx_cover.proofs.ArmLemmas.{choices_next}

pub judged_here : (D : Declarations) (xs : List Choice) (i : ℕ) (x : Choice) (p : Problem) → i < length xs → x ≡ get_or xs i x → Judged D (plain-Choice x) (Some p)
    → Told D (map plain-Choice (drop i xs)) (Some (x.node, p))
judged_here D xs i x (Problem.Wide n) l e j = subst (λ cs. Told D cs (Some (x.node, Problem.Wide n))) (sym (choices_next xs i x l e)) (inl j)
judged_here D xs i x (Problem.Missing v) l e j = subst (λ cs. Told D cs (Some (x.node, Problem.Missing v))) (sym (choices_next xs i x l e)) (inl j)

pub judged_later : (D : Declarations) (xs : List Choice) (i : ℕ) (x : Choice) (o : Option (ℕ × Problem)) → i < length xs → x ≡ get_or xs i x → Judged D (plain-Choice x) None
    → Told D (map plain-Choice (drop (i + 1) xs)) o → Told D (map plain-Choice (drop i xs)) o
judged_later D xs i x None l e j t = subst (λ cs. Told D cs None) (sym (choices_next xs i x l e)) (j, t)
judged_later D xs i x (Some (n, Problem.Wide k)) l e j t = subst (λ cs. Told D cs (Some (n, Problem.Wide k))) (sym (choices_next xs i x l e)) (inr (j, t))
judged_later D xs i x (Some (n, Problem.Missing v)) l e j t = subst (λ cs. Told D cs (Some (n, Problem.Missing v))) (sym (choices_next xs i x l e)) (inr (j, t))

pub judged_end : (D : Declarations) (xs : List Choice) (i : ℕ) → length xs ≤ i → Told D (map plain-Choice (drop i xs)) None
judged_end D [] zero l = tt
judged_end D [] (suc i) l = tt
judged_end D (x ∷ xs) zero l = absurd (omega (arith, l))
judged_end D (x ∷ xs) (suc i) l = judged_end D xs i (omega (arith, l))
