-- Places whose ways are the same up to a dereference have the same parts.
use Rattle.std.proofs.Common.{◌≡◌, ℕ, List, [], ◌∷◌, refl, ap}
use Rattle.rx_core.specs.declared.types.Step.{Step}
use Rattle.rx_typed.specs.Types.{Declarations}
use Rattle.rx_facts_tables.specs.Places.{Frame, Located, Spot, located, field_of, variant_of, nth_variable, is_part, spans}
use Rattle.rx_facts_tables.specs.Wholes.{placed}
use Rattle.rx_engine_initial.specs.Variables.{SameWay, both_end, both_field, both_variant, both_behind}

same_spot : (D : Declarations) (P : ℕ → ℕ) {ss rs : List Step} → SameWay ss rs → (n : ℕ) (s : Spot) → located D P ss n s ≡ located D P rs n s
same_spot D P both_end n s = refl
same_spot D P (both_field {i = i} w) n s = same_spot D P w (field_of D P i n s).first (field_of D P i n s).spot
same_spot D P (both_variant {v = v} w) n s = same_spot D P w (variant_of D P v n s).first (variant_of D P v n s).spot
same_spot D P both_behind n s = refl

pub same_part : (F : Frame) (x n : ℕ) {ss rs : List Step} → SameWay ss rs → is_part F (placed x ss) n ≡ is_part F (placed x rs) n
same_part F x n w = ap (λ (l : Located). spans F.sizes l n) (same_spot F.declared F.sizes w (nth_variable F.sizes F.types x 0).first (nth_variable F.sizes F.types x 0).spot)
