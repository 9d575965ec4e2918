-- Steps, one after the other, and where variables begin.
use Rattle.std.proofs.Common.{◌≡◌, ℕ, zero, suc, ◌+◌, ◌-◌, ◌≤◌, ◌<◌, List, [], ◌∷◌, length, map, option_map, drop, get_or, Option, Some, None, slice_get, slice_index_or, refl, sym, ap, ◌∙◌, subst, arith}
use Rattle.std.proofs.lemmas.List.{drop_more}
use Rattle.std.proofs.lemmas.Option.{slice_get-map}
use Rattle.rx_core.specs.declared.types.Step.{Step}
use Rattle.rx_core.specs.declared.types.Step.TheVariants as step
use Rattle.rx_core.specs.declared.types.Ty.{Ty}
use Rattle.rx_typed.specs.declared.declarations.VariantDecl.{VariantDecl}
use Rattle.rx_typed.specs.Types.{Typ, Declarations, shapes_of, sum_of_parts}
use Rattle.rx_typed.specs.PlainTypes.{plain-Ty, plain-VariantDecl}
use Rattle.rx_typed_declarations.specs.Held.{variant_types}
use Rattle.rx_typed_declarations.specs.Sizes.{Sized, capped}
use Rattle.rx_facts_tables.specs.Places.{Spot, nowhere, Located, at, spot_parts, nth_variant, field_of, variant_of, located, typed_spot, nth_variable, all_parts}
use Rattle.rx_facts_tables.specs.Layouts.{starts_from, Fits}
use Rattle.rx_facts_tables.proofs.Within.{Ends, step_field, step_variant, steps_within, variable_within, sum_append}

pub nothing_there : (D : Declarations) (P : ℕ → ℕ) (ss : List Step) (n : ℕ) → located D P ss n nowhere ≡ at n nowhere
nothing_there D P [] n = refl
nothing_there D P (step.Field i ∷ ss) n = nothing_there D P ss n
nothing_there D P (step.Variant v ∷ ss) n = nothing_there D P ss n
nothing_there D P (step.Deref m ∷ ss) n = refl

-- a step is taken
pub record Stepped (D : Declarations) (P : ℕ → ℕ) (ss : List Step) (k : ℕ) (l m : Located) : Type 0 where
  pub same : located D P (drop (k + 1) ss) m.first m.spot ≡ located D P (drop k ss) l.first l.spot
  pub fits : Fits P l → Fits P m

module _ (D : Declarations) (P : ℕ → ℕ) (sized : Sized D P) (ss : List Step) (k : ℕ) (within : k < length ss) (s d : Step) (is : s ≡ get_or ss k d) (l m : Located) where
  taken : drop k ss ≡ s ∷ drop (k + 1) ss
  taken = drop_more ss k d within ∙ ap (λ (x : Step). x ∷ drop (k + 1) ss) (sym is)

  pub to_field : (i : ℕ) → s ≡ step.Field i → m ≡ field_of D P i l.first l.spot → Stepped D P ss k l m
  to_field i e h = record {
    same = sym (ap (λ (xs : List Step). located D P xs l.first l.spot) (taken ∙ ap (λ (x : Step). x ∷ drop (k + 1) ss) e)
        ∙ ap (λ (x : Located). located D P (drop (k + 1) ss) x.first x.spot) (sym h));
    fits = λ f. subst (λ (x : Located). Fits P x) (sym h) (omega (arith, f, step_field D P sized i l.first l.spot));
  }

  pub to_variant : (v : ℕ) → s ≡ step.Variant v → m ≡ variant_of D P v l.first l.spot → Stepped D P ss k l m
  to_variant v e h = record {
    same = sym (ap (λ (xs : List Step). located D P xs l.first l.spot) (taken ∙ ap (λ (x : Step). x ∷ drop (k + 1) ss) e)
        ∙ ap (λ (x : Located). located D P (drop (k + 1) ss) x.first x.spot) (sym h));
    fits = λ f. subst (λ (x : Located). Fits P x) (sym h) (omega (arith, f, step_variant D P sized v l.first l.spot));
  }

  pub to_reference : (b : _) → s ≡ step.Deref b → l ≡ located D P (drop k ss) l.first l.spot
  to_reference b e = sym (ap (λ (xs : List Step). located D P xs l.first l.spot) (taken ∙ ap (λ (x : Step). x ∷ drop (k + 1) ss) e))

-- ---- variables

pub begun : (P : ℕ → ℕ) (ts : List (Option Typ)) (x n : ℕ) (t : Option Typ) → slice_get ts x ≡ Some t
    → nth_variable P ts x n ≡ at (slice_index_or (starts_from P n ts) x 0) (typed_spot t)
begun P [] x n t e = absurd (cc)
begun P (u ∷ ts) zero n t e = let z : u ≡ t = cc in ap (λ (k : Option Typ). at n (typed_spot k)) z
begun P (u ∷ ts) (suc x) n t e = begun P ts x (n + spot_parts P (typed_spot u)) t e

pub past : (P : ℕ → ℕ) (ts : List (Option Typ)) (x n : ℕ) → slice_get ts x ≡ None → nth_variable P ts x n ≡ at (n + all_parts P ts) nowhere
past P [] x n e = ap (λ k. at k nowhere) (omega arith)
past P (u ∷ ts) zero n e = absurd (cc)
past P (u ∷ ts) (suc x) n e = past P ts x (n + spot_parts P (typed_spot u)) e ∙ ap (λ k. at k nowhere) (omega arith)

pub none_of : (xs : List ℕ) (i d : ℕ) → slice_get xs i ≡ None → d ≡ slice_index_or xs i d
none_of [] i d e = refl
none_of (x ∷ xs) zero d e = absurd (cc)
none_of (x ∷ xs) (suc i) d e = none_of xs i d e

get_of_map : (ts : List (Option Ty)) (x : ℕ) (o : Option (Option Ty)) → slice_get ts x ≡ o → slice_get (map (option_map plain-Ty) ts) x ≡ option_map (option_map plain-Ty) o
get_of_map ts x o e = slice_get-map (option_map plain-Ty) ts x ∙ ap (option_map (option_map plain-Ty)) e

pub variable_begun : (P : ℕ → ℕ) (ts : List (Option Ty)) (starts : List ℕ) (x n : ℕ) (t : Option Ty) (s : Spot) → starts ≡ starts_from P 0 (map (option_map plain-Ty) ts)
    → slice_get ts x ≡ Some t → n ≡ slice_index_or starts x 0 → s ≡ typed_spot (option_map plain-Ty t)
    → at n s ≡ nth_variable P (map (option_map plain-Ty) ts) x 0
variable_begun P ts starts x n t s a b c d =
    ap (λ (k : ℕ). at k s) (c ∙ ap (λ (l : List ℕ). slice_index_or l x 0) a) ∙ ap (λ (k : Spot). at (slice_index_or (starts_from P 0 (map (option_map plain-Ty) ts)) x 0) k) d
    ∙ sym (begun P (map (option_map plain-Ty) ts) x 0 (option_map plain-Ty t) (get_of_map ts x (Some t) b))

pub variable_past : (P : ℕ → ℕ) (ts : List (Option Ty)) (total x : ℕ) (l : Located) → total ≡ all_parts P (map (option_map plain-Ty) ts) → slice_get ts x ≡ None
    → l ≡ at total nowhere → l ≡ nth_variable P (map (option_map plain-Ty) ts) x 0
variable_past P ts total x l a b c =
    c ∙ ap (λ k. at k nowhere) (a ∙ omega arith) ∙ sym (past P (map (option_map plain-Ty) ts) x 0 (get_of_map ts x None b))

-- ---- variants

pub record NextVariant (P : ℕ → ℕ) (vs : List VariantDecl) (k : ℕ) (v : VariantDecl) : Type 0 where
  pub sum : sum_of_parts P (shapes_of (variant_types (map plain-VariantDecl (drop k vs))))
      ≡ sum_of_parts P (shapes_of (map plain-Ty v.parts)) + sum_of_parts P (shapes_of (variant_types (map plain-VariantDecl (drop (k + 1) vs))))
  pub step : (left n : ℕ) → (left ≡ 0 → ⊥) → nth_variant P (map plain-VariantDecl (drop (k + 1) vs)) (left - 1) (n + sum_of_parts P (shapes_of (map plain-Ty v.parts)))
      ≡ nth_variant P (map plain-VariantDecl (drop k vs)) left n

pub next_variant : (P : ℕ → ℕ) (vs : List VariantDecl) (k : ℕ) (v d : VariantDecl) → k < length vs → v ≡ get_or vs k d → NextVariant P vs k v
next_variant P vs k v d h e = record {
  sum = ap (λ (l : List VariantDecl). sum_of_parts P (shapes_of (variant_types (map plain-VariantDecl l)))) front
      ∙ sum_append P (map plain-Ty v.parts) (variant_types (map plain-VariantDecl (drop (k + 1) vs)));
  step = λ left n x. by left n x ∙ ap (λ (l : List VariantDecl). nth_variant P (map plain-VariantDecl l) left n) (sym front);
} where
  front : drop k vs ≡ v ∷ drop (k + 1) vs
  front = drop_more vs k d h ∙ ap (λ (x : VariantDecl). x ∷ drop (k + 1) vs) (sym e)

  by : (left n : ℕ) → (left ≡ 0 → ⊥) → nth_variant P (map plain-VariantDecl (drop (k + 1) vs)) (left - 1) (n + sum_of_parts P (shapes_of (map plain-Ty v.parts)))
      ≡ nth_variant P (map plain-VariantDecl (v ∷ drop (k + 1) vs)) left n
  by zero n x = absurd (x refl)
  by (suc left) n x = let e : suc left - 1 ≡ left = omega arith in
      ap (λ m. nth_variant P (map plain-VariantDecl (drop (k + 1) vs)) m (n + sum_of_parts P (shapes_of (map plain-Ty v.parts)))) e

module _ (P : ℕ → ℕ) (vs : List VariantDecl) (k : ℕ) (v d : VariantDecl) (within : k < length vs) (is : v ≡ get_or vs k d) (slice : List Ty) (w : ℕ) (parts_are : slice ≡ v.parts)
    (told : w ≡ capped (sum_of_parts P (shapes_of (map plain-Ty slice)))) (left n number first : ℕ)
    (fits : first + sum_of_parts P (shapes_of (variant_types (map plain-VariantDecl vs))) ≤ 18446744073709551615)
    (room : n + sum_of_parts P (shapes_of (variant_types (map plain-VariantDecl (drop k vs)))) ≡ first + sum_of_parts P (shapes_of (variant_types (map plain-VariantDecl vs)))) where
  exact : w ≡ sum_of_parts P (shapes_of (map plain-Ty v.parts))
  exact = let e = ap (λ (l : List Ty). sum_of_parts P (shapes_of (map plain-Ty l))) parts_are in omega (arith, told, e, fits, room, (next_variant P vs k v d within is).sum)

  pub variant_fits : n + w ≤ 18446744073709551615
  variant_fits = omega (arith, exact, fits, room, (next_variant P vs k v d within is).sum)

  pub variant_room : n + w + sum_of_parts P (shapes_of (variant_types (map plain-VariantDecl (drop (k + 1) vs)))) ≡ first + sum_of_parts P (shapes_of (variant_types (map plain-VariantDecl vs)))
  variant_room = omega (arith, exact, room, (next_variant P vs k v d within is).sum)

  pub variant_same : (left ≡ 0 → ⊥) → nth_variant P (map plain-VariantDecl (drop k vs)) left n ≡ nth_variant P (map plain-VariantDecl vs) number first
      → nth_variant P (map plain-VariantDecl (drop (k + 1) vs)) (left - 1) (n + w) ≡ nth_variant P (map plain-VariantDecl vs) number first
  variant_same x e = ap (λ m. nth_variant P (map plain-VariantDecl (drop (k + 1) vs)) (left - 1) (n + m)) exact ∙ (next_variant P vs k v d within is).step left n x ∙ e

-- ---- places

pub place_ends : (D : Declarations) (P : ℕ → ℕ) (sized : Sized D P) (ts : List (Option Typ)) (x total : ℕ) (ss : List Step) (l m : Located) → total ≡ all_parts P ts
    → l ≡ nth_variable P ts x 0 → m ≡ located D P ss l.first l.spot → Ends P m total
place_ends D P sized ts x total ss l m a b c =
    let v = subst (λ (k : Located). Ends P k (0 + all_parts P ts)) (sym b) (variable_within P ts x 0) in
    let w = subst (λ (k : Located). Ends P k (l.first + spot_parts P l.spot)) (sym c) (steps_within D P sized ss l.first l.spot) in
    omega (arith, v, w, a)

pub variable_ends : (P : ℕ → ℕ) (ts : List (Option Typ)) (x total : ℕ) (l : Located) → total ≡ all_parts P ts → l ≡ nth_variable P ts x 0 → Ends P l total
variable_ends P ts x total l a b = let v = subst (λ (k : Located). Ends P k (0 + all_parts P ts)) (sym b) (variable_within P ts x 0) in omega (arith, v, a)
