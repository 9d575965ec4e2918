-- How deep an extraction is: its text is one, and has one number of levels; so one number is told, and only where a limit is passed.
use Rattle.std.proofs.Common.{◌≡◌, inl, inr, ℕ, ◌<◌, ◌≤◌, List, [], Option, Some, None, sym, subst, ◌∙◌, arith}
use Rattle.std.specs.Prelude.{option_map}
use Rattle.std.proofs.Common.{unwrap_or}
use Rattle.rx_core.specs.declared.types.Span.{Span}
use Rattle.rx_tree.specs.Lists.{nth}
use Rattle.rx_tree.specs.Plain as plain
use Rattle.rx_tree.specs.Plain.{Function, ItemTree, ProgramTree}
use Rattle.rx_lex.specs.Tok.{Tok}
use Rattle.rx_hoist_extraction.specs.Run.{Run}
use Rattle.rx_hoist_extraction.specs.Plan.{Plan}
use Rattle.rx_hoist_extraction.specs.Limits.{first_past, made_levels}
use Rattle.rx_hoist_made.specs.Counts.{capped}
use Rattle.rx_parse.specs.Answer.{HasLevels}
use Rattle.rx_parse.proofs.Whole.{one_level}
use Rattle.rx_splice_laws.specs.SplicedText.{spliced_text}
use Rattle.rx_engine_extraction.specs.Rendering.{CanBeMade}
use Rattle.rx_engine_extraction.specs.Levels.{IsSplicedIn, IsSpliced, IsDeep, IsLow, HasFewLevels, HasManyLevels, IsCounted, IsDeepIf, IsTooDeepIf}
use Rattle.rx_engine_extraction.proofs.Calling.{parts_told, parts_none}

some_as : (n m : ℕ) → ◌≡◌ {A = Option ℕ} (Some n) (Some m) → n ≡ m
some_as n m e = cc

none_as : (n : ℕ) → ◌≡◌ {A = Option ℕ} None (Some n) → ⊥
none_as n e = cc

module _ (bytes : List ℕ) (all : List Tok) (P : ProgramTree) (r : Run) (pl : Plan) where
  one_at : (t u : List ℕ) (o : Option ItemTree) → IsSplicedIn bytes all P r pl t o → IsSplicedIn bytes all P r pl u o → t ≡ u
  one_at t u None h k = absurd h
  one_at t u (Some (plain.function_item s f)) h k = h.1 ∙ sym k.1
  one_at t u (Some (plain.rt_item s x)) h k = absurd h
  one_at t u (Some (plain.struct_item s x)) h k = absurd h
  one_at t u (Some (plain.enum_item s x)) h k = absurd h

  one_depth : (n m : ℕ) → IsDeep bytes all P r pl n → IsDeep bytes all P r pl m → n ≡ m
  one_depth n m x y =
      one_level y.text n m (subst (λ (t : List ℕ). HasLevels t n) (one_at x.text y.text (nth P r.item) x.spliced y.spliced) x.levels) y.levels

  -- ---- one number is told, and none where no limit is passed

  pub one_number : (n m : ℕ) → HasManyLevels bytes all P r pl n → HasManyLevels bytes all P r pl m → n ≡ m
  one_number n m (inl x) (inl y) = one_depth n m x.0 y.0
  one_number n m (inl x) (inr y) = let z = y.0 n x.0 in absurd (omega (arith, z, x.1))
  one_number n m (inr x) (inl y) = let z = x.0 m y.0 in absurd (omega (arith, z, y.1))
  one_number n m (inr x) (inr y) = some_as n m (sym x.1 ∙ y.1)

  pub many_or_few : (n : ℕ) → HasManyLevels bytes all P r pl n → HasFewLevels bytes all P r pl → ⊥
  many_or_few n (inl x) h = let z = h.text n x.0 in omega (arith, z, x.1)
  many_or_few n (inr x) h = none_as n (sym h.types ∙ x.1)

  -- ---- by what is found

  module _ (s : Span) (f : Function) (there : nth P r.item ≡ Some (plain.function_item s f)) where
    pub spliced_there : (t : List ℕ) → CanBeMade bytes all P r pl f → t ≡ spliced_text bytes all P r pl [] f → IsSpliced bytes all P r pl t
    spliced_there t m e = subst (λ (o : Option ItemTree). IsSplicedIn bytes all P r pl t o) (sym there) (m, e)

    out : (t : List ℕ) → IsSpliced bytes all P r pl t → CanBeMade bytes all P r pl f × (t ≡ spliced_text bytes all P r pl [] f)
    out t h = subst (λ (o : Option ItemTree). IsSplicedIn bytes all P r pl t o) there h

    pub none_deep : (CanBeMade bytes all P r pl f → ⊥) → (n : ℕ) → IsDeep bytes all P r pl n → ⊥
    none_deep unmade n x = let k = out x.text x.spliced in unmade k.0

    pub deep_if : (t : List ℕ) → CanBeMade bytes all P r pl f → t ≡ spliced_text bytes all P r pl [] f → (o : Option ℕ) → IsCounted t o → IsDeepIf bytes all P r pl o
    deep_if t m e (Some n) h = record { text = t; spliced = spliced_there t m e; levels = h.0; counted = h.1 }
    deep_if t m e None h = λ n x. h n (subst (λ (u : List ℕ). HasLevels u n) (one_at x.text t (nth P r.item) x.spliced (spliced_there t m e)) x.levels) x.counted

  pub found_too_deep : (o : Option ℕ) → IsDeepIf bytes all P r pl o → (k : ℕ) → k ≡ unwrap_or o 0 → 128 < k → IsTooDeepIf bytes all P r pl (Some k)
  found_too_deep None x k e h = absurd (omega (arith, e, h))
  found_too_deep (Some n) x k e h = let few = x.counted in (n, omega (arith, e, few), inl (x, omega (arith, e, h)))

  pub found_low : (o : Option ℕ) → IsDeepIf bytes all P r pl o → (k : ℕ) → k ≡ unwrap_or o 0 → k ≤ 128 → IsLow bytes all P r pl
  found_low None x k e h = λ m y. absurd (x m y)
  found_low (Some n) x k e h = λ m y. let z = one_depth n m x y in omega (arith, z, e, h)

  pub types_too_deep : IsLow bytes all P r pl → (o : Option ℕ) → o ≡ option_map capped (first_past 128 (made_levels pl)) → IsTooDeepIf bytes all P r pl o
  types_too_deep low (Some k) e = let x = parts_told (first_past 128 (made_levels pl)) k e in (x.0, x.1, inr (low, x.2))
  types_too_deep low None e = record { text = low; types = parts_none (first_past 128 (made_levels pl)) e }
