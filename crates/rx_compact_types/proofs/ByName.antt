-- A declared lifetime of a function has in the short signature the number of what it becomes, where that isn't left out.
use Rattle.std.proofs.Common.{◌≡◌, ℕ, ◌<◌, ◌≤◌, ◌^◌, Bool, true, false, not, List, [], ◌∷◌, length, Some, inl, inr, refl, sym, ap, ◌∙◌}
use Rattle.std.specs.Prelude.{filter, if◌then◌else◌}
use Rattle.std.specs.Str.{bytes_eq}
use Rattle.std.proofs.lemmas.Bool.{or_cases, or_left, or_right, false≢true}
use Rattle.rx_core.specs.declared.types.Span.{Span}
use Rattle.rx_tree.specs.declared.tree.BoundLifetime.{BoundLifetime}
use Rattle.rx_tree.specs.Plain.{Function, ProgramTree}
use Rattle.rx_resolve_names.specs.Meant.{number_in}
use Rattle.rx_hoist_extraction.specs.Names.{is_among}
use Rattle.rx_typed.specs.declared.declarations.Decl.{Decl}
use Rattle.rx_typeck_typed.specs.Bindings.{lifetimes}
use Rattle.rx_compact_lifetimes.specs.Rewritten.{becomes}
use Rattle.rx_compact_lifetimes.specs.Merged.{merged, mergings_of}
use Rattle.rx_compact_lifetimes.specs.Elided.{elided}
use Rattle.rx_compact_lifetimes.specs.Steps.{names}
use Rattle.rx_compact_laws.specs.Resolved.{declared}
use Rattle.rx_compact_laws.proofs.Declaring.{same_name, declared_means, meant_declared}
use Rattle.rx_compact_types.specs.Positions.{or_zero, parameter_positions, AllMeant}
use Rattle.rx_compact_types.proofs.Fewer.{few_merged}
use Rattle.rx_compact_types.proofs.MergedNumbers.{merged_number, of_declared}
use Rattle.rx_compact_types.proofs.ElidedNumbers.{G, elided_number, kept_number}

-- a function that declares this, by these numbers
pub record ByName (o : ℕ → ℕ → Bool) (single : Bool) (s : Span) (f : Function) (F : ℕ → ℕ) (d : Decl) : Type 0 where
  pub many : length f.lifetimes ≤ lifetimes (Some d)
  pub same : (x y : List ℕ) (n m : ℕ) → number_in (declared s f) x ≡ Some n → becomes (mergings_of o f) x ≡ Some y → number_in (declared s (elided single (merged o f))) y ≡ Some m → F n ≡ m

-- what is kept of a list stays
kept_stays : (go : List ℕ → Bool) (ls : List BoundLifetime) (x : List ℕ) → is_among x (names (filter (λ (l : BoundLifetime). not (go l.name.name)) ls)) ≡ true
    → (go x ≡ false) × (is_among x (names ls) ≡ true)
kept_stays go [] x e = absurd (false≢true e)
kept_stays go (l ∷ ls) x e = by (go l.name.name) refl e (λ h. let r = kept_stays go ls x h in (r.0, or_right (bytes_eq x l.name.name) (is_among x (names ls)) r.1))
  where
    rest : List BoundLifetime
    rest = filter (λ (k : BoundLifetime). not (go k.name.name)) ls

    by : (b : Bool) → go l.name.name ≡ b → is_among x (names (if not b then l ∷ rest else rest)) ≡ true
        → (is_among x (names rest) ≡ true → (go x ≡ false) × (is_among x (names (l ∷ ls)) ≡ true)) → (go x ≡ false) × (is_among x (names (l ∷ ls)) ≡ true)
    by true h g further = further g
    by false h g further = elim (or_cases (bytes_eq x l.name.name) (is_among x (names rest)) g) [
      | inl k ↦ (ap go (same_name x l.name.name k) ∙ h, or_left (bytes_eq x l.name.name) (is_among x (names ls)) k)
      | inr k ↦ further k
    ]

module _ (o : ℕ → ℕ → Bool) (single : Bool) (s : Span) (f : Function) (few : length f.lifetimes < 2 ^ 32) (q : ProgramTree) where
  abbrev h : Function
  h = merged o f

  abbrev few' : length h.lifetimes < 2 ^ 32
  few' = few_merged o f few

  pub number_by_name : AllMeant (declared s h) (parameter_positions q h.params) → (x y : List ℕ) (n m : ℕ) → number_in (declared s f) x ≡ Some n → becomes (mergings_of o f) x ≡ Some y
      → number_in (declared s (elided single h)) y ≡ Some m → elided_number single s h few' (parameter_positions q h.params) (merged_number o s f few n) ≡ m
  number_by_name all x y n m a b c =
      let F = elided_number single s h few' (parameter_positions q h.params) in
      let k = kept_stays (G single s h few') h.lifetimes y (meant_declared s (elided single h) y m c) in
      let j = declared_means s h y k.1 in
      ap (λ l. F (merged_number o s f few l)) (sym (ap or_zero a))
      ∙ (ap F (sym (of_declared o s f few x (n, a) y b)) ∙ (sym (kept_number single s h few' (parameter_positions q h.params) all y j k.0) ∙ ap or_zero c))
