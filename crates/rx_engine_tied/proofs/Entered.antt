-- The scope where a run begins names just the variables that are in scope there in the typed tree.
use Rattle.std.proofs.Common.{◌≡◌, ℕ, Bool, true, false, if◌then◌else◌, List, [], ◌∷◌, ◌++◌, map, Option, Some, slice_get, refl, sym, ap, ◌∙◌, subst, bytes_eq}
use Rattle.std.proofs.lemmas.Slice.Eq.{bytes_eq-Decides}
use Rattle.rx_resolve_names.specs.Scopes.{Variable, variable_named, Variables}
use Rattle.rx_lower_walks.specs.Walks.{Among, here, there}
use Rattle.rx_hoist_extraction.specs.Names.{is_among, Names}
use Rattle.rx_hoist_meant.specs.Stands.{ScopeMeans}
use Rattle.rx_hoist_meant.proofs.Patterns.{among_left, among_right, among_split, none_among}
use Rattle.rx_engine_names.proofs.BehindStatements.{Covers}
use Rattle.rx_engine_tied.proofs.Since.{Since}

-- a scope that names just these variables
pub record NamesJust (ns : Names) (base : List ℕ) (sc : Variables) : Type 0 where
  pub there_is : (k : ℕ) (x : List ℕ) → Among k base → slice_get ns k ≡ Some x → (n : ℕ) × (variable_named sc x ≡ Some n)
  pub only : (x : List ℕ) (n : ℕ) → variable_named sc x ≡ Some n → (k : ℕ) × Among k base × (slice_get ns k ≡ Some x)

one_word : (x y : List ℕ) → ◌≡◌ {A = Option (List ℕ)} (Some x) (Some y) → x ≡ y
one_word x y e = cc

one_number : (x y : ℕ) → ◌≡◌ {A = Option ℕ} (Some x) (Some y) → x ≡ y
one_number x y e = cc

module _ (ns : Names) where
  abbrev numbers : Variables → List ℕ
  numbers sc = map (λ (v : Variable). v.number) sc

  abbrev Worded : Variables → Type 0
  Worded sc = map (λ (k : ℕ). slice_get ns k) (numbers sc) ≡ map (λ (v : Variable). Some v.name) sc

  named_in : (sc : Variables) → Worded sc → (k : ℕ) (x : List ℕ) → Among k (numbers sc) → slice_get ns k ≡ Some x → (n : ℕ) × (variable_named sc x ≡ Some n)
  named_in [] w k x i e = absurd (none_among i)
  named_in (v ∷ sc) w k x i e =
      let first : slice_get ns v.number ≡ Some v.name = cc in
      let rest : Worded sc = cc in
      by (bytes_eq x v.name) refl (at i first) (named_in sc rest k x)
    where
      at : {m : ℕ} → Among k (m ∷ numbers sc) → slice_get ns m ≡ Some v.name → bytes_eq x v.name ≡ false → Among k (numbers sc)
      at here first f = let s : bytes_eq x v.name ≡ true = (bytes_eq-Decides x v.name).1 (one_word x v.name (sym e ∙ first)) in absurd (cc)
      at (there j) first f = j

      by : (b : Bool) → bytes_eq x v.name ≡ b → (bytes_eq x v.name ≡ false → Among k (numbers sc)) → (Among k (numbers sc) → slice_get ns k ≡ Some x → (n : ℕ) × (variable_named sc x ≡ Some n))
          → (n : ℕ) × ((if b then Some v.number else variable_named sc x) ≡ Some n)
      by true f later on = (v.number, refl)
      by false f later on = on (later f) e

  only_in : (sc : Variables) → Worded sc → (x : List ℕ) (n : ℕ) → variable_named sc x ≡ Some n → Among n (numbers sc) × (slice_get ns n ≡ Some x)
  only_in [] w x n e = absurd (cc)
  only_in (v ∷ sc) w x n e =
      let first : slice_get ns v.number ≡ Some v.name = cc in
      let rest : Worded sc = cc in
      by (bytes_eq x v.name) refl e first (only_in sc rest x n)
    where
      by : (b : Bool) → bytes_eq x v.name ≡ b → (if b then Some v.number else variable_named sc x) ≡ Some n → slice_get ns v.number ≡ Some v.name → (variable_named sc x ≡ Some n → Among n (numbers sc) × (slice_get ns n ≡ Some x))
          → Among n (v.number ∷ numbers sc) × (slice_get ns n ≡ Some x)
      by true f e first on =
          let s = one_number v.number n e in
          let w = (bytes_eq-Decides x v.name).0 f in
          (subst (λ (z : ℕ). Among z (v.number ∷ numbers sc)) s here, ap (slice_get ns) (sym s) ∙ first ∙ ap (λ (z : List ℕ). Some z) (sym w))
      by false f e first on = let r = on e in (there r.0, r.1)

  -- behind statements that bind these
  pub names_just : {vs base : List ℕ} {own : Names} {sc0 sc : Variables} → ScopeMeans ns vs sc0 → Since ns vs base own → Covers own sc0 sc → NamesJust ns base sc
  names_just {vs} {base} {own} {sc0} {sc} m s c = record {
    there_is = λ k x i e. among_split k s.front vs ((n : ℕ) × (variable_named sc x ≡ Some n)) (subst (λ (l : List ℕ). Among k l) s.whole i) (λ j. bound k x j e) (λ j. before k x j e (is_among x own) refl);
    only = λ x n e. which x n e (is_among x own) refl;
  }
    where
      worded : Worded sc0
      worded = ap (λ (l : List ℕ). map (λ (k : ℕ). slice_get ns k) l) (sym m.numbers) ∙ m.words

      bound : (k : ℕ) (x : List ℕ) → Among k s.front → slice_get ns k ≡ Some x → (n : ℕ) × (variable_named sc x ≡ Some n)
      bound k x j e = let r = s.named k j in (c x).0 (subst (λ (z : List ℕ). is_among z own ≡ true) (one_word r.0 x (sym r.1 ∙ e)) r.2)

      before : (k : ℕ) (x : List ℕ) → Among k vs → slice_get ns k ≡ Some x → (b : Bool) → is_among x own ≡ b → (n : ℕ) × (variable_named sc x ≡ Some n)
      before k x j e true h = (c x).0 h
      before k x j e false h = let r = named_in sc0 worded k x (subst (λ (l : List ℕ). Among k l) m.numbers j) e in (r.0, (c x).1 h ∙ r.1)

      which : (x : List ℕ) (n : ℕ) → variable_named sc x ≡ Some n → (b : Bool) → is_among x own ≡ b → (k : ℕ) × Among k base × (slice_get ns k ≡ Some x)
      which x n e true h = let r = s.words x h in (r.0, subst (λ (l : List ℕ). Among r.0 l) (sym s.whole) (among_left s.front vs r.1), r.2)
      which x n e false h =
          let r = only_in sc0 worded x n (sym ((c x).1 h) ∙ e) in
          (n, subst (λ (l : List ℕ). Among n l) (sym s.whole) (among_right s.front vs (subst (λ (l : List ℕ). Among n l) (sym m.numbers) r.0)), r.1)
