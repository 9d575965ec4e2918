-- Numbers of lifetimes of which several became one: of a declared one, the number of what it became; of one that is left out, as many
-- behind the declared ones as before.
use Rattle.std.proofs.Common.{◌≡◌, ℕ, suc, ◌+◌, ◌-◌, ◌<◌, ◌≤◌, ◌^◌, Bool, true, false, List, [], ◌∷◌, length, map, get_or, Option, Some, None, refl, sym, ap, subst, ◌∙◌, arith, if◌then◌else◌, lt-ltb, le-ltb}
use Rattle.std.specs.Str.{bytes_eq}
use Rattle.rx_core.specs.declared.types.Span.{Span}
use Rattle.rx_tree.specs.declared.tree.BoundLifetime.{BoundLifetime}
use Rattle.rx_tree.specs.Plain.{Function}
use Rattle.rx_resolve_names.specs.Scopes.{DeclaredNames}
use Rattle.rx_resolve_names.specs.Meant.{number, number_in}
use Rattle.rx_compact_lifetimes.specs.declared.rewriting.Rewriting.{Rewriting}
use Rattle.rx_compact_lifetimes.specs.Rewritten.{becomes}
use Rattle.rx_compact_lifetimes.specs.Merged.{first_equal, mergings, mergings_of, merged}
use Rattle.rx_compact_lifetimes.specs.Steps.{names}
use Rattle.rx_compact_laws.specs.Resolved.{declared}
use Rattle.rx_compact_types.specs.MergedNumbers as numbers
use Rattle.rx_compact_types.specs.MergedNumbers.{name_or}
use Rattle.rx_compact_types.specs.Positions.{Position, as_parameter, as_result, or_zero, number_of, NoneLeftOut, AllMeant}
use Rattle.rx_compact_types.proofs.Turning.{turn, Fitting, FittingAt}
use Rattle.rx_compact_types.proofs.Places.{small, place}

-- each lifetime becomes another
pub some_becomes : (o : ℕ → ℕ → Bool) (all : List BoundLifetime) (l : ℕ) (ls : List BoundLifetime) (x : List ℕ) → (y : List ℕ) × (becomes (mergings o all l ls) x ≡ Some y)
some_becomes o all l [] x = (x, refl)
some_becomes o all l (z ∷ zs) x = by (bytes_eq x z.name.name) (some_becomes o all (suc l) zs x)
  where
    by : (b : Bool) → (y : List ℕ) × (becomes (mergings o all (suc l) zs) x ≡ Some y)
        → (y : List ℕ) × ((if b then Some (first_equal o l 0 all z.name.name) else becomes (mergings o all (suc l) zs) x) ≡ Some y)
    by true r = (first_equal o l 0 all z.name.name, refl)
    by false r = r

module _ (o : ℕ → ℕ → Bool) (s : Span) (f : Function) (few : length f.lifetimes < 2 ^ 32) where
  abbrev rs : List Rewriting
  rs = mergings_of o f

  abbrev L : DeclaredNames
  L = declared s f

  abbrev M : DeclaredNames
  M = declared s (merged o f)

  abbrev n0 : ℕ
  n0 = number (length f.lifetimes)

  abbrev m0 : ℕ
  m0 = number (length (merged o f).lifetimes)

  abbrev pub merged_number : ℕ → ℕ
  merged_number l = numbers.merged_number o s f l

  pub of_declared : (x : List ℕ) → (n : ℕ) × (number_in L x ≡ Some n) → (y : List ℕ) → becomes rs x ≡ Some y → number_of M y ≡ merged_number (number_of L x)
  of_declared x m y b =
      let at = place s f few x m.0 m.1 in
      let less : m.0 < n0 = subst (λ n. m.0 < n) (sym (small (length f.lifetimes) few)) at.0 in
      let it : number_of L x ≡ m.0 = ap or_zero m.1 in
      sym (ap merged_number it
      ∙ (ap (λ c. if c then number_of M (name_or (get_or (names f.lifetimes) m.0 []) (becomes rs (get_or (names f.lifetimes) m.0 []))) else (m.0 - n0) + m0) (lt-ltb m.0 n0 less)
      ∙ (ap (λ z. number_of M (name_or z (becomes rs z))) at.1 ∙ ap (λ r. number_of M (name_or x r)) b)))

  pub of_left_out : (k : ℕ) → n0 ≤ k → merged_number k ≡ (k - n0) + m0
  of_left_out k h = ap (λ c. if c then number_of M (name_or (get_or (names f.lifetimes) k []) (becomes rs (get_or (names f.lifetimes) k []))) else (k - n0) + m0) (le-ltb k n0 h)

  pub first_left_out : m0 ≡ merged_number n0
  first_left_out = let z : m0 ≡ (n0 - n0) + m0 = omega arith in z ∙ sym (of_left_out n0 (omega arith))

  next_left_out : (k : ℕ) → n0 ≤ k → suc (merged_number k) ≡ merged_number (suc k)
  next_left_out k h = ap suc (of_left_out k h) ∙ ((let z : suc ((k - n0) + m0) ≡ (suc k - n0) + m0 = omega (arith, h) in z) ∙ sym (of_left_out (suc k) (omega (arith, h))))

  -- in the parameters
  pub parameters_fit : (k j : ℕ) (xs : List Position) → AllMeant L xs → n0 ≤ k → j ≡ merged_number k → Fitting rs merged_number L M as_parameter as_parameter k j xs
  parameters_fit k j [] a h e = tt
  parameters_fit k j (None ∷ xs) a h e = (e, parameters_fit (suc k) (suc j) xs a (omega (arith, h)) (ap suc e ∙ next_left_out k h))
  parameters_fit k j (Some x ∷ xs) a h e =
      let r = some_becomes o f.lifetimes 0 f.lifetimes x in
      subst (λ y. FittingAt rs merged_number L M as_parameter as_parameter (number_of L x) k j y xs) (sym r.1) (of_declared x a.0 r.0 r.1, parameters_fit k j xs a.1 h e)

  -- in the result, where it leaves out a lifetime
  pub answer_fits : (l k j : ℕ) (xs : List Position) → AllMeant L xs → Fitting rs merged_number L M (as_result (Some l)) (as_result (Some (merged_number l))) k j xs
  answer_fits l k j [] a = tt
  answer_fits l k j (None ∷ xs) a = (refl, answer_fits l k j xs a)
  answer_fits l k j (Some x ∷ xs) a =
      let r = some_becomes o f.lifetimes 0 f.lifetimes x in
      subst (λ y. FittingAt rs merged_number L M (as_result (Some l)) (as_result (Some (merged_number l))) (number_of L x) k j y xs) (sym r.1) (of_declared x a.0 r.0 r.1, answer_fits l k j xs a.1)

  -- and where it leaves out none
  pub none_left_out : (e : Option ℕ) (k j : ℕ) (xs : List Position) → AllMeant L xs → NoneLeftOut xs
      → NoneLeftOut (map (turn rs) xs) × Fitting rs merged_number L M (as_result None) (as_result e) k j xs
  none_left_out e k j [] a h = (tt, tt)
  none_left_out e k j (None ∷ xs) a h = absurd h
  none_left_out e k j (Some x ∷ xs) a h =
      let r = some_becomes o f.lifetimes 0 f.lifetimes x in
      let q = none_left_out e k j xs a.1 h in (
        subst (λ y. NoneLeftOut (y ∷ map (turn rs) xs)) (sym r.1) q.0,
        subst (λ y. FittingAt rs merged_number L M (as_result None) (as_result e) (number_of L x) k j y xs) (sym r.1) (of_declared x a.0 r.0 r.1, q.1),
      )
