-- Where some lifetimes are left out, a signature has no more of them: each that goes stands at one place of the parameters.
use Rattle.std.proofs.Common.{◌≡◌, ◌⊎◌, inl, inr, ℕ, suc, ◌+◌, ◌<◌, ◌≤◌, ◌^◌, Bool, true, false, not, ◌&&◌, ◌||◌, List, [], ◌∷◌, length, map, Option, Some, None, refl, sym, ap, subst, ◌∙◌, arith, if◌then◌else◌, filter}
use Rattle.std.specs.Str.{bytes_eq}
use Rattle.std.proofs.lemmas.Bool.{false≢true}
use Rattle.rx_core.specs.declared.types.Span.{Span}
use Rattle.rx_tree.specs.declared.tree.BoundLifetime.{BoundLifetime}
use Rattle.rx_tree.specs.Plain.{Function, ProgramTree}
use Rattle.rx_resolve_names.specs.Scopes.{DeclaredNames}
use Rattle.rx_resolve_names.specs.Meant.{number}
use Rattle.rx_hoist_extraction.specs.Names.{is_among}
use Rattle.rx_compact_lifetimes.specs.Elided.{in_body, elided, elisions}
use Rattle.rx_compact_lifetimes.specs.Steps.{names}
use Rattle.rx_compact_laws.specs.Resolved.{declared}
use Rattle.rx_compact_laws.proofs.Declaring.{same_name, meant_declared}
use Rattle.rx_compact_types.specs.Positions.{Position, as_parameter, parameter_positions, number_of, ends, AllMeant}
use Rattle.rx_compact_types.proofs.Turning.{turn}
use Rattle.rx_compact_types.proofs.Places.{small}
use Rattle.rx_compact_types.proofs.Counts.{count, count_more}
use Rattle.rx_compact_types.proofs.ElidedNumbers.{G, pair_if, pairs, goes_once}
use Rattle.rx_compact_types.proofs.ElidedApart.{ends_are}

-- how many are left out
abbrev nones : List Position → ℕ
nones [] = 0
nones (None ∷ xs) = suc (nones xs)
nones (Some x ∷ xs) = nones xs

ends_counted : (k : ℕ) (xs : List Position) → ends as_parameter k xs ≡ k + nones xs
ends_counted k [] = omega arith
ends_counted k (None ∷ xs) = let n : ℕ = nones xs in let z : suc k + n ≡ k + suc n = omega arith in ends_counted (suc k) xs ∙ z
ends_counted k (Some x ∷ xs) = ends_counted k xs

module _ (goes : List ℕ → Bool) where
  abbrev suc_if : Bool → ℕ → ℕ
  suc_if b n = if b then suc n else n

  -- at how many places one of the list stands that goes
  abbrev gone : List BoundLifetime → List Position → ℕ
  gone ls [] = 0
  gone ls (None ∷ xs) = gone ls xs
  gone ls (Some y ∷ xs) = suc_if (goes y && is_among y (names ls)) (gone ls xs)

  abbrev gone_one : List ℕ → List Position → ℕ
  gone_one x xs = if goes x then count x xs else 0

  none_gone : (xs : List Position) → gone [] xs ≡ 0
  none_gone [] = refl
  none_gone (None ∷ xs) = none_gone xs
  none_gone (Some y ∷ xs) = by (goes y) (none_gone xs)
    where
      by : (b : Bool) → gone [] xs ≡ 0 → suc_if (b && false) (gone [] xs) ≡ 0
      by true e = e
      by false e = e

  one_more : (x : List ℕ) (y : Position) (xs : List Position) → gone_one x xs ≤ gone_one x (y ∷ xs)
  one_more x y xs = by (goes x) (count_more x y xs)
    where
      by : (b : Bool) → count x xs ≤ count x (y ∷ xs) → (if b then count x xs else 0) ≤ (if b then count x (y ∷ xs) else 0)
      by true h = h
      by false h = omega arith

  one_here : (x y : List ℕ) (xs : List Position) → goes x ≡ true → bytes_eq x y ≡ true → gone_one x (Some y ∷ xs) ≡ suc (gone_one x xs)
  one_here x y xs g e = ap (λ b. if b then count x (Some y ∷ xs) else 0) g ∙ (ap (λ b. if b then suc (count x xs) else count x xs) e ∙ sym (ap (λ b. suc (if b then count x xs else 0)) g))

  first_gone : (z : BoundLifetime) (ls : List BoundLifetime) (xs : List Position) → gone (z ∷ ls) xs ≤ gone_one z.name.name xs + gone ls xs
  first_gone z ls [] = omega arith
  first_gone z ls (None ∷ xs) = let h = first_gone z ls xs in let m = one_more z.name.name None xs in omega (arith, h, m)
  first_gone z ls (Some y ∷ xs) = by (goes y) refl (bytes_eq y z.name.name) refl (is_among y (names ls)) (first_gone z ls xs) (one_more z.name.name (Some y) xs)
    where
      n : ℕ
      n = gone (z ∷ ls) xs

      k : ℕ
      k = gone ls xs

      m : ℕ
      m = gone_one z.name.name (Some y ∷ xs)

      by : (b : Bool) → goes y ≡ b → (c : Bool) → bytes_eq y z.name.name ≡ c → (d : Bool) → n ≤ gone_one z.name.name xs + k → gone_one z.name.name xs ≤ m
          → suc_if (b && (c || d)) n ≤ m + suc_if (b && d) k
      by false g c e d h l = omega (arith, h, l)
      by true g true e d h l = either d (one_here z.name.name y xs (ap goes (sym (same_name y z.name.name e)) ∙ g)
          (ap (λ w. bytes_eq w y) (sym (same_name y z.name.name e)) ∙ (ap (bytes_eq y) (same_name y z.name.name e) ∙ e)))
        where
          either : (d : Bool) → m ≡ suc (gone_one z.name.name xs) → suc n ≤ m + suc_if d k
          either true q = omega (arith, h, q)
          either false q = omega (arith, h, q)
      by true g false e true h l = omega (arith, h, l)
      by true g false e false h l = omega (arith, h, l)

  all_gone : (ls : List BoundLifetime) (xs : List Position) → ((x : List ℕ) → goes x ≡ true → count x xs ≤ 1)
      → length (filter (λ (l : BoundLifetime). not (goes l.name.name)) ls) + gone ls xs ≤ length ls
  all_gone [] xs once = let e = none_gone xs in omega (arith, e)
  all_gone (z ∷ ls) xs once = by (goes z.name.name) refl (all_gone ls xs once) (first_gone z ls xs)
    where
      rest : List BoundLifetime
      rest = filter (λ (l : BoundLifetime). not (goes l.name.name)) ls

      n : ℕ
      n = gone (z ∷ ls) xs

      k : ℕ
      k = gone ls xs

      by : (b : Bool) → goes z.name.name ≡ b → length rest + k ≤ length ls → n ≤ gone_one z.name.name xs + k → length (if not b then z ∷ rest else rest) + n ≤ suc (length ls)
      by true g h f =
          let q : gone_one z.name.name xs ≡ count z.name.name xs = ap (λ b. if b then count z.name.name xs else 0) g in
          let o = once z.name.name g in
          omega (arith, h, f, q, o)
      by false g h f = let q : gone_one z.name.name xs ≡ 0 = ap (λ b. if b then count z.name.name xs else 0) g in omega (arith, h, f, q)

module _ (single : Bool) (s : Span) (f : Function) (few : length f.lifetimes < 2 ^ 32) where
  abbrev L : DeclaredNames
  L = declared s f

  abbrev goes : List ℕ → Bool
  goes x = G single s f few x

  lines_are : (k j : ℕ) (xs : List Position) → AllMeant L xs → length (pairs single s f few k j xs) ≡ nones xs + gone goes f.lifetimes xs
  lines_are k j [] a = refl
  lines_are k j (None ∷ xs) a =
      let n : ℕ = nones xs in
      let g : ℕ = gone goes f.lifetimes xs in
      let z : suc (n + g) ≡ suc n + g = omega arith in
      ap suc (lines_are (suc k) (suc j) xs a) ∙ z
  lines_are k j (Some y ∷ xs) a = by (goes y) (λ i. lines_are k i xs a.1)
      ∙ ap (λ b. nones xs + (if goes y && b then suc (gone goes f.lifetimes xs) else gone goes f.lifetimes xs)) (sym (meant_declared s f y a.0.0 a.0.1))
    where
      n : ℕ
      n = nones xs

      g : ℕ
      g = gone goes f.lifetimes xs

      by : (b : Bool) → ((i : ℕ) → length (pairs single s f few k i xs) ≡ n + g)
          → length (pair_if single s f few b (number_of L y) j (λ i. pairs single s f few k i xs)) ≡ n + (if b && true then suc g else g)
      by true again = let e = again (suc j) in omega (arith, e)
      by false again = again j

  pub no_more_numbers : (p : ProgramTree) → length (elided single f).lifetimes < 2 ^ 32 → AllMeant L (parameter_positions p f.params)
      → ends as_parameter (number (length (elided single f).lifetimes)) (map (turn (elisions single (in_body f.body) f)) (parameter_positions p f.params))
      ≤ ends as_parameter (number (length f.lifetimes)) (parameter_positions p f.params)
  no_more_numbers p fewer a =
      let xs = parameter_positions p f.params in
      let n0 = number (length f.lifetimes) in
      let m0 = number (length (elided single f).lifetimes) in
      let new = ends_are single s f few n0 m0 xs a in
      let lines = lines_are n0 m0 xs a in
      let old = ends_counted n0 xs in
      let less : length (elided single f).lifetimes + gone goes f.lifetimes xs ≤ length f.lifetimes =
      all_gone goes f.lifetimes xs (λ x h. (let c = goes_once single s f few p x h in omega (arith, c))) in
      let x = small (length f.lifetimes) few in
      let y = small (length (elided single f).lifetimes) fewer in
      omega (arith, new, lines, old, less, x, y)
