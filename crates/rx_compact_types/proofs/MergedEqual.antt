-- Lifetimes that have one number where some became one are known to outlive each other.
use Rattle.std.proofs.Common.{◌≡◌, ◌⊎◌, inl, inr, ℕ, zero, suc, ◌+◌, ◌-◌, ◌<◌, ◌≤◌, ◌^◌, Bool, true, false, List, [], ◌∷◌, length, get_or, Some, refl, sym, ap, ap₂, subst, ◌∙◌, arith, if◌then◌else◌, lt-ltb}
use Rattle.std.specs.Str.{bytes_eq}
use Rattle.std.proofs.lemmas.Bool.{and_parts, and_from, cases_lt, false≢true, false_from_ne_true}
use Rattle.rx_core.specs.declared.types.Span.{Span}
use Rattle.rx_tree.specs.declared.tree.BoundLifetime.{BoundLifetime}
use Rattle.rx_tree.specs.Plain.{Function, ProgramTree}
use Rattle.rx_resolve_names.specs.Scopes.{DeclaredNames}
use Rattle.rx_resolve_names.specs.Meant.{number}
use Rattle.rx_hoist_extraction.specs.Names.{is_among, Distinct}
use Rattle.rx_compact_lifetimes.specs.Rewritten.{becomes}
use Rattle.rx_compact_lifetimes.specs.Merged.{are_equal, first_equal, mergings, mergings_of, merged, IsPreorder}
use Rattle.rx_compact_lifetimes.specs.Steps.{names}
use Rattle.rx_compact_laws.specs.Resolved.{declared}
use Rattle.rx_compact_laws.proofs.Declaring.{same_name, itself, declared_means}
use Rattle.rx_compact_laws.proofs.Elsewhere.{stands}
use Rattle.rx_compact_laws.proofs.Lists.{turned, new_name}
use Rattle.rx_compact_types.specs.MergedNumbers as numbers
use Rattle.rx_compact_types.specs.MergedNumbers.{name_or}
use Rattle.rx_compact_types.proofs.Fewer.{few_merged}
use Rattle.rx_compact_types.specs.Positions.{or_zero, number_of}
use Rattle.rx_compact_types.proofs.Places.{small, place}
use Rattle.rx_compact_types.proofs.Bounds.{there, one_place, many_names}
use Rattle.rx_compact_types.proofs.MergedNumbers.{some_becomes, merged_number, of_left_out}

module _ (o : ℕ → ℕ → Bool) (order : IsPreorder o) where
  -- the first of a list from number k on that is equal to lifetime l
  record FirstAt (l k : ℕ) (ys : List BoundLifetime) (x : List ℕ) : Type 0 where
    place : ℕ
    less : place < length ys
    equal : are_equal o l (k + place) ≡ true
    is : first_equal o l k ys x ≡ get_or (names ys) place []

  first_at : (l k : ℕ) (ys : List BoundLifetime) (x : List ℕ) (j : ℕ) → j < length ys → are_equal o l (k + j) ≡ true → FirstAt l k ys x
  first_at l k [] x j h e = absurd (omega (arith, h))
  first_at l k (y ∷ ys) x zero h e =
      let b : are_equal o l k ≡ true = ap (are_equal o l) (let z : k ≡ k + 0 = omega arith in z) ∙ e in
      record { place = 0; less = omega arith; equal = e; is = ap (λ c. if c then y.name.name else first_equal o l (suc k) ys x) b }
  first_at l k (y ∷ ys) x (suc j) h e =
      by (are_equal o l k) refl (first_at l (suc k) ys x j (omega (arith, h)) (ap (are_equal o l) (let z : suc k + j ≡ k + suc j = omega arith in z) ∙ e))
    where
      by : (b : Bool) → are_equal o l k ≡ b → FirstAt l (suc k) ys x → FirstAt l k (y ∷ ys) x
      by true b r = record {
        place = 0;
        less = omega arith;
        equal = ap (are_equal o l) (let z : k + 0 ≡ k = omega arith in z) ∙ b;
        is = ap (λ c. if c then y.name.name else first_equal o l (suc k) ys x) b;
      }
      by false b r =
          let less = r.less in
          record {
            place = suc r.place;
            less = omega (arith, less);
            equal = ap (are_equal o l) (let z : k + suc r.place ≡ suc k + r.place = omega arith in z) ∙ r.equal;
            is = ap (λ c. if c then y.name.name else first_equal o l (suc k) ys x) b ∙ r.is;
          }

  -- what a lifetime of a list becomes
  becomes_at : (all : List BoundLifetime) (n : ℕ) (ys : List BoundLifetime) (j : ℕ) → Distinct (names ys) → j < length ys
      → becomes (mergings o all n ys) (get_or (names ys) j []) ≡ Some (first_equal o (n + j) 0 all (get_or (names ys) j []))
  becomes_at all n [] j d h = absurd (omega (arith, h))
  becomes_at all n (y ∷ ys) zero d h =
      ap (λ c. if c then Some (first_equal o n 0 all y.name.name) else becomes (mergings o all (suc n) ys) y.name.name) (itself y.name.name)
      ∙ ap (λ m. Some (first_equal o m 0 all y.name.name)) (let z : n ≡ n + 0 = omega arith in z)
  becomes_at all n (y ∷ ys) (suc j) d h =
      let x : List ℕ = get_or (names ys) j [] in
      let many = many_names ys in
      let inside : is_among x (names ys) ≡ true = there (names ys) j (omega (arith, h, many)) in
      let other : bytes_eq x y.name.name ≡ false = false_from_ne_true (bytes_eq x y.name.name) (λ e. false≢true (sym d.0 ∙ (ap (λ z. is_among z (names ys)) (sym (same_name x y.name.name e)) ∙ inside))) in
      ap (λ c. if c then Some (first_equal o n 0 all y.name.name) else becomes (mergings o all (suc n) ys) x) other
      ∙ (becomes_at all (suc n) ys j d.1 (omega (arith, h)) ∙ ap (λ m. Some (first_equal o m 0 all x)) (let z : suc n + j ≡ n + suc j = omega arith in z))

  pub one_name_known : (f : Function) → Distinct (names f.lifetimes) → (l k : ℕ) → l < length f.lifetimes → k < length f.lifetimes
      → new_name (mergings_of o f) (get_or (names f.lifetimes) l []) ≡ new_name (mergings_of o f) (get_or (names f.lifetimes) k []) → o l k ≡ true
  one_name_known f d l k h g e =
      let all : List BoundLifetime = f.lifetimes in
      let many = many_names all in
      let x : List ℕ = get_or (names all) l [] in
      let y : List ℕ = get_or (names all) k [] in
      let a = first_at l 0 all x l h (both l) in
      let b = first_at k 0 all y k g (both k) in
      let u : new_name (mergings_of o f) x ≡ get_or (names all) a.place [] = ap (turned x) (becomes_at all 0 all l d h ∙ ap (λ m. Some (first_equal o m 0 all x)) (zero_plus l)) ∙ a.is in
      let v : new_name (mergings_of o f) y ≡ get_or (names all) b.place [] = ap (turned y) (becomes_at all 0 all k d g ∙ ap (λ m. Some (first_equal o m 0 all y)) (zero_plus k)) ∙ b.is in
      let la = a.less in
      let lb = b.less in
      let p : a.place ≡ b.place = one_place (names all) a.place b.place d (omega (arith, la, many)) (omega (arith, lb, many)) (sym u ∙ (e ∙ v)) in
      let ea : are_equal o l a.place ≡ true = subst (λ m. are_equal o l m ≡ true) (zero_plus a.place) a.equal in
      let eb : are_equal o k b.place ≡ true = subst (λ m. are_equal o k m ≡ true) (zero_plus b.place) b.equal in
      order.on l a.place k (and_parts (o l a.place) (o a.place l) ea).0 (subst (λ j. o j k ≡ true) (sym p) (and_parts (o k b.place) (o b.place k) eb).1)
    where
      zero_plus : (m : ℕ) → 0 + m ≡ m
      zero_plus m = omega arith

      both : (l : ℕ) → are_equal o l (0 + l) ≡ true
      both l = subst (λ m. are_equal o l m ≡ true) (sym (zero_plus l)) (and_from (o l l) (o l l) (order.itself l) (order.itself l))

  -- ---- by numbers

  module _ (s : Span) (f : Function) (few : length f.lifetimes < 2 ^ 32) (less : length (merged o f).lifetimes < 2 ^ 32) (once : Distinct (names f.lifetimes)) where
    abbrev M : DeclaredNames
    M = declared s (merged o f)

    abbrev F : ℕ → ℕ
    F = merged_number o s f few

    -- a declared lifetime has the number of what it became, by its place in the new list
    pub record Became (l : ℕ) : Type 0 where
      pub within : F l < length (merged o f).lifetimes
      pub name : get_or (names (merged o f).lifetimes) (F l) [] ≡ new_name (mergings_of o f) (get_or (names f.lifetimes) l [])

    pub became : (p q : ProgramTree) (n l : ℕ) → l < length f.lifetimes → Became l
    became p q n l h =
        let many = many_names f.lifetimes in
        let x : List ℕ = get_or (names f.lifetimes) l [] in
        let y : List ℕ = new_name (mergings_of o f) x in
        let m = declared_means s (merged o f) y (stands o p q n s f x (there (names f.lifetimes) l (omega (arith, h, many)))) in
        let r = place s (merged o f) less y m.0 m.1 in
        let c : l < number (length f.lifetimes) = subst (λ z. l < z) (sym (small (length f.lifetimes) few)) h in
        let z = some_becomes o f.lifetimes 0 f.lifetimes x in
        let i : number_of M (name_or x (becomes (mergings_of o f) x)) ≡ number_of M y = ap (λ b. number_of M (name_or x b)) z.1 ∙ sym (ap (λ b. number_of M (turned x b)) z.1) in
        let e : F l ≡ m.0 =
        ap (λ b. if b then number_of M (name_or x (becomes (mergings_of o f) x)) else (l - number (length f.lifetimes)) + number (length (merged o f).lifetimes)) (lt-ltb l (number (length f.lifetimes)) c)
        ∙ (i ∙ ap or_zero m.1) in
        record { within = subst (λ z. z < length (merged o f).lifetimes) (sym e) r.0; name = ap (λ z. get_or (names (merged o f).lifetimes) z []) e ∙ r.1 }

    -- lifetimes that have one number are one, or declared and known to outlive each other
    pub one_number_known : (p q : ProgramTree) (n l k : ℕ) → F l ≡ F k → (l ≡ k) ⊎ (o l k ≡ true)
    one_number_known p q n l k e = by (cases_lt l (length f.lifetimes)) (cases_lt k (length f.lifetimes))
      where
        n0 : number (length f.lifetimes) ≡ length f.lifetimes
        n0 = small (length f.lifetimes) few

        m0 : number (length (merged o f).lifetimes) ≡ length (merged o f).lifetimes
        m0 = small (length (merged o f).lifetimes) less

        behind : (l : ℕ) → length f.lifetimes ≤ l → F l ≡ (l - length f.lifetimes) + length (merged o f).lifetimes
        behind l h = of_left_out o s f few l (subst (λ z. z ≤ l) (sym n0) h) ∙ ap₂ (λ a b. (l - a) + b) n0 m0

        by : (l < length f.lifetimes) ⊎ (length f.lifetimes ≤ l) → (k < length f.lifetimes) ⊎ (length f.lifetimes ≤ k) → (l ≡ k) ⊎ (o l k ≡ true)
        by (inl a) (inl b) =
            let u = became p q n l a in
            let v = became p q n k b in
            inr (one_name_known f once l k a b (sym u.name ∙ (ap (λ z. get_or (names (merged o f).lifetimes) z []) e ∙ v.name)))
        by (inr a) (inr b) = let u = behind l a in let v = behind k b in inl (omega (arith, a, b, u, v, e))
        by (inl a) (inr b) = let u : F l < length (merged o f).lifetimes = (became p q n l a).within in let v = behind k b in absurd (omega (arith, u, v, e))
        by (inr a) (inl b) = let u = behind l a in let v : F k < length (merged o f).lifetimes = (became p q n k b).within in absurd (omega (arith, u, v, e))

pub known_where_one : (o : ℕ → ℕ → Bool) → IsPreorder o → (s : Span) (f : Function) → length f.lifetimes < 2 ^ 32 → Distinct (names f.lifetimes) → (l k : ℕ)
    → numbers.merged_number o s f l ≡ numbers.merged_number o s f k → (l ≡ k) ⊎ (o l k ≡ true)
known_where_one o order s f few once l k e = one_number_known o order s f few (few_merged o f few) once [] [] 0 l k e
