-- The bounds of a short signature are those of before under other numbers of the lifetimes, but for bounds between those that became one.
use Rattle.std.proofs.Common.{◌≡◌, ◌⊎◌, inl, inr, ℕ, ◌<◌, ◌^◌, Bool, true, false, not, ◌&&◌, ◌==◌, List, [], ◌∷◌, length, map, Some, Ok, refl, sym, ap, subst, ◌∙◌}
use Rattle.std.specs.Str.{bytes_eq}
use Rattle.std.proofs.lemmas.Bool.{and_left, not_from_true, not_from_false, false≢true}
use Rattle.rx_core.specs.declared.types.Bound.{Bound}
use Rattle.rx_core.specs.declared.types.Span.{Span}
use Rattle.rx_tree.specs.declared.tree.Ident.{Ident}
use Rattle.rx_tree.specs.declared.tree.BoundLifetime.{BoundLifetime}
use Rattle.rx_tree.specs.Plain.{Function, ProgramTree}
use Rattle.rx_resolve_names.specs.Scopes.{DeclaredNames}
use Rattle.rx_resolve_names.specs.Meant.{number_in}
use Rattle.rx_resolve_names.specs.Items.{lifetimes_of}
use Rattle.rx_region_outlives.specs.Implied.{HasPair}
use Rattle.rx_typeck_typed.specs.Items.{bounded, bounds_of}
use Rattle.rx_hoist_extraction.specs.Names.{is_among}
use Rattle.rx_hoist_extraction.specs.OwnLifetimes.{idents, in_parameters, lifetimes_if_any}
use Rattle.rx_compact_lifetimes.specs.declared.rewriting.Rewriting.{Rewriting}
use Rattle.rx_compact_lifetimes.specs.Rewritten.{renamed_bound}
use Rattle.rx_compact_lifetimes.specs.Merged.{merged, mergings_of}
use Rattle.rx_compact_lifetimes.specs.Elided.{bounding, in_bounds, in_body, times, result_allows, stays, elided}
use Rattle.rx_compact_laws.specs.Resolved.{declared, inside}
use Rattle.rx_compact_laws.specs.MergedSignatures.{AreBoundsUnder}
use Rattle.rx_compact_laws.proofs.Declaring.{same_name, itself, declared_means, Listed, listed}
use Rattle.rx_compact_laws.proofs.Lists.{first_among, among_front, among_behind, bound_stands, turned, new_name}
use Rattle.rx_compact_types.specs.Positions.{Position, number_of, AllMeant}
use Rattle.rx_compact_types.proofs.Bounds.{HasBound, named_bounds, own_bounds, pair_named, named_pair, bound_named, has_renamed, renamed_has, has_joined, joined_has, kept_has, has_kept}
use Rattle.rx_compact_types.proofs.MergedNumbers.{some_becomes, merged_number, of_declared}
use Rattle.rx_compact_types.proofs.ElidedNumbers.{G, elided_number, kept_number}

-- one renaming behind another
pub bounds_twice : (f g : ℕ → ℕ) (as' bs cs : List Bound) → AreBoundsUnder f as' bs → AreBoundsUnder g bs cs → AreBoundsUnder (λ l. g (f l)) as' cs
bounds_twice f g as' bs cs a b = record {
  kept = λ l k h. elim (a.kept l k h) [
    | inl e ↦ inl (ap g e)
    | inr h ↦ b.kept (f l) (f k) h
  ];
  only = λ x y h. let r = b.only x y h in let s = a.only r.0 r.1 r.2 in (s.0, s.1, s.2, r.3 ∙ ap g s.3, r.4 ∙ ap g s.4);
}

abbrev IsMeant : DeclaredNames → List ℕ → Type 0
IsMeant L x = (n : ℕ) × (number_in L x ≡ Some n)

-- the names in a bound are declared
both_meant : (p : ProgramTree) (n : ℕ) (s : Span) (f : Function) → Listed (inside p n s f) [] f.lifetimes → (x y : List ℕ) → HasBound f.lifetimes x y → IsMeant (declared s f) x × IsMeant (declared s f) y
both_meant p n s f l x y h = let r = bound_named f.lifetimes x y h in (declared_means s f x r.0, l.bounded y r.1)

module _ (p q : ProgramTree) (n : ℕ) (s : Span) where
  merged_named : (o : ℕ → ℕ → Bool) (f : Function) (few : length f.lifetimes < 2 ^ 32) → Listed (inside p n s f) [] f.lifetimes
      → AreBoundsUnder (merged_number o s f few) (named_bounds (declared s f) f.lifetimes) (named_bounds (declared s (merged o f)) (merged o f).lifetimes)
  merged_named o f few all = record { kept = kept; only = only }
    where
      rs : List Rewriting
      rs = mergings_of o f

      L : DeclaredNames
      L = declared s f

      M : DeclaredNames
      M = declared s (merged o f)

      F : ℕ → ℕ
      F = merged_number o s f few

      ks : List BoundLifetime
      ks = map (renamed_bound rs) f.lifetimes

      number_is : (x : List ℕ) → IsMeant L x → number_of M (new_name rs x) ≡ F (number_of L x)
      number_is x m = let r = some_becomes o f.lifetimes 0 f.lifetimes x in ap (λ y. number_of M (turned x y)) r.1 ∙ of_declared o s f few x m r.0 r.1

      at : (l k : ℕ) (x y : List ℕ) → HasBound f.lifetimes x y → l ≡ number_of L x → k ≡ number_of L y → (b : Bool) → bytes_eq (new_name rs y) (new_name rs x) ≡ b
          → (F l ≡ F k) ⊎ HasPair (named_bounds M (merged o f).lifetimes) (F l) (F k)
      at l k x y h a c true e =
          let m = both_meant p n s f all x y h in
          inl (ap F a ∙ (sym (number_is x m.0) ∙ (ap (number_of M) (sym (same_name (new_name rs y) (new_name rs x) e)) ∙ (number_is y m.1 ∙ sym (ap F c)))))
      at l k x y h a c false e =
          let m = both_meant p n s f all x y h in
          let r = named_pair M (merged o f).lifetimes (new_name rs x) (new_name rs y) (has_joined ks (new_name rs x) (new_name rs y) (has_renamed rs f.lifetimes x y h) e) in
          inr (subst (λ j. HasPair (named_bounds M (merged o f).lifetimes) j (F k)) (number_is x m.0 ∙ sym (ap F a))
          (subst (λ j. HasPair (named_bounds M (merged o f).lifetimes) (number_of M (new_name rs x)) j) (number_is y m.1 ∙ sym (ap F c)) r))

      kept : (l k : ℕ) → HasPair (named_bounds L f.lifetimes) l k → (F l ≡ F k) ⊎ HasPair (named_bounds M (merged o f).lifetimes) (F l) (F k)
      kept l k h = let r = pair_named L f.lifetimes l k h in at l k r.0 r.1 r.2 r.3 r.4 (bytes_eq (new_name rs r.1) (new_name rs r.0)) refl

      only : (x y : ℕ) → HasPair (named_bounds M (merged o f).lifetimes) x y → (l : ℕ) × (k : ℕ) × HasPair (named_bounds L f.lifetimes) l k × (x ≡ F l) × (y ≡ F k)
      only x y h =
          let r = pair_named M (merged o f).lifetimes x y h in
          let t = renamed_has rs f.lifetimes r.0 r.1 (joined_has ks [] ks r.0 r.1 r.2) in
          let m = both_meant p n s f all t.0 t.1 t.2 in
          (number_of L t.0, number_of L t.1, named_pair L f.lifetimes t.0 t.1 t.2, r.3 ∙ (ap (number_of M) t.3 ∙ number_is t.0 m.0), r.4 ∙ (ap (number_of M) t.4 ∙ number_is t.1 m.1))

  long_stands : (ls : List BoundLifetime) (x y : List ℕ) → HasBound ls x y → is_among x (in_bounds ls) ≡ true
  long_stands [] x y h = absurd h
  long_stands (z ∷ ls) x y (inl h) = among_front x (bounding z z.bounds) (in_bounds ls) (by z.bounds h.1)
    where
      by : (bs : List Ident) → is_among y (idents bs) ≡ true → is_among x (bounding z bs) ≡ true
      by [] g = absurd (false≢true g)
      by (b ∷ bs) g = ap (λ w. is_among w (bounding z (b ∷ bs))) h.0 ∙ first_among z.name.name z.name.name (idents (b ∷ bs)) (itself z.name.name)
  long_stands (z ∷ ls) x y (inr h) = among_behind x (bounding z z.bounds) (in_bounds ls) (long_stands ls x y h)

  elided_named : (single : Bool) (f : Function) (few : length f.lifetimes < 2 ^ 32) (whole : List Position) → AllMeant (declared s f) whole → Listed (inside p n s f) [] f.lifetimes
      → AreBoundsUnder (elided_number single s f few whole) (named_bounds (declared s f) f.lifetimes) (named_bounds (declared s (elided single f)) (elided single f).lifetimes)
  elided_named single f few whole meant all = record { kept = kept; only = only }
    where
      L : DeclaredNames
      L = declared s f

      M : DeclaredNames
      M = declared s (elided single f)

      F : ℕ → ℕ
      F = elided_number single s f few whole

      Goes : List ℕ → Bool
      Goes = G single s f few

      stays_if : (x : List ℕ) → is_among x (in_bounds f.lifetimes) ≡ true → Goes x ≡ false
      stays_if x h = and_left (not (is_among x (in_bounds f.lifetimes)))
          (not (is_among x (in_body f.body)) && ((times x (in_parameters f.params) == 1) && result_allows single (lifetimes_if_any f.result) x)) (not_from_true (is_among x (in_bounds f.lifetimes)) h)

      both_stay : (x y : List ℕ) → HasBound f.lifetimes x y → (Goes x ≡ false) × (Goes y ≡ false)
      both_stay x y h = (stays_if x (long_stands f.lifetimes x y h), stays_if y (bound_stands f.lifetimes y (bound_named f.lifetimes x y h).1))

      numbers_are : (x y : List ℕ) → HasBound f.lifetimes x y → (number_of M x ≡ F (number_of L x)) × (number_of M y ≡ F (number_of L y))
      numbers_are x y h =
          let m = both_meant p n s f all x y h in
          let g = both_stay x y h in
          (kept_number single s f few whole meant x m.0 g.0, kept_number single s f few whole meant y m.1 g.1)

      kept : (l k : ℕ) → HasPair (named_bounds L f.lifetimes) l k → (F l ≡ F k) ⊎ HasPair (named_bounds M (elided single f).lifetimes) (F l) (F k)
      kept l k h =
          let r = pair_named L f.lifetimes l k h in
          let g = both_stay r.0 r.1 r.2 in
          let e = numbers_are r.0 r.1 r.2 in
          let t = named_pair M (elided single f).lifetimes r.0 r.1 (has_kept (λ y. not (Goes y)) f.lifetimes r.0 r.1 r.2 (not_from_false (Goes r.0) g.0)) in
          inr (subst (λ j. HasPair (named_bounds M (elided single f).lifetimes) j (F k)) (e.0 ∙ sym (ap F r.3))
          (subst (λ j. HasPair (named_bounds M (elided single f).lifetimes) (number_of M r.0) j) (e.1 ∙ sym (ap F r.4)) t))

      only : (x y : ℕ) → HasPair (named_bounds M (elided single f).lifetimes) x y → (l : ℕ) × (k : ℕ) × HasPair (named_bounds L f.lifetimes) l k × (x ≡ F l) × (y ≡ F k)
      only x y h =
          let r = pair_named M (elided single f).lifetimes x y h in
          let t = kept_has (stays single (in_body f.body) f) f.lifetimes r.0 r.1 r.2 in
          let e = numbers_are r.0 r.1 t in
          (number_of L r.0, number_of L r.1, named_pair L f.lifetimes r.0 r.1 t, r.3 ∙ e.0, r.4 ∙ e.1)

  -- ---- as they are declared

  abbrev bounds_at : Function → List ℕ → List Bound
  bounds_at f ns = bounds_of (bounded 0 f.lifetimes) ns

  pub merged_bounds : (o : ℕ → ℕ → Bool) (f : Function) (few : length f.lifetimes < 2 ^ 32) (less : length (merged o f).lifetimes < 2 ^ 32) (ns ms : List ℕ)
      → lifetimes_of (inside p n s f) [] 0 f.lifetimes ≡ Ok ns → lifetimes_of (inside q n s (merged o f)) [] 0 (merged o f).lifetimes ≡ Ok ms
      → AreBoundsUnder (merged_number o s f few) (bounds_at f ns) (bounds_at (merged o f) ms)
  merged_bounds o f few less ns ms a b =
      let x = listed (inside p n s f) f.lifetimes [] 0 ns a in
      let y = listed (inside q n s (merged o f)) (merged o f).lifetimes [] 0 ms b in
      subst (λ bs. AreBoundsUnder (merged_number o s f few) bs (bounds_at (merged o f) ms)) (sym (own_bounds s f few x.once p n ns a))
      (subst (λ bs. AreBoundsUnder (merged_number o s f few) (named_bounds (declared s f) f.lifetimes) bs) (sym (own_bounds s (merged o f) less y.once q n ms b)) (merged_named o f few x))

  pub elided_bounds : (single : Bool) (f : Function) (few : length f.lifetimes < 2 ^ 32) (less : length (elided single f).lifetimes < 2 ^ 32) (whole : List Position) → AllMeant (declared s f) whole → (ns ms : List ℕ)
      → lifetimes_of (inside p n s f) [] 0 f.lifetimes ≡ Ok ns → lifetimes_of (inside q n s (elided single f)) [] 0 (elided single f).lifetimes ≡ Ok ms
      → AreBoundsUnder (elided_number single s f few whole) (bounds_at f ns) (bounds_at (elided single f) ms)
  elided_bounds single f few less whole meant ns ms a b =
      let x = listed (inside p n s f) f.lifetimes [] 0 ns a in
      let y = listed (inside q n s (elided single f)) (elided single f).lifetimes [] 0 ms b in
      subst (λ bs. AreBoundsUnder (elided_number single s f few whole) bs (bounds_at (elided single f) ms)) (sym (own_bounds s f few x.once p n ns a))
      (subst (λ bs. AreBoundsUnder (elided_number single s f few whole) (named_bounds (declared s f) f.lifetimes) bs) (sym (own_bounds s (elided single f) less y.once q n ms b)) (elided_named single f few whole meant x))
