-- A function of which lifetimes became one, and one of which some are left out: its list of lifetimes has a meaning, and each lifetime
-- becomes one that it declares, or none.
use Rattle.std.proofs.Common.{◌≡◌, ◌⊎◌, ℕ, Bool, true, false, not, ◌&&◌, ◌==◌, List, [], ◌∷◌, map, Option, Some, None, Ok, inl, inr, refl, sym, ap, subst, ◌∙◌}
use Rattle.std.specs.Prelude.{if◌then◌else◌, filter}
use Rattle.std.specs.Str.{bytes_eq}
use Rattle.std.proofs.lemmas.Bool.{or_left, or_right, or_cases, and_left, and_right, not_from_true, not_from_false, false≢true}
use Rattle.rx_core.specs.declared.types.Span.{Span}
use Rattle.rx_tree.specs.declared.tree.BoundLifetime.{BoundLifetime}
use Rattle.rx_tree.specs.Plain.{Parameter, Function, ProgramTree}
use Rattle.rx_resolve_names.specs.Meant.{number_in}
use Rattle.rx_resolve_names.specs.Items.{lifetimes_of}
use Rattle.rx_typed.specs.Naming.{is_nothing, has_bounds, has_entry}
use Rattle.rx_hoist_extraction.specs.Names.{Names, is_among}
use Rattle.rx_hoist_extraction.specs.OwnLifetimes.{in_parameters, lifetimes_if_any}
use Rattle.rx_compact_lifetimes.specs.declared.rewriting.Rewriting.{Rewriting}
use Rattle.rx_compact_lifetimes.specs.Rewritten.{becomes, renamed_bound, rewritten_parameter}
use Rattle.rx_compact_lifetimes.specs.Merged.{merged, mergings_of}
use Rattle.rx_compact_lifetimes.specs.Elided.{in_body, in_bounds, times, result_allows, may_go, stays, left_out, elided, elisions}
use Rattle.rx_compact_lifetimes.specs.Steps.{names}
use Rattle.rx_compact_laws.specs.Alongside.{SameItems, AllBecome}
use Rattle.rx_compact_laws.specs.Resolved.{declared, inside, IsElsewhere}
use Rattle.rx_compact_laws.proofs.Declaring.{same_name, declared_means, meant_declared, all_bounds, list_meant, Listed, listed}
use Rattle.rx_compact_laws.proofs.Lists.{some_bound, bounds_are_some, bound_stands, kept_bounds, kept_once, kept_if, turned, new_name, renamed_among, renamed_bounds, joined_among, joined_once, joined_bounds}
use Rattle.rx_compact_laws.proofs.Spared.{body_spared}

some_is : (x y : List ℕ) → ◌≡◌ {A = Option (List ℕ)} (Some x) (Some y) → x ≡ y
some_is x y e = cc

none_is : (y : List ℕ) → ◌≡◌ {A = Option (List ℕ)} None (Some y) → ⊥
none_is y e = cc

entry_from : (rs : List Rewriting) (f g : Function) → (has_bounds g.lifetimes ≡ true → has_bounds f.lifetimes ≡ true) → g.params ≡ map (rewritten_parameter rs) f.params
    → has_entry g ≡ true → has_entry f ≡ true
entry_from rs f g w e h = elim (or_cases (has_bounds g.lifetimes) (not (is_nothing g.params)) h) [
  | inl k ↦ or_left (has_bounds f.lifetimes) (not (is_nothing f.params)) (w k)
  | inr k ↦ or_right (has_bounds f.lifetimes) (not (is_nothing f.params)) (by f.params (sym (ap (λ xs. not (is_nothing xs)) e) ∙ k))
]
  where
    by : (xs : List Parameter) → not (is_nothing (map (rewritten_parameter rs) xs)) ≡ true → not (is_nothing xs) ≡ true
    by [] k = k
    by (x ∷ xs) k = refl

-- ---- lifetimes that are known to outlive each other are one

module _ (o : ℕ → ℕ → Bool) (p q : ProgramTree) (n : ℕ) (s : Span) (f : Function) where
  abbrev merging : List Rewriting
  merging = mergings_of o f

  abbrev renamed : List BoundLifetime
  renamed = map (renamed_bound merging) f.lifetimes

  pub stands : (x : List ℕ) → is_among x (names f.lifetimes) ≡ true → is_among (new_name merging x) (names (merged o f).lifetimes) ≡ true
  stands x h = elim (joined_among renamed [] renamed (new_name merging x) (renamed_among merging f.lifetimes x h)) [
    | inl k ↦ absurd (false≢true k)
    | inr k ↦ k
  ]

  each_becomes : AllBecome merging (declared s f) (declared s (merged o f))
  each_becomes x y m h b = declared_means s (merged o f) y
      (subst (λ z. is_among (turned x z) (names (merged o f).lifetimes) ≡ true) b (stands x (meant_declared s f x m h)))

  merged_bounded : Listed (inside p n s f) [] f.lifetimes → (x : List ℕ) → is_among x (all_bounds (merged o f).lifetimes) ≡ true → (m : ℕ) × (number_in (declared s (merged o f)) x ≡ Some m)
  merged_bounded l x h =
      let r = renamed_bounds merging f.lifetimes x (joined_bounds renamed [] renamed x h) in
      let m = l.bounded r.0 r.1 in
      declared_means s (merged o f) x (subst (λ z. is_among z (names (merged o f).lifetimes) ≡ true) (sym r.2) (stands r.0 (meant_declared s f r.0 m.0 m.1)))

  some_merged : has_bounds (merged o f).lifetimes ≡ true → has_bounds f.lifetimes ≡ true
  some_merged h =
      let x = some_bound (merged o f).lifetimes h in
      let r = renamed_bounds merging f.lifetimes x.0 (joined_bounds renamed [] renamed x.0 x.1) in
      bounds_are_some f.lifetimes r.0 r.1

  pub merged_elsewhere : SameItems p q → (ns : List ℕ) → lifetimes_of (inside p n s f) [] 0 f.lifetimes ≡ Ok ns → IsElsewhere (mergings_of o f) (mergings_of o f) p q n s f (merged o f)
  merged_elsewhere same ns e =
      let r = list_meant (inside q n s (merged o f)) (merged o f).lifetimes [] 0 (λ x h. refl) (joined_once renamed [] renamed)
      (merged_bounded (listed (inside p n s f) f.lifetimes [] 0 ns e)) in
      record {
        items = same;
        in_signature = each_becomes;
        in_body = each_becomes;
        rewritten = record { params = refl; answer = refl; body = refl };
        entry = entry_from merging f (merged o f) some_merged refl;
        bounds = r.0;
        meant = r.1;
      }

-- ---- some are left out

pub left_stays : (G : List ℕ → Bool) (ls : List BoundLifetime) (x : List ℕ) → G x ≡ false → becomes (map left_out (filter (λ (l : BoundLifetime). G l.name.name) ls)) x ≡ Some x
left_stays G [] x e = refl
left_stays G (l ∷ ls) x e = by (G l.name.name) refl (bytes_eq x l.name.name) refl (left_stays G ls x e)
  where
    rest : List BoundLifetime
    rest = filter (λ (l : BoundLifetime). G l.name.name) ls

    by : (b : Bool) → G l.name.name ≡ b → (c : Bool) → bytes_eq x l.name.name ≡ c → becomes (map left_out rest) x ≡ Some x → becomes (map left_out (if b then l ∷ rest else rest)) x ≡ Some x
    by false h c k again = again
    by true h true k again = absurd (false≢true (sym e ∙ (ap G (same_name x l.name.name k) ∙ h)))
    by true h false k again = ap (λ c. if c then None else becomes (map left_out rest) x) k ∙ again

pub left_gone : (G : List ℕ → Bool) (ls : List BoundLifetime) (x : List ℕ) → is_among x (names ls) ≡ true → G x ≡ true
    → becomes (map left_out (filter (λ (l : BoundLifetime). G l.name.name) ls)) x ≡ None
left_gone G [] x a e = absurd (false≢true a)
left_gone G (l ∷ ls) x a e = by (G l.name.name) refl (bytes_eq x l.name.name) refl (or_cases (bytes_eq x l.name.name) (is_among x (names ls)) a) (λ a. left_gone G ls x a e)
  where
    rest : List BoundLifetime
    rest = filter (λ (l : BoundLifetime). G l.name.name) ls

    by : (b : Bool) → G l.name.name ≡ b → (c : Bool) → bytes_eq x l.name.name ≡ c → (bytes_eq x l.name.name ≡ true) ⊎ (is_among x (names ls) ≡ true)
        → (is_among x (names ls) ≡ true → becomes (map left_out rest) x ≡ None) → becomes (map left_out (if b then l ∷ rest else rest)) x ≡ None
    by true h true k a again = ap (λ c. if c then None else becomes (map left_out rest) x) k
    by true h false k (inl a) again = absurd (false≢true (sym k ∙ a))
    by true h false k (inr a) again = ap (λ c. if c then None else becomes (map left_out rest) x) k ∙ again a
    by false h c k (inl a) again = absurd (false≢true (sym h ∙ (ap G (sym (same_name x l.name.name a)) ∙ e)))
    by false h c k (inr a) again = again a

module _ (single : Bool) (p q : ProgramTree) (n : ℕ) (s : Span) (f : Function) where
  abbrev body : Names
  body = in_body f.body

  -- whether a lifetime of this name goes
  abbrev G : List ℕ → Bool
  G x = may_go single body f x

  abbrev left : List Rewriting
  left = elisions single body f

  bound_stays : (x : List ℕ) → is_among x (in_bounds f.lifetimes) ≡ true → G x ≡ false
  bound_stays x h = and_left (not (is_among x (in_bounds f.lifetimes)))
      (not (is_among x body) && ((times x (in_parameters f.params) == 1) && result_allows single (lifetimes_if_any f.result) x)) (not_from_true (is_among x (in_bounds f.lifetimes)) h)

  pub body_stays : (x : List ℕ) → is_among x body ≡ true → G x ≡ false
  body_stays x h = and_right (not (is_among x (in_bounds f.lifetimes)))
      (not (is_among x body) && ((times x (in_parameters f.params) == 1) && result_allows single (lifetimes_if_any f.result) x))
      (and_left (not (is_among x body)) ((times x (in_parameters f.params) == 1) && result_allows single (lifetimes_if_any f.result) x) (not_from_true (is_among x body) h))

  -- one that doesn't go is declared still
  still : (x : List ℕ) → is_among x (names f.lifetimes) ≡ true → G x ≡ false → (m : ℕ) × (number_in (declared s (elided single f)) x ≡ Some m)
  still x a h = declared_means s (elided single f) x (kept_if (λ y. not (G y)) f.lifetimes x a (not_from_false (G x) h))

  each_left : AllBecome left (declared s f) (declared s (elided single f))
  each_left x y m h b = by (G x) refl
    where
      by : (c : Bool) → G x ≡ c → (m : ℕ) × (number_in (declared s (elided single f)) y ≡ Some m)
      by true k = absurd (none_is y (sym (left_gone G f.lifetimes x (meant_declared s f x m h) k) ∙ b))
      by false k = subst (λ z. (m : ℕ) × (number_in (declared s (elided single f)) z ≡ Some m)) (some_is x y (sym (left_stays G f.lifetimes x k) ∙ b))
          (still x (meant_declared s f x m h) k)

  left_bounded : Listed (inside p n s f) [] f.lifetimes → (x : List ℕ) → is_among x (all_bounds (elided single f).lifetimes) ≡ true → (m : ℕ) × (number_in (declared s (elided single f)) x ≡ Some m)
  left_bounded l x h =
      let there = kept_bounds (stays single body f) f.lifetimes x h in
      let m = l.bounded x there in
      still x (meant_declared s f x m.0 m.1) (bound_stays x (bound_stands f.lifetimes x there))

  some_left : has_bounds (elided single f).lifetimes ≡ true → has_bounds f.lifetimes ≡ true
  some_left h = let x = some_bound (elided single f).lifetimes h in bounds_are_some f.lifetimes x.0 (kept_bounds (stays single body f) f.lifetimes x.0 x.1)

  pub elided_elsewhere : SameItems p q → (ns : List ℕ) → lifetimes_of (inside p n s f) [] 0 f.lifetimes ≡ Ok ns
      → IsElsewhere (elisions single (in_body f.body) f) (elisions single (in_body f.body) f) p q n s f (elided single f)
  elided_elsewhere same ns e =
      let l = listed (inside p n s f) f.lifetimes [] 0 ns e in
      let r = list_meant (inside q n s (elided single f)) (elided single f).lifetimes [] 0 (λ x h. refl) (kept_once (stays single body f) f.lifetimes l.once) (left_bounded l) in
      record {
        items = same;
        in_signature = each_left;
        in_body = each_left;
        rewritten = record { params = refl; answer = refl; body = sym (body_spared left f.body (λ x h. left_stays G f.lifetimes x (body_stays x h))) };
        entry = entry_from left f (elided single f) some_left refl;
        bounds = r.0;
        meant = r.1;
      }
