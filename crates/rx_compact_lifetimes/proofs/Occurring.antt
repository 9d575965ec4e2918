-- How often a lifetime is written, part by part.
use Rattle.std.proofs.Common.{◌≡◌, ℕ, suc, ◌+◌, ◌<◌, ◌≤◌, Bool, true, false, List, [], ◌∷◌, ◌++◌, length, map, get_or, drop, Option, Some, None, refl, sym, ap, ◌∙◌, arith}
use Rattle.std.specs.Prelude.{if◌then◌else◌, ◌==◌, ◌&&◌, ◌||◌}
use Rattle.std.specs.Str.{bytes_eq}
use Rattle.rx_tree.specs.declared.tree.Ident.{Ident}
use Rattle.rx_tree.specs.declared.tree.BoundLifetime.{BoundLifetime}
use Rattle.rx_tree.specs.declared.tree.Param.{Param}
use Rattle.rx_tree.specs.declared.tree.TypeText.{TypeText}
use Rattle.rx_tree.specs.Plain as plain
use Rattle.rx_tree.specs.Plain.{TypeTree}
use Rattle.rx_core.specs.declared.types.Span.{Span}
use Rattle.rx_resolve_names.specs.Names.{written}
use Rattle.rx_tree.specs.PlainOf.{plain-Param, plain-TypeText, types_of}
use Rattle.rx_typed.specs.Numbers.{capped}
use Rattle.std.proofs.lemmas.Bool.Decides.{same_from_decides, Decides-eqb}
use Rattle.std.proofs.lemmas.List.{at_drop_all}
use Rattle.rx_hoist_extraction.specs.Names.{is_among}
use Rattle.rx_hoist_extraction.specs.OwnLifetimes.{lifetimes_in, lifetimes_in_all, in_parameters}
use Rattle.rx_hoist_made.proofs.Among.{among_both}
use Rattle.rx_hoist_made.proofs.Dropped.{drop_is}
use Rattle.rx_compact_lifetimes.specs.Elided.{times, are_all, bounding, in_bounds}

times_both : (x : List ℕ) (ls ms : List (Option Ident)) → times x (ls ++ ms) ≡ times x ls + times x ms
times_both x [] ms = omega arith
times_both x (None ∷ ls) ms = times_both x ls ms
times_both x (Some l ∷ ls) ms = by (bytes_eq x l.name) (times_both x ls ms)
  where
    by : (b : Bool) → times x (ls ++ ms) ≡ times x ls + times x ms → (if b then suc (times x (ls ++ ms)) else times x (ls ++ ms)) ≡ (if b then suc (times x ls) else times x ls) + times x ms
    by true e = omega (arith, e)
    by false e = e

pub times_first : (x : List ℕ) (l : Option Ident) (ls : List (Option Ident)) → times x (l ∷ ls) ≡ times x (l ∷ []) + times x ls
times_first x l ls = times_both x (l ∷ []) ls

-- ---- sums that are cut off, over a list

next_sum : {A : Type 0} (G : List A → ℕ) (g : A → ℕ) → ((y : A) (ys : List A) → G (y ∷ ys) ≡ g y + G ys) → (total new : ℕ) (xs : List A) (i : ℕ) (x : A) → i < length xs → x ≡ get_or xs i x
    → new ≡ capped (total + g x) → capped (new + G (drop (i + 1) xs)) ≡ capped (total + G (drop i xs))
next_sum G g split total new xs i x less is new_is =
    let e : G (drop i xs) ≡ g x + G (drop (i + 1) xs) = ap G (drop_is xs i x less is) ∙ split x (drop (i + 1) xs) in
    omega arith

end_sum : {A : Type 0} (G : List A → ℕ) → G [] ≡ 0 → (total whole : ℕ) (xs : List A) (i : ℕ) → total < 18446744073709551616 → length xs ≤ i → capped (total + G (drop i xs)) ≡ whole → total ≡ whole
end_sum G none total whole xs i fits past so =
    let e : G (drop i xs) ≡ 0 = at_drop_all G xs i past ∙ none in
    omega arith

-- one that is told by a small number is not cut off
small : (n k : ℕ) → k < 18446744073709551615 → (capped n == k) ≡ (n == k)
small n k h = same_from_decides (capped n == k) (n == k)
    ((λ e. let q : capped n ≡ k = (Decides-eqb (capped n) k).0 e in omega (arith, q, h)), (λ q. (Decides-eqb (capped n) k).1 (omega (arith, q, h)))) (Decides-eqb n k)

pub is_one : (n : ℕ) → (capped n == 1) ≡ (n == 1)
is_one n = small n 1 (omega arith)

pub is_none : (n : ℕ) → (capped (0 + n) == 0) ≡ (n == 0)
is_none n = let e : 0 + n ≡ n = omega arith in ap (λ k. capped k == 0) e ∙ small n 0 (omega arith)

pub ruleset small_sums = (is_one, is_none)

-- of lifetimes, of types, of parameters

pub next_lifetime : (x : List ℕ) (total new : ℕ) (ls : List (Option Ident)) (i : ℕ) (l : Option Ident) → i < length ls → l ≡ get_or ls i l
    → new ≡ capped (total + times x (l ∷ [])) → capped (new + times x (drop (i + 1) ls)) ≡ capped (total + times x (drop i ls))
next_lifetime x total new ls i l less is new_is = next_sum (times x) (λ y. times x (y ∷ [])) (times_first x) total new ls i l less is new_is

pub end_lifetimes : (x : List ℕ) (total whole : ℕ) (ls : List (Option Ident)) (i : ℕ) → total < 18446744073709551616 → length ls ≤ i → capped (total + times x (drop i ls)) ≡ whole → total ≡ whole
end_lifetimes x total whole ls i fits past so = end_sum (times x) refl total whole ls i fits past so

abbrev pub in_types : List ℕ → List TypeText → ℕ
in_types x ts = times x (lifetimes_in_all (types_of (map plain-TypeText ts)))

pub next_type : (x : List ℕ) (total new : ℕ) (ts : List TypeText) (i : ℕ) (t : TypeText) → i < length ts → t ≡ get_or ts i t
    → new ≡ capped (total + times x (lifetimes_in (plain-TypeText t))) → capped (new + in_types x (drop (i + 1) ts)) ≡ capped (total + in_types x (drop i ts))
next_type x total new ts i t less is new_is = next_sum (in_types x) (λ (y : TypeText). times x (lifetimes_in (plain-TypeText y)))
    (λ y ys. times_both x (lifetimes_in (plain-TypeText y)) (lifetimes_in_all (types_of (map plain-TypeText ys)))) total new ts i t less is new_is

pub end_types : (x : List ℕ) (total whole : ℕ) (ts : List TypeText) (i : ℕ) → total < 18446744073709551616 → length ts ≤ i → capped (total + in_types x (drop i ts)) ≡ whole → total ≡ whole
end_types x total whole ts i fits past so = end_sum (in_types x) refl total whole ts i fits past so

abbrev pub in_params : List ℕ → List Param → ℕ
in_params x ps = times x (in_parameters (map plain-Param ps))

pub next_param : (x : List ℕ) (total new : ℕ) (ps : List Param) (i : ℕ) (p : Param) → i < length ps → p ≡ get_or ps i p
    → new ≡ capped (total + times x (lifetimes_in (plain-TypeText p.typ))) → capped (new + in_params x (drop (i + 1) ps)) ≡ capped (total + in_params x (drop i ps))
next_param x total new ps i p less is new_is = next_sum (in_params x) (λ (y : Param). times x (lifetimes_in (plain-TypeText y.typ)))
    (λ y ys. times_both x (lifetimes_in (plain-TypeText y.typ)) (in_parameters (map plain-Param ys))) total new ps i p less is new_is

pub end_params : (x : List ℕ) (total whole : ℕ) (ps : List Param) (i : ℕ) → total < 18446744073709551616 → length ps ≤ i → capped (total + in_params x (drop i ps)) ≡ whole → total ≡ whole
end_params x total whole ps i fits past so = end_sum (in_params x) refl total whole ps i fits past so

-- in the list of a struct or enum
pub named_is : (s : Span) (x : Ident) (ls : Option (List (Option Ident))) → lifetimes_in (plain.named_type s x ls) ≡ written ls
named_is s x None = refl
named_is s x (Some ls) = refl

pub ruleset times_rules = (times_first, named_is)

-- ---- whether each is this one

all_both : (x : List ℕ) (ls ms : List (Option Ident)) → are_all x (ls ++ ms) ≡ (are_all x ls && are_all x ms)
all_both x [] ms = refl
all_both x (None ∷ ls) ms = all_both x ls ms
all_both x (Some l ∷ ls) ms = ap (λ b. bytes_eq x l.name && b) (all_both x ls ms) ∙ sides (bytes_eq x l.name) (are_all x ls) (are_all x ms)
  where
    sides : (a b c : Bool) → (a && (b && c)) ≡ ((a && b) && c)
    sides true b c = refl
    sides false b c = refl

pub all_first : (x : List ℕ) (l : Option Ident) (ls : List (Option Ident)) → are_all x (l ∷ ls) ≡ (are_all x (l ∷ []) && are_all x ls)
all_first x l ls = all_both x (l ∷ []) ls

pub ruleset all_rules = (all_first, named_is)

-- what is left holds, or doesn't, by its first
pub failed : (b rest front whole : Bool) → front ≡ whole → front ≡ (b && rest) → b ≡ false → false ≡ whole
failed true rest front whole inv here is = absurd (cc)
failed false rest front whole inv here is = sym here ∙ inv

pub kept : (b rest front whole : Bool) → front ≡ whole → front ≡ (b && rest) → b ≡ true → rest ≡ whole
kept true rest front whole inv here is = sym here ∙ inv
kept false rest front whole inv here is = absurd (cc)

pub lifetime_here : (x : List ℕ) (ls : List (Option Ident)) (i : ℕ) (l : Option Ident) (b : Bool) → i < length ls → l ≡ get_or ls i l → b ≡ are_all x (l ∷ [])
    → are_all x (drop i ls) ≡ (b && are_all x (drop (i + 1) ls))
lifetime_here x ls i l b less is b_is = ap (are_all x) (drop_is ls i l less is) ∙ (all_first x l (drop (i + 1) ls) ∙ ap (λ c. c && are_all x (drop (i + 1) ls)) (sym b_is))

abbrev pub are_types : List ℕ → List TypeText → Bool
are_types x ts = are_all x (lifetimes_in_all (types_of (map plain-TypeText ts)))

pub type_here : (x : List ℕ) (ts : List TypeText) (i : ℕ) (t : TypeText) (b : Bool) → i < length ts → t ≡ get_or ts i t → b ≡ are_all x (lifetimes_in (plain-TypeText t))
    → are_types x (drop i ts) ≡ (b && are_types x (drop (i + 1) ts))
type_here x ts i t b less is b_is = ap (are_types x) (drop_is ts i t less is)
    ∙ (all_both x (lifetimes_in (plain-TypeText t)) (lifetimes_in_all (types_of (map plain-TypeText (drop (i + 1) ts)))) ∙ ap (λ c. c && are_types x (drop (i + 1) ts)) (sym b_is))

-- ---- in bounds

pub bound_here : (x : List ℕ) (ls : List BoundLifetime) (i : ℕ) (l : BoundLifetime) → i < length ls → l ≡ get_or ls i l
    → is_among x (in_bounds (drop i ls)) ≡ (is_among x (bounding l l.bounds) || is_among x (in_bounds (drop (i + 1) ls)))
bound_here x ls i l less is = ap (λ (ms : List BoundLifetime). is_among x (in_bounds ms)) (drop_is ls i l less is) ∙ among_both x (bounding l l.bounds) (in_bounds (drop (i + 1) ls))
