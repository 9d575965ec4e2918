-- What becomes of a lifetime of a function is a lifetime too: where those that are equal are one, and where some are left out.
use Rattle.std.proofs.Common.{◌≡◌, ◌⊎◌, inl, inr, ℕ, suc, Bool, true, false, List, [], ◌∷◌, ◌++◌, map, Option, Some, None, codes, refl, sym, ap, subst, ◌∙◌}
use Rattle.std.specs.Prelude.{◌≢◌, if◌then◌else◌, filter, option_map}
use Rattle.std.specs.Str.{bytes_eq}
use mathlib.Core.Path.{fun_ext}
use Rattle.rx_tree.specs.declared.tree.Ident.{Ident}
use Rattle.rx_tree.specs.declared.tree.BoundLifetime.{BoundLifetime}
use Rattle.rx_tree.specs.Lists.{Every}
use Rattle.rx_tree.specs.Plain as plain
use Rattle.rx_tree.specs.Plain.{TypeTree, TypeTrees, Parameter, Body, Function}
use Rattle.rx_lex.specs.declared.token.Class.TheVariants.{Lifetime}
use Rattle.rx_lex.specs.Words.{IsWord}
use Rattle.rx_print_spelling.specs.Formed.{Lasting, FormedBound}
use Rattle.rx_hoist_extraction.specs.Names.{Names, is_among}
use Rattle.rx_hoist_extraction.specs.NewFunction.{firsts_of}
use Rattle.rx_hoist_extraction.specs.Changed.{changed_body}
use Rattle.rx_compact_lifetimes.specs.declared.rewriting.Rewriting.{Rewriting}
use Rattle.rx_compact_lifetimes.specs.Rewritten.{becomes, lifetime_with, rewritten_lifetime, ident_or, renamed_ident, renamed_bound, rewritten_type, rewritten_types, rewritten_parameter, rewritten_optional, rewritten_body, retyping}
use Rattle.rx_compact_lifetimes.specs.Merged.{are_equal, first_equal, mergings, mergings_of, bounds_for, joined_lifetime, joined, merged}
use Rattle.rx_compact_lifetimes.specs.Elided.{left_out, goes, stays, elisions, in_body, elided}
use Rattle.rx_compact_text.specs.CompactedText.{becomes_next, becomes_both}
use Rattle.rx_compact_read.proofs.Types.{lifetime_by, type_by, types_by, parameter_by}

-- a lifetime's name
abbrev pub Name : List ℕ → Type 0
Name n = IsWord Lifetime n × (n ≢ codes "'_")

some_is : (y n : List ℕ) → Some y ≡ Some n → y ≡ n
some_is y n e = cc

no_some : (n : List ℕ) → None ≡ Some n → ⊥
no_some n e = absurd (cc)

-- ---- lifetimes that are one

module _ (outlives : ℕ → ℕ → Bool) where
  first_named : (l k : ℕ) (ys : List BoundLifetime) (x : List ℕ) → Every FormedBound ys → Name x → Name (first_equal outlives l k ys x)
  first_named l k [] x f n = n
  first_named l k (y ∷ ys) x f n = by (are_equal outlives l k) (first_named l (suc k) ys x f.1 n) where
    by : (b : Bool) → Name (first_equal outlives l (suc k) ys x) → Name (if b then y.name.name else first_equal outlives l (suc k) ys x)
    by true h = f.0.0
    by false h = h

  record Renames (m : List ℕ → Option (List ℕ)) (x : List ℕ) : Type 0 where
    name : List ℕ
    is : m x ≡ Some name
    named : Name name

  renames : (all : List BoundLifetime) (l : ℕ) (xs : List BoundLifetime) (x : List ℕ) → Every FormedBound all → Every FormedBound xs → Name x → Renames (becomes (mergings outlives all l xs)) x
  renames all l [] x f g n = record { name = x; is = refl; named = n }
  renames all l (y ∷ ys) x f g n = by (bytes_eq x y.name.name) (renames all (suc l) ys x f g.1 n) refl where
    by : (b : Bool) → Renames (becomes (mergings outlives all (suc l) ys)) x → bytes_eq x y.name.name ≡ b → Renames (becomes (mergings outlives all l (y ∷ ys))) x
    by true r e = record {
      name = first_equal outlives l 0 all y.name.name;
      is = ap (λ b. if b then Some (first_equal outlives l 0 all y.name.name) else becomes (mergings outlives all (suc l) ys) x) e;
      named = first_named l 0 all y.name.name f g.0.0;
    }
    by false r e = record {
      name = r.name;
      is = ap (λ b. if b then Some (first_equal outlives l 0 all y.name.name) else becomes (mergings outlives all (suc l) ys) x) e ∙ r.is;
      named = r.named;
    }

  pub merged_name : (f : Function) → Every FormedBound f.lifetimes → (x : List ℕ) → Name x → (n : List ℕ) × (becomes (mergings_of outlives f) x ≡ Some n) × Name n
  merged_name f g x n = let r = renames f.lifetimes 0 f.lifetimes x g g n in (r.name, r.is, r.named)

  kept_or_named : (all : List BoundLifetime) (l : ℕ) (xs : List BoundLifetime) (x n : List ℕ) → Every FormedBound all → Every FormedBound xs → becomes (mergings outlives all l xs) x ≡ Some n → (n ≡ x) ⊎ Name n
  kept_or_named all l [] x n f g e = inl (sym (some_is x n e))
  kept_or_named all l (y ∷ ys) x n f g e = by (bytes_eq x y.name.name) e (λ k. kept_or_named all (suc l) ys x n f g.1 k) where
    by : (b : Bool) → (if b then Some (first_equal outlives l 0 all y.name.name) else becomes (mergings outlives all (suc l) ys) x) ≡ Some n
        → (becomes (mergings outlives all (suc l) ys) x ≡ Some n → (n ≡ x) ⊎ Name n) → (n ≡ x) ⊎ Name n
    by true k h = inr (subst Name (some_is (first_equal outlives l 0 all y.name.name) n k) (first_named l 0 all y.name.name f g.0.0))
    by false k h = h k

  pub merged_or_same : (f : Function) → Every FormedBound f.lifetimes → (x n : List ℕ) → becomes (mergings_of outlives f) x ≡ Some n → (n ≡ x) ⊎ Name n
  merged_or_same f g x n e = kept_or_named f.lifetimes 0 f.lifetimes x n g g e

  -- ---- the list

  renamed_lasting : (f : Function) → Every FormedBound f.lifetimes → (x : Ident) → Lasting x → Lasting (renamed_ident (mergings_of outlives f) x)
  renamed_lasting f g x h = let r = renames f.lifetimes 0 f.lifetimes x.name g g h in subst (λ o. Lasting (ident_or x o)) (sym r.is) r.named

  all_lasting : (f : Function) → Every FormedBound f.lifetimes → (xs : List Ident) → Every Lasting xs → Every Lasting (map (renamed_ident (mergings_of outlives f)) xs)
  all_lasting f g [] h = tt
  all_lasting f g (x ∷ xs) h = (renamed_lasting f g x h.0, all_lasting f g xs h.1)

  renamed_formed : (f : Function) → Every FormedBound f.lifetimes → (ls : List BoundLifetime) → Every FormedBound ls → Every FormedBound (map (renamed_bound (mergings_of outlives f)) ls)
  renamed_formed f g [] h = tt
  renamed_formed f g (l ∷ ls) h = ((renamed_lasting f g l.name h.0.0, all_lasting f g l.bounds h.0.1), renamed_formed f g ls h.1)

every_append : {A : Type 0} (P : A → Type 0) (xs ys : List A) → Every P xs → Every P ys → Every P (xs ++ ys)
every_append P [] ys g h = h
every_append P (x ∷ xs) ys g h = (g.0, every_append P xs ys g.1 h)

bounds_lasting : (x : List ℕ) (ls : List BoundLifetime) → Every FormedBound ls → Every Lasting (bounds_for x ls)
bounds_lasting x [] f = tt
bounds_lasting x (l ∷ ls) f = by (bytes_eq x l.name.name) (bounds_lasting x ls f.1) where
  by : (b : Bool) → Every Lasting (bounds_for x ls) → Every Lasting (if b then l.bounds ++ bounds_for x ls else bounds_for x ls)
  by true h = every_append Lasting l.bounds (bounds_for x ls) f.0.1 h
  by false h = h

firsts_lasting : (found : Names) (xs : List Ident) → Every Lasting xs → Every Lasting (firsts_of found xs)
firsts_lasting found [] f = tt
firsts_lasting found (x ∷ xs) f = by (is_among x.name found) (firsts_lasting found xs f.1) (firsts_lasting (x.name ∷ found) xs f.1) where
  by : (b : Bool) → Every Lasting (firsts_of found xs) → Every Lasting (firsts_of (x.name ∷ found) xs) → Every Lasting (if b then firsts_of found xs else x ∷ firsts_of (x.name ∷ found) xs)
  by true g h = g
  by false g h = (f.0, h)

joined_formed : (all : List BoundLifetime) (found : Names) (ls : List BoundLifetime) → Every FormedBound all → Every FormedBound ls → Every FormedBound (joined all found ls)
joined_formed all found [] f g = tt
joined_formed all found (l ∷ ls) f g = by (is_among l.name.name found) (joined_formed all found ls f g.1) (joined_formed all (found ++ l.name.name ∷ []) ls f g.1) where
  by : (b : Bool) → Every FormedBound (joined all found ls) → Every FormedBound (joined all (found ++ l.name.name ∷ []) ls)
      → Every FormedBound (if b then joined all found ls else joined_lifetime all l.name ∷ joined all (found ++ l.name.name ∷ []) ls)
  by true h k = h
  by false h k = ((g.0.0, firsts_lasting (l.name.name ∷ []) (bounds_for l.name.name all) (bounds_lasting l.name.name all f)), k)

every_filter : {A : Type 0} (P : A → Type 0) (p : A → Bool) (xs : List A) → Every P xs → Every P (filter p xs)
every_filter P p [] f = tt
every_filter P p (x ∷ xs) f = by (p x) (every_filter P p xs f.1) where
  by : (b : Bool) → Every P (filter p xs) → Every P (if b then x ∷ filter p xs else filter p xs)
  by true h = (f.0, h)
  by false h = h

-- the lifetimes that stay are lifetimes
pub list_formed : (outlives : ℕ → ℕ → Bool) (single : Bool) (f : Function) → Every FormedBound f.lifetimes → Every FormedBound (elided single (merged outlives f)).lifetimes
list_formed outlives single f g =
    let g2 = merged outlives f in
    let ls = map (renamed_bound (mergings_of outlives f)) f.lifetimes in
    let r = renamed_formed outlives f g f.lifetimes g in
    every_filter FormedBound (stays single (in_body g2.body) g2) g2.lifetimes (joined_formed ls [] ls r r)

-- ---- names in a signature

left_stays : (ls : List BoundLifetime) (y n : List ℕ) → becomes (map left_out ls) y ≡ Some n → n ≡ y
left_stays [] y n e = sym (let h : y ≡ n = cc in h)
left_stays (l ∷ ls) y n e = by (bytes_eq y l.name.name) e (λ k. left_stays ls y n k) where
  by : (b : Bool) → (if b then None else becomes (map left_out ls) y) ≡ Some n → (becomes (map left_out ls) y ≡ Some n → n ≡ y) → n ≡ y
  by true k f = absurd (cc)
  by false k f = f k

pub signature_name : (outlives : ℕ → ℕ → Bool) (single : Bool) (f : Function) → Every FormedBound f.lifetimes → (x n : List ℕ) → Name x
    → becomes_both (mergings_of outlives f) (elisions single (in_body (merged outlives f).body) (merged outlives f)) x ≡ Some n → Name n
signature_name outlives single f g x n h e =
    let r = merged_name outlives f g x h in
    let g2 = merged outlives f in
    let es = elisions single (in_body g2.body) g2 in
    let k : becomes es r.0 ≡ Some n = ap (becomes_next es) (sym r.1) ∙ e in
    let i : n ≡ r.0 = left_stays (filter (goes single (in_body g2.body) g2) g2.lifetimes) r.0 n k in
    subst Name (sym i) r.2

pub signature_or_same : (outlives : ℕ → ℕ → Bool) (single : Bool) (f : Function) → Every FormedBound f.lifetimes → (x n : List ℕ)
    → becomes_both (mergings_of outlives f) (elisions single (in_body (merged outlives f).body) (merged outlives f)) x ≡ Some n → (n ≡ x) ⊎ Name n
signature_or_same outlives single f g x n e = by (becomes (mergings_of outlives f) x) refl e where
  by : (o : Option (List ℕ)) → becomes (mergings_of outlives f) x ≡ o → becomes_next (elisions single (in_body (merged outlives f).body) (merged outlives f)) o ≡ Some n → (n ≡ x) ⊎ Name n
  by None k h = absurd (no_some n h)
  by (Some r) k h =
      let g2 = merged outlives f in
      let i : n ≡ r = left_stays (filter (goes single (in_body g2.body) g2) g2.lifetimes) r n h in
      subst (λ y. (y ≡ x) ⊎ Name y) (sym i) (merged_or_same outlives f g x r k)

-- ---- types, by one list and by both

lifetime_once : (rs : List Rewriting) (l : Option Ident) → rewritten_lifetime rs l ≡ lifetime_by (becomes rs) l
lifetime_once rs None = refl
lifetime_once rs (Some x) = refl

lifetimes_once : (rs : List Rewriting) (ls : List (Option Ident)) → map (rewritten_lifetime rs) ls ≡ map (lifetime_by (becomes rs)) ls
lifetimes_once rs [] = refl
lifetimes_once rs (l ∷ ls) = ap (λ x. x ∷ map (rewritten_lifetime rs) ls) (lifetime_once rs l) ∙ ap (λ xs. lifetime_by (becomes rs) l ∷ xs) (lifetimes_once rs ls)

mutual
  type_once : (rs : List Rewriting) (t : TypeTree) → rewritten_type rs t ≡ type_by (becomes rs) t
  type_once rs (plain.kind_type s k) = refl
  type_once rs (plain.bool_type s) = refl
  type_once rs (plain.tuple_type s ts) = ap (plain.tuple_type s) (types_once rs ts)
  type_once rs (plain.ref_type s l w t) = ap (λ x. plain.ref_type s x w (rewritten_type rs t)) (lifetime_once rs l) ∙ ap (plain.ref_type s (lifetime_by (becomes rs) l) w) (type_once rs t)
  type_once rs (plain.named_type s x None) = refl
  type_once rs (plain.named_type s x (Some ls)) = ap (λ (z : List (Option Ident)). plain.named_type s x (Some z)) (lifetimes_once rs ls)

  types_once : (rs : List Rewriting) (ts : TypeTrees) → rewritten_types rs ts ≡ types_by (becomes rs) ts
  types_once rs plain.no_type = refl
  types_once rs (plain.type_and t ts) = ap (λ x. plain.type_and x (rewritten_types rs ts)) (type_once rs t) ∙ ap (plain.type_and (type_by (becomes rs) t)) (types_once rs ts)

pub body_once : (rs : List Rewriting) (b : Body) → rewritten_body rs b ≡ changed_body (retyping (type_by (becomes rs))) [] [] b
body_once rs b = ap (λ (f : TypeTree → TypeTree). changed_body (retyping f) [] [] b) (fun_ext (type_once rs))

lifetime_next : (rs es : List Rewriting) (l : Option Ident) → rewritten_lifetime es (rewritten_lifetime rs l) ≡ lifetime_by (becomes_both rs es) l
lifetime_next rs es None = refl
lifetime_next rs es (Some x) = by (becomes rs x.name) where
  by : (o : Option (List ℕ)) → rewritten_lifetime es (lifetime_with x o) ≡ lifetime_with x (becomes_next es o)
  by None = refl
  by (Some n) = refl

lifetimes_next : (rs es : List Rewriting) (ls : List (Option Ident)) → map (rewritten_lifetime es) (map (rewritten_lifetime rs) ls) ≡ map (lifetime_by (becomes_both rs es)) ls
lifetimes_next rs es [] = refl
lifetimes_next rs es (l ∷ ls) =
    ap (λ x. x ∷ map (rewritten_lifetime es) (map (rewritten_lifetime rs) ls)) (lifetime_next rs es l) ∙ ap (λ xs. lifetime_by (becomes_both rs es) l ∷ xs) (lifetimes_next rs es ls)

mutual
  type_next : (rs es : List Rewriting) (t : TypeTree) → rewritten_type es (rewritten_type rs t) ≡ type_by (becomes_both rs es) t
  type_next rs es (plain.kind_type s k) = refl
  type_next rs es (plain.bool_type s) = refl
  type_next rs es (plain.tuple_type s ts) = ap (plain.tuple_type s) (types_next rs es ts)
  type_next rs es (plain.ref_type s l w t) =
      ap (λ x. plain.ref_type s x w (rewritten_type es (rewritten_type rs t))) (lifetime_next rs es l) ∙ ap (plain.ref_type s (lifetime_by (becomes_both rs es) l) w) (type_next rs es t)
  type_next rs es (plain.named_type s x None) = refl
  type_next rs es (plain.named_type s x (Some ls)) = ap (λ (z : List (Option Ident)). plain.named_type s x (Some z)) (lifetimes_next rs es ls)

  types_next : (rs es : List Rewriting) (ts : TypeTrees) → rewritten_types es (rewritten_types rs ts) ≡ types_by (becomes_both rs es) ts
  types_next rs es plain.no_type = refl
  types_next rs es (plain.type_and t ts) =
      ap (λ x. plain.type_and x (rewritten_types es (rewritten_types rs ts))) (type_next rs es t) ∙ ap (plain.type_and (type_by (becomes_both rs es) t)) (types_next rs es ts)

pub parameters_next : (rs es : List Rewriting) (ps : List Parameter) → map (rewritten_parameter es) (map (rewritten_parameter rs) ps) ≡ map (parameter_by (becomes_both rs es)) ps
parameters_next rs es [] = refl
parameters_next rs es (p ∷ ps) =
    ap (λ (t : TypeTree). record { name = p.name; mutable = p.mutable; typ = t } ∷ map (rewritten_parameter es) (map (rewritten_parameter rs) ps)) (type_next rs es p.typ)
    ∙ ap (λ xs. parameter_by (becomes_both rs es) p ∷ xs) (parameters_next rs es ps)

pub optional_next : (rs es : List Rewriting) (t : Option TypeTree) → rewritten_optional es (rewritten_optional rs t) ≡ option_map (type_by (becomes_both rs es)) t
optional_next rs es None = refl
optional_next rs es (Some t) = ap (λ (x : TypeTree). Some x) (type_next rs es t)
