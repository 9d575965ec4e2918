-- Names and loops that are kept with the newest last, as lists with the newest first.
use Rattle.std.proofs.Common.{◌≡◌, ℕ, suc, ◌<◌, ◌≤◌, Bool, true, false, ◌||◌, List, [], ◌∷◌, ◌++◌, length, map, drop, get_or, refl, ap, sym, ◌∙◌}
use Rattle.std.proofs.Math.Seq.{drop-cons}
use Rattle.std.proofs.lemmas.List.{drop_all}
use Rattle.std.specs.Str.{bytes_eq}
use Rattle.rx_tree.specs.declared.tree.Pattern.{Pattern}
use Rattle.rx_tree.specs.PlainOf.{plain-Pattern}
use Rattle.rx_resolve_names.specs.Meant.{Around}
use Rattle.rx_hoist_extraction.specs.Names.{Names, is_among, bound}
use Rattle.rx_hoist_changes.specs.declared.jumps.Around as code
use Rattle.rx_hoist_changes.specs.Standing.{bound_behind, around_of, around_behind}

pub bound_push : (own : Names) (l : List Pattern) (p : Pattern) → bound_behind own (l ++ p ∷ []) ≡ bound (plain-Pattern p) ++ bound_behind own l
bound_push own [] p = refl
bound_push own (q ∷ l) p = bound_push (bound (plain-Pattern q) ++ own) l p

-- one more pattern of those that something stands for
pub bound_push_of : {A : Type 0} (f : A → Pattern) (own : Names) (l : List A) (x : A) → bound_behind own (map f (l ++ x ∷ [])) ≡ bound (plain-Pattern (f x)) ++ bound_behind own (map f l)
bound_push_of f own [] x = refl
bound_push_of f own (y ∷ l) x = bound_push_of f (bound (plain-Pattern (f y)) ++ own) l x

pub around_push : (done : List Around) (l : List code.Around) (x : code.Around) → around_behind done (l ++ x ∷ []) ≡ around_of x ∷ around_behind done l
around_push done [] x = refl
around_push done (y ∷ l) x = around_push (around_of y ∷ done) l x

-- ---- whether a name is one of those

or_assoc : (a b c : Bool) → ((a || b) || c) ≡ (a || (b || c))
or_assoc true b c = refl
or_assoc false b c = refl

or_swap : (a b c : Bool) → ((a || b) || c) ≡ (b || (a || c))
or_swap true true c = refl
or_swap true false c = refl
or_swap false b c = refl

pub or_none : (a : Bool) → a ≡ (a || false)
or_none true = refl
or_none false = refl

pub among_append : (x : List ℕ) (a b : Names) → is_among x (a ++ b) ≡ (is_among x a || is_among x b)
among_append x [] b = refl
among_append x (y ∷ a) b = ap (λ r. bytes_eq x y || r) (among_append x a b) ∙ sym (or_assoc (bytes_eq x y) (is_among x a) (is_among x b))

abbrev pub some_bind : List ℕ → List Pattern → Bool
some_bind x [] = false
some_bind x (p ∷ ps) = is_among x (bound (plain-Pattern p)) || some_bind x ps

pub among_behind : (x : List ℕ) (own : Names) (ps : List Pattern) → is_among x (bound_behind own ps) ≡ (is_among x own || some_bind x ps)
among_behind x own [] = or_none (is_among x own)
among_behind x own (p ∷ ps) =
    among_behind x (bound (plain-Pattern p) ++ own) ps
    ∙ ap (λ b. b || some_bind x ps) (among_append x (bound (plain-Pattern p)) own)
    ∙ or_swap (is_among x (bound (plain-Pattern p))) (is_among x own) (some_bind x ps)

-- one that binds it is found, or none is left

pub found_at : {A : Type 0} (f : A → Pattern) (x : List ℕ) (ps : List A) (i : ℕ) (p : A) → some_bind x (map f (drop i ps)) ≡ some_bind x (map f ps) → i < length ps → p ≡ get_or ps i p
    → is_among x (bound (plain-Pattern (f p))) ≡ true → true ≡ is_among x (bound_behind [] (map f ps))
found_at f x ps i p before within is here =
    sym
    (among_behind x [] (map f ps)
    ∙ sym before
    ∙ ap (λ l. some_bind x (map f l)) (drop-cons ps i p within)
    ∙ ap (λ y. is_among x (bound (plain-Pattern (f y))) || some_bind x (map f (drop (suc i) ps))) (sym is)
    ∙ ap (λ b. b || some_bind x (map f (drop (suc i) ps))) here)

pub none_found : {A : Type 0} (f : A → Pattern) (x : List ℕ) (ps : List A) (n : ℕ) → some_bind x (map f (drop n ps)) ≡ some_bind x (map f ps) → length ps ≤ n
    → false ≡ is_among x (bound_behind [] (map f ps))
none_found f x ps n before past =
    sym (among_behind x [] (map f ps) ∙ sym before ∙ ap (λ l. some_bind x (map f l)) (drop_all n ps past))
