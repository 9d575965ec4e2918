-- Two resolvings of which both go on or both stop; names that are declared alike; items by their names.
use Rattle.std.proofs.Common.{◌≡◌, ◌+◌, ℕ, suc, Bool, true, false, if◌then◌else◌, List, [], ◌∷◌, ◌++◌, length, map, Option, Some, None, option_map, Ok, Err, refl, sym, ap, ◌∙◌, subst, length-append, bytes_eq}
use Rattle.rx_core.specs.declared.types.Span.{Span}
use Rattle.rx_core.specs.declared.types.Position.{Position}
use Rattle.rx_tree.specs.declared.tree.Ident.{Ident}
use Rattle.rx_tree.specs.Plain as plain
use Rattle.rx_tree.specs.Plain.{ItemTree, ProgramTree, VariantOf}
use Rattle.rx_tree.specs.Erase.{erase_ident, erase_item, erase_label, erase_program, erase_variant}
use Rattle.rx_resolve_names.specs.declared.resolved.ItemNames.{ItemNames}
use Rattle.rx_resolve_names.specs.declared.resolved.NodeNames.{NodeNames}
use Rattle.rx_resolve_names.specs.declared.table.NumberedName.{NumberedName}
use Rattle.rx_resolve_names.specs.Scopes.{declared_as, entered, DeclaredNames, Variables}
use Rattle.rx_resolve_names.specs.Meant.{as_enum, as_function, as_rt, as_struct, as_type, firsts, function_name, has_name, is_meant, item_named, kept, number, number_in, nowhere, out_of_test, target, through_test, to_loop, type_name, variants_of, a_loop, a_test, Around, Target}
use Rattle.rx_resolve_names.specs.Steps.{and_then, both, declare, declared_behind, entry, known, led, names, numbered, one, nothing, with_loop, with_names, with_variable, ◌>>◌, Inside, Naming, Outcome}
use Rattle.rx_resolve_laws.specs.AlikeTables.{AlikeTables}

-- ---- outcomes

abbrev pub Sim : {A B : Type 0} → (A → B → Type 0) → Outcome A → Outcome B → Type 0
Sim S (Ok a) (Ok b) = S a b
Sim S (Err e) (Err f) = Unit {0}
Sim S (Ok a) (Err f) = ⊥
Sim S (Err e) (Ok b) = ⊥

abbrev pub Eq : {A : Type 0} → A → A → Type 0
Eq a b = a ≡ b

abbrev pub Equal : {A : Type 0} → Outcome A → Outcome A → Type 0
Equal r s = Sim Eq r s

pub sim_then : {A B C D : Type 0} (S : A → B → Type 0) (T : C → D → Type 0) (m : Outcome A) (m' : Outcome B) (f : A → Outcome C) (f' : B → Outcome D) → Sim S m m' → ((a : A) (b : B) → S a b → Sim T (f a) (f' b)) → Sim T (and_then m f) (and_then m' f')
sim_then S T (Ok a) (Ok b) f f' h k = k a b h
sim_then S T (Err e) (Err g) f f' h k = tt
sim_then S T (Ok a) (Err g) f f' h k = absurd h
sim_then S T (Err e) (Ok b) f f' h k = absurd h

abbrev pub Like : Naming → Naming → Type 0
Like f g = (t u : ItemNames) → AlikeTables t u → Sim AlikeTables (f t) (g u)

pub in_turn : (f f' g g' : Naming) → Like f f' → Like g g' → Like (f >> g) (f' >> g')
in_turn f f' g g' h k t u s = sim_then AlikeTables AlikeTables (f t) (f' u) g g' (h t u s) (λ v w z. k v w z)

pub nothing_like : Like nothing nothing
nothing_like t u s = s

-- ---- numbers

pub known_like : (o o' : Option ℕ) (s s' : Span) → o ≡ o' → Equal (known o s) (known o' s')
known_like None None s s' e = tt
known_like (Some n) (Some m) s s' e = cc
known_like None (Some m) s s' e = absurd (cc)
known_like (Some n) None s s' e = absurd (cc)

pub one_like : (r r' : Outcome ℕ) → Equal r r' → Equal (one r) (one r')
one_like r r' h = sim_then Eq Eq r r' (λ n. Ok (n ∷ [])) (λ n. Ok (n ∷ [])) h (λ n m e. ap (λ (k : ℕ). k ∷ []) e)

pub both_like : (a a' b b' : Outcome (List ℕ)) → Equal a a' → Equal b b' → Equal (both a b) (both a' b')
both_like a a' b b' h k =
    sim_then Eq Eq a a' (λ ns. and_then b (λ ms. Ok (ns ++ ms))) (λ ns. and_then b' (λ ms. Ok (ns ++ ms))) h
    (λ ns ns' e. sim_then Eq Eq b b' (λ ms. Ok (ns ++ ms)) (λ ms. Ok (ns' ++ ms)) k (λ ms ms' d. ap (λ (l : List ℕ). l ++ ms) e ∙ ap (λ (l : List ℕ). ns' ++ l) d))

-- ---- tables

one_more : {A : Type 0} (xs ys : List A) (x y : A) → length xs ≡ length ys → length (xs ++ x ∷ []) ≡ length (ys ++ y ∷ [])
one_more xs ys x y e = length-append xs (x ∷ []) ∙ ap (λ (n : ℕ). n + 1) e ∙ sym (length-append ys (y ∷ []))

pub variable_like : (s s' : Span) (t u : ItemNames) → AlikeTables t u → AlikeTables (with_variable s t) (with_variable s' u)
variable_like s s' t u h = record { vars = one_more t.vars u.vars s s' h.vars; lifetimes = h.lifetimes; loops = h.loops; names = h.names }

pub loop_like : (p : Position) (t u : ItemNames) → AlikeTables t u → AlikeTables (with_loop p t) (with_loop p u)
loop_like p t u h = record { vars = h.vars; lifetimes = h.lifetimes; loops = ap (λ (l : List Position). l ++ p ∷ []) h.loops; names = h.names }

pub entry_like : (x : NodeNames) (t u : ItemNames) → AlikeTables t u → AlikeTables (with_names x t) (with_names x u)
entry_like x t u h = record { vars = h.vars; lifetimes = h.lifetimes; loops = h.loops; names = ap (λ (l : List NodeNames). l ++ x ∷ []) h.names }

module _ (P Q : ProgramTree) (a : ℕ) (L M : DeclaredNames) where
  abbrev pub here : Inside
  here = record { program = P; item = a; lifetimes = L }

  abbrev pub there : Inside
  there = record { program = Q; item = a; lifetimes = M }

  pub numbered_like : (at : List ℕ) (ns : List ℕ) → Like (numbered here at ns) (numbered there at ns)
  numbered_like at [] t u h = h
  numbered_like at (n ∷ ns) t u h = entry_like (entry here at (n ∷ ns)) t u h

  pub names_like : (at : List ℕ) (r r' : Outcome (List ℕ)) → Equal r r' → Like (names here at r) (names there at r')
  names_like at r r' h t u s = sim_then Eq AlikeTables r r' (λ ns. numbered here at ns t) (λ ns. numbered there at ns u) h
      (λ ns ms e. subst (λ (l : List ℕ). Sim AlikeTables (numbered here at ns t) (numbered there at l u)) e (numbered_like at ns t u s))

-- ---- names that are declared

abbrev pub SameDeclared : DeclaredNames → DeclaredNames → Type 0
SameDeclared [] [] = Unit {0}
SameDeclared (d ∷ ds) (e ∷ es) = (d.0 ≡ e.0) × (d.1.number ≡ e.1.number) × SameDeclared ds es
SameDeclared [] (e ∷ es) = ⊥
SameDeclared (d ∷ ds) [] = ⊥

abbrev SameFound : Option NumberedName → Option NumberedName → Type 0
SameFound None None = Unit {0}
SameFound (Some k) (Some l) = k.number ≡ l.number
SameFound None (Some l) = ⊥
SameFound (Some k) None = ⊥

found_same : (ds es : DeclaredNames) (x : List ℕ) → SameDeclared ds es → SameFound (declared_as ds x) (declared_as es x)
found_same [] [] x h = tt
found_same [] (e ∷ es) x h = absurd h
found_same (d ∷ ds) [] x h = absurd h
found_same (d ∷ ds) (e ∷ es) x h = subst (λ (n : List ℕ). SameFound (if bytes_eq x d.0 then Some d.1 else declared_as ds x) (if bytes_eq x n then Some e.1 else declared_as es x)) h.0 (by (bytes_eq x d.0) (found_same ds es x h.2))
  where
    by : (b : Bool) → SameFound (declared_as ds x) (declared_as es x) → SameFound (if b then Some d.1 else declared_as ds x) (if b then Some e.1 else declared_as es x)
    by true r = h.1
    by false r = r

number_found : (o o' : Option NumberedName) → SameFound o o' → option_map (λ (k : NumberedName). k.number) o ≡ option_map (λ (k : NumberedName). k.number) o'
number_found None None h = refl
number_found (Some k) (Some l) h = ap (λ (n : ℕ). Some n) h
number_found None (Some l) h = absurd h
number_found (Some k) None h = absurd h

pub number_same : (ds es : DeclaredNames) (x : List ℕ) → SameDeclared ds es → number_in ds x ≡ number_in es x
number_same ds es x h = number_found (declared_as ds x) (declared_as es x) (found_same ds es x h)

declared_more : (ds es : DeclaredNames) (x : List ℕ) (n : ℕ) (s s' : Span) → SameDeclared ds es → SameDeclared (ds ++ (x, record { number = n; span = s }) ∷ []) (es ++ (x, record { number = n; span = s' }) ∷ [])
declared_more [] [] x n s s' h = (refl, refl, tt)
declared_more [] (e ∷ es) x n s s' h = absurd h
declared_more (d ∷ ds) [] x n s s' h = absurd h
declared_more (d ∷ ds) (e ∷ es) x n s s' h = (h.0, h.1, declared_more ds es x n s s' h.2)

pub declare_like : (ds es : DeclaredNames) (x : Ident) (n : ℕ) → SameDeclared ds es → Sim SameDeclared (declare ds x n) (declare es (erase_ident x) n)
declare_like ds es x n h = by (declared_as ds x.name) (declared_as es x.name) (found_same ds es x.name h)
  where
    by : (o o' : Option NumberedName) → SameFound o o' → Sim SameDeclared (declared_behind ds x n o) (declared_behind es (erase_ident x) n o')
    by None None f = declared_more ds es x.name (number n) x.span (erase_ident x).span h
    by (Some k) (Some l) f = tt
    by None (Some l) f = absurd f
    by (Some k) None f = absurd f

pub firsts_same : (ds es : DeclaredNames) (n : ℕ) (xs : List Ident) → SameDeclared ds es → SameDeclared (firsts ds n xs) (firsts es n (map erase_ident xs))
firsts_same ds es n [] h = h
firsts_same ds es n (x ∷ xs) h = firsts_same (kept ds x n (declared_as ds x.name)) (kept es (erase_ident x) n (declared_as es x.name)) (suc n) xs (by (declared_as ds x.name) (declared_as es x.name) (found_same ds es x.name h))
  where
    by : (o o' : Option NumberedName) → SameFound o o' → SameDeclared (kept ds x n o) (kept es (erase_ident x) n o')
    by None None f = declared_more ds es x.name (number n) x.span (erase_ident x).span h
    by (Some k) (Some l) f = h
    by None (Some l) f = absurd f
    by (Some k) None f = absurd f

pub entered_same : (sc : Variables) (ds es : DeclaredNames) → SameDeclared ds es → entered sc ds ≡ entered sc es
entered_same sc [] [] h = refl
entered_same sc [] (e ∷ es) h = absurd h
entered_same sc (d ∷ ds) [] h = absurd h
entered_same sc (d ∷ ds) (e ∷ es) h =
    ap (λ (x : List ℕ). entered (record { name = x; number = d.1.number } ∷ sc) ds) h.0 ∙ ap (λ (n : ℕ). entered (record { name = e.0; number = n } ∷ sc) ds) h.1 ∙ entered_same (record { name = e.0; number = e.1.number } ∷ sc) ds es h.2

-- ---- items

abbrev without : Option (ℕ × ItemTree) → Option (ℕ × ItemTree)
without = option_map (λ (p : ℕ × ItemTree). (p.0, erase_item p.1))

type_same : (x : List ℕ) (i : ItemTree) → has_name x (type_name (erase_item i)) ≡ has_name x (type_name i)
type_same x (plain.rt_item s r) = refl
type_same x (plain.struct_item s d) = refl
type_same x (plain.enum_item s d) = refl
type_same x (plain.function_item s f) = refl

function_same : (x : List ℕ) (i : ItemTree) → has_name x (function_name (erase_item i)) ≡ has_name x (function_name i)
function_same x (plain.rt_item s r) = refl
function_same x (plain.struct_item s d) = refl
function_same x (plain.enum_item s d) = refl
function_same x (plain.function_item s f) = refl

module _ (name : ItemTree → Option Ident) (same : (x : List ℕ) (i : ItemTree) → has_name x (name (erase_item i)) ≡ has_name x (name i)) where
  named_same : (n : ℕ) (p : ProgramTree) (x : List ℕ) → item_named name n (erase_program p) x ≡ without (item_named name n p x)
  named_same n [] x = refl
  named_same n (i ∷ is) x = ap (λ (b : Bool). if b then Some (n, erase_item i) else item_named name (suc n) (erase_program is) x) (same x i) ∙ by (has_name x (name i)) (named_same (suc n) is x)
    where
      by : (b : Bool) → item_named name (suc n) (erase_program is) x ≡ without (item_named name (suc n) is x) → (if b then Some (n, erase_item i) else item_named name (suc n) (erase_program is) x) ≡ without (if b then Some (n, i) else item_named name (suc n) is x)
      by true r = refl
      by false r = r

pub type_there : (p : ProgramTree) (x : List ℕ) → item_named type_name 0 (erase_program p) x ≡ without (item_named type_name 0 p x)
type_there p x = named_same type_name type_same 0 p x

pub function_there : (p : ProgramTree) (x : List ℕ) → as_function (item_named function_name 0 (erase_program p) x) ≡ as_function (item_named function_name 0 p x)
function_there p x = ap as_function (named_same function_name function_same 0 p x) ∙ by (item_named function_name 0 p x)
  where
    by : (o : Option (ℕ × ItemTree)) → as_function (without o) ≡ as_function o
    by None = refl
    by (Some i) = refl

pub as_type_there : (p : ProgramTree) (x : List ℕ) → as_type (item_named type_name 0 (erase_program p) x) ≡ as_type (item_named type_name 0 p x)
as_type_there p x = ap as_type (type_there p x) ∙ by (item_named type_name 0 p x)
  where
    by : (o : Option (ℕ × ItemTree)) → as_type (without o) ≡ as_type o
    by None = refl
    by (Some (n, plain.rt_item s r)) = refl
    by (Some (n, plain.struct_item s d)) = refl
    by (Some (n, plain.enum_item s d)) = refl
    by (Some (n, plain.function_item s f)) = refl

pub as_struct_there : (p : ProgramTree) (x : List ℕ) → as_struct (item_named type_name 0 (erase_program p) x) ≡ as_struct (item_named type_name 0 p x)
as_struct_there p x = ap as_struct (type_there p x) ∙ by (item_named type_name 0 p x)
  where
    by : (o : Option (ℕ × ItemTree)) → as_struct (without o) ≡ as_struct o
    by None = refl
    by (Some (n, plain.rt_item s r)) = refl
    by (Some (n, plain.struct_item s d)) = refl
    by (Some (n, plain.enum_item s d)) = refl
    by (Some (n, plain.function_item s f)) = refl

pub as_enum_there : (p : ProgramTree) (x : List ℕ) → as_enum (item_named type_name 0 (erase_program p) x) ≡ as_enum (item_named type_name 0 p x)
as_enum_there p x = ap as_enum (type_there p x) ∙ by (item_named type_name 0 p x)
  where
    by : (o : Option (ℕ × ItemTree)) → as_enum (without o) ≡ as_enum o
    by None = refl
    by (Some (n, plain.rt_item s r)) = refl
    by (Some (n, plain.struct_item s d)) = refl
    by (Some (n, plain.enum_item s d)) = refl
    by (Some (n, plain.function_item s f)) = refl

pub as_rt_there : (p : ProgramTree) (x : List ℕ) → as_rt (item_named type_name 0 (erase_program p) x) ≡ as_rt (item_named type_name 0 p x)
as_rt_there p x = ap as_rt (type_there p x) ∙ by (item_named type_name 0 p x)
  where
    by : (o : Option (ℕ × ItemTree)) → as_rt (without o) ≡ as_rt o
    by None = refl
    by (Some (n, plain.rt_item s r)) = refl
    by (Some (n, plain.struct_item s d)) = refl
    by (Some (n, plain.enum_item s d)) = refl
    by (Some (n, plain.function_item s f)) = refl

variants_erased : (vs : List VariantOf) → map (λ (v : VariantOf). v.name) (map erase_variant vs) ≡ map erase_ident (map (λ (v : VariantOf). v.name) vs)
variants_erased [] = refl
variants_erased (v ∷ vs) = ap (λ (l : List Ident). erase_ident v.name ∷ l) (variants_erased vs)

variants_same : (o : Option (ℕ × ItemTree)) → SameDeclared (variants_of o) (variants_of (without o))
variants_same None = tt
variants_same (Some (n, plain.rt_item s r)) = tt
variants_same (Some (n, plain.struct_item s d)) = tt
variants_same (Some (n, plain.enum_item s d)) = subst (λ (l : List Ident). SameDeclared (firsts [] 0 (map (λ (v : VariantOf). v.name) d.variants)) (firsts [] 0 l)) (sym (variants_erased d.variants)) (firsts_same [] [] 0 (map (λ (v : VariantOf). v.name) d.variants) tt)
variants_same (Some (n, plain.function_item s f)) = tt

pub variant_there : (p : ProgramTree) (x v : List ℕ) → number_in (variants_of (item_named type_name 0 p x)) v ≡ number_in (variants_of (item_named type_name 0 (erase_program p) x)) v
variant_there p x v =
    number_same (variants_of (item_named type_name 0 p x)) (variants_of (item_named type_name 0 (erase_program p) x)) v
    (subst (λ (o : Option (ℕ × ItemTree)). SameDeclared (variants_of (item_named type_name 0 p x)) (variants_of o)) (sym (type_there p x)) (variants_same (item_named type_name 0 p x)))

-- ---- loops

abbrev pub erase_around : Around → Around
erase_around (a_loop l n) = a_loop (erase_label l) n
erase_around a_test = a_test

meant_same : (l m : Option Ident) → is_meant (erase_label l) (erase_label m) ≡ is_meant l m
meant_same None m = refl
meant_same (Some x) None = refl
meant_same (Some x) (Some y) = refl

pub target_same : (l : Option Ident) (ls : List Around) → target (erase_label l) (map erase_around ls) ≡ target l ls
target_same l [] = refl
target_same l (a_test ∷ ls) = ap through_test (target_same l ls)
target_same l (a_loop m n ∷ ls) = ap (λ (b : Bool). if b then to_loop n else target (erase_label l) (map erase_around ls)) (meant_same l m) ∙ ap (λ (t : Target). if is_meant l m then to_loop n else t) (target_same l ls)

pub led_like : (s s' : Span) (l : Option Ident) (t t' : Target) → t' ≡ t → Equal (led s l t) (led s' (erase_label l) t')
led_like s s' l t t' e = subst (λ (z : Target). Equal (led s l t) (led s' (erase_label l) z)) (sym e) (by l t)
  where
    by : (l : Option Ident) (t : Target) → Equal (led s l t) (led s' (erase_label l) t)
    by l (to_loop n) = refl
    by l out_of_test = tt
    by None nowhere = tt
    by (Some x) nowhere = tt
