-- Two numberings that stand alike but for places in the text, and their steps.
use Rattle.std.proofs.Common.{◌≡◌, ℕ, suc, ◌-◌, ◌++◌, Bool, true, false, List, [], ◌∷◌, length, map, take, drop, zero, get_or, slice_set, Option, Some, None, option_map, refl, sym, ap, subst, ◌∙◌}
use Rattle.rx_core.specs.declared.types.Span.{Span}
use Rattle.rx_tree.specs.Plain.{PatternTree, TypeTree}
use Rattle.rx_tree.specs.Erase.{erase_pattern, erase_type}
use Rattle.rx_resolve_names.specs.declared.resolved.NodeNames.{NodeNames}
use Rattle.rx_typed.specs.declared.nodes.Declaration.{Declaration}
use Rattle.rx_typed.specs.declared.nodes.Node.{Node}
use Rattle.rx_typed.specs.declared.nodes.Site.{Site}
use Rattle.rx_typed.specs.declared.nodes.Stage.{Stage}
use Rattle.rx_typed.specs.Naming.{a_loop, a_node, an_entry, and_then, annotates, as_known, counted, declaration, declare, give, is_known, is_left, known_among, known_between, leads, not_declared, set_stage, taken, use_of, waiting, with_stage, Annotation, Cursor, Numbering}
use Rattle.rx_engine_typing.specs.Renumbered.{NodeAt}
use Rattle.rx_engine_typing.specs.Renumbered.NodeAt.{renumbered}
use Rattle.rx_check_laws.specs.ApartFromSpans.{unchanged}

pub ap2 : {A B C : Type 0} (f : A → B → C) {a a' : A} {b b' : B} → a ≡ a' → b ≡ b' → f a b ≡ f a' b'
ap2 f h k = cc (h, k)

-- ---- what is told of places

abbrev nowhere : Span
nowhere = record { start = 0; end = 0 }

abbrev pub bare_stage : Stage → Stage
bare_stage (Stage.Waits n s) = Stage.Waits n nowhere
bare_stage s = s

abbrev pub bare : Declaration → Declaration
bare d = record { mutable = d.mutable; stage = bare_stage d.stage }

abbrev pub bare_annotation : Annotation → Annotation
bare_annotation a = record { pattern = erase_pattern a.pattern; typ = erase_type a.typ; variable = a.variable; names = a.names }

pub record Same (c d : Cursor) : Type 0 where
  pub number : c.number ≡ d.number
  pub loops : c.loops ≡ d.loops
  pub declared : c.declared ≡ d.declared
  pub variables : map bare c.variables ≡ map bare d.variables
  pub names : c.names ≡ d.names
  -- those of the second have no spans
  pub annotations : map bare_annotation c.annotations ≡ d.annotations

abbrev pub Sim : {A B : Type 0} → (A → B → Type 0) → Numbering A → Numbering B → Type 0
Sim R f g = (c d : Cursor) → Same c d → R (f c).0 (g d).0 × Same (f c).1 (g d).1

abbrev pub Equal : {A : Type 0} → A → A → Type 0
Equal a b = a ≡ b

-- ---- steps

pub then : {A B C D : Type 0} (R : A → B → Type 0) (S : C → D → Type 0) (m : Numbering A) (n : Numbering B) (f : A → Numbering C) (g : B → Numbering D)
    → Sim R m n → ((a : A) (b : B) → R a b → Sim S (f a) (g b)) → Sim S (and_then m f) (and_then n g)
then R S m n f g h k c d s = let r = h c d s in k (m c).0 (n d).0 r.0 (m c).1 (n d).1 r.1

pub giving : {A B : Type 0} (R : A → B → Type 0) (a : A) (b : B) → R a b → Sim R (give a) (give b)
giving R a b h c d s = (h, s)

pub node : (s t : Span) (w : Site) → Sim (NodeAt unchanged) (a_node s w) (a_node t w)
node s t w c d h = (
  subst (λ (k : ℕ). NodeAt unchanged (record { number = c.number; span = s; site = w }) (record { number = k; span = t; site = w })) h.number renumbered,
  record { number = ap suc h.number; loops = h.loops; declared = h.declared; variables = h.variables; names = h.names; annotations = h.annotations },
)

taken_same : (xs : List NodeNames) (c d : Cursor) → Same c d → Equal (taken xs c).0 (taken xs d).0 × Same (taken xs c).1 (taken xs d).1
taken_same [] c d h = (refl, h)
taken_same (x ∷ xs) c d h = (refl, record { number = h.number; loops = h.loops; declared = h.declared; variables = h.variables; names = refl; annotations = h.annotations })

pub entry : Sim Equal an_entry an_entry
entry c d h = subst (λ (xs : List NodeNames). Equal (taken c.names c).0 (taken xs d).0 × Same (taken c.names c).1 (taken xs d).1) h.names (taken_same c.names c d h)

pub map_behind : {A B : Type 0} (f : A → B) (xs ys : List A) → map f (xs ++ ys) ≡ map f xs ++ map f ys
map_behind f [] ys = refl
map_behind f (x ∷ xs) ys = ap (λ zs. f x ∷ zs) (map_behind f xs ys)

one_more : {A B : Type 0} (f : A → B) (xs ys : List A) (x y : A) → map f xs ≡ map f ys → f x ≡ f y → map f (xs ++ x ∷ []) ≡ map f (ys ++ y ∷ [])
one_more f xs ys x y h k = cc (map_behind f xs (x ∷ []), map_behind f ys (y ∷ []), h, k)

pub declares : (e : Declaration) → Sim Equal (declare e) (declare e)
declares e c d h = (h.declared, record { number = h.number; loops = h.loops; declared = ap suc h.declared; variables = one_more bare c.variables d.variables e e h.variables refl; names = h.names; annotations = h.annotations })

pub counts : Sim Equal counted counted
counts c d h = (h.declared, h)

-- ---- variables

map_take : {A B : Type 0} (f : A → B) (n : ℕ) (xs : List A) → map f (take n xs) ≡ take n (map f xs)
map_take f zero xs = refl
map_take f (suc n) [] = refl
map_take f (suc n) (x ∷ xs) = ap (λ ys. f x ∷ ys) (map_take f n xs)

map_drop : {A B : Type 0} (f : A → B) (n : ℕ) (xs : List A) → map f (drop n xs) ≡ drop n (map f xs)
map_drop f zero xs = refl
map_drop f (suc n) [] = refl
map_drop f (suc n) (x ∷ xs) = map_drop f n xs

map_got : {A B : Type 0} (f : A → B) (xs : List A) (n : ℕ) (d : A) → f (get_or xs n d) ≡ get_or (map f xs) n (f d)
map_got f [] n d = refl
map_got f (x ∷ xs) zero d = refl
map_got f (x ∷ xs) (suc n) d = map_got f xs n d

map_set : {A B : Type 0} (f : A → B) (xs : List A) (n : ℕ) (x : A) → map f (slice_set xs n x) ≡ slice_set (map f xs) n (f x)
map_set f [] n x = refl
map_set f (y ∷ xs) zero x = refl
map_set f (y ∷ xs) (suc n) x = ap (λ ys. f y ∷ ys) (map_set f xs n x)

pub declaration_same : (x : ℕ) (c d : Cursor) → Same c d → bare (declaration c x) ≡ bare (declaration d x)
declaration_same x c d h = map_got bare c.variables x not_declared ∙ ap (λ vs. get_or vs x (bare not_declared)) h.variables ∙ sym (map_got bare d.variables x not_declared)

known_there : (s : Stage) → is_known (bare_stage s) ≡ is_known s
known_there Stage.Known = refl
known_there (Stage.Waits n s) = refl
known_there Stage.Given = refl

-- a variable is used alike
pub used : (x : ℕ) (c d : Cursor) → Same c d → use_of x (declaration c x) ≡ use_of x (declaration d x)
used x c d h = ap2 (λ (m k : Bool). record { number = x; mutable = m; known = k }) (ap (λ v. v.mutable) (declaration_same x c d h))
    (sym (known_there (declaration c x).stage) ∙ ap (λ v. is_known v.stage) (declaration_same x c d h) ∙ known_there (declaration d x).stage)

waits_there : (x : ℕ) (s : Stage) → waiting x (bare_stage s) ≡ waiting x s
waits_there x Stage.Known = refl
waits_there x (Stage.Waits n s) = refl
waits_there x Stage.Given = refl

-- it waits alike
pub waiting_same : (x : ℕ) (c d : Cursor) → Same c d → waiting x (declaration c x).stage ≡ waiting x (declaration d x).stage
waiting_same x c d h = sym (waits_there x (declaration c x).stage) ∙ ap (λ v. waiting x v.stage) (declaration_same x c d h) ∙ waits_there x (declaration d x).stage

staged : (x : ℕ) (s t : Stage) (c d : Cursor) → bare_stage s ≡ bare_stage t → Same c d → Same (with_stage x s c) (with_stage x t d)
staged x s t c d e h = record {
  number = h.number;
  loops = h.loops;
  declared = h.declared;
  variables = map_set bare c.variables x (record (declaration c x) { stage = s }) ∙ ap2 (λ vs v. slice_set vs x v) h.variables
      (ap2 (λ (m : Bool) (z : Stage). record { mutable = m; stage = z }) (ap (λ v. v.mutable) (declaration_same x c d h)) e) ∙ sym (map_set bare d.variables x (record (declaration d x) { stage = t }));
  names = h.names;
  annotations = h.annotations;
}

pub stage_set : (x : ℕ) (s t : Stage) → bare_stage s ≡ bare_stage t → Sim Equal (set_stage x s) (set_stage x t)
stage_set x s t e c d h = (refl, staged x s t c d e h)

known_kept : (d : Declaration) → bare (as_known d) ≡ as_known (bare d)
known_kept d = refl

all_known : (ds : List Declaration) → map bare (map as_known ds) ≡ map as_known (map bare ds)
all_known [] = refl
all_known (d ∷ ds) = ap (λ es. as_known (bare d) ∷ es) (all_known ds)

among : (i k : ℕ) (ds : List Declaration) → map bare (known_among i k ds) ≡ known_among i k (map bare ds)
among i k ds = map_behind bare (take i ds) (map as_known (take k (drop i ds)) ++ drop k (drop i ds))
    ∙ ap2 (λ xs ys. xs ++ ys) (map_take bare i ds) (map_behind bare (map as_known (take k (drop i ds))) (drop k (drop i ds))
    ∙ ap2 (λ xs ys. xs ++ ys) (all_known (take k (drop i ds)) ∙ ap (map as_known) (map_take bare k (drop i ds) ∙ ap (take k) (map_drop bare i ds))) (map_drop bare k (drop i ds) ∙ ap (drop k) (map_drop bare i ds)))

pub between : (i j : ℕ) → Sim Equal (known_between i j) (known_between i j)
between i j c d h = (
  refl,
  record {
    number = h.number;
    loops = h.loops;
    declared = h.declared;
    variables = among i (j - i) c.variables ∙ ap (known_among i (j - i)) h.variables ∙ sym (among i (j - i) d.variables);
    names = h.names;
    annotations = h.annotations;
  },
)

-- ---- loops

pub looped : Sim Equal a_loop a_loop
looped c d h = (ap length h.loops, record { number = h.number; loops = ap (λ ls. ls ++ false ∷ []) h.loops; declared = h.declared; variables = h.variables; names = h.names; annotations = h.annotations })

pub led : (l : ℕ) → Sim Equal (leads l) (leads l)
led l c d h = (refl, record { number = h.number; loops = ap (λ ls. slice_set ls l true) h.loops; declared = h.declared; variables = h.variables; names = h.names; annotations = h.annotations })

pub left : (l : ℕ) → Sim Equal (is_left l) (is_left l)
left l c d h = (ap (λ ls. get_or ls l false) h.loops, h)

-- ---- annotations

pub annotated : (p : PatternTree) (y : Option TypeTree) → Sim Equal (annotates p y) (annotates (erase_pattern p) (option_map erase_type y))
annotated p None c d s = (refl, s)
annotated p (Some t) c d s = (
  refl,
  record {
    number = s.number;
    loops = s.loops;
    declared = s.declared;
    variables = s.variables;
    names = s.names;
    annotations = map_behind bare_annotation c.annotations (record { pattern = p; typ = t; variable = c.declared; names = c.names } ∷ []) ∙ ap2 (λ (xs : List Annotation) (b : Annotation). xs ++ b ∷ []) s.annotations
        (ap2 (λ (x : ℕ) (ns : List NodeNames). record { pattern = erase_pattern p; typ = erase_type t; variable = x; names = ns }) s.declared s.names);
  },
)
