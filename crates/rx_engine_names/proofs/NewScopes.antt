-- The scope of the new function where the copy of the run begins: its params, and then its locals, each with a name of its own. By
-- induction on each list.
use Rattle.std.proofs.lemmas.Bool.{or_parts, or_from}
use Rattle.std.proofs.lemmas.Slice.Eq.{bytes_eq-Decides}
use Rattle.std.proofs.Common.{◌≡◌, ℕ, suc, Bool, true, false, ◌||◌, if◌then◌else◌, List, [], ◌∷◌, ◌++◌, length, Option, Some, None, inl, inr, refl, sym, ap, ◌∙◌, subst, bytes_eq}
use Rattle.rx_core.specs.declared.types.Span.{Span}
use Rattle.rx_tree.specs.Lists.{Every}
use Rattle.rx_resolve_names.specs.Scopes.{DeclaredNames, Variables, variable_named, entered}
use Rattle.rx_resolve_names.specs.Meant.{number, Around}
use Rattle.rx_resolve_names.specs.Steps.{next}
use Rattle.rx_hoist_extraction.specs.Names.{Names, Distinct, is_among}
use Rattle.rx_hoist_extraction.specs.Plan.{Variable, Param, Plan, names_of}
use Rattle.rx_hoist_extraction.specs.Moved.{is_referred, referred}
use Rattle.rx_engine_names.specs.Renaming.{Pairs, Has}
use Rattle.rx_engine_names.specs.Moves.{Paired, StartsAlike}
use Rattle.rx_engine_names.specs.NewFunction.{paired, referred_paired, others_paired, locals_paired, param_names, moves_by, begun}
use Rattle.rx_engine_names.proofs.Scoped.{among_append}
use Rattle.rx_engine_names.proofs.ExtractionItems.{every_front}
use Rattle.rx_engine_names.proofs.Parameters.{number_twice, number_next}

-- ---- names told apart

pub is_name : (x y : List ℕ) → bytes_eq x y ≡ true → x ≡ y
is_name x y e = (bytes_eq-Decides x y).0 e

pub same_name : (x : List ℕ) → bytes_eq x x ≡ true
same_name x = (bytes_eq-Decides x x).1 refl

pub among_not : (x : List ℕ) (xs ys : Names) → is_among x (xs ++ ys) ≡ false → (is_among x xs ≡ false) × (is_among x ys ≡ false)
among_not x xs ys e = or_parts (is_among x xs) (is_among x ys) (sym (among_append x xs ys) ∙ e)

pub distinct_front : (xs ys : Names) → Distinct (xs ++ ys) → Distinct xs
distinct_front [] ys d = tt
distinct_front (x ∷ xs) ys d = ((among_not x xs ys d.0).0, distinct_front xs ys d.1)

pub distinct_back : (xs ys : Names) → Distinct (xs ++ ys) → Distinct ys
distinct_back [] ys d = d
distinct_back (x ∷ xs) ys d = distinct_back xs ys d.1

-- what is in one is not in the other
pub distinct_apart : (xs ys : Names) (y : List ℕ) → Distinct (xs ++ ys) → is_among y ys ≡ true → is_among y xs ≡ false
distinct_apart [] ys y d e = refl
distinct_apart (x ∷ xs) ys y d e = or_from (bytes_eq y x) (is_among y xs) (by (bytes_eq y x) refl) (distinct_apart xs ys y d.1 e)
  where
    by : (b : Bool) → bytes_eq y x ≡ b → b ≡ false
    by true h =
        let f : is_among y ys ≡ false = subst (λ (z : List ℕ). is_among z ys ≡ false) (sym (is_name y x h)) (among_not x xs ys d.0).1 in
        sym e ∙ f
    by false h = refl

-- ---- pairs in a row

pub has_left : (ps qs : Pairs) (a b : ℕ) → Has ps a b → Has (ps ++ qs) a b
has_left [] qs a b h = absurd h
has_left (p ∷ ps) qs a b (inl h) = inl h
has_left (p ∷ ps) qs a b (inr h) = inr (has_left ps qs a b h)

pub has_right : (ps qs : Pairs) (a b : ℕ) → Has qs a b → Has (ps ++ qs) a b
has_right [] qs a b h = h
has_right (p ∷ ps) qs a b h = inr (has_right ps qs a b h)

-- a variable that is found has its pairs
pub paired_declared : (o : Option ℕ) (n a : ℕ) → o ≡ Some a → Has (paired o n) a n
paired_declared o n a e = subst (λ (z : Option ℕ). Has (paired z n) a n) (sym e) (inl (inl (refl, refl)))

pub paired_named : (o : Option ℕ) (n a : ℕ) → o ≡ Some a → Has (paired o n) a (number n)
paired_named o n a e = subst (λ (z : Option ℕ). Has (paired z n) a (number n)) (sym e) (inr (inl (inl (refl, refl))))

-- ---- params

-- how they are declared, from place i on
abbrev pub params_declared : Span → ℕ → List Param → DeclaredNames
params_declared s i [] = []
params_declared s i (x ∷ xs) = (x.variable.name, record { number = number i; span = s }) ∷ params_declared s (next i) xs

not_referred : (xs : List Param) (y : List ℕ) → is_among y (param_names xs) ≡ false → is_among y (referred xs) ≡ false
not_referred [] y e = refl
not_referred (x ∷ xs) y e = let p = or_parts (bytes_eq y x.variable.name) (is_among y (param_names xs)) e in by (is_referred x.mode) p.0 (not_referred xs y p.1)
  where
    by : (b : Bool) → bytes_eq y x.variable.name ≡ false → is_among y (referred xs) ≡ false → is_among y (if b then x.variable.name ∷ referred xs else referred xs) ≡ false
    by true g h = or_from (bytes_eq y x.variable.name) (is_among y (referred xs)) g h
    by false g h = h

-- other names mean what they meant
pub other_than_params : (s : Span) (i : ℕ) (xs : List Param) (sc : Variables) (y : List ℕ) → is_among y (param_names xs) ≡ false → variable_named (entered sc (params_declared s i xs)) y ≡ variable_named sc y
other_than_params s i [] sc y e = refl
other_than_params s i (x ∷ xs) sc y e =
    let p = or_parts (bytes_eq y x.variable.name) (is_among y (param_names xs)) e in
    other_than_params s (next i) xs (record { name = x.variable.name; number = number i } ∷ sc) y p.1 ∙ ap (λ (b : Bool). if b then Some (number i) else variable_named sc y) p.0

-- a name means variables that correspond
abbrev pub MeansBoth : Pairs → Pairs → Bool → Variables → Variables → List ℕ → Type 0
MeansBoth B O r sc sc' y = (a : ℕ) × (b : ℕ) × (variable_named sc y ≡ Some a) × (variable_named sc' y ≡ Some b) × Paired B (record { variables = O; loops = []; passages = [] }) r a b

param_means : (text : Variables) (s : Span) (n i : ℕ) → i ≡ number n → (xs : List Param) (sc : Variables) → Distinct (param_names xs) → Every (λ (x : List ℕ). (a : ℕ) × (variable_named text x ≡ Some a)) (param_names xs) → (y : List ℕ) → is_among y (param_names xs) ≡ true
    → MeansBoth (referred_paired text n xs) (others_paired text n xs) (is_among y (referred xs)) text (entered sc (params_declared s i xs)) y
param_means text s n i place [] sc d m y e = absurd (cc)
param_means text s n i place (x ∷ xs) sc d m y e =
    by (bytes_eq y x.variable.name) refl e (param_means text s (suc n) (next i) (ap (λ k. number (suc k)) place ∙ number_next n) xs (record { name = x.variable.name; number = number i } ∷ sc) d.1 m.1 y)
  where
    here : is_among y (param_names xs) ≡ false → bytes_eq y x.variable.name ≡ true → variable_named (entered (record { name = x.variable.name; number = number i } ∷ sc) (params_declared s (next i) xs)) y ≡ Some (number n)
    here f g = other_than_params s (next i) xs (record { name = x.variable.name; number = number i } ∷ sc) y f ∙ ap (λ (b : Bool). if b then Some (number i) else variable_named sc y) g ∙ ap (λ k. Some (number k)) place ∙ ap (λ k. Some k) (number_twice n)

    -- it is this one
    this : (r : Bool) → is_among y (param_names xs) ≡ false → bytes_eq y x.variable.name ≡ true → (a : ℕ) → variable_named text y ≡ Some a
        → MeansBoth ((if r then paired (variable_named text x.variable.name) n else []) ++ referred_paired text (suc n) xs) ((if r then [] else paired (variable_named text x.variable.name) n) ++ others_paired text (suc n) xs)
        (is_among y (if r then x.variable.name ∷ referred xs else referred xs)) text (entered (record { name = x.variable.name; number = number i } ∷ sc) (params_declared s (next i) xs)) y
    this true f g a h =
        let t : variable_named text x.variable.name ≡ Some a = ap (variable_named text) (sym (is_name y x.variable.name g)) ∙ h in
        let B = paired (variable_named text x.variable.name) n ++ referred_paired text (suc n) xs in (
          a,
          number n,
          h,
          here f g,
          subst (λ (c : Bool). Paired B (record { variables = others_paired text (suc n) xs; loops = []; passages = [] }) c a (number n)) (sym (ap (λ (c : Bool). c || is_among y (referred xs)) g))
              (has_left (paired (variable_named text x.variable.name) n) (referred_paired text (suc n) xs) a (number n) (paired_named (variable_named text x.variable.name) n a t)),
        )
    this false f g a h =
        let t : variable_named text x.variable.name ≡ Some a = ap (variable_named text) (sym (is_name y x.variable.name g)) ∙ h in
        let O = paired (variable_named text x.variable.name) n ++ others_paired text (suc n) xs in (
          a,
          number n,
          h,
          here f g,
          subst (λ (c : Bool). Paired (referred_paired text (suc n) xs) (record { variables = O; loops = []; passages = [] }) c a (number n)) (sym (not_referred xs y f))
              (has_left (paired (variable_named text x.variable.name) n) (others_paired text (suc n) xs) a (number n) (paired_named (variable_named text x.variable.name) n a t)),
        )

    -- it is one of the others
    wider : (ps qs : Pairs) (r : Bool) (a b : ℕ) → Paired (referred_paired text (suc n) xs) (record { variables = others_paired text (suc n) xs; loops = []; passages = [] }) r a b
        → Paired (ps ++ referred_paired text (suc n) xs) (record { variables = qs ++ others_paired text (suc n) xs; loops = []; passages = [] }) r a b
    wider ps qs true a b h = has_right ps (referred_paired text (suc n) xs) a b h
    wider ps qs false a b h = has_right qs (others_paired text (suc n) xs) a b h

    same_flag : (r : Bool) → bytes_eq y x.variable.name ≡ false → is_among y (if r then x.variable.name ∷ referred xs else referred xs) ≡ is_among y (referred xs)
    same_flag true g = ap (λ (c : Bool). c || is_among y (referred xs)) g
    same_flag false g = refl

    by : (c : Bool) → bytes_eq y x.variable.name ≡ c → (c || is_among y (param_names xs)) ≡ true
        → (is_among y (param_names xs) ≡ true → MeansBoth (referred_paired text (suc n) xs) (others_paired text (suc n) xs) (is_among y (referred xs)) text (entered (record { name = x.variable.name; number = number i } ∷ sc) (params_declared s (next i) xs)) y)
        → MeansBoth (referred_paired text n (x ∷ xs)) (others_paired text n (x ∷ xs)) (is_among y (referred (x ∷ xs))) text (entered (record { name = x.variable.name; number = number i } ∷ sc) (params_declared s (next i) xs)) y
    by true g h rest =
        let f : is_among y (param_names xs) ≡ false = subst (λ (w : List ℕ). is_among w (param_names xs) ≡ false) (sym (is_name y x.variable.name g)) d.0 in
        this (is_referred x.mode) f g m.0.0 (ap (variable_named text) (is_name y x.variable.name g) ∙ m.0.1)
    by false g h rest =
        let r = rest h in (
          r.0,
          r.1,
          r.2,
          r.3,
          subst (λ (c : Bool). Paired (referred_paired text n (x ∷ xs)) (record { variables = others_paired text n (x ∷ xs); loops = []; passages = [] }) c r.0 r.1) (sym (same_flag (is_referred x.mode) g))
              (wider (if is_referred x.mode then paired (variable_named text x.variable.name) n else []) (if is_referred x.mode then [] else paired (variable_named text x.variable.name) n) (is_among y (referred xs)) r.0 r.1 r.4),
        )

-- ---- locals

-- the scope behind their `let`s; the next variable has number n
abbrev pub behind_lets : ℕ → List Variable → Variables → Variables
behind_lets n [] sc = sc
behind_lets n (v ∷ vs) sc = behind_lets (suc n) vs (record { name = v.name; number = number n } ∷ sc)

pub other_than_locals : (n : ℕ) (vs : List Variable) (sc : Variables) (y : List ℕ) → is_among y (names_of vs) ≡ false → variable_named (behind_lets n vs sc) y ≡ variable_named sc y
other_than_locals n [] sc y e = refl
other_than_locals n (v ∷ vs) sc y e =
    let p = or_parts (bytes_eq y v.name) (is_among y (names_of vs)) e in
    other_than_locals (suc n) vs (record { name = v.name; number = number n } ∷ sc) y p.1 ∙ ap (λ (b : Bool). if b then Some (number n) else variable_named sc y) p.0

local_means : (text : Variables) (n : ℕ) (vs : List Variable) (sc : Variables) → Distinct (names_of vs) → Every (λ (x : List ℕ). (a : ℕ) × (variable_named text x ≡ Some a)) (names_of vs) → (y : List ℕ) → is_among y (names_of vs) ≡ true
    → (a : ℕ) × (b : ℕ) × (variable_named text y ≡ Some a) × (variable_named (behind_lets n vs sc) y ≡ Some b) × Has (locals_paired text n vs) a b
local_means text n [] sc d m y e = absurd (cc)
local_means text n (v ∷ vs) sc d m y e = by (bytes_eq y v.name) refl e (local_means text (suc n) vs (record { name = v.name; number = number n } ∷ sc) d.1 m.1 y)
  where
    by : (c : Bool) → bytes_eq y v.name ≡ c → (c || is_among y (names_of vs)) ≡ true
        → (is_among y (names_of vs) ≡ true → (a : ℕ) × (b : ℕ) × (variable_named text y ≡ Some a) × (variable_named (behind_lets (suc n) vs (record { name = v.name; number = number n } ∷ sc)) y ≡ Some b) × Has (locals_paired text (suc n) vs) a b)
        → (a : ℕ) × (b : ℕ) × (variable_named text y ≡ Some a) × (variable_named (behind_lets n (v ∷ vs) sc) y ≡ Some b) × Has (locals_paired text n (v ∷ vs)) a b
    by true g h rest =
        let f : is_among y (names_of vs) ≡ false = subst (λ (w : List ℕ). is_among w (names_of vs) ≡ false) (sym (is_name y v.name g)) d.0 in (
          m.0.0,
          number n,
          ap (variable_named text) (is_name y v.name g) ∙ m.0.1,
          other_than_locals (suc n) vs (record { name = v.name; number = number n } ∷ sc) y f ∙ ap (λ (b : Bool). if b then Some (number n) else variable_named sc y) g,
          has_left (paired (variable_named text v.name) n) (locals_paired text (suc n) vs) m.0.0 (number n) (paired_named (variable_named text v.name) n m.0.0 m.0.1),
        )
    by false g h rest =
        let r = rest h in
        (r.0, r.1, r.2, r.3, has_right (paired (variable_named text v.name) n) (locals_paired text (suc n) vs) r.0 r.1 r.4)

-- ---- both

-- where the copy of the run begins
abbrev pub start_of : Plan → Span → Variables
start_of pl s = behind_lets (length pl.params) pl.locals (entered [] (params_declared s 0 pl.params))

module _ (pl : Plan) (s : Span) (ls : List Around) (text : Variables) (enum : ℕ) where
  abbrev P : Names
  P = param_names pl.params

  abbrev O : Names
  O = names_of pl.locals

  pub starts_alike : Distinct (P ++ O) → Every (λ (x : List ℕ). (a : ℕ) × (variable_named text x ≡ Some a)) (P ++ O) → StartsAlike (moves_by pl s ls text enum) (begun pl text) (start_of pl s)
  starts_alike d m y e = by (is_among y O) refl (sym (among_append y P O) ∙ e)
    where
      outer : Variables
      outer = entered [] (params_declared s 0 pl.params)

      widened : (r : Bool) (a b : ℕ) → Paired (referred_paired text 0 pl.params) (record { variables = others_paired text 0 pl.params; loops = []; passages = [] }) r a b → Paired (referred_paired text 0 pl.params) (begun pl text) r a b
      widened true a b h = h
      widened false a b h = has_left (others_paired text 0 pl.params) (locals_paired text (length pl.params) pl.locals) a b h

      not_right : (b : Bool) → (b || false) ≡ true → b ≡ true
      not_right true h = refl
      not_right false h = h

      by : (c : Bool) → is_among y O ≡ c → (is_among y P || c) ≡ true
          → (a : ℕ) × (b : ℕ) × (variable_named text y ≡ Some a) × (variable_named (start_of pl s) y ≡ Some b) × Paired (referred_paired text 0 pl.params) (begun pl text) (is_among y (referred pl.params)) a b
      by true g h =
          let r = local_means text (length pl.params) pl.locals outer (distinct_back P O d) (every_front (λ (x : List ℕ). (a : ℕ) × (variable_named text x ≡ Some a)) P O m).1 y g in (
            r.0,
            r.1,
            r.2,
            r.3,
            subst (λ (c : Bool). Paired (referred_paired text 0 pl.params) (begun pl text) c r.0 r.1) (sym (not_referred pl.params y (distinct_apart P O y d g)))
                (has_right (others_paired text 0 pl.params) (locals_paired text (length pl.params) pl.locals) r.0 r.1 r.4),
          )
      by false g h =
          let r = param_means text s 0 0 refl pl.params [] (distinct_front P O d) (every_front (λ (x : List ℕ). (a : ℕ) × (variable_named text x ≡ Some a)) P O m).0 y (not_right (is_among y P) h) in
          (r.0, r.1, r.2, other_than_locals (length pl.params) pl.locals outer y g ∙ r.3, widened (is_among y (referred pl.params)) r.0 r.1 r.4)

  -- other names mean nothing there
  pub nothing_else : (y : List ℕ) → is_among y (P ++ O) ≡ false → variable_named (start_of pl s) y ≡ None
  nothing_else y e = let p = among_not y P O e in
      other_than_locals (length pl.params) pl.locals (entered [] (params_declared s 0 pl.params)) y p.1 ∙ other_than_params s 0 pl.params [] y p.0
