-- What naming makes of the stages of variables.
use Rattle.std.proofs.Common.{◌≡◌, ℕ, zero, suc, ◌+◌, ◌≤◌, ◌<◌, Bool, List, [], ◌∷◌, ◌++◌, length, get_or, map, take, drop, slice_set, Option, Some, None, refl, sym, ap, ◌∙◌, ◌⊎◌, inl, inr, ⊎_elim, arith}
use Rattle.rx_core.specs.declared.types.Span.{Span}
use Rattle.rx_tree.specs.declared.tree.Ident.{Ident}
use Rattle.rx_tree.specs.Plain as plain
use Rattle.rx_tree.specs.Plain.{TypeTree, TypeTrees, PatternTree, PatternTrees, FieldPatterns}
use Rattle.rx_resolve_names.specs.declared.resolved.NodeNames.{NodeNames}
use Rattle.rx_typed.specs.declared.nodes.Site.{Site}
use Rattle.rx_typed.specs.declared.nodes.Stage.{Stage}
use Rattle.rx_typed.specs.declared.nodes.Declaration.{Declaration}
use Rattle.rx_typed.specs.Naming.{Cursor, taken, an_entry, a_node, declare, not_declared, as_known, known_among, lifetime_entry, of_type, of_types, of_optional_type, of_pattern, of_patterns, of_field_patterns}
use Rattle.rx_typed.specs.Elaborated.{variables, variables_in, variables_in_fields}
use Rattle.rx_typeck_solver.specs.Valid.{IsIn}
use Rattle.rx_typeck_typed.proofs.Telling.{in_left, in_right}

-- the stage of a variable by its number; one that was not declared is Given
abbrev pub stage : List Declaration → ℕ → Stage
stage vs x = (get_or vs x not_declared).stage

abbrev pub Counted : Cursor → Type 0
Counted c = c.declared ≡ length c.variables

pub known_given : {A : Type 0} → Stage.Known ≡ Stage.Given → A
known_given e = absurd (cc)

pub waits_given : {A : Type 0} (n : ℕ) (s : Span) → Stage.Given ≡ Stage.Waits n s → A
waits_given n s e = absurd (cc)

pub waits_known : {A : Type 0} (n : ℕ) (s : Span) → Stage.Waits n s ≡ Stage.Known → A
waits_known n s e = absurd (cc)

pub waits_no_given : {A : Type 0} (n : ℕ) (s : Span) → Stage.Waits n s ≡ Stage.Given → A
waits_no_given n s e = absurd (cc)

pub less_or : (x n : ℕ) → (x < n) ⊎ (n ≤ x)
less_or zero zero = inr (omega arith)
less_or zero (suc n) = inl (omega arith)
less_or (suc x) zero = inr (omega arith)
less_or (suc x) (suc n) = ⊎_elim (λ h. inl (omega arith)) (λ h. inr (omega arith)) (less_or x n)

-- one that waits was declared
pub waits_within : (vs : List Declaration) (x n : ℕ) (s : Span) → stage vs x ≡ Stage.Waits n s → x < length vs
waits_within [] zero n s e = waits_given n s e
waits_within [] (suc x) n s e = waits_given n s e
waits_within (v ∷ vs) zero n s e = omega arith
waits_within (v ∷ vs) (suc x) n s e = let r = waits_within vs x n s e in omega (arith, r)

pub known_inside : (vs : List Declaration) (x : ℕ) → stage vs x ≡ Stage.Known → x < length vs
known_inside [] zero e = known_given (sym e)
known_inside [] (suc x) e = known_given (sym e)
known_inside (v ∷ vs) zero e = omega arith
known_inside (v ∷ vs) (suc x) e = let r = known_inside vs x e in omega (arith, r)

-- ---- one variable more

pub behind_old : (vs : List Declaration) (d : Declaration) (x : ℕ) → x < length vs → stage (vs ++ d ∷ []) x ≡ stage vs x
behind_old [] d x h = absurd (omega (arith, h))
behind_old (v ∷ vs) d zero h = refl
behind_old (v ∷ vs) d (suc x) h = behind_old vs d x (omega (arith, h))

pub behind_new : (vs : List Declaration) (d : Declaration) (x : ℕ) → length vs ≤ x → ((x ≡ length vs) × (stage (vs ++ d ∷ []) x ≡ d.stage)) ⊎ ((length vs < x) × (stage (vs ++ d ∷ []) x ≡ Stage.Given))
behind_new [] d zero h = inl (refl, refl)
behind_new [] d (suc x) h = inr (omega arith, refl)
behind_new (v ∷ vs) d zero h = absurd (omega (arith, h))
behind_new (v ∷ vs) d (suc x) h = ⊎_elim (λ e. inl (ap suc e.0, e.1)) (λ e. let l = e.0 in inr (omega (arith, l), e.1)) (behind_new vs d x (omega (arith, h)))

pub longer_by : (vs : List Declaration) (d : Declaration) → length (vs ++ d ∷ []) ≡ suc (length vs)
longer_by [] d = refl
longer_by (v ∷ vs) d = ap suc (longer_by vs d)

-- ---- a variable's stage

-- the variable itself, another, or none that was declared
pub set_cases : (vs : List Declaration) (w : ℕ) (d : Declaration) (y : ℕ)
    → ((y ≡ w) × (stage (slice_set vs w d) y ≡ d.stage)) ⊎ (((y ≡ w → ⊥) × (stage (slice_set vs w d) y ≡ stage vs y)) ⊎ ((length vs ≤ y) × (y ≡ w)))
set_cases [] zero d zero = inr (inr (omega arith, refl))
set_cases [] zero d (suc y) = inr (inl (λ e. absurd (omega (arith, e)), refl))
set_cases [] (suc w) d zero = inr (inl (λ e. absurd (omega (arith, e)), refl))
set_cases [] (suc w) d (suc y) = set_none w y
  where
    set_none : (w y : ℕ) → ((suc y ≡ suc w) × (Stage.Given ≡ d.stage)) ⊎ (((suc y ≡ suc w → ⊥) × (Stage.Given ≡ Stage.Given)) ⊎ ((0 ≤ suc y) × (suc y ≡ suc w)))
    set_none zero zero = inr (inr (omega arith, refl))
    set_none zero (suc y) = inr (inl (λ e. absurd (omega (arith, e)), refl))
    set_none (suc w) zero = inr (inl (λ e. absurd (omega (arith, e)), refl))
    set_none (suc w) (suc y) = ⊎_elim (λ a. inl (ap suc a.0, a.1)) (λ b. inr (⊎_elim (λ c. inl (λ e. c.0 (omega (arith, e)), refl)) (λ c. inr (omega arith, ap suc c.1)) b)) (set_none w y)
set_cases (v ∷ vs) zero d zero = inl (refl, refl)
set_cases (v ∷ vs) zero d (suc y) = inr (inl (λ e. absurd (omega (arith, e)), refl))
set_cases (v ∷ vs) (suc w) d zero = inr (inl (λ e. absurd (omega (arith, e)), refl))
set_cases (v ∷ vs) (suc w) d (suc y) = ⊎_elim (λ a. inl (ap suc a.0, a.1)) (λ b. inr (⊎_elim (λ c. inl (λ e. c.0 (omega (arith, e)), c.1)) (λ c. let l = c.0 in inr (omega (arith, l), ap suc c.1)) b)) (set_cases vs w d y)

-- ---- variables from a number to another

-- within them, or unchanged where it is before or behind them, or was not declared
abbrev pub Among : ℕ → ℕ → List Declaration → ℕ → Type 0
Among i k vs x = ((i ≤ x) × (x < i + k) × (stage (known_among i k vs) x ≡ Stage.Known)) ⊎ (((x < i) ⊎ ((i + k ≤ x) ⊎ (length vs ≤ x))) × (stage (known_among i k vs) x ≡ stage vs x))

first_cases : (k : ℕ) (vs : List Declaration) (x : ℕ) → ((x < k) × (stage (map as_known (take k vs) ++ drop k vs) x ≡ Stage.Known)) ⊎ (((k ≤ x) ⊎ (length vs ≤ x)) × (stage (map as_known (take k vs) ++ drop k vs) x ≡ stage vs x))
first_cases zero vs x = inr (inl (omega arith), refl)
first_cases (suc k) [] x = inr (inr (omega arith), refl)
first_cases (suc k) (v ∷ vs) zero = inl (omega arith, refl)
first_cases (suc k) (v ∷ vs) (suc x) = ⊎_elim (λ a. let l = a.0 in inl (omega (arith, l), a.1)) (λ b. inr (⊎_elim (λ l. inl (omega (arith, l))) (λ l. inr (omega (arith, l))) b.0, b.1)) (first_cases k vs x)

pub among_cases : (i k : ℕ) (vs : List Declaration) (x : ℕ) → Among i k vs x
among_cases zero k vs x = ⊎_elim (λ a. let l = a.0 in inl (omega arith, omega (arith, l), a.1)) (λ b. inr (inr (⊎_elim (λ l. inl (omega (arith, l))) (λ l. inr l) b.0), b.1)) (first_cases k vs x)
among_cases (suc i) zero [] x = inr (inr (inr (omega arith)), refl)
among_cases (suc i) (suc k) [] x = inr (inr (inr (omega arith)), refl)
among_cases (suc i) k (v ∷ vs) zero = inr (inl (omega arith), refl)
among_cases (suc i) k (v ∷ vs) (suc x) = ⊎_elim (λ a. let l = a.0 in let u = a.1 in inl (omega (arith, l), omega (arith, u), a.2))
    (λ b. inr (⊎_elim (λ l. inl (omega (arith, l))) (λ c. inr (⊎_elim (λ l. inl (omega (arith, l))) (λ l. inr (omega (arith, l))) c)) b.0, b.1)) (among_cases i k vs x)

pub among_length : (i k : ℕ) (vs : List Declaration) → length (known_among i k vs) ≡ length vs
among_length zero k vs = first_length k vs
  where
    first_length : (k : ℕ) (vs : List Declaration) → length (map as_known (take k vs) ++ drop k vs) ≡ length vs
    first_length zero vs = refl
    first_length (suc k) [] = refl
    first_length (suc k) (v ∷ vs) = ap suc (first_length k vs)
among_length (suc i) zero [] = refl
among_length (suc i) (suc k) [] = refl
among_length (suc i) k (v ∷ vs) = ap suc (among_length i k vs)

-- ---- steps that leave the variables as they are

pub record Still (c c' : Cursor) : Type 0 where
  pub variables : c'.variables ≡ c.variables
  pub declared : c'.declared ≡ c.declared

pub still_then : {c c1 c2 : Cursor} → Still c c1 → Still c1 c2 → Still c c2
still_then a b = record { variables = b.variables ∙ a.variables; declared = b.declared ∙ a.declared }

pub node_still : (s : Span) (t : Site) (c : Cursor) → Still c (a_node s t c).1
node_still s t c = record { variables = refl; declared = refl }

taken_still : (ns : List NodeNames) (c : Cursor) → Still c (taken ns c).1
taken_still [] c = record { variables = refl; declared = refl }
taken_still (n ∷ ns) c = record { variables = refl; declared = refl }

pub entry_still : (c : Cursor) → Still c (an_entry c).1
entry_still c = taken_still c.names c

lifetime_still : (l : Option Ident) (c : Cursor) → Still c (lifetime_entry l c).1
lifetime_still None c = record { variables = refl; declared = refl }
lifetime_still (Some l) c = entry_still c

mutual
  pub type_still : (t : TypeTree) (c : Cursor) → Still c (of_type t c).1
  type_still (plain.kind_type s k) c = record { variables = refl; declared = refl }
  type_still (plain.bool_type s) c = record { variables = refl; declared = refl }
  type_still (plain.tuple_type s ts) c = still_then (node_still s Site.Value c) (types_still ts _)
  type_still (plain.ref_type s l m t) c = still_then (node_still s Site.Value c) (still_then (lifetime_still l _) (type_still t _))
  type_still (plain.named_type s x ls) c = still_then (node_still s Site.Value c) (entry_still _)

  types_still : (ts : TypeTrees) (c : Cursor) → Still c (of_types ts c).1
  types_still plain.no_type c = record { variables = refl; declared = refl }
  types_still (plain.type_and t ts) c = still_then (type_still t c) (types_still ts _)

pub optional_type_still : (t : Option TypeTree) (c : Cursor) → Still c (of_optional_type t c).1
optional_type_still None c = record { variables = refl; declared = refl }
optional_type_still (Some t) c = type_still t c

-- ---- patterns declare variables that are Given

pub record Declares (c c' : Cursor) (xs : List ℕ) : Type 0 where
  pub grows : c.declared ≤ c'.declared
  pub counted : Counted c → Counted c'
  pub longer : length c.variables ≤ length c'.variables
  pub old : (x : ℕ) → x < length c.variables → stage c'.variables x ≡ stage c.variables x
  pub new : (x : ℕ) → length c.variables ≤ x → stage c'.variables x ≡ Stage.Given
  pub all : (x : ℕ) → c.declared ≤ x → x < c'.declared → IsIn x xs

past_given : (vs : List Declaration) (x : ℕ) → length vs ≤ x → stage vs x ≡ Stage.Given
past_given [] zero h = refl
past_given [] (suc x) h = refl
past_given (v ∷ vs) zero h = absurd (omega (arith, h))
past_given (v ∷ vs) (suc x) h = past_given vs x (omega (arith, h))

declares_then : {c c1 c2 : Cursor} {xs ys : List ℕ} → Declares c c1 xs → Declares c1 c2 ys → Declares c c2 (xs ++ ys)
declares_then {c} {c1} {c2} {xs} {ys} a b = record {
  grows = let p = a.grows in let q = b.grows in omega (arith, p, q);
  counted = λ e. b.counted (a.counted e);
  longer = let p = a.longer in let q = b.longer in omega (arith, p, q);
  old = λ x l. let p = a.longer in b.old x (omega (arith, l, p)) ∙ a.old x l;
  new = λ x l. ⊎_elim (λ h. b.old x h ∙ a.new x l) (λ h. b.new x h) (less_or x (length c1.variables));
  all = λ x l u. ⊎_elim (λ h. in_left x xs ys (a.all x l h)) (λ h. in_right x xs ys (b.all x h u)) (less_or x c1.declared);
}

still_declares : {c c' : Cursor} → Still c c' → Declares c c' []
still_declares {c} {c'} s =
    let d = s.declared in
    let v = s.variables in
    let n : length c'.variables ≡ length c.variables = ap (λ (vs : List Declaration). length vs) v in record {
      grows = omega (arith, d);
      counted = λ e. d ∙ e ∙ sym n;
      longer = omega (arith, n);
      old = λ x l. ap (λ (vs : List Declaration). stage vs x) v;
      new = λ x l. ap (λ (vs : List Declaration). stage vs x) v ∙ past_given c.variables x l;
      all = λ x l u. absurd (omega (arith, l, u, d));
    }

one_declares : (m : Bool) (c : Cursor) → Declares c (declare (record { mutable = m; stage = Stage.Given }) c).1 (c.declared ∷ [])
one_declares m c =
    let d : Declaration = record { mutable = m; stage = Stage.Given } in record {
      grows = omega arith;
      counted = λ e. ap suc e ∙ sym (longer_by c.variables d);
      longer = let n = longer_by c.variables d in omega (arith, n);
      old = λ x l. behind_old c.variables d x l;
      new = λ x l. ⊎_elim (λ e. e.1) (λ e. e.1) (behind_new c.variables d x l);
      all = λ x l u. inl (omega (arith, l, u));
    }

mutual
  pub pattern_declares : (p : PatternTree) (c : Cursor) → Declares c (of_pattern p c).1 (variables (of_pattern p c).0)
  pattern_declares (plain.wild s) c = still_declares (node_still s Site.Value c)
  pattern_declares (plain.bind s x m) c = declares_then (still_declares (still_then (node_still s Site.Value c) (entry_still _))) (one_declares m _)
  pattern_declares (plain.int_pattern s g v k) c = still_declares (node_still s Site.Value c)
  pattern_declares (plain.bool_pattern s b) c = still_declares (node_still s Site.Value c)
  pattern_declares (plain.tuple_pattern s ps) c = declares_then (still_declares (node_still s Site.Value c)) (patterns_declare ps _)
  pattern_declares (plain.variant_pattern s a v ps) c = declares_then (still_declares (still_then (node_still s Site.Value c) (entry_still _))) (patterns_declare ps _)
  pattern_declares (plain.make_pattern s x fs) c = declares_then (still_declares (still_then (node_still s Site.Value c) (entry_still _))) (field_patterns_declare fs _)

  patterns_declare : (ps : PatternTrees) (c : Cursor) → Declares c (of_patterns ps c).1 (variables_in (of_patterns ps c).0)
  patterns_declare plain.no_pattern c = still_declares (record { variables = refl; declared = refl })
  patterns_declare (plain.pattern_and p ps) c = declares_then (pattern_declares p c) (patterns_declare ps _)

  field_patterns_declare : (fs : FieldPatterns) (c : Cursor) → Declares c (of_field_patterns fs c).1 (variables_in_fields (of_field_patterns fs c).0)
  field_patterns_declare plain.no_field_pattern c = still_declares (record { variables = refl; declared = refl })
  field_patterns_declare (plain.field_pattern_and x p fs) c = declares_then (pattern_declares p c) (field_patterns_declare fs _)
