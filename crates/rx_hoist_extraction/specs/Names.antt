-- The names that patterns and statements bind (Rust Reference, "Patterns", "Identifier patterns"; "Statements", "let statements").
use Rattle.std.specs.Prelude.{◌≡◌, ℕ, Bool, false, ◌||◌, List, [], ◌∷◌, ◌++◌}
use Rattle.std.specs.Str.{bytes_eq}
use Rattle.rx_tree.specs.Plain as plain
use Rattle.rx_tree.specs.Plain.{PatternTree, PatternTrees, FieldPatterns, Statement, Statements}

-- names, the newest first where they are in scope
abbrev pub Names : Type 0
Names = List (List ℕ)

abbrev pub is_among : List ℕ → Names → Bool
is_among x [] = false
is_among x (y ∷ ys) = bytes_eq x y || is_among x ys

-- no two are the same
abbrev pub Distinct : Names → Type 0
Distinct [] = Unit {0}
Distinct (x ∷ xs) = (is_among x xs ≡ false) × Distinct xs

-- ---- what is bound

abbrev mutual
  pub bound : PatternTree → Names
  bound (plain.wild s) = []
  bound (plain.bind s x m) = x.name ∷ []
  bound (plain.int_pattern s g v k) = []
  bound (plain.bool_pattern s b) = []
  bound (plain.tuple_pattern s ps) = all_bound ps
  bound (plain.variant_pattern s a v ps) = all_bound ps
  bound (plain.make_pattern s n fs) = fields_bound fs

  pub all_bound : PatternTrees → Names
  all_bound plain.no_pattern = []
  all_bound (plain.pattern_and p ps) = bound p ++ all_bound ps

  pub fields_bound : FieldPatterns → Names
  fields_bound plain.no_field_pattern = []
  fields_bound (plain.field_pattern_and x p fs) = bound p ++ fields_bound fs

abbrev pub bound_by : Statement → Names
bound_by (plain.let_statement s p t o) = bound p
bound_by (plain.expression_statement s e b) = []

-- what is in scope behind statements
abbrev pub behind_all : Names → Statements → Names
behind_all own plain.no_statement = own
behind_all own (plain.statement_and a ss) = behind_all (bound_by a ++ own) ss

-- what direct statements declare, in the order of the text
abbrev pub declared_by : List Statement → Names
declared_by [] = []
declared_by (a ∷ ss) = bound_by a ++ declared_by ss
