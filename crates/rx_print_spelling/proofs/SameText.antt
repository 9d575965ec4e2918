-- What a tree is spelled as, its levels, and whether it is formed, are the same for trees that are equal apart from spans: nothing but spans is erased.
use Rattle.std.proofs.Common.{◌≡◌, ℕ, suc, Bool, true, false, List, [], ◌∷◌, Option, Some, None, map, refl, sym, ap, ◌∙◌}
use Rattle.std.specs.Prelude.{option_map}
use Rattle.rx_tree.specs.declared.tree.Ident.{Ident}
use Rattle.rx_tree.specs.declared.tree.BoundLifetime.{BoundLifetime}
use Rattle.rx_tree.specs.Plain as plain
use Rattle.rx_tree.specs.Plain.{TypeTree, TypeTrees, PatternTree, PatternTrees, FieldPatterns, Expression, Expressions, OptionalExpression, OptionalExpressions, FieldExpressions, Arms, Body, Statement, Statements, Parameter, Function, FieldOf, Structure, VariantOf, Enumeration, ItemTree, ProgramTree}
use Rattle.rx_tree.specs.Erase.{erase, erase_all, erase_optional, erase_optional_list, erase_fields, erase_arms, erase_body, erase_statement, erase_statements, erase_type, erase_types, erase_pattern, erase_patterns, erase_field_patterns, erase_label, erase_ident, erase_lifetime, erase_parameter, erase_field, erase_variant, erase_structure, erase_enumeration, erase_function, erase_item, erase_program, SameProgram}
use Rattle.rx_print_spelling.specs.Pieces.{flat}
use Rattle.rx_print_spelling.specs.Types.{type_pieces, each_type, lifetime_pieces, argument_pieces, arguments_pieces, is_reference, is_bare, annotation_pieces}
use Rattle.rx_print_spelling.specs.Patterns.{pattern_pieces, each_pattern, each_field_pattern}
use Rattle.rx_print_spelling.specs.Places.{weakness, is_open, is_like, is_block, begins, unfit, goes_on}
use Rattle.rx_print_spelling.specs.Expressions.{pieces, each, each_field, optional_list, arms, block, statement, statements, tail, initial, otherwise, returned, label_pieces, target_pieces, is_empty, is_borrow}
use Rattle.rx_print_spelling.specs.Items.{one_lifetime, bounds_pieces, behind_lifetime, bound_pieces, field_pieces, structure_pieces, variant_pieces, enumeration_pieces, parameter_pieces, result_pieces, function_pieces, item_pieces, after_item, program_pieces, print_program}

-- ---- types and patterns

same_reference : (t : TypeTree) → is_reference (erase_type t) ≡ is_reference t
same_reference (plain.ref_type s l m t) = refl
same_reference (plain.kind_type s k) = refl
same_reference (plain.bool_type s) = refl
same_reference (plain.tuple_type s ts) = refl
same_reference (plain.named_type s n ls) = refl

same_bare : (l : Option Ident) (m : Bool) → is_bare (erase_label l) m ≡ is_bare l m
same_bare None m = refl
same_bare (Some l) m = refl

same_lifetime : (l : Option Ident) → lifetime_pieces (erase_label l) ≡ lifetime_pieces l
same_lifetime None = refl
same_lifetime (Some l) = refl

same_argument : (l : Option Ident) → argument_pieces (erase_label l) ≡ argument_pieces l
same_argument None = refl
same_argument (Some l) = refl

same_given : (ls : List (Option Ident)) → map argument_pieces (map erase_label ls) ≡ map argument_pieces ls
same_given [] = refl
same_given (l ∷ ls) = rw (same_argument l, same_given ls) refl

same_arguments : (ls : Option (List (Option Ident))) → arguments_pieces (option_map (map erase_label) ls) ≡ arguments_pieces ls
same_arguments None = refl
same_arguments (Some ls) = rw (same_given ls) refl

mutual
  same_type : (t : TypeTree) (b : Bool) → type_pieces b (erase_type t) ≡ type_pieces b t
  same_type (plain.kind_type s k) b = refl
  same_type (plain.bool_type s) b = refl
  same_type (plain.tuple_type s ts) b = rw (same_types ts) refl
  same_type (plain.ref_type s l m t) b = rw (same_type t false, same_type t true, same_reference t, same_bare l m, same_lifetime l) refl
  same_type (plain.named_type s n ls) b = rw (same_arguments ls) refl

  same_types : (ts : TypeTrees) → each_type (erase_types ts) ≡ each_type ts
  same_types plain.no_type = refl
  same_types (plain.type_and t ts) = rw (same_type t false, same_types ts) refl

same_annotation : (t : Option TypeTree) → annotation_pieces (option_map erase_type t) ≡ annotation_pieces t
same_annotation None = refl
same_annotation (Some t) = rw (same_type t false) refl

mutual
  same_pattern : (p : PatternTree) → pattern_pieces (erase_pattern p) ≡ pattern_pieces p
  same_pattern (plain.wild s) = refl
  same_pattern (plain.bind s n m) = refl
  same_pattern (plain.int_pattern s g v k) = refl
  same_pattern (plain.bool_pattern s b) = refl
  same_pattern (plain.tuple_pattern s ps) = rw (same_patterns ps) refl
  same_pattern (plain.variant_pattern s a v ps) = rw (same_patterns ps) refl
  same_pattern (plain.make_pattern s n fs) = rw (same_field_patterns fs) refl

  same_patterns : (ps : PatternTrees) → each_pattern (erase_patterns ps) ≡ each_pattern ps
  same_patterns plain.no_pattern = refl
  same_patterns (plain.pattern_and p ps) = rw (same_pattern p, same_patterns ps) refl

  same_field_patterns : (fs : FieldPatterns) → each_field_pattern (erase_field_patterns fs) ≡ each_field_pattern fs
  same_field_patterns plain.no_field_pattern = refl
  same_field_patterns (plain.field_pattern_and n p fs) = rw (same_pattern p, same_field_patterns fs) refl

-- ---- what places ask of an expression

pub record Alike (e f : Expression) : Type 0 where
  pub weakness_is : weakness e ≡ weakness f
  pub like_is : is_like e ≡ is_like f
  pub block_is : is_block e ≡ is_block f
  pub borrow_is : is_borrow e ≡ is_borrow f

pub alike : (e : Expression) → Alike (erase e) e
alike (plain.int s v k) = record { weakness_is = refl; like_is = refl; block_is = refl; borrow_is = refl }
alike (plain.bool s b) = record { weakness_is = refl; like_is = refl; block_is = refl; borrow_is = refl }
alike (plain.tuple s es) = record { weakness_is = refl; like_is = refl; block_is = refl; borrow_is = refl }
alike (plain.var s x) = record { weakness_is = refl; like_is = refl; block_is = refl; borrow_is = refl }
alike (plain.field s e n) = record { weakness_is = refl; like_is = refl; block_is = refl; borrow_is = refl }
alike (plain.part s e i) = record { weakness_is = refl; like_is = refl; block_is = refl; borrow_is = refl }
alike (plain.deref s e) = record { weakness_is = refl; like_is = refl; block_is = refl; borrow_is = refl }
alike (plain.negate s e) = record { weakness_is = refl; like_is = refl; block_is = refl; borrow_is = refl }
alike (plain.invert s e) = record { weakness_is = refl; like_is = refl; block_is = refl; borrow_is = refl }
alike (plain.borrow s m e) = record { weakness_is = refl; like_is = refl; block_is = refl; borrow_is = refl }
alike (plain.binary s o a b) = record { weakness_is = refl; like_is = refl; block_is = refl; borrow_is = refl }
alike (plain.assign s a b) = record { weakness_is = refl; like_is = refl; block_is = refl; borrow_is = refl }
alike (plain.update s o a b) = record { weakness_is = refl; like_is = refl; block_is = refl; borrow_is = refl }
alike (plain.call s n es) = record { weakness_is = refl; like_is = refl; block_is = refl; borrow_is = refl }
alike (plain.next_input s) = record { weakness_is = refl; like_is = refl; block_is = refl; borrow_is = refl }
alike (plain.variant s a v es) = record { weakness_is = refl; like_is = refl; block_is = refl; borrow_is = refl }
alike (plain.make s n fs) = record { weakness_is = refl; like_is = refl; block_is = refl; borrow_is = refl }
alike (plain.print s e) = record { weakness_is = refl; like_is = refl; block_is = refl; borrow_is = refl }
alike (plain.block s b) = record { weakness_is = refl; like_is = refl; block_is = refl; borrow_is = refl }
alike (plain.if s c b y) = record { weakness_is = refl; like_is = refl; block_is = refl; borrow_is = refl }
alike (plain.if_let s p e b y) = record { weakness_is = refl; like_is = refl; block_is = refl; borrow_is = refl }
alike (plain.match s e as') = record { weakness_is = refl; like_is = refl; block_is = refl; borrow_is = refl }
alike (plain.loop s l b) = record { weakness_is = refl; like_is = refl; block_is = refl; borrow_is = refl }
alike (plain.while s l c b) = record { weakness_is = refl; like_is = refl; block_is = refl; borrow_is = refl }
alike (plain.while_let s l p e b) = record { weakness_is = refl; like_is = refl; block_is = refl; borrow_is = refl }
alike (plain.break s l) = record { weakness_is = refl; like_is = refl; block_is = refl; borrow_is = refl }
alike (plain.continue s l) = record { weakness_is = refl; like_is = refl; block_is = refl; borrow_is = refl }
alike (plain.return s y) = record { weakness_is = refl; like_is = refl; block_is = refl; borrow_is = refl }

same_weakness : (e : Expression) → weakness (erase e) ≡ weakness e
same_weakness e = (alike e).weakness_is

same_open : (e : Expression) → is_open (erase e) ≡ is_open e
same_open (plain.field s e n) = rw (same_weakness e, same_open e) refl
same_open (plain.part s e i) = rw (same_weakness e, same_open e) refl
same_open (plain.deref s e) = rw (same_weakness e, same_open e) refl
same_open (plain.negate s e) = rw (same_weakness e, same_open e) refl
same_open (plain.invert s e) = rw (same_weakness e, same_open e) refl
same_open (plain.borrow s m e) = rw (same_weakness e, same_open e) refl
same_open (plain.binary s o a b) = rw (same_weakness a, same_open a, same_weakness b, same_open b) refl
same_open _ = refl

same_begins : (e : Expression) → begins (erase e) ≡ begins e
same_begins (plain.field s e n) = rw (same_weakness e, same_begins e) refl
same_begins (plain.part s e i) = rw (same_weakness e, same_begins e) refl
same_begins (plain.binary s o a b) = rw (same_weakness a, same_begins a) refl
same_begins (plain.assign s a b) = rw (same_weakness a, same_begins a) refl
same_begins (plain.update s o a b) = rw (same_weakness a, same_begins a) refl
same_begins _ = refl

pub same_unfit : (place : ℕ) (e : Expression) → unfit place (erase e) ≡ unfit place e
same_unfit place e = rw (same_weakness e, same_open e) refl

pub same_more : (e : Expression) → goes_on (erase e) ≡ goes_on e
same_more e = rw ((alike e).like_is, same_begins e) refl

-- ---- expressions and blocks

same_label : (l : Option Ident) → label_pieces (erase_label l) ≡ label_pieces l
same_label None = refl
same_label (Some l) = refl

same_target : (l : Option Ident) → target_pieces (erase_label l) ≡ target_pieces l
same_target None = refl
same_target (Some l) = refl

same_empty : (ss : Statements) (y : OptionalExpression) → is_empty (erase_statements ss) (erase_optional y) ≡ is_empty ss y
same_empty plain.no_statement plain.absent = refl
same_empty plain.no_statement (plain.present e) = refl
same_empty (plain.statement_and a ss) y = refl

mutual
  same_pieces : (e : Expression) (b : Bool) (depth : ℕ) → pieces b depth (erase e) ≡ pieces b depth e
  same_pieces (plain.int s v k) b depth = refl
  same_pieces (plain.bool s t) b depth = refl
  same_pieces (plain.tuple s es) b depth = rw (same_each es depth) refl
  same_pieces (plain.var s x) b depth = refl
  same_pieces (plain.field s e n) b depth = rw (same_weakness e, same_pieces e false depth) refl
  same_pieces (plain.part s e i) b depth = rw (same_weakness e, same_pieces e false depth) refl
  same_pieces (plain.deref s e) b depth = rw (same_weakness e, same_pieces e false depth) refl
  same_pieces (plain.negate s e) b depth = rw (same_weakness e, same_pieces e false depth) refl
  same_pieces (plain.invert s e) b depth = rw (same_weakness e, same_pieces e false depth) refl
  same_pieces (plain.borrow s m e) b depth = rw (same_weakness e, same_pieces e false depth, same_pieces e true depth, (alike e).borrow_is) refl
  same_pieces (plain.binary s o x y) b depth = rw (same_weakness x, same_weakness y, same_pieces x false depth, same_pieces y false depth) refl
  same_pieces (plain.assign s x y) b depth = rw (same_weakness x, same_pieces x false depth, same_pieces y false depth) refl
  same_pieces (plain.update s o x y) b depth = rw (same_weakness x, same_pieces x false depth, same_pieces y false depth) refl
  same_pieces (plain.call s n es) b depth = rw (same_each es depth) refl
  same_pieces (plain.next_input s) b depth = refl
  same_pieces (plain.variant s a v es) b depth = rw (same_list es depth) refl
  same_pieces (plain.make s n fs) b depth = rw (same_fields fs depth) refl
  same_pieces (plain.print s e) b depth = rw (same_pieces e false depth) refl
  same_pieces (plain.block s k) b depth = same_block k depth
  same_pieces (plain.if s c k y) b depth = rw (same_unfit 6 c, same_pieces c false depth, same_block k depth, same_otherwise y depth) refl
  same_pieces (plain.if_let s p e k y) b depth = rw (same_pattern p, same_unfit 4 e, same_pieces e false depth, same_block k depth, same_otherwise y depth) refl
  same_pieces (plain.match s e as') b depth = rw (same_unfit 6 e, same_pieces e false depth, same_arms as' (suc depth)) refl
  same_pieces (plain.loop s l k) b depth = rw (same_label l, same_block k depth) refl
  same_pieces (plain.while s l c k) b depth = rw (same_label l, same_unfit 6 c, same_pieces c false depth, same_block k depth) refl
  same_pieces (plain.while_let s l p e k) b depth = rw (same_label l, same_pattern p, same_unfit 4 e, same_pieces e false depth, same_block k depth) refl
  same_pieces (plain.break s l) b depth = rw (same_target l) refl
  same_pieces (plain.continue s l) b depth = rw (same_target l) refl
  same_pieces (plain.return s y) b depth = rw (same_returned y depth) refl

  same_each : (es : Expressions) (depth : ℕ) → each depth (erase_all es) ≡ each depth es
  same_each plain.no_expression depth = refl
  same_each (plain.expression_and e es) depth = rw (same_pieces e false depth, same_each es depth) refl

  same_list : (es : OptionalExpressions) (depth : ℕ) → optional_list depth (erase_optional_list es) ≡ optional_list depth es
  same_list plain.no_list depth = refl
  same_list (plain.a_list es) depth = rw (same_each es depth) refl

  same_fields : (fs : FieldExpressions) (depth : ℕ) → each_field depth (erase_fields fs) ≡ each_field depth fs
  same_fields plain.no_field depth = refl
  same_fields (plain.field_and n e fs) depth = rw (same_pieces e false depth, same_fields fs depth) refl

  same_returned : (y : OptionalExpression) (depth : ℕ) → returned depth (erase_optional y) ≡ returned depth y
  same_returned plain.absent depth = refl
  same_returned (plain.present e) depth = rw (same_pieces e false depth) refl

  same_otherwise : (y : OptionalExpression) (depth : ℕ) → otherwise depth (erase_optional y) ≡ otherwise depth y
  same_otherwise plain.absent depth = refl
  same_otherwise (plain.present e) depth = rw (same_pieces e false depth) refl

  same_arms : (as' : Arms) (depth : ℕ) → arms depth (erase_arms as') ≡ arms depth as'
  same_arms plain.no_arm depth = refl
  same_arms (plain.arm_and p e more) depth =
      rw (same_pattern p, same_more e, same_pieces e false depth, (alike e).block_is, same_arms more depth) refl

  same_block : (b : Body) (depth : ℕ) → block depth (erase_body b) ≡ block depth b
  same_block (plain.body s ss y) depth = rw (same_statements ss (suc depth), same_tail y (suc depth), same_empty ss y) refl

  same_statement : (a : Statement) (depth : ℕ) → statement depth (erase_statement a) ≡ statement depth a
  same_statement (plain.let_statement s p t i) depth = rw (same_pattern p, same_annotation t, same_initial i depth) refl
  same_statement (plain.expression_statement s e b) depth = rw (same_more e, same_pieces e false depth) refl

  same_statements : (ss : Statements) (depth : ℕ) → statements depth (erase_statements ss) ≡ statements depth ss
  same_statements plain.no_statement depth = refl
  same_statements (plain.statement_and a ss) depth = rw (same_statement a depth, same_statements ss depth) refl

  same_tail : (y : OptionalExpression) (depth : ℕ) → tail depth (erase_optional y) ≡ tail depth y
  same_tail plain.absent depth = refl
  same_tail (plain.present e) depth = rw (same_more e, same_pieces e false depth) refl

  same_initial : (y : OptionalExpression) (depth : ℕ) → initial depth (erase_optional y) ≡ initial depth y
  same_initial plain.absent depth = refl
  same_initial (plain.present e) depth = rw (same_pieces e false depth) refl

-- ---- items

-- elements that are spelled alike are spelled alike in a list
pub same_map : {A B : Type 0} (f : A → B) (g : A → A) → ((x : A) → f (g x) ≡ f x) → (xs : List A) → map f (map g xs) ≡ map f xs
same_map f g h [] = refl
same_map f g h (x ∷ xs) = rw (h x, same_map f g h xs) refl

same_bounds : (ls : List Ident) → bounds_pieces (map erase_ident ls) ≡ bounds_pieces ls
same_bounds [] = refl
same_bounds (l ∷ []) = refl
same_bounds (l ∷ k ∷ ls) = rw (same_bounds (k ∷ ls)) refl

same_behind : (ls : List Ident) → behind_lifetime (map erase_ident ls) ≡ behind_lifetime ls
same_behind [] = refl
same_behind (l ∷ ls) = rw (same_bounds (l ∷ ls)) refl

same_bound : (l : BoundLifetime) → bound_pieces (erase_lifetime l) ≡ bound_pieces l
same_bound l = rw (same_behind l.bounds) refl

same_field : (f : FieldOf) → field_pieces (erase_field f) ≡ field_pieces f
same_field f = rw (same_type f.typ false) refl

same_variant : (v : VariantOf) → variant_pieces (erase_variant v) ≡ variant_pieces v
same_variant v = rw (same_types v.types) refl

same_parameter : (x : Parameter) → parameter_pieces (erase_parameter x) ≡ parameter_pieces x
same_parameter x = rw (same_type x.typ false) refl

same_result : (r : Option TypeTree) → result_pieces (option_map erase_type r) ≡ result_pieces r
same_result None = refl
same_result (Some t) = rw (same_type t false) refl

same_lifetimes : (ls : List Ident) → map one_lifetime (map erase_ident ls) ≡ map one_lifetime ls
same_lifetimes = same_map one_lifetime erase_ident (λ l. refl)

same_structure : (x : Structure) → structure_pieces (erase_structure x) ≡ structure_pieces x
same_structure x = rw (same_lifetimes x.lifetimes, same_map field_pieces erase_field same_field x.fields) refl

same_enumeration : (x : Enumeration) → enumeration_pieces (erase_enumeration x) ≡ enumeration_pieces x
same_enumeration x = rw (same_lifetimes x.lifetimes, same_map variant_pieces erase_variant same_variant x.variants) refl

same_function : (f : Function) → function_pieces (erase_function f) ≡ function_pieces f
same_function f =
    rw (same_map bound_pieces erase_lifetime same_bound f.lifetimes, same_map parameter_pieces erase_parameter same_parameter f.params, same_result f.result, same_block f.body 0) refl

same_item : (i : ItemTree) → item_pieces (erase_item i) ≡ item_pieces i
same_item (plain.rt_item s r) = refl
same_item (plain.struct_item s x) = same_structure x
same_item (plain.enum_item s x) = same_enumeration x
same_item (plain.function_item s f) = same_function f

same_after : (p : ProgramTree) → after_item (erase_program p) ≡ after_item p
same_after [] = refl
same_after (i ∷ is) = rw (same_item i, same_after is) refl

same_program : (p : ProgramTree) → program_pieces (erase_program p) ≡ program_pieces p
same_program [] = refl
same_program (i ∷ is) = rw (same_item i, same_after is) refl

pub print_same : (p q : ProgramTree) → SameProgram p q → print_program p ≡ print_program q
print_same p q e = ap flat (sym (same_program p) ∙ ap program_pieces e ∙ same_program q)
