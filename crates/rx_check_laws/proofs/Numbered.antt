-- Trees that are equal apart from spans are numbered alike, form by form.
use Rattle.std.proofs.Common.{◌≡◌, ℕ, Bool, true, false, ◌&&◌, List, [], ◌∷◌, length, suc, map, Option, Some, None, option_map, refl, sym, ap, subst, ◌∙◌}
use Rattle.rx_core.specs.declared.types.Kind.{Kind}
use Rattle.rx_core.specs.declared.types.Span.{Span}
use Rattle.rx_tree.specs.declared.tree.BinaryOp.{BinaryOp}
use Rattle.rx_tree.specs.declared.tree.Ident.{Ident}
use Rattle.rx_tree.specs.declared.tree.UpdateOp.{UpdateOp}
use Rattle.rx_tree.specs.Plain as plain
use Rattle.rx_tree.specs.Plain.{Arms, Expression, Expressions, FieldExpressions, FieldPatterns, Function, OptionalExpression, OptionalExpressions, Parameter, PatternTree, PatternTrees, Statement, Statements, TypeTree, TypeTrees}
use Rattle.rx_tree.specs.Erase.{erase, erase_all, erase_arms, erase_body, erase_field_patterns, erase_fields, erase_function, erase_label, erase_lifetime, erase_optional, erase_optional_list, erase_parameter, erase_pattern, erase_patterns, erase_statement, erase_statements, erase_type, erase_types}
use Rattle.rx_resolve_names.specs.declared.resolved.NodeNames.{NodeNames}
use Rattle.rx_typed.specs.declared.nodes.Declaration.{Declaration}
use Rattle.rx_typed.specs.declared.nodes.Node.{Node}
use Rattle.rx_typed.specs.declared.nodes.Site.{Site}
use Rattle.rx_typed.specs.declared.nodes.Stage.{Stage}
use Rattle.rx_typed.specs.declared.nodes.Use.{Use}
use Rattle.rx_typed.specs.Named as named
use Rattle.rx_typed.specs.Named.{Exp, Exps, Pattern, Written, never, node_of, pattern_node, root, whole_binding}
use Rattle.rx_typed.specs.Naming.{a_use, assigned, branch_site, called, declaration, first, given_here, gives_here, has_no_type, initialiser_site, is_left, known_between, leads, lifetime_entry, lifetimes_written, of_arguments, of_arms, of_body, of_expression, of_expressions, of_field_patterns, of_fields, of_optional, of_optional_type, of_pattern, of_patterns, of_statement, of_statements, of_type, of_types, passed_on, second, use_of, waiting, waits_at, waits_for, waits_if, waits_in, Cursor, Numbering}
use Rattle.rx_engine_blocks.specs.DemandsLike.{Is, NoSpecial}
use Rattle.rx_engine_blocks.specs.DemandsLike.Is.{itself}
use Rattle.rx_engine_typing.proofs.Holes.{no_fits}
use Rattle.rx_engine_typing.proofs.Looks.{like_never, like_node, like_pattern_node}
use Rattle.rx_engine_typing.specs.Renumbered as like
use Rattle.rx_engine_typing.specs.Renumbered.{no_holes, NodeAt, RenumberedAnnotation, RenumberedArms, RenumberedBody, RenumberedElse, RenumberedExp, RenumberedExps, RenumberedFieldPatterns, RenumberedFields, RenumberedPattern, RenumberedPatterns, RenumberedStatement, RenumberedStatements, RenumberedType, RenumberedTypes}
use Rattle.rx_engine_typing.specs.Renumbered.NodeAt.{renumbered}
use Rattle.rx_check_laws.specs.ApartFromSpans.{unchanged}
use Rattle.rx_check_laws.proofs.Cursors.{annotated, between, counts, declares, entry, giving, led, left, looped, node, stage_set, then, used, waiting_same, Equal, Same, Sim}

-- ---- types

abbrev pub AType : Written → Written → Type 0
AType = RenumberedType unchanged

abbrev pub AllTypes : named.WrittenTypes → named.WrittenTypes → Type 0
AllTypes = RenumberedTypes unchanged

kind_type_again : (k : Kind) (n n' : Node) → NodeAt unchanged n n' → AType (named.a_kind n k) (named.a_kind n' k)
kind_type_again k n n' renumbered = like.RenumberedType.a_kind

bool_type_again : (n n' : Node) → NodeAt unchanged n n' → AType (named.a_bool n) (named.a_bool n')
bool_type_again n n' renumbered = like.RenumberedType.a_bool

tuple_type_again : (n n' : Node) (ts ts' : named.WrittenTypes) → NodeAt unchanged n n' → AllTypes ts ts' → AType (named.a_tuple n ts) (named.a_tuple n' ts')
tuple_type_again n n' ts ts' renumbered h = like.RenumberedType.a_tuple h

reference_type_again : (m : Bool) (n n' : Node) (t t' : Written) → NodeAt unchanged n n' → AType t t' → AType (named.a_reference n m t) (named.a_reference n' m t')
reference_type_again m n n' t t' renumbered h = like.RenumberedType.a_reference h

item_type_again : (ls : Option ℕ) (i : ℕ) (n n' : Node) → NodeAt unchanged n n' → AType (named.an_item n i ls) (named.an_item n' i ls)
item_type_again ls i n n' renumbered = like.RenumberedType.an_item

lifetime_entered : (l : Option Ident) → Sim Equal (lifetime_entry l) (lifetime_entry (erase_label l))
lifetime_entered None = giving Equal _ _ refl
lifetime_entered (Some l) = entry

many : (ls : List (Option Ident)) → length (map erase_label ls) ≡ length ls
many [] = refl
many (l ∷ ls) = ap suc (many ls)

many_written : (ls : Option (List (Option Ident))) → lifetimes_written (option_map (map erase_label) ls) ≡ lifetimes_written ls
many_written None = refl
many_written (Some ls) = ap Some (many ls)

named_again : (ls ls' : Option ℕ) (i i' : ℕ) (n n' : Node) → ls ≡ ls' → i ≡ i' → NodeAt unchanged n n' → AType (named.an_item n i ls) (named.an_item n' i' ls')
named_again ls ls' i i' n n' e k h = subst (λ (o : Option ℕ). AType (named.an_item n i ls) (named.an_item n' i' o)) e (subst (λ (j : ℕ). AType (named.an_item n i ls) (named.an_item n' j ls)) k (item_type_again ls i n n' h))

mutual
  pub type_alike : (t : TypeTree) → Sim AType (of_type t) (of_type (erase_type t))
  type_alike (plain.kind_type s k) = then (NodeAt unchanged) AType _ _ _ _ (node s _ _) (λ n n' h. giving AType _ _ (kind_type_again k n n' h))
  type_alike (plain.bool_type s) = then (NodeAt unchanged) AType _ _ _ _ (node s _ _) (λ n n' h. giving AType _ _ (bool_type_again n n' h))
  type_alike (plain.tuple_type s ts) = then (NodeAt unchanged) AType _ _ _ _ (node s _ _) (λ n n' h. then AllTypes AType _ _ _ _ (types_alike ts) (λ us us' k. giving AType _ _ (tuple_type_again n n' us us' h k)))
  type_alike (plain.ref_type s l m t) = then (NodeAt unchanged) AType _ _ _ _ (node s _ _) (λ n n' h. then Equal AType _ _ _ _ (lifetime_entered l) (λ (e e' : List ℕ × Bool) (q : e ≡ e').
      then AType AType _ _ _ _ (type_alike t) (λ u u' k. giving AType _ _ (reference_type_again m n n' u u' h k))))
  type_alike (plain.named_type s x ls) = then (NodeAt unchanged) AType _ _ _ _ (node s _ _) (λ n n' h. then Equal AType _ _ _ _ entry (λ (e e' : List ℕ × Bool) (q : e ≡ e').
      giving AType _ _ (named_again (lifetimes_written ls) (lifetimes_written (option_map (map erase_label) ls)) (first e.0) (first e'.0) n n' (sym (many_written ls)) (ap (λ (f : List ℕ × Bool). first f.0) q) h)))

  pub types_alike : (ts : TypeTrees) → Sim AllTypes (of_types ts) (of_types (erase_types ts))
  types_alike plain.no_type = giving AllTypes _ _ like.RenumberedTypes.no_written
  types_alike (plain.type_and t ts) = then AType AllTypes _ _ _ _ (type_alike t) (λ u u' h. then AllTypes AllTypes _ _ _ _ (types_alike ts) (λ us us' k. giving AllTypes _ _ (like.RenumberedTypes.written_and h k)))

abbrev pub AnAnnotation : Option Written → Option Written → Type 0
AnAnnotation = RenumberedAnnotation unchanged

pub optional_type_alike : (y : Option TypeTree) → Sim AnAnnotation (of_optional_type y) (of_optional_type (option_map erase_type y))
optional_type_alike None = giving AnAnnotation _ _ like.RenumberedAnnotation.no_type
optional_type_alike (Some t) = then AType AnAnnotation _ _ _ _ (type_alike t) (λ u u' h. giving AnAnnotation _ _ (like.RenumberedAnnotation.a_type h))

-- ---- patterns

abbrev pub APattern : Pattern → Pattern → Type 0
APattern = RenumberedPattern unchanged

abbrev pub AllPatterns : named.Patterns → named.Patterns → Type 0
AllPatterns = RenumberedPatterns unchanged

abbrev pub FieldsAlike : named.FieldPatterns → named.FieldPatterns → Type 0
FieldsAlike = RenumberedFieldPatterns unchanged

wild_again : (n n' : Node) → NodeAt unchanged n n' → APattern (named.wild n) (named.wild n')
wild_again n n' renumbered = like.RenumberedPattern.wild

bind_there : (m : Bool) (x : ℕ) (n n' : Node) → NodeAt unchanged n n' → APattern (named.bind n x m) (named.bind n' x m)
bind_there m x n n' renumbered = like.RenumberedPattern.bind

bind_again : (m : Bool) (x x' : ℕ) (n n' : Node) → x ≡ x' → NodeAt unchanged n n' → APattern (named.bind n x m) (named.bind n' x' m)
bind_again m x x' n n' e h = subst (λ (y : ℕ). APattern (named.bind n x m) (named.bind n' y m)) e (bind_there m x n n' h)

whole_again : (g : Bool) (v : ℕ) (k : Option Kind) (n n' : Node) → NodeAt unchanged n n' → APattern (named.whole_number n g v k) (named.whole_number n' g v k)
whole_again g v k n n' renumbered = like.RenumberedPattern.whole_number

truth_again : (b : Bool) (n n' : Node) → NodeAt unchanged n n' → APattern (named.truth n b) (named.truth n' b)
truth_again b n n' renumbered = like.RenumberedPattern.truth

tuple_pattern_again : (n n' : Node) (ps ps' : named.Patterns) → NodeAt unchanged n n' → AllPatterns ps ps' → APattern (named.tuple_pattern n ps) (named.tuple_pattern n' ps')
tuple_pattern_again n n' ps ps' renumbered h = like.RenumberedPattern.tuple_pattern h

variant_there : (i v : ℕ) (n n' : Node) (ps ps' : named.Patterns) → NodeAt unchanged n n' → AllPatterns ps ps' → APattern (named.variant_pattern n i v ps) (named.variant_pattern n' i v ps')
variant_there i v n n' ps ps' renumbered h = like.RenumberedPattern.variant_pattern h

variant_pattern_again : (e e' : List ℕ × Bool) (n n' : Node) (ps ps' : named.Patterns) → e ≡ e' → NodeAt unchanged n n' → AllPatterns ps ps' → APattern (named.variant_pattern n (first e.0) (second e.0) ps) (named.variant_pattern n' (first e'.0) (second e'.0) ps')
variant_pattern_again e e' n n' ps ps' q h k = subst (λ (f : List ℕ × Bool). APattern (named.variant_pattern n (first e.0) (second e.0) ps) (named.variant_pattern n' (first f.0) (second f.0) ps')) q (variant_there (first e.0) (second e.0) n n' ps ps' h k)

struct_there : (i : ℕ) (n n' : Node) (fs fs' : named.FieldPatterns) → NodeAt unchanged n n' → FieldsAlike fs fs' → APattern (named.struct_pattern n i fs) (named.struct_pattern n' i fs')
struct_there i n n' fs fs' renumbered h = like.RenumberedPattern.struct_pattern h

struct_pattern_again : (e e' : List ℕ × Bool) (n n' : Node) (fs fs' : named.FieldPatterns) → e ≡ e' → NodeAt unchanged n n' → FieldsAlike fs fs' → APattern (named.struct_pattern n (first e.0) fs) (named.struct_pattern n' (first e'.0) fs')
struct_pattern_again e e' n n' fs fs' q h k = subst (λ (f : List ℕ × Bool). APattern (named.struct_pattern n (first e.0) fs) (named.struct_pattern n' (first f.0) fs')) q (struct_there (first e.0) n n' fs fs' h k)

mutual
  pub pattern_alike : (p : PatternTree) → Sim APattern (of_pattern p) (of_pattern (erase_pattern p))
  pattern_alike (plain.wild s) = then (NodeAt unchanged) APattern _ _ _ _ (node s _ _) (λ n n' h. giving APattern _ _ (wild_again n n' h))
  pattern_alike (plain.bind s x m) = then (NodeAt unchanged) APattern _ _ _ _ (node s _ _) (λ n n' h. then Equal APattern _ _ _ _ entry (λ (e e' : List ℕ × Bool) (q : e ≡ e').
      then Equal APattern _ _ _ _ (declares (record { mutable = m; stage = Stage.Given })) (λ y y' k. giving APattern _ _ (bind_again m y y' n n' k h))))
  pattern_alike (plain.int_pattern s g v k) = then (NodeAt unchanged) APattern _ _ _ _ (node s _ _) (λ n n' h. giving APattern _ _ (whole_again g v k n n' h))
  pattern_alike (plain.bool_pattern s b) = then (NodeAt unchanged) APattern _ _ _ _ (node s _ _) (λ n n' h. giving APattern _ _ (truth_again b n n' h))
  pattern_alike (plain.tuple_pattern s ps) = then (NodeAt unchanged) APattern _ _ _ _ (node s _ _) (λ n n' h. then AllPatterns APattern _ _ _ _ (patterns_alike ps) (λ qs qs' k. giving APattern _ _ (tuple_pattern_again n n' qs qs' h k)))
  pattern_alike (plain.variant_pattern s a v ps) = then (NodeAt unchanged) APattern _ _ _ _ (node s _ _) (λ n n' h. then Equal APattern _ _ _ _ entry (λ (e e' : List ℕ × Bool) (q : e ≡ e').
      then AllPatterns APattern _ _ _ _ (patterns_alike ps) (λ qs qs' k. giving APattern _ _ (variant_pattern_again e e' n n' qs qs' q h k))))
  pattern_alike (plain.make_pattern s x fs) = then (NodeAt unchanged) APattern _ _ _ _ (node s _ _) (λ n n' h. then Equal APattern _ _ _ _ entry (λ (e e' : List ℕ × Bool) (q : e ≡ e').
      then FieldsAlike APattern _ _ _ _ (field_patterns_alike fs) (λ gs gs' k. giving APattern _ _ (struct_pattern_again e e' n n' gs gs' q h k))))

  pub patterns_alike : (ps : PatternTrees) → Sim AllPatterns (of_patterns ps) (of_patterns (erase_patterns ps))
  patterns_alike plain.no_pattern = giving AllPatterns _ _ like.RenumberedPatterns.no_pattern
  patterns_alike (plain.pattern_and p ps) = then APattern AllPatterns _ _ _ _ (pattern_alike p) (λ q q' h. then AllPatterns AllPatterns _ _ _ _ (patterns_alike ps) (λ qs qs' k. giving AllPatterns _ _ (like.RenumberedPatterns.pattern_and h k)))

  pub field_patterns_alike : (fs : FieldPatterns) → Sim FieldsAlike (of_field_patterns fs) (of_field_patterns (erase_field_patterns fs))
  field_patterns_alike plain.no_field_pattern = giving FieldsAlike _ _ like.RenumberedFieldPatterns.no_field_pattern
  field_patterns_alike (plain.field_pattern_and x p fs) = then APattern FieldsAlike _ _ _ _ (pattern_alike p) (λ q q' h. then FieldsAlike FieldsAlike _ _ _ _ (field_patterns_alike fs) (λ gs gs' k. giving FieldsAlike _ _ (like.RenumberedFieldPatterns.field_pattern_and h k)))

-- ---- expressions

abbrev pub AnExp : Exp → Exp → Type 0
AnExp = RenumberedExp unchanged (λ l. l) no_holes

abbrev pub AllExps : Exps → Exps → Type 0
AllExps = RenumberedExps unchanged (λ l. l) no_holes

abbrev pub AnElse : named.Else → named.Else → Type 0
AnElse = RenumberedElse unchanged (λ l. l) no_holes

abbrev pub AllFields : named.Fields → named.Fields → Type 0
AllFields = RenumberedFields unchanged (λ l. l) no_holes

abbrev pub AllArms : named.Arms → named.Arms → Type 0
AllArms = RenumberedArms unchanged (λ l. l) no_holes

abbrev pub ABody : named.Body → named.Body → Type 0
ABody = RenumberedBody unchanged (λ l. l) no_holes

abbrev pub AStatement : named.Statement → named.Statement → Type 0
AStatement = RenumberedStatement unchanged (λ l. l) no_holes

abbrev pub AllStatements : named.Statements → named.Statements → Type 0
AllStatements = RenumberedStatements unchanged (λ l. l) no_holes

int_again : (m : Bool) (v : ℕ) (k : Option Kind) (n n' : Node) → NodeAt unchanged n n' → AnExp (named.int n m v k) (named.int n' m v k)
int_again m v k n n' renumbered = like.RenumberedExp.int

bool_again : (x : Bool) (n n' : Node) → NodeAt unchanged n n' → AnExp (named.bool n x) (named.bool n' x)
bool_again x n n' renumbered = like.RenumberedExp.bool

tuple_again : (n n' : Node) (es es' : Exps) → NodeAt unchanged n n' → AllExps es es' → AnExp (named.tuple n es) (named.tuple n' es')
tuple_again n n' es es' renumbered h0 = like.RenumberedExp.tuple h0

var_again : (x : Use) (n n' : Node) → NodeAt unchanged n n' → AnExp (named.var n x) (named.var n' x)
var_again x n n' renumbered = like.RenumberedExp.var

field_again : (x : List ℕ) (n n' : Node) (e e' : Exp) → NodeAt unchanged n n' → AnExp e e' → AnExp (named.field n e x) (named.field n' e' x)
field_again x n n' e e' renumbered h0 = like.RenumberedExp.field h0

part_again : (i : ℕ) (n n' : Node) (e e' : Exp) → NodeAt unchanged n n' → AnExp e e' → AnExp (named.part n e i) (named.part n' e' i)
part_again i n n' e e' renumbered h0 = like.RenumberedExp.part h0

deref_again : (n n' : Node) (e e' : Exp) → NodeAt unchanged n n' → AnExp e e' → AnExp (named.deref n e) (named.deref n' e')
deref_again n n' e e' renumbered h0 = like.RenumberedExp.deref h0

negate_again : (n n' : Node) (e e' : Exp) → NodeAt unchanged n n' → AnExp e e' → AnExp (named.negate n e) (named.negate n' e')
negate_again n n' e e' renumbered h0 = like.RenumberedExp.negate h0

invert_again : (n n' : Node) (e e' : Exp) → NodeAt unchanged n n' → AnExp e e' → AnExp (named.invert n e) (named.invert n' e')
invert_again n n' e e' renumbered h0 = like.RenumberedExp.invert h0

borrow_again : (m : Bool) (n n' : Node) (e e' : Exp) → NodeAt unchanged n n' → AnExp e e' → AnExp (named.borrow n m e) (named.borrow n' m e')
borrow_again m n n' e e' renumbered h0 = like.RenumberedExp.borrow h0

binary_again : (w : BinaryOp) (n n' : Node) (a a' : Exp) (c c' : Exp) → NodeAt unchanged n n' → AnExp a a' → AnExp c c' → AnExp (named.binary n w a c) (named.binary n' w a' c')
binary_again w n n' a a' c c' renumbered h0 h1 = like.RenumberedExp.binary h0 h1

assign_again : (n n' : Node) (q q' : Exp) (e e' : Exp) → NodeAt unchanged n n' → AnExp q q' → AnExp e e' → AnExp (named.assign n q e) (named.assign n' q' e')
assign_again n n' q q' e e' renumbered h0 h1 = like.RenumberedExp.assign h0 h1

update_again : (w : UpdateOp) (n n' : Node) (q q' : Exp) (e e' : Exp) → NodeAt unchanged n n' → AnExp q q' → AnExp e e' → AnExp (named.update n w q e) (named.update n' w q' e')
update_again w n n' q q' e e' renumbered h0 h1 = like.RenumberedExp.update h0 h1

call_again : (g : ℕ) (n n' : Node) (es es' : Exps) → NodeAt unchanged n n' → AllExps es es' → AnExp (named.call n g es) (named.call n' g es')
call_again g n n' es es' renumbered h0 = like.RenumberedExp.call h0

hidden_call_again : (n n' : Node) (es es' : Exps) → NodeAt unchanged n n' → AllExps es es' → AnExp (named.hidden_call n es) (named.hidden_call n' es')
hidden_call_again n n' es es' renumbered h0 = like.RenumberedExp.hidden_call h0

next_input_again : (n n' : Node) → NodeAt unchanged n n' → AnExp (named.next_input n) (named.next_input n')
next_input_again n n' renumbered = like.RenumberedExp.next_input

variant_again : (i : ℕ) (v : ℕ) (n n' : Node) (es es' : Exps) → NodeAt unchanged n n' → AllExps es es' → AnExp (named.variant n i v es) (named.variant n' i v es')
variant_again i v n n' es es' renumbered h0 = like.RenumberedExp.variant h0

make_again : (i : ℕ) (n n' : Node) (fs fs' : named.Fields) → NodeAt unchanged n n' → AllFields fs fs' → AnExp (named.make n i fs) (named.make n' i fs')
make_again i n n' fs fs' renumbered h0 = like.RenumberedExp.make h0

print_again : (n n' : Node) (e e' : Exp) → NodeAt unchanged n n' → AnExp e e' → AnExp (named.print n e) (named.print n' e')
print_again n n' e e' renumbered h0 = like.RenumberedExp.print h0

block_again : (n n' : Node) (b b' : named.Body) → NodeAt unchanged n n' → ABody b b' → AnExp (named.block n b) (named.block n' b')
block_again n n' b b' renumbered h0 = like.RenumberedExp.block h0

if_again : (n n' : Node) (c c' : Exp) (b b' : named.Body) (o o' : named.Else) → NodeAt unchanged n n' → AnExp c c' → ABody b b' → AnElse o o' → AnExp (named.if n c b o) (named.if n' c' b' o')
if_again n n' c c' b b' o o' renumbered h0 h1 h2 = like.RenumberedExp.if h0 h1 h2

if_let_again : (n n' : Node) (p p' : Pattern) (e e' : Exp) (b b' : named.Body) (o o' : named.Else) → NodeAt unchanged n n' → APattern p p' → AnExp e e' → ABody b b' → AnElse o o' → AnExp (named.if_let n p e b o) (named.if_let n' p' e' b' o')
if_let_again n n' p p' e e' b b' o o' renumbered h0 h1 h2 h3 = like.RenumberedExp.if_let h0 h1 h2 h3

match_again : (n n' : Node) (e e' : Exp) (l l' : named.Arms) → NodeAt unchanged n n' → AnExp e e' → AllArms l l' → AnExp (named.match n e l) (named.match n' e' l')
match_again n n' e e' l l' renumbered h0 h1 = like.RenumberedExp.match h0 h1

loop_again : (w : ℕ) (k : Bool) (n n' : Node) (b b' : named.Body) → NodeAt unchanged n n' → ABody b b' → AnExp (named.loop n w k b) (named.loop n' w k b')
loop_again w k n n' b b' renumbered h0 = like.RenumberedExp.loop h0

while_again : (w : ℕ) (n n' : Node) (c c' : Exp) (b b' : named.Body) → NodeAt unchanged n n' → AnExp c c' → ABody b b' → AnExp (named.while n w c b) (named.while n' w c' b')
while_again w n n' c c' b b' renumbered h0 h1 = like.RenumberedExp.while h0 h1

while_let_again : (w : ℕ) (n n' : Node) (p p' : Pattern) (e e' : Exp) (b b' : named.Body) → NodeAt unchanged n n' → APattern p p' → AnExp e e' → ABody b b' → AnExp (named.while_let n w p e b) (named.while_let n' w p' e' b')
while_let_again w n n' p p' e e' b b' renumbered h0 h1 h2 = like.RenumberedExp.while_let h0 h1 h2

break_again : (w : ℕ) (n n' : Node) → NodeAt unchanged n n' → AnExp (named.break n w) (named.break n' w)
break_again w n n' renumbered = like.RenumberedExp.break

continue_again : (w : ℕ) (n n' : Node) → NodeAt unchanged n n' → AnExp (named.continue n w) (named.continue n' w)
continue_again w n n' renumbered = like.RenumberedExp.continue

return_again : (n n' : Node) (o o' : named.Else) → NodeAt unchanged n n' → AnElse o o' → AnExp (named.return n o) (named.return n' o')
return_again n n' o o' renumbered h0 = like.RenumberedExp.return tt h0

body_again : (n n' : Node) (ss ss' : named.Statements) (o o' : named.Else) → NodeAt unchanged n n' → AllStatements ss ss' → AnElse o o' → ABody (named.body n ss o) (named.body n' ss' o')
body_again n n' ss ss' o o' renumbered h k = like.RenumberedBody.body h k

declares_again : (n n' : Node) (p p' : Pattern) (y y' : Option Written) → NodeAt unchanged n n' → APattern p p' → AnAnnotation y y' → AStatement (named.declares n p y) (named.declares n' p' y')
declares_again n n' p p' y y' renumbered h k = like.RenumberedStatement.declares h k

lets_again : (n n' : Node) (p p' : Pattern) (y y' : Option Written) (e e' : Exp) → NodeAt unchanged n n' → APattern p p' → AnAnnotation y y' → AnExp e e' → AStatement (named.lets n p y e) (named.lets n' p' y' e')
lets_again n n' p p' y y' e e' renumbered h k i = like.RenumberedStatement.lets h k i

evaluates_again : (c : Bool) (n n' : Node) (e e' : Exp) → NodeAt unchanged n n' → AnExp e e' → AStatement (named.evaluates n e c) (named.evaluates n' e' c)
evaluates_again c n n' e e' renumbered h = like.RenumberedStatement.evaluates h

-- the variable of a place
root_number : {e e' : Exp} → AnExp e e' → (root e).number ≡ (root e').number
root_number (like.RenumberedExp.hole h) = elim h [ ]
root_number like.RenumberedExp.int = refl
root_number like.RenumberedExp.bool = refl
root_number (like.RenumberedExp.tuple h) = refl
root_number like.RenumberedExp.var = refl
root_number (like.RenumberedExp.other_var h) = elim h [ ]
root_number (like.RenumberedExp.field h) = root_number h
root_number (like.RenumberedExp.part h) = root_number h
root_number (like.RenumberedExp.deref h) = root_number h
root_number (like.RenumberedExp.negate h) = refl
root_number (like.RenumberedExp.invert h) = refl
root_number (like.RenumberedExp.borrow h) = refl
root_number (like.RenumberedExp.binary h k) = refl
root_number (like.RenumberedExp.assign h k) = refl
root_number (like.RenumberedExp.gives h) = refl
root_number (like.RenumberedExp.assigns h k) = elim h [ ]
root_number (like.RenumberedExp.update h k) = refl
root_number (like.RenumberedExp.call h) = refl
root_number (like.RenumberedExp.hidden_call h) = refl
root_number like.RenumberedExp.next_input = refl
root_number (like.RenumberedExp.variant h) = refl
root_number (like.RenumberedExp.make h) = refl
root_number (like.RenumberedExp.print h) = refl
root_number (like.RenumberedExp.block h) = refl
root_number (like.RenumberedExp.if h k l) = refl
root_number (like.RenumberedExp.if_let q h k l) = refl
root_number (like.RenumberedExp.match h l) = refl
root_number (like.RenumberedExp.loop h) = refl
root_number (like.RenumberedExp.while h k) = refl
root_number (like.RenumberedExp.while_let q h k) = refl
root_number like.RenumberedExp.break = refl
root_number like.RenumberedExp.continue = refl
root_number (like.RenumberedExp.return k h) = refl

-- before an assignment
pub waits_alike : (p : Expression) (y : ℕ) (r z : Cursor) → Same r z → waits_in p y r ≡ waits_in (erase p) y z
waits_alike (plain.int s v k) y r z h = refl
waits_alike (plain.bool s b) y r z h = refl
waits_alike (plain.tuple s es) y r z h = refl
waits_alike (plain.var s x) y r z h = waiting_same y r z h
waits_alike (plain.field s e x) y r z h = refl
waits_alike (plain.part s e i) y r z h = refl
waits_alike (plain.deref s e) y r z h = refl
waits_alike (plain.negate s e) y r z h = refl
waits_alike (plain.invert s e) y r z h = refl
waits_alike (plain.borrow s m e) y r z h = refl
waits_alike (plain.binary s o a b) y r z h = refl
waits_alike (plain.assign s a b) y r z h = refl
waits_alike (plain.update s o a b) y r z h = refl
waits_alike (plain.call s f es) y r z h = refl
waits_alike (plain.next_input s) y r z h = refl
waits_alike (plain.variant s a v es) y r z h = refl
waits_alike (plain.make s x fs) y r z h = refl
waits_alike (plain.print s e) y r z h = refl
waits_alike (plain.block s b) y r z h = refl
waits_alike (plain.if s c b o) y r z h = refl
waits_alike (plain.if_let s q e b o) y r z h = refl
waits_alike (plain.match s e l) y r z h = refl
waits_alike (plain.loop s l b) y r z h = refl
waits_alike (plain.while s l c b) y r z h = refl
waits_alike (plain.while_let s l q e b) y r z h = refl
waits_alike (plain.break s l) y r z h = refl
waits_alike (plain.continue s l) y r z h = refl
waits_alike (plain.return s o) y r z h = refl

waits_for_alike : (p : Expression) (q q' : Exp) → AnExp q q' → Sim Equal (waits_for p q) (waits_for (erase p) q')
waits_for_alike p q q' h c d s = (waits_alike p (root q).number c d s ∙ ap (λ (x : ℕ). waits_in (erase p) x d) (root_number h), s)

use_alike : (x : ℕ) → Sim Equal (a_use x) (a_use x)
use_alike x c d s = (used x c d s, s)

given_alike : (x : ℕ) (w : Option (ℕ × ℕ)) → Sim Equal (given_here x w) (given_here x w)
given_alike x None = giving Equal _ _ refl
given_alike x (Some w) = then Equal Equal _ _ _ _ (stage_set x Stage.Known Stage.Known refl) (λ u v h. giving Equal (Some w.1) (Some w.1) refl)

gives_alike : (x : ℕ) → Sim Equal (gives_here x) (gives_here x)
gives_alike x c d s = subst (λ (w : Option (ℕ × ℕ)). Equal (gives_here x c).0 (given_here x w d).0 × Same (gives_here x c).1 (given_here x w d).1) (waiting_same x c d s) (given_alike x (waiting x (declaration c x).stage) c d s)

same_option : (d : Option ℕ) → option_map (λ (n : ℕ). n) d ≡ d
same_option None = refl
same_option (Some n) = refl

gives_there : (n n' p p' : Node) (x : Use) (d : Option ℕ) (e e' : Exp) → NodeAt unchanged n n' → NodeAt unchanged p p' → AnExp e e' → AnExp (named.gives n p x d e) (named.gives n' p' x (option_map (λ (k : ℕ). k) d) e')
gives_there n n' p p' x d e e' renumbered renumbered h = like.RenumberedExp.gives {m = x.mutable} h

gives_again : (n n' p p' : Node) (x x' : Use) (d d' : Option ℕ) (e e' : Exp) → NodeAt unchanged n n' → NodeAt unchanged p p' → x ≡ x' → d ≡ d' → AnExp e e' → AnExp (named.gives n p x d e) (named.gives n' p' x' d' e')
gives_again n n' p p' x x' d d' e e' h k i j l =
    subst (λ (y : Use). AnExp (named.gives n p x d e) (named.gives n' p' y d' e')) i (subst (λ (o : Option ℕ). AnExp (named.gives n p x d e) (named.gives n' p' x o e')) (same_option d ∙ j) (gives_there n n' p p' x d e e' h k l))

node_there : (e e' : Exp) → AnExp e e' → NodeAt unchanged (node_of e) (node_of e')
node_there e e' h = like_node unchanged (λ l. l) no_holes NoSpecial (no_fits unchanged (λ l. l)) h

is_equal : {A : Type 0} {a b : A} → Is a b → a ≡ b
is_equal itself = refl

never_there : (e e' : Exp) → AnExp e e' → never e ≡ never e'
never_there e e' h = is_equal (like_never unchanged (λ l. l) no_holes NoSpecial (no_fits unchanged (λ l. l)) h)

assigned_alike : (w w' : Option (ℕ × ℕ)) (n n' : Node) (q q' : Exp) (f f' : Site → Numbering Exp) → w ≡ w' → NodeAt unchanged n n' → AnExp q q' → ((t : Site) → Sim AnExp (f t) (f' t)) → Sim AnExp (assigned n q w f) (assigned n' q' w' f')
assigned_alike w w' n n' q q' f f' e h k g = subst (λ (v : Option (ℕ × ℕ)). Sim AnExp (assigned n q w f) (assigned n' q' v f')) e (so w)
  where
    so : (v : Option (ℕ × ℕ)) → Sim AnExp (assigned n q v f) (assigned n' q' v f')
    so None = then AnExp AnExp _ _ _ _ (g Site.Expects) (λ a a' i. giving AnExp _ _ (assign_again n n' q q' a a' h k i))
    so (Some v) = then AnExp AnExp _ _ _ _ (g Site.Reborrows) (λ a a' i. then Equal AnExp _ _ _ _ (use_alike v.0) (λ (x x' : Use) (j : x ≡ x').
        then Equal AnExp _ _ _ _ (gives_alike v.0) (λ (d d' : Option ℕ) (l : d ≡ d'). giving AnExp _ _ (gives_again n n' (node_of q) (node_of q') x x' d d' a a' h (node_there q q' k) j l i))))

called_alike : (ns ns' : List ℕ × Bool) (n n' : Node) (f f' : Site → Numbering Exps) → ns ≡ ns' → NodeAt unchanged n n' → ((t : Site) → Sim AllExps (f t) (f' t)) → Sim AnExp (called n ns f) (called n' ns' f')
called_alike ns ns' n n' f f' e h g = subst (λ (v : List ℕ × Bool). Sim AnExp (called n ns f) (called n' v f')) e (so ns)
  where
    so : (v : List ℕ × Bool) → Sim AnExp (called n v f) (called n' v f')
    so (ms, true) = then AllExps AnExp _ _ _ _ (g Site.Value) (λ es es' i. giving AnExp _ _ (hidden_call_again n n' es es' h i))
    so (ms, false) = then AllExps AnExp _ _ _ _ (g Site.Expects) (λ es es' i. giving AnExp _ _ (call_again (first ms) n n' es es' h i))

branch_alike : (t : Site) (o : OptionalExpression) → branch_site t (erase_optional o) ≡ branch_site t o
branch_alike t plain.absent = refl
branch_alike t (plain.present e) = refl

-- ---- what waits behind a `let`

whole_there : (p p' : Pattern) → APattern p p' → whole_binding p ≡ whole_binding p'
whole_there _ _ like.RenumberedPattern.wild = refl
whole_there _ _ like.RenumberedPattern.bind = refl
whole_there _ _ like.RenumberedPattern.whole_number = refl
whole_there _ _ like.RenumberedPattern.truth = refl
whole_there _ _ (like.RenumberedPattern.tuple_pattern h) = refl
whole_there _ _ (like.RenumberedPattern.variant_pattern h) = refl
whole_there _ _ (like.RenumberedPattern.struct_pattern h) = refl

waits_so : (o o' : Option ℕ) (n n' : Node) → o ≡ o' → NodeAt unchanged n n' → Sim Equal (waits_at n o) (waits_at n' o')
waits_so o o' n n' e h = subst (λ (v : Option ℕ). Sim Equal (waits_at n o) (waits_at n' v)) e (so o n n' h)
  where
    so : (v : Option ℕ) (m m' : Node) → NodeAt unchanged m m' → Sim Equal (waits_at m v) (waits_at m' v)
    so None m m' k = giving Equal _ _ refl
    so (Some x) m m' renumbered = stage_set x _ _ refl

waits_if_alike : (b b' : Bool) (p p' : Pattern) → b ≡ b' → APattern p p' → Sim Equal (waits_if b p) (waits_if b' p')
waits_if_alike b b' p p' e h = subst (λ (v : Bool). Sim Equal (waits_if b p) (waits_if v p')) e (so b)
  where
    so : (v : Bool) → Sim Equal (waits_if v p) (waits_if v p')
    so true = waits_so (whole_binding p) (whole_binding p') (pattern_node p) (pattern_node p') (whole_there p p' h) (like_pattern_node unchanged (λ l. l) no_holes NoSpecial (no_fits unchanged (λ l. l)) h)
    so false = giving Equal _ _ refl

untyped_there : (y y' : Option Written) → AnAnnotation y y' → has_no_type y ≡ has_no_type y'
untyped_there _ _ like.RenumberedAnnotation.no_type = refl
untyped_there _ _ (like.RenumberedAnnotation.a_type h) = refl

initialiser_there : (y y' : Option Written) → AnAnnotation y y' → initialiser_site y' ≡ initialiser_site y
initialiser_there _ _ like.RenumberedAnnotation.no_type = refl
initialiser_there _ _ (like.RenumberedAnnotation.a_type h) = refl

abbrev BothEntries : Type 0
BothEntries = List ℕ × Bool

both_there : {a a' b b' : Bool} → a ≡ a' → b ≡ b' → (a && b) ≡ (a' && b')
both_there h k = cc (h, k)

var_so : (en en' : BothEntries) (n n' : Node) → en ≡ en' → NodeAt unchanged n n' → (c d : Cursor) → Same c d → AnExp (named.var n (use_of (first en.0) (declaration c (first en.0)))) (named.var n' (use_of (first en'.0) (declaration d (first en'.0))))
var_so en en' n n' q h c d z = subst (λ (f : BothEntries). AnExp (named.var n (use_of (first en.0) (declaration c (first en.0)))) (named.var n' (use_of (first f.0) (declaration d (first f.0))))) q
    (subst (λ (x : Use). AnExp (named.var n (use_of (first en.0) (declaration c (first en.0)))) (named.var n' x)) (used (first en.0) c d z) (var_again (use_of (first en.0) (declaration c (first en.0))) n n' h))

variant_so : (en en' : BothEntries) (n n' : Node) (es es' : Exps) → en ≡ en' → NodeAt unchanged n n' → AllExps es es' → AnExp (named.variant n (first en.0) (second en.0) es) (named.variant n' (first en'.0) (second en'.0) es')
variant_so en en' n n' es es' q h i = subst (λ (f : BothEntries). AnExp (named.variant n (first en.0) (second en.0) es) (named.variant n' (first f.0) (second f.0) es')) q (variant_again (first en.0) (second en.0) n n' es es' h i)

make_so : (en en' : BothEntries) (n n' : Node) (fs fs' : named.Fields) → en ≡ en' → NodeAt unchanged n n' → AllFields fs fs' → AnExp (named.make n (first en.0) fs) (named.make n' (first en'.0) fs')
make_so en en' n n' fs fs' q h i = subst (λ (f : BothEntries). AnExp (named.make n (first en.0) fs) (named.make n' (first f.0) fs')) q (make_again (first en.0) n n' fs fs' h i)

break_so : (en en' : BothEntries) (n n' : Node) → en ≡ en' → NodeAt unchanged n n' → AnExp (named.break n (first en.0)) (named.break n' (first en'.0))
break_so en en' n n' q h = subst (λ (f : BothEntries). AnExp (named.break n (first en.0)) (named.break n' (first f.0))) q (break_again (first en.0) n n' h)

continue_so : (en en' : BothEntries) (n n' : Node) → en ≡ en' → NodeAt unchanged n n' → AnExp (named.continue n (first en.0)) (named.continue n' (first en'.0))
continue_so en en' n n' q h = subst (λ (f : BothEntries). AnExp (named.continue n (first en.0)) (named.continue n' (first f.0))) q (continue_again (first en.0) n n' h)

loop_so : (x x' : ℕ) (k k' : Bool) (n n' : Node) (b b' : named.Body) → x ≡ x' → k ≡ k' → NodeAt unchanged n n' → ABody b b' → AnExp (named.loop n x k b) (named.loop n' x' k' b')
loop_so x x' k k' n n' b b' u w h i = subst (λ (z : ℕ). AnExp (named.loop n x k b) (named.loop n' z k' b')) u (subst (λ (z : Bool). AnExp (named.loop n x k b) (named.loop n' x z b')) w (loop_again x k n n' b b' h i))

while_so : (x x' : ℕ) (n n' : Node) (c c' : Exp) (b b' : named.Body) → x ≡ x' → NodeAt unchanged n n' → AnExp c c' → ABody b b' → AnExp (named.while n x c b) (named.while n' x' c' b')
while_so x x' n n' c c' b b' u h i j = subst (λ (z : ℕ). AnExp (named.while n x c b) (named.while n' z c' b')) u (while_again x n n' c c' b b' h i j)

while_let_so : (x x' : ℕ) (n n' : Node) (p p' : Pattern) (e e' : Exp) (b b' : named.Body) → x ≡ x' → NodeAt unchanged n n' → APattern p p' → AnExp e e' → ABody b b' → AnExp (named.while_let n x p e b) (named.while_let n' x' p' e' b')
while_let_so x x' n n' p p' e e' b b' u h k i j = subst (λ (z : ℕ). AnExp (named.while_let n x p e b) (named.while_let n' z p' e' b')) u (while_let_again x n n' p p' e e' b b' h k i j)

between_so : (x x' z z' : ℕ) → x ≡ x' → z ≡ z' → Sim Equal (known_between x z) (known_between x' z')
between_so x x' z z' u v = subst (λ (y : ℕ). Sim Equal (known_between x z) (known_between y z')) u (subst (λ (y : ℕ). Sim Equal (known_between x z) (known_between x y)) v (between x z))

left_so : (x x' : ℕ) → x ≡ x' → Sim Equal (is_left x) (is_left x')
left_so x x' u = subst (λ (y : ℕ). Sim Equal (is_left x) (is_left y)) u (left x)

led_so : (x x' : ℕ) → x ≡ x' → Sim Equal (leads x) (leads x')
led_so x x' u = subst (λ (y : ℕ). Sim Equal (leads x) (leads y)) u (led x)

mutual
  pub exp_alike : (m : Bool) (t : Site) (e : Expression) → Sim AnExp (of_expression m t e) (of_expression m t (erase e))
  exp_alike m t (plain.int s v k) = then (NodeAt unchanged) AnExp _ _ _ _ (node s _ _) (λ n n' h. giving AnExp _ _ (int_again m v k n n' h))
  exp_alike m t (plain.bool s b) = then (NodeAt unchanged) AnExp _ _ _ _ (node s _ _) (λ n n' h. giving AnExp _ _ (bool_again b n n' h))
  exp_alike m t (plain.tuple s es) = then (NodeAt unchanged) AnExp _ _ _ _ (node s _ _) (λ n n' h. then AllExps AnExp _ _ _ _ (exps_alike Site.Value es) (λ fs fs' i. giving AnExp _ _ (tuple_again n n' fs fs' h i)))
  exp_alike m t (plain.var s x) = then (NodeAt unchanged) AnExp _ _ _ _ (node s _ _) (λ n n' h. then Equal AnExp _ _ _ _ entry (λ (en en' : List ℕ × Bool) (q : en ≡ en'). (λ c d z. (var_so en en' n n' q h c d z, z))))
  exp_alike m t (plain.field s e x) = then (NodeAt unchanged) AnExp _ _ _ _ (node s _ _) (λ n n' h. then AnExp AnExp _ _ _ _ (exp_alike false Site.Place e) (λ f f' i. giving AnExp _ _ (field_again x.name n n' f f' h i)))
  exp_alike m t (plain.part s e j) = then (NodeAt unchanged) AnExp _ _ _ _ (node s _ _) (λ n n' h. then AnExp AnExp _ _ _ _ (exp_alike false Site.Place e) (λ f f' i. giving AnExp _ _ (part_again j n n' f f' h i)))
  exp_alike m t (plain.deref s e) = then (NodeAt unchanged) AnExp _ _ _ _ (node s _ _) (λ n n' h. then AnExp AnExp _ _ _ _ (exp_alike false Site.Place e) (λ f f' i. giving AnExp _ _ (deref_again n n' f f' h i)))
  exp_alike m t (plain.negate s e) = then (NodeAt unchanged) AnExp _ _ _ _ (node s _ _) (λ n n' h. then AnExp AnExp _ _ _ _ (exp_alike true Site.Value e) (λ f f' i. giving AnExp _ _ (negate_again n n' f f' h i)))
  exp_alike m t (plain.invert s e) = then (NodeAt unchanged) AnExp _ _ _ _ (node s _ _) (λ n n' h. then AnExp AnExp _ _ _ _ (exp_alike false Site.Value e) (λ f f' i. giving AnExp _ _ (invert_again n n' f f' h i)))
  exp_alike m t (plain.borrow s w e) = then (NodeAt unchanged) AnExp _ _ _ _ (node s _ _) (λ n n' h. then AnExp AnExp _ _ _ _ (exp_alike false Site.Place e) (λ f f' i. giving AnExp _ _ (borrow_again w n n' f f' h i)))
  exp_alike m t (plain.binary s o a b) = then (NodeAt unchanged) AnExp _ _ _ _ (node s _ _) (λ n n' h. then AnExp AnExp _ _ _ _ (exp_alike false Site.Value a) (λ f f' i. then AnExp AnExp _ _ _ _ (exp_alike false Site.Value b) (λ g g' j. giving AnExp _ _ (binary_again o n n' f f' g g' h i j))))
  exp_alike m t (plain.assign s p e) = then (NodeAt unchanged) AnExp _ _ _ _ (node s _ _) (λ n n' h. then AnExp AnExp _ _ _ _ (exp_alike false Site.Place p) (λ f f' i. then Equal AnExp _ _ _ _ (waits_for_alike p f f' i) (λ (w w' : Option (ℕ × ℕ)) (j : w ≡ w'). assigned_alike w w' n n' f f' (λ z. of_expression false z e) (λ z. of_expression false z (erase e)) j h i (λ z. exp_alike false z e))))
  exp_alike m t (plain.update s o p e) = then (NodeAt unchanged) AnExp _ _ _ _ (node s _ _) (λ n n' h. then AnExp AnExp _ _ _ _ (exp_alike false Site.Place p) (λ f f' i. then AnExp AnExp _ _ _ _ (exp_alike false Site.Value e) (λ g g' j. giving AnExp _ _ (update_again o n n' f f' g g' h i j))))
  exp_alike m t (plain.call s f es) = then (NodeAt unchanged) AnExp _ _ _ _ (node s _ _) (λ n n' h. then Equal AnExp _ _ _ _ entry (λ (en en' : List ℕ × Bool) (q : en ≡ en'). called_alike en en' n n' (λ z. of_expressions z es) (λ z. of_expressions z (erase_all es)) q h (λ z. exps_alike z es)))
  exp_alike m t (plain.next_input s) = then (NodeAt unchanged) AnExp _ _ _ _ (node s _ _) (λ n n' h. then Equal AnExp _ _ _ _ entry (λ (en en' : List ℕ × Bool) (q : en ≡ en'). giving AnExp _ _ (next_input_again n n' h)))
  exp_alike m t (plain.variant s a v es) = then (NodeAt unchanged) AnExp _ _ _ _ (node s _ _) (λ n n' h. then Equal AnExp _ _ _ _ entry (λ (en en' : List ℕ × Bool) (q : en ≡ en'). then AllExps AnExp _ _ _ _ (arguments_alike es) (λ fs fs' i. giving AnExp _ _ (variant_so en en' n n' fs fs' q h i))))
  exp_alike m t (plain.make s x fs) = then (NodeAt unchanged) AnExp _ _ _ _ (node s _ _) (λ n n' h. then Equal AnExp _ _ _ _ entry (λ (en en' : List ℕ × Bool) (q : en ≡ en'). then AllFields AnExp _ _ _ _ (fields_alike fs) (λ gs gs' i. giving AnExp _ _ (make_so en en' n n' gs gs' q h i))))
  exp_alike m t (plain.print s e) = then (NodeAt unchanged) AnExp _ _ _ _ (node s _ _) (λ n n' h. then AnExp AnExp _ _ _ _ (exp_alike false Site.Value e) (λ f f' i. giving AnExp _ _ (print_again n n' f f' h i)))
  exp_alike m t (plain.block s b) = then (NodeAt unchanged) AnExp _ _ _ _ (node s _ _) (λ n n' h. then ABody AnExp _ _ _ _ (body_alike (passed_on t) b) (λ f f' i. giving AnExp _ _ (block_again n n' f f' h i)))
  exp_alike m t (plain.if s c b o) = then (NodeAt unchanged) AnExp _ _ _ _ (node s _ _) (λ n n' h. then AnExp AnExp _ _ _ _ (exp_alike false Site.Value c) (λ f f' i. then ABody AnExp _ _ _ _ (subst (λ (z : Site). Sim ABody (of_body (branch_site t o) b) (of_body z (erase_body b))) (sym (branch_alike t o)) (body_alike (branch_site t o) b)) (λ g g' j. then AnElse AnExp _ _ _ _ (optional_alike (passed_on t) o) (λ r r' l. giving AnExp _ _ (if_again n n' f f' g g' r r' h i j l)))))
  exp_alike m t (plain.if_let s p e b o) = then (NodeAt unchanged) AnExp _ _ _ _ (node s _ _) (λ n n' h. then Equal AnExp _ _ _ _ (counts) (λ (x x' : ℕ) (u : x ≡ x'). then APattern AnExp _ _ _ _ (pattern_alike p) (λ y y' k. then Equal AnExp _ _ _ _ (counts) (λ (z z' : ℕ) (v : z ≡ z'). then AnExp AnExp _ _ _ _ (exp_alike false Site.Scrutinee e) (λ f f' i. then Equal AnExp _ _ _ _ (between_so x x' z z' u v) (λ (a a' : Unit {0}) (w : a ≡ a'). then ABody AnExp _ _ _ _ (subst (λ (z : Site). Sim ABody (of_body (branch_site t o) b) (of_body z (erase_body b))) (sym (branch_alike t o)) (body_alike (branch_site t o) b)) (λ g g' j. then AnElse AnExp _ _ _ _ (optional_alike (passed_on t) o) (λ r r' l. giving AnExp _ _ (if_let_again n n' y y' f f' g g' r r' h k i j l)))))))))
  exp_alike m t (plain.match s e l) = then (NodeAt unchanged) AnExp _ _ _ _ (node s _ _) (λ n n' h. then AnExp AnExp _ _ _ _ (exp_alike false Site.Scrutinee e) (λ f f' i. then AllArms AnExp _ _ _ _ (arms_alike (passed_on t) l) (λ g g' j. giving AnExp _ _ (match_again n n' f f' g g' h i j))))
  exp_alike m t (plain.loop s l b) = then (NodeAt unchanged) AnExp _ _ _ _ (node s _ _) (λ n n' h. then Equal AnExp _ _ _ _ (looped) (λ (x x' : ℕ) (u : x ≡ x'). then ABody AnExp _ _ _ _ (body_alike Site.Value b) (λ f f' i. then Equal AnExp _ _ _ _ (left_so x x' u) (λ (k k' : Bool) (w : k ≡ k'). giving AnExp _ _ (loop_so x x' k k' n n' f f' u w h i)))))
  exp_alike m t (plain.while s l c b) = then (NodeAt unchanged) AnExp _ _ _ _ (node s _ _) (λ n n' h. then Equal AnExp _ _ _ _ (looped) (λ (x x' : ℕ) (u : x ≡ x'). then AnExp AnExp _ _ _ _ (exp_alike false Site.Value c) (λ f f' i. then ABody AnExp _ _ _ _ (body_alike Site.Value b) (λ g g' j. giving AnExp _ _ (while_so x x' n n' f f' g g' u h i j)))))
  exp_alike m t (plain.while_let s l p e b) = then (NodeAt unchanged) AnExp _ _ _ _ (node s _ _) (λ n n' h. then Equal AnExp _ _ _ _ (looped) (λ (a a' : ℕ) (o : a ≡ a'). then Equal AnExp _ _ _ _ (counts) (λ (x x' : ℕ) (u : x ≡ x'). then APattern AnExp _ _ _ _ (pattern_alike p) (λ y y' k. then Equal AnExp _ _ _ _ (counts) (λ (z z' : ℕ) (v : z ≡ z'). then AnExp AnExp _ _ _ _ (exp_alike false Site.Scrutinee e) (λ f f' i. then Equal AnExp _ _ _ _ (between_so x x' z z' u v) (λ (a2 a2' : Unit {0}) (w : a2 ≡ a2'). then ABody AnExp _ _ _ _ (body_alike Site.Value b) (λ g g' j. giving AnExp _ _ (while_let_so a a' n n' y y' f f' g g' o h k i j)))))))))
  exp_alike m t (plain.break s l) = then (NodeAt unchanged) AnExp _ _ _ _ (node s _ _) (λ n n' h. then Equal AnExp _ _ _ _ entry (λ (en en' : List ℕ × Bool) (q : en ≡ en'). then Equal AnExp _ _ _ _ (led_so (first en.0) (first en'.0) (ap (λ (f : List ℕ × Bool). first f.0) q)) (λ (a a' : Unit {0}) (w : a ≡ a'). giving AnExp _ _ (break_so en en' n n' q h))))
  exp_alike m t (plain.continue s l) = then (NodeAt unchanged) AnExp _ _ _ _ (node s _ _) (λ n n' h. then Equal AnExp _ _ _ _ entry (λ (en en' : List ℕ × Bool) (q : en ≡ en'). giving AnExp _ _ (continue_so en en' n n' q h)))
  exp_alike m t (plain.return s o) = then (NodeAt unchanged) AnExp _ _ _ _ (node s _ _) (λ n n' h. then AnElse AnExp _ _ _ _ (optional_alike Site.Expects o) (λ f f' i. giving AnExp _ _ (return_again n n' f f' h i)))

  exps_alike : (t : Site) (es : Expressions) → Sim AllExps (of_expressions t es) (of_expressions t (erase_all es))
  exps_alike t plain.no_expression = giving AllExps _ _ like.RenumberedExps.no_exp
  exps_alike t (plain.expression_and e es) = then AnExp AllExps _ _ _ _ (exp_alike false t e) (λ f f' i. then AllExps AllExps _ _ _ _ (exps_alike t es) (λ g g' j. giving AllExps _ _ (like.RenumberedExps.exp_and i j)))

  optional_alike : (t : Site) (o : OptionalExpression) → Sim AnElse (of_optional t o) (of_optional t (erase_optional o))
  optional_alike t plain.absent = giving AnElse _ _ like.RenumberedElse.absent
  optional_alike t (plain.present e) = then AnExp AnElse _ _ _ _ (exp_alike false t e) (λ f f' i. giving AnElse _ _ (like.RenumberedElse.present i))

  arguments_alike : (es : OptionalExpressions) → Sim AllExps (of_arguments es) (of_arguments (erase_optional_list es))
  arguments_alike plain.no_list = giving AllExps _ _ like.RenumberedExps.no_exp
  arguments_alike (plain.a_list es) = exps_alike Site.Expects es

  fields_alike : (fs : FieldExpressions) → Sim AllFields (of_fields fs) (of_fields (erase_fields fs))
  fields_alike plain.no_field = giving AllFields _ _ like.RenumberedFields.no_field
  fields_alike (plain.field_and x e fs) = then AnExp AllFields _ _ _ _ (exp_alike false Site.Expects e) (λ f f' i. then AllFields AllFields _ _ _ _ (fields_alike fs) (λ g g' j. giving AllFields _ _ (like.RenumberedFields.field_and i j)))

  arms_alike : (t : Site) (l : Arms) → Sim AllArms (of_arms t l) (of_arms t (erase_arms l))
  arms_alike t plain.no_arm = giving AllArms _ _ like.RenumberedArms.no_arm
  arms_alike t (plain.arm_and p e l) = then Equal AllArms _ _ _ _ (counts) (λ (x x' : ℕ) (u : x ≡ x'). then APattern AllArms _ _ _ _ (pattern_alike p) (λ y y' k. then Equal AllArms _ _ _ _ (counts) (λ (z z' : ℕ) (v : z ≡ z'). then Equal AllArms _ _ _ _ (between_so x x' z z' u v) (λ (a a' : Unit {0}) (w : a ≡ a'). then AnExp AllArms _ _ _ _ (exp_alike false t e) (λ f f' i. then AllArms AllArms _ _ _ _ (arms_alike t l) (λ g g' j. giving AllArms _ _ (like.RenumberedArms.arm_and k i j)))))))

  pub body_alike : (t : Site) (b : plain.Body) → Sim ABody (of_body t b) (of_body t (erase_body b))
  body_alike t (plain.body s ss o) = then (NodeAt unchanged) ABody _ _ _ _ (node s _ _) (λ n n' h. then AllStatements ABody _ _ _ _ (statements_alike ss) (λ f f' i. then AnElse ABody _ _ _ _ (optional_alike t o) (λ g g' j. giving ABody _ _ (body_again n n' f f' g g' h i j))))

  statements_alike : (ss : Statements) → Sim AllStatements (of_statements ss) (of_statements (erase_statements ss))
  statements_alike plain.no_statement = giving AllStatements _ _ like.RenumberedStatements.no_statement
  statements_alike (plain.statement_and a ss) = then AStatement AllStatements _ _ _ _ (statement_alike a) (λ f f' i. then AllStatements AllStatements _ _ _ _ (statements_alike ss) (λ g g' j. giving AllStatements _ _ (like.RenumberedStatements.statement_and i j)))

  statement_alike : (a : Statement) → Sim AStatement (of_statement a) (of_statement (erase_statement a))
  statement_alike (plain.let_statement s p y plain.absent) = then (NodeAt unchanged) AStatement _ _ _ _ (node s _ _) (λ n n' h. then Equal AStatement _ _ _ _ (annotated p y) (λ (a a' : Unit {0}) (w : a ≡ a'). then Equal AStatement _ _ _ _ (counts) (λ (x x' : ℕ) (u : x ≡ x'). then APattern AStatement _ _ _ _ (pattern_alike p) (λ f f' k. then Equal AStatement _ _ _ _ (counts) (λ (z z' : ℕ) (v : z ≡ z'). then AnAnnotation AStatement _ _ _ _ (optional_type_alike y) (λ r r' l. then Equal AStatement _ _ _ _ (between_so x x' z z' u v) (λ (b b' : Unit {0}) (o : b ≡ b'). then Equal AStatement _ _ _ _ (waits_if_alike (has_no_type r) (has_no_type r') f f' (untyped_there r r' l) k) (λ (e e' : Unit {0}) (i : e ≡ e'). giving AStatement _ _ (declares_again n n' f f' r r' h k l)))))))))
  statement_alike (plain.let_statement s p y (plain.present e)) = then (NodeAt unchanged) AStatement _ _ _ _ (node s _ _) (λ n n' h. then Equal AStatement _ _ _ _ (annotated p y) (λ (a a' : Unit {0}) (w : a ≡ a'). then Equal AStatement _ _ _ _ (counts) (λ (x x' : ℕ) (u : x ≡ x'). then APattern AStatement _ _ _ _ (pattern_alike p) (λ f f' k. then Equal AStatement _ _ _ _ (counts) (λ (z z' : ℕ) (v : z ≡ z'). then AnAnnotation AStatement _ _ _ _ (optional_type_alike y) (λ r r' l. then AnExp AStatement _ _ _ _ (subst (λ (z : Site). Sim AnExp (of_expression false (initialiser_site r) e) (of_expression false z (erase e))) (sym (initialiser_there r r' l)) (exp_alike false (initialiser_site r) e)) (λ g g' j. then Equal AStatement _ _ _ _ (between_so x x' z z' u v) (λ (b b' : Unit {0}) (o : b ≡ b'). then Equal AStatement _ _ _ _ (waits_if_alike (has_no_type r && never g) (has_no_type r' && never g') f f' (both_there (untyped_there r r' l) (never_there g g' j)) k) (λ (c c' : Unit {0}) (i : c ≡ c'). giving AStatement _ _ (lets_again n n' f f' r r' g g' h k l j))))))))))
  statement_alike (plain.expression_statement s e b) = then (NodeAt unchanged) AStatement _ _ _ _ (node s _ _) (λ n n' h. then AnExp AStatement _ _ _ _ (exp_alike false Site.Value e) (λ f f' i. giving AStatement _ _ (evaluates_again b n n' f f' h i)))
