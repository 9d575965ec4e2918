-- What an expression is by its form: its head, which is no tree, and its parts.
-- A form that lacks a part has it absent or empty.
use Rattle.std.specs.Prelude.{◌≡◌, ℕ, Bool, true, false, List, [], ◌∷◌, ◌++◌, Option, Some, None, option_map}
use Rattle.rx_core.specs.declared.types.Kind.{Kind}
use Rattle.rx_tree.specs.declared.tree.Ident.{Ident}
use Rattle.rx_tree.specs.declared.tree.BinaryOp.{BinaryOp}
use Rattle.rx_tree.specs.declared.tree.BinaryOp.TheVariants as operator
use Rattle.rx_tree.specs.declared.tree.UpdateOp.{UpdateOp}
use Rattle.rx_tree.specs.declared.tree.UpdateOp.TheVariants as updating
use Rattle.rx_tree.specs.Plain as plain
use Rattle.rx_tree.specs.Plain.{PatternTree, Expression, Expressions, OptionalExpression, FieldExpressions, Arms, Body}
use Rattle.rx_tree.specs.Positions.{NodeTree, a_pattern, a_block, optional_nodes, expression_nodes, field_nodes, arm_nodes}
use Rattle.rx_tree.specs.Erase.{erase_pattern, erase_all, erase_optional, erase_fields, erase_arms, erase_body}

-- the form by its number, a number that is written, a truth value, a suffix, operators, and names without their spans
pub record HeadOf : Type 0 where
  pub form : ℕ
  pub number : ℕ
  pub truth : Bool
  pub kind : Option Kind
  pub operator : BinaryOp
  pub update : UpdateOp
  pub name : Option (List ℕ)
  pub second : Option (List ℕ)

pub record PartsOf : Type 0 where
  pub head : HeadOf
  pub pattern : Option PatternTree
  pub first : OptionalExpression
  pub block : Option Body
  pub second : OptionalExpression
  pub list : Expressions
  pub fields : FieldExpressions
  pub arms : Arms

-- ---- heads

abbrev pub valued : ℕ → ℕ → Bool → Option Kind → HeadOf
valued n i b k = record {
  form = n;
  number = i;
  truth = b;
  kind = k;
  operator = operator.Or;
  update = updating.Add;
  name = None;
  second = None;
}

abbrev pub bare : ℕ → HeadOf
bare n = valued n 0 false None

abbrev pub operated : ℕ → BinaryOp → UpdateOp → HeadOf
operated n o u = record {
  form = n;
  number = 0;
  truth = false;
  kind = None;
  operator = o;
  update = u;
  name = None;
  second = None;
}

abbrev pub named : ℕ → Option (List ℕ) → Option (List ℕ) → HeadOf
named n x y = record {
  form = n;
  number = 0;
  truth = false;
  kind = None;
  operator = operator.Or;
  update = updating.Add;
  name = x;
  second = y;
}

abbrev pub name_of : Ident → List ℕ
name_of i = i.name

abbrev pub label_of : Option Ident → Option (List ℕ)
label_of = option_map name_of

-- ---- parts

abbrev pub held : HeadOf → Option PatternTree → OptionalExpression → Option Body → OptionalExpression → PartsOf
held h p e b f = record {
  head = h;
  pattern = p;
  first = e;
  block = b;
  second = f;
  list = plain.no_expression;
  fields = plain.no_field;
  arms = plain.no_arm;
}

abbrev pub alone : HeadOf → PartsOf
alone h = held h None plain.absent None plain.absent

abbrev pub listed : HeadOf → Expressions → PartsOf
listed h es = record {
  head = h;
  pattern = None;
  first = plain.absent;
  block = None;
  second = plain.absent;
  list = es;
  fields = plain.no_field;
  arms = plain.no_arm;
}

abbrev pub fielded : HeadOf → FieldExpressions → PartsOf
fielded h fs = record {
  head = h;
  pattern = None;
  first = plain.absent;
  block = None;
  second = plain.absent;
  list = plain.no_expression;
  fields = fs;
  arms = plain.no_arm;
}

abbrev pub of_one : HeadOf → Expression → PartsOf
of_one h e = held h None (plain.present e) None plain.absent

abbrev pub of_two : HeadOf → Expression → Expression → PartsOf
of_two h e f = held h None (plain.present e) None (plain.present f)

abbrev pub cased : HeadOf → Expression → Arms → PartsOf
cased h e l = record {
  head = h;
  pattern = None;
  first = plain.present e;
  block = None;
  second = plain.absent;
  list = plain.no_expression;
  fields = plain.no_field;
  arms = l;
}

-- ---- the head and the parts of each form

abbrev pub parts : Expression → PartsOf
parts (plain.int s v k) = alone (valued 0 v false k)
parts (plain.bool s b) = alone (valued 1 0 b None)
parts (plain.tuple s es) = listed (bare 2) es
parts (plain.var s x) = alone (named 3 (Some x) None)
parts (plain.field s e n) = of_one (named 4 (Some (name_of n)) None) e
parts (plain.part s e i) = of_one (valued 5 i false None) e
parts (plain.deref s e) = of_one (bare 6) e
parts (plain.negate s e) = of_one (bare 7) e
parts (plain.invert s e) = of_one (bare 8) e
parts (plain.borrow s m e) = of_one (valued 9 0 m None) e
parts (plain.binary s o l r) = of_two (operated 10 o updating.Add) l r
parts (plain.assign s l r) = of_two (bare 11) l r
parts (plain.update s o l r) = of_two (operated 12 operator.Or o) l r
parts (plain.call s f es) = listed (named 13 (Some (name_of f)) None) es
parts (plain.next_input s) = alone (bare 14)
parts (plain.variant s a v plain.no_list) = alone (named 15 (Some (name_of a)) (Some (name_of v)))
parts (plain.variant s a v (plain.a_list es)) = listed (named 16 (Some (name_of a)) (Some (name_of v))) es
parts (plain.make s n fs) = fielded (named 17 (Some (name_of n)) None) fs
parts (plain.print s e) = of_one (bare 18) e
parts (plain.block s b) = held (bare 19) None plain.absent (Some b) plain.absent
parts (plain.if s c b o) = held (bare 20) None (plain.present c) (Some b) o
parts (plain.if_let s p e b o) = held (bare 21) (Some p) (plain.present e) (Some b) o
parts (plain.match s e l) = cased (bare 22) e l
parts (plain.loop s l b) = held (named 23 (label_of l) None) None plain.absent (Some b) plain.absent
parts (plain.while s l c b) = held (named 24 (label_of l) None) None (plain.present c) (Some b) plain.absent
parts (plain.while_let s l p e b) = held (named 25 (label_of l) None) (Some p) (plain.present e) (Some b) plain.absent
parts (plain.break s l) = alone (named 26 (label_of l) None)
parts (plain.continue s l) = alone (named 27 (label_of l) None)
parts (plain.return s o) = held (bare 28) None o None plain.absent

-- without the spans in the parts; a head has none
abbrev pub erase_parts : PartsOf → PartsOf
erase_parts x = record {
  head = x.head;
  pattern = option_map erase_pattern x.pattern;
  first = erase_optional x.first;
  block = option_map erase_body x.block;
  second = erase_optional x.second;
  list = erase_all x.list;
  fields = erase_fields x.fields;
  arms = erase_arms x.arms;
}

-- the trees that may be absent are equal apart from spans
abbrev pub SameTrees : PartsOf → PartsOf → Type 0
SameTrees x y =
    (option_map erase_pattern x.pattern ≡ option_map erase_pattern y.pattern)
    × (erase_optional x.first ≡ erase_optional y.first)
    × (option_map erase_body x.block ≡ option_map erase_body y.block)
    × (erase_optional x.second ≡ erase_optional y.second)

-- and so are the lists
abbrev pub SameLists : PartsOf → PartsOf → Type 0
SameLists x y =
    (erase_all x.list ≡ erase_all y.list) × (erase_fields x.fields ≡ erase_fields y.fields)
    × (erase_arms x.arms ≡ erase_arms y.arms)

-- ---- the nodes of the parts in the order of the text: from each part on

abbrev pub pattern_node : Option PatternTree → List NodeTree
pattern_node None = []
pattern_node (Some p) = a_pattern p ∷ []

abbrev pub block_node : Option Body → List NodeTree
block_node None = []
block_node (Some b) = a_block b ∷ []

abbrev pub from_fields : PartsOf → List NodeTree
from_fields x = field_nodes x.fields ++ arm_nodes x.arms

abbrev pub from_list : PartsOf → List NodeTree
from_list x = expression_nodes x.list ++ from_fields x

abbrev pub from_second : PartsOf → List NodeTree
from_second x = optional_nodes x.second ++ from_list x

abbrev pub from_block : PartsOf → List NodeTree
from_block x = block_node x.block ++ from_second x

abbrev pub from_first : PartsOf → List NodeTree
from_first x = optional_nodes x.first ++ from_block x

abbrev pub part_nodes : PartsOf → List NodeTree
part_nodes x = pattern_node x.pattern ++ from_first x
