-- What the code's heads and parts stand for.
use Rattle.std.specs.Prelude.{Option, option_map, map}
use Rattle.rx_tree.specs.PlainOf.{plain-Pattern, plain-Expr, expressions_of, optional_of, plain-FieldExpr, field_expressions_of, plain-Arm, arms_of, plain-Block}
use Rattle.rx_tree_operations.specs.declared.parts.Head.{Head}
use Rattle.rx_tree_operations.specs.declared.parts.Parts.{Parts}
use Rattle.rx_tree_operations.specs.Parts.{HeadOf, PartsOf}

abbrev pub plain-Head : Head → HeadOf
plain-Head h = record {
  form = h.form;
  number = h.number;
  truth = h.truth;
  kind = h.kind;
  operator = h.operator;
  update = h.update;
  name = option_map (λ n. n.now) h.name;
  second = option_map (λ n. n.now) h.second;
}

abbrev pub plain-Parts : Parts → PartsOf
plain-Parts p = record {
  head = plain-Head p.head;
  pattern = option_map (λ q. plain-Pattern q.now) p.pattern;
  first = optional_of (option_map (λ e. plain-Expr e.now) p.first);
  block = option_map (λ b. plain-Block b.now) p.block;
  second = optional_of (option_map (λ e. plain-Expr e.now) p.second);
  list = expressions_of (map plain-Expr p.list.now);
  fields = field_expressions_of (map plain-FieldExpr p.fields.now);
  arms = arms_of (map plain-Arm p.arms.now);
}
