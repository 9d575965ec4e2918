-- Expressions are equal apart from spans where their heads are equal and their parts are equal apart from spans.
use Rattle.std.proofs.Common.{◌≡◌, ℕ, ◌+◌, Bool, true, false, IsTrue, List, [], ◌∷◌, ◌↔◌, Option, Some, None, option_map, get_or, refl, ap, sym, ◌∙◌}
use Rattle.rx_tree.specs.declared.tree.Ident.{Ident}
use Rattle.rx_tree.specs.Plain as plain
use Rattle.rx_tree.specs.Plain.{PatternTree, Expression, OptionalExpression, Body}
use Rattle.rx_tree.specs.Erase.{nowhere, erase_label, erase, erase_body, erase_pattern}
use Rattle.rx_tree_operations.specs.Parts.{PartsOf, label_of, named, held, alone, parts, erase_parts}

-- ---- the expression of a head and parts, without spans

abbrev word : Option (List ℕ) → List ℕ
word None = []
word (Some x) = x

abbrev name_from : Option (List ℕ) → Ident
name_from x = record { span = nowhere; name = word x }

abbrev label_from : Option (List ℕ) → Option Ident
label_from = option_map (λ x. record { span = nowhere; name = x })

abbrev pattern_from : Option PatternTree → PatternTree
pattern_from None = plain.wild nowhere
pattern_from (Some p) = p

abbrev from : OptionalExpression → Expression
from plain.absent = plain.next_input nowhere
from (plain.present e) = e

abbrev block_from : Option Body → Body
block_from None = plain.body nowhere plain.no_statement plain.absent
block_from (Some b) = b

abbrev rebuilt : PartsOf → Expression
rebuilt x = get_or (
    plain.int nowhere x.head.number x.head.kind
    ∷ plain.bool nowhere x.head.truth
    ∷ plain.tuple nowhere x.list
    ∷ plain.var nowhere (word x.head.name)
    ∷ plain.field nowhere (from x.first) (name_from x.head.name)
    ∷ plain.part nowhere (from x.first) x.head.number
    ∷ plain.deref nowhere (from x.first)
    ∷ plain.negate nowhere (from x.first)
    ∷ plain.invert nowhere (from x.first)
    ∷ plain.borrow nowhere x.head.truth (from x.first)
    ∷ plain.binary nowhere x.head.operator (from x.first) (from x.second)
    ∷ plain.assign nowhere (from x.first) (from x.second)
    ∷ plain.update nowhere x.head.update (from x.first) (from x.second)
    ∷ plain.call nowhere (name_from x.head.name) x.list
    ∷ plain.next_input nowhere
    ∷ plain.variant nowhere (name_from x.head.name) (name_from x.head.second) plain.no_list
    ∷ plain.variant nowhere (name_from x.head.name) (name_from x.head.second) (plain.a_list x.list)
    ∷ plain.make nowhere (name_from x.head.name) x.fields
    ∷ plain.print nowhere (from x.first)
    ∷ plain.block nowhere (block_from x.block)
    ∷ plain.if nowhere (from x.first) (block_from x.block) x.second
    ∷ plain.if_let nowhere (pattern_from x.pattern) (from x.first) (block_from x.block) x.second
    ∷ plain.match nowhere (from x.first) x.arms
    ∷ plain.loop nowhere (label_from x.head.name) (block_from x.block)
    ∷ plain.while nowhere (label_from x.head.name) (from x.first) (block_from x.block)
    ∷ plain.while_let nowhere (label_from x.head.name) (pattern_from x.pattern) (from x.first) (block_from x.block)
    ∷ plain.break nowhere (label_from x.head.name)
    ∷ plain.continue nowhere (label_from x.head.name)
    ∷ plain.return nowhere x.first
    ∷ []) x.head.form (plain.next_input nowhere)

labels : (l : Option Ident) → label_from (label_of l) ≡ erase_label l
labels None = refl
labels (Some i) = refl

whole : (e : Expression) → rebuilt (erase_parts (parts e)) ≡ erase e
whole (plain.variant s a v plain.no_list) = refl
whole (plain.variant s a v (plain.a_list es)) = refl
whole (plain.loop s l b) = ap (λ x. plain.loop nowhere x (erase_body b)) (labels l)
whole (plain.while s l c b) = ap (λ x. plain.while nowhere x (erase c) (erase_body b)) (labels l)
whole (plain.while_let s l p e b) = ap (λ x. plain.while_let nowhere x (erase_pattern p) (erase e) (erase_body b)) (labels l)
whole (plain.break s l) = ap (λ x. plain.break nowhere x) (labels l)
whole (plain.continue s l) = ap (λ x. plain.continue nowhere x) (labels l)
whole _ = refl

-- ---- the parts of an expression without spans

label_names : (l : Option Ident) → label_of (erase_label l) ≡ label_of l
label_names None = refl
label_names (Some i) = refl

parts_erased : (e : Expression) → parts (erase e) ≡ erase_parts (parts e)
parts_erased (plain.variant s a v plain.no_list) = refl
parts_erased (plain.variant s a v (plain.a_list es)) = refl
parts_erased (plain.loop s l b) = ap (λ x. held (named 23 x None) None plain.absent (Some (erase_body b)) plain.absent) (label_names l)
parts_erased (plain.while s l c b) = ap (λ x. held (named 24 x None) None (plain.present (erase c)) (Some (erase_body b)) plain.absent) (label_names l)
parts_erased (plain.while_let s l p e b) =
    ap (λ x. held (named 25 x None) (Some (erase_pattern p)) (plain.present (erase e)) (Some (erase_body b)) plain.absent) (label_names l)
parts_erased (plain.break s l) = ap (λ x. alone (named 26 x None)) (label_names l)
parts_erased (plain.continue s l) = ap (λ x. alone (named 27 x None)) (label_names l)
parts_erased _ = refl

pub same_by_parts : (b : Bool) (x y : PartsOf) (e f : Expression) → x ≡ parts e → y ≡ parts f → IsTrue b ↔ (erase_parts x ≡ erase_parts y)
    → IsTrue b ↔ (erase e ≡ erase f)
same_by_parts b x y e f h k i =
    let left : erase_parts x ≡ erase_parts (parts e) = ap erase_parts h in
    let right : erase_parts y ≡ erase_parts (parts f) = ap erase_parts k in (
      λ t. sym (whole e) ∙ (ap rebuilt (sym left ∙ (i.0 t ∙ right)) ∙ whole f),
      λ t. i.1 (left ∙ (sym (parts_erased e) ∙ (ap parts t ∙ (parts_erased f ∙ sym right)))),
    )
