-- Names that what is left binds: those of its first, or of the rest.
use Rattle.std.proofs.Common.{◌≡◌, ℕ, ◌+◌, ◌<◌, Bool, List, [], ◌∷◌, ◌++◌, length, map, get_or, drop, sym, ap, ◌∙◌}
use Rattle.std.specs.Prelude.{◌||◌}
use Rattle.rx_core.specs.Bytes.{same_bytes}
use Rattle.rx_tree.specs.declared.tree.Ident.{Ident}
use Rattle.rx_tree.specs.declared.tree.Pattern.{Pattern}
use Rattle.rx_tree.specs.declared.tree.FieldPattern.{FieldPattern}
use Rattle.rx_tree.specs.declared.tree.Stmt.{Stmt}
use Rattle.rx_tree.specs.Plain.{PatternTree}
use Rattle.rx_tree.specs.PlainOf.{plain-FieldPattern, plain-Pattern, plain-Stmt, field_patterns_of, patterns_of}
use Rattle.rx_tree.proofs.Rules.{field_pattern_by_parts}
use Rattle.rx_hoist_extraction.specs.Names.{Names, is_among, bound, all_bound, fields_bound, bound_by, declared_by}
use Rattle.rx_hoist_extraction.specs.OwnLifetimes.{idents}
use Rattle.rx_hoist_made.proofs.Among.{among_both, same_is_equal}
use Rattle.rx_hoist_made.proofs.Dropped.{drop_is}

pub pattern_here : (x : List ℕ) (ps : List Pattern) (i : ℕ) (p : Pattern) → i < length ps → p ≡ get_or ps i p
    → is_among x (all_bound (patterns_of (map plain-Pattern (drop i ps)))) ≡ (is_among x (bound (plain-Pattern p)) || is_among x (all_bound (patterns_of (map plain-Pattern (drop (i + 1) ps)))))
pattern_here x ps i p l e = ap (λ (qs : List Pattern). is_among x (all_bound (patterns_of (map plain-Pattern qs)))) (drop_is ps i p l e)
    ∙ among_both x (bound (plain-Pattern p)) (all_bound (patterns_of (map plain-Pattern (drop (i + 1) ps))))

pub field_here : (x : List ℕ) (fs : List FieldPattern) (i : ℕ) (f : FieldPattern) → i < length fs → f ≡ get_or fs i f
    → is_among x (fields_bound (field_patterns_of (map plain-FieldPattern (drop i fs)))) ≡ (is_among x (bound (plain-Pattern f.pattern)) || is_among x (fields_bound (field_patterns_of (map plain-FieldPattern (drop (i + 1) fs)))))
field_here x fs i f l e = ap (λ (gs : List FieldPattern). is_among x (fields_bound (field_patterns_of (map plain-FieldPattern gs)))) (drop_is fs i f l e)
    ∙ among_both x (bound (plain-FieldPattern f).1) (fields_bound (field_patterns_of (map plain-FieldPattern (drop (i + 1) fs))))
    ∙ ap (λ (q : Ident × PatternTree). is_among x (bound q.1) || is_among x (fields_bound (field_patterns_of (map plain-FieldPattern (drop (i + 1) fs))))) (field_pattern_by_parts f)

pub statement_here : (x : List ℕ) (ss : List Stmt) (i : ℕ) (a : Stmt) → i < length ss → a ≡ get_or ss i a
    → is_among x (declared_by (map plain-Stmt (drop i ss))) ≡ (is_among x (bound_by (plain-Stmt a)) || is_among x (declared_by (map plain-Stmt (drop (i + 1) ss))))
statement_here x ss i a l e = ap (λ (ts : List Stmt). is_among x (declared_by (map plain-Stmt ts))) (drop_is ss i a l e)
    ∙ among_both x (bound_by (plain-Stmt a)) (declared_by (map plain-Stmt (drop (i + 1) ss)))

pub name_here : (x : List ℕ) (ls : List Ident) (i : ℕ) (l : Ident) → i < length ls → l ≡ get_or ls i l
    → is_among x (idents (drop i ls)) ≡ (same_bytes x l.name || is_among x (idents (drop (i + 1) ls)))
name_here x ls i l h e = ap (λ (ms : List Ident). is_among x (idents ms)) (drop_is ls i l h e)
    ∙ ap (λ b. b || is_among x (idents (drop (i + 1) ls))) (sym (same_is_equal x l.name))
