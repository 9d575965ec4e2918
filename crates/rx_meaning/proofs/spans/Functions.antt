-- A typed program is that of the same syntax tree without spans.
use Rattle.std.proofs.Common.{◌≡◌, ℕ, suc, ℤ, Bool, true, false, List, [], ◌∷◌, map, Some, refl, sym, ap, ◌∙◌, subst}
use Rattle.std.specs.Prelude.{not, ◌||◌, if◌then◌else◌}
use Rattle.rx_core.specs.declared.types.Span.{Span}
use Rattle.rx_tree.specs.declared.tree.BoundLifetime.{BoundLifetime}
use Rattle.rx_tree.specs.Plain as plain
use Rattle.rx_tree.specs.Plain.{Parameter, Function, ItemTree, ProgramTree}
use Rattle.rx_tree.specs.Erase.{nowhere, erase_ident, erase_lifetime, erase_parameter, erase_function, erase_item, erase_program, SameProgram}
use Rattle.rx_resolve_names.specs.declared.resolved.NodeNames.{NodeNames}
use Rattle.rx_typed.specs.declared.nodes.Site.{Site}
use Rattle.rx_typed.specs.declared.nodes.Stage.{Stage}
use Rattle.rx_typed.specs.Named as named
use Rattle.rx_typed.specs.Naming.{Cursor, of_parameter, of_parameters, is_nothing, has_bounds, has_entry, entry_if, begins, function_named}
use Rattle.rx_typed.specs.Tree as tree
use Rattle.rx_typed.specs.Elaborated.{Assigned, parameters, function_body, elaborated}
use Rattle.rx_meaning.specs.Programs.{run, function_in, functions_in, is_main, main_in, typed_program}
use Rattle.rx_meaning.proofs.spans.Bare.{bare_body}
use Rattle.rx_meaning.proofs.spans.Elaborating.{function_body_bare}
use Rattle.rx_meaning.proofs.spans.Cursors.{Like, Both, node_like, entry_like, declare_like}
use Rattle.rx_meaning.proofs.spans.Numbering.{cong2, number_of, type_like, optional_type_like, body_like}

-- ---- parameters

abbrev parameter_of : named.Parameter → tree.Parameter
parameter_of x = record { node = number_of x.typ; variable = x.variable }

parameter_like : (x : Parameter) (c c' : Cursor) → Like c c' → Both parameter_of (of_parameter x c) (of_parameter (erase_parameter x) c')
parameter_like x c c' l =
    let v = declare_like (record { mutable = x.mutable; stage = Stage.Known }) c c' l in
    let t = type_like x.typ _ _ v.1 in
    (cong2 (λ n y. record { node = n; variable = y }) t.0 v.0, t.1)

parameters_like : (xs : List Parameter) (c c' : Cursor) → Like c c' → Both parameters (of_parameters xs c) (of_parameters (map erase_parameter xs) c')
parameters_like [] c c' l = (refl, l)
parameters_like (x ∷ xs) c c' l =
    let a = parameter_like x c c' l in
    let b = parameters_like xs _ _ a.1 in
    (cong2 (λ p ps. p ∷ ps) a.0 b.0, b.1)

-- ---- whether an item has an entry

nothing_mapped : {A B : Type 0} (f : A → B) (l : List A) → is_nothing (map f l) ≡ is_nothing l
nothing_mapped f [] = refl
nothing_mapped f (x ∷ l) = refl

bounds_same : (ls : List BoundLifetime) → has_bounds (map erase_lifetime ls) ≡ has_bounds ls
bounds_same [] = refl
bounds_same (x ∷ ls) = ap (λ b. not b || has_bounds (map erase_lifetime ls)) (nothing_mapped erase_ident x.bounds) ∙ ap (λ b. not (is_nothing x.bounds) || b) (bounds_same ls)

entry_same : (f : Function) → has_entry (erase_function f) ≡ has_entry f
entry_same f = ap (λ b. b || not (is_nothing (map erase_parameter f.params))) (bounds_same f.lifetimes) ∙ ap (λ b. has_bounds f.lifetimes || not b) (nothing_mapped erase_parameter f.params)

entry_by : (b : Bool) (c c' : Cursor) → Like c c' → Like (entry_if b c).1 (entry_if b c').1
entry_by true c c' l = (entry_like c c' l).1
entry_by false c c' l = l

entry_if_like : (b b' : Bool) → b' ≡ b → (c c' : Cursor) → Like c c' → Like (entry_if b c).1 (entry_if b' c').1
entry_if_like b b' e c c' l = subst (λ x. Like (entry_if b c).1 (entry_if x c').1) (sym e) (entry_by b c c' l)

-- ---- functions and programs

like_self : (c : Cursor) → Like c c
like_self c = record { number = refl; loops = refl; declared = refl; variables = refl; names = refl }

body_same : (T : Assigned) (b b' : named.Body) → bare_body b ≡ bare_body b' → function_body T b ≡ function_body T b'
body_same T b b' e = sym (function_body_bare T b) ∙ ap (function_body T) e ∙ function_body_bare T b'

function_same : (T : Assigned) (i : ℕ) (s : Span) (f : Function) (ns : List NodeNames) → elaborated T (function_named i s f ns) ≡ elaborated T (function_named i nowhere (erase_function f) ns)
function_same T i s f ns =
    let n = node_like s nowhere Site.Value (begins ns) (begins ns) (like_self (begins ns)) in
    let e = entry_if_like (has_entry f) (has_entry (erase_function f)) (entry_same f) _ _ n.1 in
    let p = parameters_like f.params _ _ e in
    let t = optional_type_like f.result _ _ p.1 in
    let b = body_like Site.Expects f.body _ _ t in
    cong2 (λ ps x. record { params = ps; body = x }) p.0 (body_same T _ _ b.0)

item_same : (x : ItemTree) (i : ℕ) (ns : List NodeNames) (T : Assigned) → function_in x i ns T ≡ function_in (erase_item x) i ns T
item_same (plain.rt_item s r) i ns T = refl
item_same (plain.struct_item s x) i ns T = refl
item_same (plain.enum_item s x) i ns T = refl
item_same (plain.function_item s f) i ns T = ap (λ g. Some g) (function_same T i s f ns)

items_same : (P : ProgramTree) (i : ℕ) (N : ℕ → List NodeNames) (T : ℕ → Assigned) → functions_in P i N T ≡ functions_in (erase_program P) i N T
items_same [] i N T = refl
items_same (x ∷ xs) i N T = ap (λ o. o ∷ functions_in xs (suc i) N T) (item_same x i (N i) (T i)) ∙ ap (λ l. function_in (erase_item x) i (N i) (T i) ∷ l) (items_same xs (suc i) N T)

is_main_same : (x : ItemTree) → is_main x ≡ is_main (erase_item x)
is_main_same (plain.rt_item s r) = refl
is_main_same (plain.struct_item s x) = refl
is_main_same (plain.enum_item s x) = refl
is_main_same (plain.function_item s f) = refl

main_same : (P : ProgramTree) (i : ℕ) → main_in P i ≡ main_in (erase_program P) i
main_same [] i = refl
main_same (x ∷ xs) i = ap (λ b. if b then i else main_in xs (suc i)) (is_main_same x) ∙ ap (λ k. if is_main (erase_item x) then i else k) (main_same xs (suc i))

erased_same : (P : ProgramTree) (N : ℕ → List NodeNames) (T : ℕ → Assigned) → typed_program P N T ≡ typed_program (erase_program P) N T
erased_same P N T =
    ap (λ l. record { functions = l; main = main_in P 0 }) (items_same P 0 N T) ∙ ap (λ k. record { functions = functions_in (erase_program P) 0 N T; main = k }) (main_same P 0)

pub same_runs : (P Q : ProgramTree) → SameProgram P Q → (N : ℕ → List NodeNames) (T : ℕ → Assigned) (given : List ℤ) (n : ℕ) → run (typed_program P N T) given n ≡ run (typed_program Q N T) given n
same_runs P Q e N T given n =
    ap (λ R. run R given n) (erased_same P N T) ∙ ap (λ X. run (typed_program X N T) given n) e ∙ sym (ap (λ R. run R given n) (erased_same Q N T))
