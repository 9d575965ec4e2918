-- In the spelling of items and programs each word ends before the next, so the canonical text lexes to its words: by the parts of each item.
use Rattle.std.proofs.Common.{◌≡◌, ℕ, true, List, [], ◌∷◌, ◌++◌, Option, Some, None, codes, map, refl, ap, ◌∙◌, append_assoc}
use Rattle.rx_core.specs.declared.types.Span.{Span}
use Rattle.rx_tree.specs.declared.tree.Ident.{Ident}
use Rattle.rx_tree.specs.declared.tree.Derive.{Derive}
use Rattle.rx_tree.specs.declared.tree.Derive.TheVariants.{Clone, Copy}
use Rattle.rx_tree.specs.declared.tree.BoundLifetime.{BoundLifetime}
use Rattle.rx_tree.specs.Plain as plain
use Rattle.rx_tree.specs.Plain.{TypeTree, Parameter, Function, FieldOf, Structure, VariantOf, Enumeration, ItemTree, ProgramTree}
use Rattle.rx_tree.specs.Lists.{Every}
use Rattle.rx_lex.specs.Words as words
use Rattle.rx_lex.specs.Stands.{stands_alone}
use Rattle.rx_lex.specs.Tokens.{Lexes}
use Rattle.rx_print_spelling.specs.Pieces.{Piece, flat, mark, lifetime, space, separated, entries, entries_of, mutable_pieces}
use Rattle.rx_print_spelling.specs.Types.{each_type}
use Rattle.rx_print_spelling.specs.Expressions.{block}
use Rattle.rx_print_spelling.specs.Items.{derive_pieces, derives_pieces, in_angles, one_lifetime, bounds_pieces, behind_lifetime, bound_pieces, field_pieces, structure_pieces, variant_pieces, enumeration_pieces, parameter_pieces, result_pieces, function_pieces, item_pieces, after_item, program_pieces, print_program}
use Rattle.rx_print_spelling.specs.Formed.{Lasting, WrittenType, FormedBound, FormedField, FormedVariant, FormedParameter, FormedItem, FormedProgram}
use Rattle.rx_print_spelling.proofs.Headers.{header_pieces}
use Rattle.rx_print_spelling.proofs.Pieces.{places, stand_lexes, flat_then}
use Rattle.rx_print_spelling.proofs.Standing.{Quiet, Apart, Ends, EachEnds, ends, ended, nothing, word_then, whole, identifier_then, keyword_then, lifetime_then, line_then, space_then, blanks_then, appended, joined, close, separated_end, mutable_stand}
use Rattle.rx_print_spelling.proofs.TypesStand.{less_stands, lifetime_ends, types_stand, type_stands, written_ends, variant_ends}
use Rattle.rx_print_spelling.proofs.ExpressionsStand.{between_then, body_ends}

-- ---- lists of elements

each_ends : {A : Type 0} (P : A → Type 0) (spell : A → List Piece) → ((x : A) → P x → Ends (spell x)) → (xs : List A) → Every P xs → EachEnds (map spell xs)
each_ends P spell h [] f = tt
each_ends P spell h (x ∷ xs) f = (h x f.0, each_ends P spell h xs f.1)

entries_stand : (pss : List (List Piece)) → EachEnds pss → (rest : List ℕ) → Apart (entries pss) rest
entries_stand [] f rest = nothing rest
entries_stand (ps ∷ pss) f rest = line_then 1 (joined ps f.0 (refl, refl) (whole refl refl (entries_stand pss f.1 rest)))

entries_of_stand : (pss : List (List Piece)) → EachEnds pss → (rest : List ℕ) → Apart (entries_of pss) rest
entries_of_stand [] f rest = whole refl refl (close refl refl)
entries_of_stand (ps ∷ pss) f rest = whole refl refl (appended (entries (ps ∷ pss)) (entries_stand (ps ∷ pss) f _) (line_then 0 (close refl refl)))

-- ---- what is derived, and lifetimes

derive_ends : (d : Derive) → Ends (derive_pieces d)
derive_ends Clone = ends (λ rest q. identifier_then refl q.0 (nothing rest))
derive_ends Copy = ends (λ rest q. identifier_then refl q.0 (nothing rest))

each_derive : (ds : List Derive) → EachEnds (map derive_pieces ds)
each_derive [] = tt
each_derive (d ∷ ds) = (derive_ends d, each_derive ds)

derives_stand : (ds : List Derive) (rest : List ℕ) → Apart (derives_pieces ds) rest
derives_stand [] rest = nothing rest
derives_stand (d ∷ ds) rest =
    whole refl refl (whole refl refl (identifier_then refl refl (whole refl refl
    (joined (separated (map derive_pieces (d ∷ ds))) (separated_end (map derive_pieces (d ∷ ds)) (each_derive (d ∷ ds))) (refl, refl)
    (whole refl refl (whole refl refl (line_then 0 (nothing rest))))))))

bounds_end : (ls : List Ident) (l : Ident) → Every Lasting (l ∷ ls) → Ends (bounds_pieces (l ∷ ls))
bounds_end [] l f = lifetime_ends l f.0
bounds_end (k ∷ ls) l f = ends (λ rest q. lifetime_then f.0.0 refl (between_then refl (ended (bounds_end ls k f.1) rest q)))

behind_ends : (n : Ident) (bs : List Ident) → Lasting n → Every Lasting bs → Ends (lifetime n ∷ behind_lifetime bs)
behind_ends n [] f h = lifetime_ends n f
behind_ends n (b ∷ bs) f h = ends (λ rest q. lifetime_then f.0 refl (word_then (words.mark refl) refl (space_then (ended (bounds_end bs b h) rest q))))

bound_ends : (l : BoundLifetime) → FormedBound l → Ends (bound_pieces l)
bound_ends l f = behind_ends l.name l.bounds f.0 f.1

-- what begins with a lifetime stands behind `<`
less_first : (l : Ident) (ps : List Piece) (qss : List (List Piece)) (qs : List Piece) (rest : List ℕ) → Lasting l
    → stands_alone (codes "<") (flat (separated ((lifetime l ∷ ps) ∷ qss) ++ qs) ++ rest) ≡ true
less_first l ps [] qs rest f = ap (stands_alone (codes "<")) (flat_then (lifetime l ∷ ps) qs rest ∙ append_assoc l.name (flat ps) (flat qs ++ rest)) ∙ less_stands l.name _ f.0
less_first l ps (rs ∷ qss) qs rest f =
    ap (stands_alone (codes "<")) (flat_then (separated ((lifetime l ∷ ps) ∷ rs ∷ qss)) qs rest ∙ flat_then (lifetime l ∷ ps) _ (flat qs ++ rest) ∙ append_assoc l.name (flat ps) _)
    ∙ less_stands l.name _ f.0

-- before a space or a parenthesis
angles_stand : (l : Ident) (ps : List Piece) (qss : List (List Piece)) (rest : List ℕ) → Lasting l → EachEnds ((lifetime l ∷ ps) ∷ qss) → stands_alone (codes ">") rest ≡ true
    → Apart (in_angles ((lifetime l ∷ ps) ∷ qss)) rest
angles_stand l ps qss rest f g e =
    word_then (words.mark refl) (less_first l ps qss (mark (codes ">") ∷ []) rest f)
    (joined (separated ((lifetime l ∷ ps) ∷ qss)) (separated_end ((lifetime l ∷ ps) ∷ qss) g) (refl, refl) (word_then (words.mark refl) e (nothing rest)))

lifetimes_stand : (ls : List Ident) (rest : List ℕ) → Every Lasting ls → stands_alone (codes ">") rest ≡ true → Apart (in_angles (map one_lifetime ls)) rest
lifetimes_stand [] rest f e = nothing rest
lifetimes_stand (l ∷ ls) rest f e = angles_stand l [] (map one_lifetime ls) rest f.0 (each_ends Lasting one_lifetime lifetime_ends (l ∷ ls) f) e

bound_lifetimes_stand : (ls : List BoundLifetime) (rest : List ℕ) → Every FormedBound ls → stands_alone (codes ">") rest ≡ true → Apart (in_angles (map bound_pieces ls)) rest
bound_lifetimes_stand [] rest f e = nothing rest
bound_lifetimes_stand (l ∷ ls) rest f e =
    angles_stand l.name (behind_lifetime l.bounds) (map bound_pieces ls) rest f.0.0 (each_ends FormedBound bound_pieces bound_ends (l ∷ ls) f) e

-- behind a name
lifetimes_quiet : (ls : List Ident) (ps : List Piece) (rest : List ℕ) → Quiet (flat ps ++ rest) → Quiet (flat (in_angles (map one_lifetime ls) ++ ps) ++ rest)
lifetimes_quiet [] ps rest q = q
lifetimes_quiet (l ∷ ls) ps rest q = (refl, refl)

bound_lifetimes_quiet : (ls : List BoundLifetime) (ps : List Piece) (rest : List ℕ) → Quiet (flat ps ++ rest) → Quiet (flat (in_angles (map bound_pieces ls) ++ ps) ++ rest)
bound_lifetimes_quiet [] ps rest q = q
bound_lifetimes_quiet (l ∷ ls) ps rest q = (refl, refl)

-- ---- items

field_ends : (x : FieldOf) → FormedField x → Ends (field_pieces x)
field_ends x f = ends (λ rest q. identifier_then f.0 refl (ended (written_ends x.typ f.1) rest q))

variant_of_ends : (v : VariantOf) → FormedVariant v → Ends (variant_pieces v)
variant_of_ends v f = variant_ends v.name (each_type v.types) f.0 (types_stand v.types f.1)

parameter_ends : (x : Parameter) → FormedParameter x → Ends (parameter_pieces x)
parameter_ends x f = ends (λ rest q. appended (mutable_pieces x.mutable) (mutable_stand x.mutable _) (identifier_then f.0 refl (ended (written_ends x.typ f.1) rest q)))

result_ends : (r : Option TypeTree) → WrittenType r → Ends (result_pieces r)
result_ends None f = ends (λ rest q. nothing rest)
result_ends (Some t) f = ends (λ rest q. between_then refl (ended (type_stands t f).alone rest q))

result_quiet : (r : Option TypeTree) (ps : List Piece) (rest : List ℕ) → Quiet (flat ps ++ rest) → Quiet (flat (result_pieces r ++ ps) ++ rest)
result_quiet None ps rest q = q
result_quiet (Some t) ps rest q = (refl, refl)

structure_stands : (x : Structure) (rest : List ℕ) → words.is_identifier x.name.name ≡ true → Every Lasting x.lifetimes → Every FormedField x.fields → Apart (structure_pieces x) rest
structure_stands x rest i f g =
    appended (derives_pieces x.derives) (derives_stand x.derives _) (keyword_then refl refl (space_then
    (identifier_then i (lifetimes_quiet x.lifetimes (space ∷ entries_of (map field_pieces x.fields)) rest (refl, refl)).0
    (appended (in_angles (map one_lifetime x.lifetimes)) (lifetimes_stand x.lifetimes _ f refl)
    (space_then (entries_of_stand (map field_pieces x.fields) (each_ends FormedField field_pieces field_ends x.fields g) rest))))))

enumeration_stands : (x : Enumeration) (rest : List ℕ) → words.is_identifier x.name.name ≡ true → Every Lasting x.lifetimes → Every FormedVariant x.variants → Apart (enumeration_pieces x) rest
enumeration_stands x rest i f g =
    appended (derives_pieces x.derives) (derives_stand x.derives _) (keyword_then refl refl (space_then
    (identifier_then i (lifetimes_quiet x.lifetimes (space ∷ entries_of (map variant_pieces x.variants)) rest (refl, refl)).0
    (appended (in_angles (map one_lifetime x.lifetimes)) (lifetimes_stand x.lifetimes _ f refl)
    (space_then (entries_of_stand (map variant_pieces x.variants) (each_ends FormedVariant variant_pieces variant_of_ends x.variants g) rest))))))

-- what stands in front of a function's body, before anything
pub header_stands : (x : Function) → words.is_identifier x.name.name ≡ true → Every FormedBound x.lifetimes → Every FormedParameter x.params → WrittenType x.result → (rest : List ℕ) → Apart (header_pieces x) rest
header_stands x i f g h rest =
    keyword_then refl refl (space_then
    (identifier_then i (bound_lifetimes_quiet x.lifetimes (mark (codes "(") ∷ (separated (map parameter_pieces x.params) ++ (mark (codes ")") ∷ (result_pieces x.result ++ space ∷ [])))) rest (refl, refl)).0
    (appended (in_angles (map bound_pieces x.lifetimes)) (bound_lifetimes_stand x.lifetimes _ f refl)
    (whole refl refl (joined (separated (map parameter_pieces x.params)) (separated_end (map parameter_pieces x.params) (each_ends FormedParameter parameter_pieces parameter_ends x.params g)) (refl, refl)
    (whole refl refl (joined (result_pieces x.result) (result_ends x.result h) (refl, refl) (space_then (nothing rest)))))))))

function_ends : (x : Function) → (s : Span) → FormedItem (plain.function_item s x) → Ends (function_pieces x)
function_ends x s f = ends (λ rest q.
    keyword_then refl refl (space_then
    (identifier_then f.0 (bound_lifetimes_quiet x.lifetimes (mark (codes "(") ∷ (separated (map parameter_pieces x.params) ++ (mark (codes ")") ∷ (result_pieces x.result ++ (space ∷ block 0 x.body))))) rest (refl, refl)).0
    (appended (in_angles (map bound_pieces x.lifetimes)) (bound_lifetimes_stand x.lifetimes _ f.1 refl)
    (whole refl refl (joined (separated (map parameter_pieces x.params)) (separated_end (map parameter_pieces x.params) (each_ends FormedParameter parameter_pieces parameter_ends x.params f.2)) (refl, refl)
    (whole refl refl (joined (result_pieces x.result) (result_ends x.result f.3) (refl, refl) (space_then (ended (body_ends x.body 0 f.4) rest q))))))))))

item_ends : (i : ItemTree) → FormedItem i → Ends (item_pieces i)
item_ends (plain.rt_item s r) f = ends (λ rest q. keyword_then refl refl (space_then (identifier_then refl refl (close refl refl))))
item_ends (plain.struct_item s x) f = ends (λ rest q. structure_stands x rest f.0 f.1 f.2)
item_ends (plain.enum_item s x) f = ends (λ rest q. enumeration_stands x rest f.0 f.1 f.3)
item_ends (plain.function_item s x) f = function_ends x s f

after_quiet : (p : ProgramTree) → Quiet (flat (after_item p) ++ [])
after_quiet [] = (refl, refl)
after_quiet (i ∷ is) = (refl, refl)

after_stands : (p : ProgramTree) → FormedProgram p → Apart (after_item p) []
after_stands [] f = line_then 0 (nothing [])
after_stands (i ∷ is) f = blanks_then refl (joined (item_pieces i) (item_ends i f.0) (after_quiet is) (after_stands is f.1))

program_stands : (p : ProgramTree) → FormedProgram p → Apart (program_pieces p) []
program_stands [] f = line_then 0 (nothing [])
program_stands (i ∷ is) f = joined (item_pieces i) (item_ends i f.0) (after_quiet is) (after_stands is f.1)

pub program_lexes : (p : ProgramTree) → FormedProgram p → Lexes (print_program p) (places 0 (program_pieces p))
program_lexes p f = stand_lexes (program_pieces p) (program_stands p f).stand
