-- The words at the special places of a run, written one after the other.
use Rattle.std.proofs.Common.{◌≡◌, ℕ, Bool, true, false, List, [], ◌∷◌, ◌++◌, length, map, refl, sym, ap, ◌∙◌, cond, arith, append_assoc, append-nil}
use Rattle.std.specs.Prelude.{◌==◌, codes}
use Rattle.std.proofs.lemmas.Bool.{false≢true, ne_eqb}
use Rattle.rx_tree.specs.Plain as plain
use Rattle.rx_core.specs.declared.types.Span.{Span}
use Rattle.rx_lex.specs.Tok.{Tok}
use Rattle.rx_print_spelling.specs.Pieces.{Piece, flat, mark, keyword, identifier, space, separated, arguments_of}
use Rattle.rx_print_spelling.specs.Expressions.{each}
use Rattle.rx_print_parts.specs.Parts.{comma_pieces, next_of}
use Rattle.rx_print_parts.proofs.Flat.{flat-append}
use Rattle.rx_print_parts.proofs.Written.{written_two, written_three}
use Rattle.rx_print_parts.proofs.WrittenLists.{Seen}
use Rattle.rx_hoist_plan.specs.declared.plan.Variable.{Variable}
use Rattle.rx_hoist_plan.specs.PlainPlan.{plain-Variable}
use Rattle.rx_hoist_extraction.specs.Names.{Names}
use Rattle.rx_hoist_extraction.specs.Plan.{names_of}
use Rattle.rx_hoist_extraction.specs.Made.{as_expressions}
use Rattle.rx_splice_laws.specs.Moving.{Moving, returned, spaced, star, enclosed_star, long_field, enclosed_at, star_at, first_opening, first_closing, opening, closing, variant_of}
use Rattle.rx_splice_edits.specs.Jumping.{one_name, values_pieces, jump_pieces}

-- ---- the variant of an exit

-- `Exit_NAME::V`
pub variant_written : (o p q r s n m v w : List ℕ) → p ≡ o ++ codes "Exit_" → q ≡ p ++ m → m ≡ n → r ≡ q ++ codes "::" → s ≡ r ++ w → w ≡ v
    → s ≡ o ++ ((codes "Exit_" ++ n) ++ (codes "::" ++ v))
variant_written o p q r s n m v w first second is third last same =
    written_two o q s (codes "Exit_" ++ n) (codes "::" ++ v)
    (written_two o p q (codes "Exit_") n first (second ∙ ap (λ l. p ++ l) is))
    (written_two q r s (codes "::") v third (last ∙ ap (λ l. r ++ l) same))

-- and a word behind it
pub variant_then : (o p q enum v w : List ℕ) → p ≡ o ++ (enum ++ (codes "::" ++ v)) → q ≡ p ++ w → q ≡ o ++ (enum ++ (codes "::" ++ (v ++ w)))
variant_then o p q enum v w first last =
    written_two o p q (enum ++ (codes "::" ++ v)) w first last
    ∙ ap (λ l. o ++ l) (append_assoc enum (codes "::" ++ v) w ∙ ap (λ l. enum ++ l) (append_assoc (codes "::") v w))

-- ---- names of variables

abbrev pub names_in : List Variable → Names
names_in vs = names_of (map plain-Variable vs)

pub next_name : (b : Bool) (o p q c x y : List ℕ) → p ≡ o ++ c → c ≡ flat (comma_pieces b) → q ≡ p ++ y → y ≡ x → q ≡ o ++ flat (next_of b (one_name x))
next_name b o p q c x y first comma last same =
    written_two o p q (flat (comma_pieces b)) (x ++ []) (first ∙ ap (λ l. o ++ l) comma) (last ∙ ap (λ l. p ++ l) (same ∙ sym (append-nil x)))
    ∙ ap (λ l. o ++ l) (sym (flat-append (comma_pieces b) (one_name x)))

pub variables_seen : Seen (λ vs. map one_name (names_in vs)) (λ (v : Variable). one_name v.name)
variables_seen = record { none = refl; some = λ x xs. refl }

pub no_values : (vs : List Variable) (b : Bool) (o : List ℕ) → b ≡ (length vs == 0) → b ≡ true → o ≡ o ++ flat (values_pieces (names_in vs))
no_values [] b o is none = sym (append-nil o)
no_values (v ∷ vs) b o is none = absurd (false≢true (sym (ne_eqb (length (v ∷ vs)) 0 (λ e. omega arith)) ∙ sym is ∙ none))

pub some_values : (vs : List Variable) (b : Bool) (o p q r : List ℕ) → b ≡ (length vs == 0) → b ≡ false
    → p ≡ o ++ codes "(" → q ≡ p ++ flat (separated (map one_name (names_in vs))) → r ≡ q ++ codes ")" → r ≡ o ++ flat (values_pieces (names_in vs))
some_values [] b o p q r is some first next last = absurd (false≢true (sym some ∙ is))
some_values (v ∷ vs) b o p q r is some first next last =
    let all = separated (map one_name (names_in (v ∷ vs))) in
    written_three o p q r (codes "(") (flat all) (codes ")") first next last
    ∙ ap (λ l. o ++ (40 ∷ l)) (sym (flat-append all (mark (codes ")") ∷ [])))

-- ---- jumps

each_name : (s : Span) (xs : Names) → each 0 (as_expressions (map (plain.var s) xs)) ≡ map one_name xs
each_name s [] = refl
each_name s (x ∷ xs) = ap (λ l. one_name x ∷ l) (each_name s xs)

-- the words of a jump that is made are these
pub jump_words : (M : Moving) (v : List ℕ) (xs : Names) → returned M (record { variant = v; outs = xs }) ≡ jump_pieces M.enum v xs
jump_words M v [] = refl
jump_words M v (x ∷ xs) =
    ap (λ l. keyword (codes "return") ∷ space ∷ identifier M.enum ∷ mark (codes "::") ∷ identifier v ∷ arguments_of l) (each_name M.span (x ∷ xs))

pub jump_written : (o p q enum v : List ℕ) (xs : Names) → o ≡ codes "return " → p ≡ o ++ (enum ++ (codes "::" ++ v)) → q ≡ p ++ flat (values_pieces xs)
    → q ≡ flat (jump_pieces enum v xs)
jump_written o p q enum v xs begins first last =
    variant_then o p q enum v (flat (values_pieces xs)) first last ∙ ap (λ l. l ++ (enum ++ (codes "::" ++ (v ++ flat (values_pieces xs))))) begins

-- ---- variables behind references

pub star_written : (o p x y : List ℕ) → o ≡ codes "*" → p ≡ o ++ y → y ≡ x → p ≡ flat (star x)
star_written o p x y begins last same = last ∙ ap (λ l. l ++ y) begins ∙ ap (λ l. 42 ∷ l) (same ∙ sym (append-nil x))

pub enclosed_written : (o p q x y : List ℕ) → o ≡ codes "(*" → p ≡ o ++ y → y ≡ x → q ≡ p ++ codes ")" → q ≡ flat (enclosed_star x)
enclosed_written o p q x y begins first same last =
    last ∙ ap (λ l. l ++ codes ")") (first ∙ ap (λ l. l ++ y) begins ∙ ap (λ l. 40 ∷ 42 ∷ l) same)

pub long_written : (o p q x y : List ℕ) → o ≡ x → p ≡ o ++ codes ": *" → q ≡ p ++ y → y ≡ x → q ≡ flat (long_field x)
long_written o p q x y begins first last same =
    written_two o p q (codes ": *") x first (last ∙ ap (λ l. p ++ l) same)
    ∙ ap (λ l. l ++ (codes ": *" ++ x)) begins
    ∙ ap (λ l. x ++ (58 ∷ 32 ∷ 42 ∷ l)) (sym (append-nil x))

-- a field without `:`
pub field_told : (ts : List Tok) (s : Span) (x : List ℕ) (b : Bool) → b ≡ true → flat (long_field x) ≡ flat (star_at ts b s x)
field_told ts s x b is = ap (λ c. flat (star_at ts c s x)) (sym is)

pub enclosed_told : (ts : List Tok) (s : Span) (x : List ℕ) (b e : Bool) → b ≡ false → e ≡ enclosed_at ts s → e ≡ true
    → flat (enclosed_star x) ≡ flat (star_at ts b s x)
enclosed_told ts s x b e is same yes_it =
    ap (λ c. flat (cond c (enclosed_star x) (star x))) (sym yes_it ∙ same) ∙ ap (λ c. flat (star_at ts c s x)) (sym is)

pub bare_told : (ts : List Tok) (s : Span) (x : List ℕ) (b e : Bool) → b ≡ false → e ≡ enclosed_at ts s → e ≡ false → flat (star x) ≡ flat (star_at ts b s x)
bare_told ts s x b e is same not_it =
    ap (λ c. flat (cond c (enclosed_star x) (star x))) (sym not_it ∙ same) ∙ ap (λ c. flat (star_at ts c s x)) (sym is)

-- ---- round the operand of a `return`

abbrev handing_over : Moving → List Piece
handing_over M = variant_of M (codes "Return") ++ mark (codes "(") ∷ []

pub first_opening_told : (M : Moving) (b : Bool) → b ≡ M.unit → b ≡ true → flat (first_opening M) ≡ flat (opening M)
first_opening_told M b same is = ap (λ u. flat (cond u (first_opening M) (handing_over M))) (sym is ∙ same)

pub handing_over_told : (M : Moving) (b : Bool) → b ≡ M.unit → b ≡ false → flat (handing_over M) ≡ flat (opening M)
handing_over_told M b same is = ap (λ u. flat (cond u (first_opening M) (handing_over M))) (sym is ∙ same)

pub first_closing_told : (M : Moving) (b : Bool) → b ≡ M.unit → b ≡ true → flat (first_closing M) ≡ flat (closing M)
first_closing_told M b same is = ap (λ u. flat (cond u (first_closing M) (mark (codes ")") ∷ []))) (sym is ∙ same)

pub other_closing_told : (M : Moving) (b : Bool) → b ≡ M.unit → b ≡ false → codes ")" ≡ flat (closing M)
other_closing_told M b same is = ap (λ u. flat (cond u (first_closing M) (mark (codes ")") ∷ []))) (sym is ∙ same)

pub spaced_written : (b : Bool) (ps : List Piece) (o p c : List ℕ) → o ≡ c → c ≡ flat (spaced b []) → p ≡ o ++ flat ps → p ≡ flat (spaced b ps)
spaced_written true ps o p c begins is last = last ∙ ap (λ l. l ++ flat ps) (begins ∙ is)
spaced_written false ps o p c begins is last = last ∙ ap (λ l. l ++ flat ps) (begins ∙ is)

pub first_opened : (M : Moving) (o p q r x y : List ℕ) → p ≡ o ++ codes "{ let " → q ≡ p ++ x → x ≡ y → y ≡ M.out_0 → r ≡ q ++ codes ": () = "
    → r ≡ o ++ flat (first_opening M)
first_opened M o p q r x y first next is fresh last =
    written_three o p q r (codes "{ let ") M.out_0 (codes ": () = ") first (next ∙ ap (λ l. p ++ l) (is ∙ fresh)) last

pub first_closed : (M : Moving) (o p q r : List ℕ) → p ≡ o ++ codes "; " → q ≡ p ++ (M.enum ++ (codes "::" ++ codes "Return")) → r ≡ q ++ codes " }"
    → r ≡ o ++ flat (first_closing M)
first_closed M o p q r first next last =
    written_two o p r (codes "; ") (M.enum ++ (codes "::" ++ (codes "Return" ++ codes " }"))) first (variant_then p q r M.enum (codes "Return")
    (codes " }") next last)
