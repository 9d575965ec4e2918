-- The elements of a list are written one after the other: what is left of the list is the next element and what is left behind it.
use Rattle.std.proofs.Common.{◌≡◌, ℕ, suc, get_or, add-one, drop-cons, ◌+◌, ◌<◌, Bool, true, false, List, [], ◌∷◌, ◌++◌, length, drop, refl, sym, ap, ◌∙◌, append_assoc, append-nil, arith}
use Rattle.std.specs.Prelude.{codes, ◌==◌}
use Rattle.std.proofs.lemmas.Bool.{ne_eqb}
use Rattle.rx_print_spelling.specs.Pieces.{Piece, flat, mark, space, separated, tuple_of, lone_comma, arguments_of, fields_of}
use Rattle.rx_print_spelling.specs.Patterns.{parts_of}
use Rattle.rx_print_parts.specs.Parts.{next_of, closed_tuple}
use Rattle.rx_print_parts.proofs.Flat.{flat-append}
use Rattle.rx_print_parts.proofs.Written.{written_three}

pub drop_item : {A : Type 0} (l : List A) (i : ℕ) (x : A) → i < length l → x ≡ get_or l i x → drop i l ≡ x ∷ drop (i + 1) l
drop_item l i x b e = drop-cons l i x b ∙ ap (λ y. y ∷ drop (suc i) l) (sym e) ∙ ap (λ n. x ∷ drop n l) (sym (add-one i))

-- the next of a list written, where what is left of the list is this one and then what is left behind it
pub all_step : {A : Type 0} (before after : List A → List Piece) (one : A → List Piece) → ((x : A) (xs : List A) → before (x ∷ xs) ≡ one x ++ after xs)
    → (l : List A) (i : ℕ) (x : A) (o p all : List ℕ) → i < length l → x ≡ get_or l i x → p ≡ o ++ flat (one x) → o ++ flat (before (drop i l)) ≡ all → p ++ flat (after (drop (i + 1) l)) ≡ all
all_step before after one h l i x o p all low is w k =
    ap (λ t. t ++ flat (after (drop (i + 1) l))) w ∙ append_assoc o (flat (one x)) (flat (after (drop (i + 1) l))) ∙ ap (λ t. o ++ t) (sym (flat-append (one x) (after (drop (i + 1) l))))
    ∙ ap (λ t. o ++ flat t) (sym (h x (drop (i + 1) l)) ∙ ap before (sym (drop_item l i x low is))) ∙ k

-- ---- with a comma between each two

-- what follows an element
abbrev pub more_of : List (List Piece) → List Piece
more_of [] = []
more_of (ps ∷ pss) = mark (codes ",") ∷ space ∷ separated (ps ∷ pss)

-- what is left of a list, of which some may have been written
abbrev pub left_of : Bool → List (List Piece) → List Piece
left_of false pss = separated pss
left_of true pss = more_of pss

separated_next : (ps : List Piece) (pss : List (List Piece)) → separated (ps ∷ pss) ≡ ps ++ more_of pss
separated_next ps [] = sym (append-nil ps)
separated_next ps (qs ∷ pss) = refl

left_next : (b : Bool) (ps : List Piece) (pss : List (List Piece)) → left_of b (ps ∷ pss) ≡ next_of b ps ++ left_of true pss
left_next false ps pss = separated_next ps pss
left_next true ps pss = ap (λ l. mark (codes ",") ∷ space ∷ l) (separated_next ps pss)

-- ---- lists whose elements are seen as pieces

pub record Seen {A : Type 0} (each : List A → List (List Piece)) (one : A → List Piece) : Type 0 where
  pub none : each [] ≡ []
  pub some : (x : A) (xs : List A) → each (x ∷ xs) ≡ one x ∷ each xs

pub next_written : {A : Type 0} {each : List A → List (List Piece)} {one : A → List Piece} → Seen each one
    → (b : Bool) (l : List A) (i : ℕ) (x : A) (o p all : List ℕ) → i < length l → x ≡ get_or l i x → p ≡ o ++ flat (next_of b (one x))
    → o ++ flat (left_of b (each (drop i l))) ≡ all → p ++ flat (left_of true (each (drop (i + 1) l))) ≡ all
next_written {each = each} {one = one} h b =
    all_step (λ l. left_of b (each l)) (λ l. left_of true (each l)) (λ x. next_of b (one x)) (λ x xs. ap (left_of b) (h.some x xs) ∙ left_next b (one x) (each xs))

tuple_end : {A : Type 0} {each : List A → List (List Piece)} {one : A → List Piece} → Seen each one
    → (l : List A) → flat (closed_tuple (length l == 1)) ≡ flat (lone_comma (each l) ++ mark (codes ")") ∷ [])
tuple_end h [] = ap (λ p. flat (lone_comma p ++ mark (codes ")") ∷ [])) (sym h.none)
tuple_end {one = one} h (x ∷ []) = ap (λ p. flat (lone_comma p ++ mark (codes ")") ∷ [])) (sym (h.some x [] ∙ ap (λ p. one x ∷ p) h.none))
tuple_end {one = one} h (x ∷ y ∷ l) =
    ap (λ b. flat (closed_tuple b)) (ne_eqb (length (x ∷ y ∷ l)) 1 (λ e. omega arith))
    ∙ ap (λ p. flat (lone_comma p ++ mark (codes ")") ∷ [])) (sym (h.some x (y ∷ l) ∙ ap (λ p. one x ∷ p) (h.some y l)))

pub tuple_written : {A : Type 0} {each : List A → List (List Piece)} {one : A → List Piece} → Seen each one
    → (l : List A) (o p q r end : List ℕ) → p ≡ o ++ (40 ∷ []) → q ≡ p ++ flat (separated (each l)) → end ≡ flat (closed_tuple (length l == 1)) → r ≡ q ++ end → r ≡ o ++ flat (tuple_of (each l))
tuple_written {each = each} h l o p q r end e f c g =
    let rest = lone_comma (each l) ++ mark (codes ")") ∷ [] in
    written_three o p q r (40 ∷ []) (flat (separated (each l))) (flat rest) e f (g ∙ ap (λ t. q ++ t) (c ∙ tuple_end h l))
    ∙ ap (λ t. o ++ (40 ∷ t)) (sym (flat-append (separated (each l)) rest))

-- ---- lists that are empty, or not

nothing : {A : Type 0} {each : List A → List (List Piece)} {one : A → List Piece} → Seen each one → (l : List A) (b : Bool) → b ≡ (length l == 0) → b ≡ true → each l ≡ []
nothing h [] b e t = h.none
nothing h (x ∷ l) b e t = let f : (length (x ∷ l) == 0) ≡ false = ne_eqb (length (x ∷ l)) 0 (λ e. omega arith) in cc

-- whatever is said of a list that has some
pub something : {A : Type 0} {each : List A → List (List Piece)} {one : A → List Piece} → Seen each one → (f g : List (List Piece) → List Piece) → ((ps : List Piece) (pss : List (List Piece)) → f (ps ∷ pss) ≡ g (ps ∷ pss))
    → (l : List A) (b : Bool) → b ≡ (length l == 0) → b ≡ false → f (each l) ≡ g (each l)
something {A = A} h f g same [] b e t = let u : (length {A = A} [] == 0) ≡ true = refl in cc
something {each = each} {one = one} h f g same (x ∷ l) b e t = ap f (h.some x l) ∙ same (one x) (each l) ∙ ap g (sym (h.some x l))

pub no_parts : {A : Type 0} {each : List A → List (List Piece)} {one : A → List Piece} → Seen each one → (l : List A) (b : Bool) → b ≡ (length l == 0) → b ≡ true → [] ≡ flat (parts_of (each l))
no_parts h l b e t = ap (λ p. flat (parts_of p)) (sym (nothing h l b e t))

pub some_parts : {A : Type 0} {each : List A → List (List Piece)} {one : A → List Piece} → Seen each one → (l : List A) (b : Bool) → b ≡ (length l == 0) → b ≡ false → arguments_of (each l) ≡ parts_of (each l)
some_parts h = something h arguments_of parts_of (λ ps pss. refl)

pub no_fields : {A : Type 0} {each : List A → List (List Piece)} {one : A → List Piece} → Seen each one → (l : List A) (b : Bool) → b ≡ (length l == 0) → b ≡ true → 123 ∷ 125 ∷ [] ≡ flat (fields_of (each l))
no_fields h l b e t = ap (λ p. flat (fields_of p)) (sym (nothing h l b e t))

abbrev in_braces : List (List Piece) → List Piece
in_braces pss = mark (codes "{") ∷ space ∷ (separated pss ++ (space ∷ mark (codes "}") ∷ []))

pub some_fields : {A : Type 0} {each : List A → List (List Piece)} {one : A → List Piece} → Seen each one → (l : List A) (b : Bool) → b ≡ (length l == 0) → b ≡ false
    → (o p q r : List ℕ) → p ≡ o ++ (123 ∷ 32 ∷ []) → q ≡ p ++ flat (separated (each l)) → r ≡ q ++ (32 ∷ 125 ∷ []) → r ≡ o ++ flat (fields_of (each l))
some_fields {each = each} h l b e t o p q r w v u =
    let end = space ∷ mark (codes "}") ∷ [] in
    written_three o p q r (123 ∷ 32 ∷ []) (flat (separated (each l))) (flat end) w v u
    ∙ ap (λ t. o ++ (123 ∷ 32 ∷ t)) (sym (flat-append (separated (each l)) end))
    ∙ ap (λ s. o ++ flat s) (something h in_braces fields_of (λ ps pss. refl) l b e t)
