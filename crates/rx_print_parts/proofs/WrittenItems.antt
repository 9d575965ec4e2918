-- The parts of items are written one after the other: what is left of a list is the next element and what is left behind it.
use Rattle.std.proofs.Common.{◌≡◌, ℕ, get_or, ◌+◌, ◌<◌, Bool, true, false, List, [], ◌∷◌, ◌++◌, length, drop, map, refl, sym, ap, ◌∙◌, append_assoc}
use Rattle.std.specs.Prelude.{◌==◌, codes}
use Rattle.rx_tree.specs.declared.tree.Ident.{Ident}
use Rattle.rx_tree.specs.declared.tree.Derive.{Derive}
use Rattle.rx_print_spelling.specs.Pieces.{Piece, flat, mark, line, separated, entries, entries_of}
use Rattle.rx_print_spelling.specs.Expressions.{between}
use Rattle.rx_print_spelling.specs.Items.{derive_pieces, derives_pieces, in_angles, bounds_pieces, behind_lifetime}
use Rattle.rx_print_parts.specs.ItemParts.{next_bound, entry_pieces}
use Rattle.rx_print_parts.proofs.Flat.{flat-append}
use Rattle.rx_print_parts.proofs.Written.{written_two, written_three}
use Rattle.rx_print_parts.proofs.WrittenLists.{Seen, all_step, something}

-- ---- lists between two texts

pub some_angles : {A : Type 0} {each : List A → List (List Piece)} {one : A → List Piece} → Seen each one → (l : List A) (b : Bool) → b ≡ (length l == 0) → b ≡ false
    → (o p q r : List ℕ) → p ≡ o ++ (60 ∷ []) → q ≡ p ++ flat (separated (each l)) → r ≡ q ++ (62 ∷ []) → r ≡ o ++ flat (in_angles (each l))
some_angles {each = each} h l b e t o p q r w v u =
    let end = mark (codes ">") ∷ [] in
    written_three o p q r (60 ∷ []) (flat (separated (each l))) (flat end) w v u
    ∙ ap (λ t. o ++ (60 ∷ t)) (sym (flat-append (separated (each l)) end))
    ∙ ap (λ s. o ++ flat s) (something h (λ pss. mark (codes "<") ∷ (separated pss ++ mark (codes ">") ∷ [])) in_angles (λ ps pss. refl) l b e t)

-- a list that is not empty, as its own elements
pub some_derives : (l : List Derive) (b : Bool) → b ≡ (length l == 0) → b ≡ false → (o p q r : List ℕ) → p ≡ o ++ (35 ∷ 91 ∷ 100 ∷ 101 ∷ 114 ∷ 105 ∷ 118 ∷ 101 ∷ 40 ∷ [])
    → q ≡ p ++ flat (separated (map derive_pieces l)) → r ≡ q ++ (41 ∷ 93 ∷ 10 ∷ []) → r ≡ o ++ flat (derives_pieces l)
some_derives [] b e t o p q r w v u = let f : (length {A = Derive} [] == 0) ≡ true = refl in cc
some_derives (d ∷ l) b e t o p q r w v u =
    let end = mark (codes ")") ∷ mark (codes "]") ∷ line 0 ∷ [] in
    written_three o p q r (35 ∷ 91 ∷ 100 ∷ 101 ∷ 114 ∷ 105 ∷ 118 ∷ 101 ∷ 40 ∷ []) (flat (separated (map derive_pieces (d ∷ l)))) (flat end) w v u
    ∙ ap (λ t. o ++ (35 ∷ 91 ∷ 100 ∷ 101 ∷ 114 ∷ 105 ∷ 118 ∷ 101 ∷ 40 ∷ t)) (sym (flat-append (separated (map derive_pieces (d ∷ l))) end))

pub some_bounds : (l : List Ident) (b : Bool) → b ≡ (length l == 0) → b ≡ false → (o p q : List ℕ) → p ≡ o ++ (58 ∷ 32 ∷ []) → q ≡ p ++ flat (bounds_pieces l) → q ≡ o ++ flat (behind_lifetime l)
some_bounds [] b e t o p q w v = let f : (length {A = Ident} [] == 0) ≡ true = refl in cc
some_bounds (m ∷ l) b e t o p q w v = written_two o p q (58 ∷ 32 ∷ []) (flat (bounds_pieces (m ∷ l))) w v

pub some_entries : {A : Type 0} {each : List A → List (List Piece)} {one : A → List Piece} → Seen each one → (l : List A) (b : Bool) → b ≡ (length l == 0) → b ≡ false
    → (o p q r : List ℕ) → p ≡ o ++ (123 ∷ []) → q ≡ p ++ flat (entries (each l)) → r ≡ q ++ (10 ∷ 125 ∷ []) → r ≡ o ++ flat (entries_of (each l))
some_entries {each = each} h l b e t o p q r w v u =
    let end = line 0 ∷ mark (codes "}") ∷ [] in
    written_three o p q r (123 ∷ []) (flat (entries (each l))) (flat end) w v u
    ∙ ap (λ t. o ++ (123 ∷ t)) (sym (flat-append (entries (each l)) end))
    ∙ ap (λ s. o ++ flat s) (something h (λ pss. mark (codes "{") ∷ (entries pss ++ (line 0 ∷ mark (codes "}") ∷ []))) entries_of (λ ps pss. refl) l b e t)

-- ---- entries

entries_next : (ps : List Piece) (pss : List (List Piece)) → entries (ps ∷ pss) ≡ entry_pieces ps ++ entries pss
entries_next ps pss = ap (λ l. line 1 ∷ l) (sym (append_assoc ps (mark (codes ",") ∷ []) (entries pss)))

pub entries_step : {A : Type 0} {each : List A → List (List Piece)} {one : A → List Piece} → Seen each one
    → (l : List A) (i : ℕ) (x : A) (o p all : List ℕ) → i < length l → x ≡ get_or l i x → p ≡ o ++ flat (entry_pieces (one x))
    → o ++ flat (entries (each (drop i l))) ≡ all → p ++ flat (entries (each (drop (i + 1) l))) ≡ all
entries_step {each = each} {one = one} h =
    all_step (λ l. entries (each l)) (λ l. entries (each l)) (λ x. entry_pieces (one x)) (λ x xs. ap entries (h.some x xs) ∙ entries_next (one x) (each xs))

-- ---- the bounds of a lifetime

abbrev pub more_bounds : List Ident → List Piece
more_bounds [] = []
more_bounds (m ∷ more) = between (codes "+") (bounds_pieces (m ∷ more))

abbrev pub left_of_bounds : Bool → List Ident → List Piece
left_of_bounds false ls = bounds_pieces ls
left_of_bounds true ls = more_bounds ls

bounds_next : (b : Bool) (l : Ident) (ls : List Ident) → left_of_bounds b (l ∷ ls) ≡ next_bound b l ++ left_of_bounds true ls
bounds_next false l [] = refl
bounds_next false l (m ∷ ls) = refl
bounds_next true l [] = refl
bounds_next true l (m ∷ ls) = refl

pub bounds_step : (b : Bool) (l : List Ident) (i : ℕ) (x : Ident) (o p all : List ℕ) → i < length l → x ≡ get_or l i x → p ≡ o ++ flat (next_bound b x)
    → o ++ flat (left_of_bounds b (drop i l)) ≡ all → p ++ flat (left_of_bounds true (drop (i + 1) l)) ≡ all
bounds_step b = all_step (left_of_bounds b) (left_of_bounds true) (next_bound b) (bounds_next b)
