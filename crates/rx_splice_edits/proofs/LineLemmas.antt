-- A text line by line.
use Rattle.std.proofs.Common.{◌≡◌, ℕ, zero, suc, ◌+◌, ◌<◌, ◌≤◌, Bool, true, false, ◌&&◌, List, [], ◌∷◌, ◌++◌, length, drop, drop-cons, get_or, Option, Some, None, MatchOption, refl, ap, sym, ◌∙◌, cond, arith, append_assoc}
use Rattle.std.specs.Prelude.{◌≢◌, ◌==◌}
use Rattle.std.proofs.lemmas.Bool.{and_parts, eqb-true, false_from_ne_true, false≢true}
use Rattle.std.proofs.lemmas.Bool.Decides.{nat_tests}
use Rattle.std.proofs.lemmas.List.{drop_all}
use Rattle.std.specs.Borrow.{Bor}
use Rattle.std.specs.List.{list_all}
use Rattle.std.specs.Str.Pattern.{FindsTextPrefix}
use Rattle.rx_splice_laws.specs.Indent.{is_level, last_line, begins_with, four, reindented_from}
use Rattle.rx_splice_laws.specs.SplicedText.{indented}
use Rattle.rx_splice_edits.specs.Lines.{NoFeed, behind_feed}

head_not : (c : ℕ) (t : List ℕ) → NoFeed (c ∷ t) → (c == 10) ≡ false
head_not c t n = false_from_ne_true (c == 10) (λ e. n zero (omega arith) (eqb-true c 10 e))

tail_not : (c : ℕ) (t : List ℕ) → NoFeed (c ∷ t) → NoFeed t
tail_not c t n i l = n (suc i) (omega (arith, l))

-- ---- the last line

pub last_behind : (acc xs ys : List ℕ) → last_line acc (xs ++ (10 ∷ ys)) ≡ last_line [] ys
last_behind acc [] ys = refl
last_behind acc (c ∷ xs) ys = last_behind (cond (c == 10) [] (acc ++ c ∷ [])) xs ys

pub last_alone : (acc t : List ℕ) → NoFeed t → last_line acc t ≡ acc ++ t
last_alone acc [] n = sym (nil acc)
  where
    nil : (l : List ℕ) → l ++ [] ≡ l
    nil [] = refl
    nil (c ∷ l) = ap (λ k. c ∷ k) (nil l)
last_alone acc (c ∷ t) n =
    ap (λ b. last_line (cond b [] (acc ++ c ∷ [])) t) (head_not c t n)
    ∙ last_alone (acc ++ c ∷ []) t (tail_not c t n)
    ∙ append_assoc acc (c ∷ []) t

-- ---- further lines behind an indent

pub indented_line : (ind xs ys : List ℕ) → NoFeed xs → indented ind (xs ++ (10 ∷ ys)) ≡ xs ++ (10 ∷ (ind ++ indented ind ys))
indented_line ind [] ys n = refl
indented_line ind (c ∷ xs) ys n =
    ap (λ b. cond b (c ∷ (ind ++ indented ind (xs ++ (10 ∷ ys)))) (c ∷ indented ind (xs ++ (10 ∷ ys)))) (head_not c xs n)
    ∙ ap (λ l. c ∷ l) (indented_line ind xs ys (tail_not c xs n))

pub indented_alone : (ind t : List ℕ) → NoFeed t → indented ind t ≡ t
indented_alone ind [] n = refl
indented_alone ind (c ∷ t) n =
    ap (λ b. cond b (c ∷ (ind ++ indented ind t)) (c ∷ indented ind t)) (head_not c t n) ∙ ap (λ l. c ∷ l) (indented_alone ind t (tail_not c t n))

-- ---- lines that begin otherwise

pub begins_self : (ind t : List ℕ) → begins_with ind (ind ++ t) ≡ true
begins_self [] t = refl
begins_self (c ∷ ind) t = grind (arith, nat_tests, begins_self ind t)

pub begins_split : (ind t : List ℕ) → begins_with ind t ≡ true → t ≡ ind ++ drop (length ind) t
begins_split [] t b = refl
begins_split (c ∷ ind) [] b = absurd (false≢true b)
begins_split (c ∷ ind) (d ∷ t) b =
    let p = and_parts (c == d) (begins_with ind t) b in
    ap (λ x. x ∷ t) (sym (eqb-true c d p.0)) ∙ ap (λ l. c ∷ l) (begins_split ind t p.1)

pub left_out : (xs ind ys : List ℕ) → reindented_from (length xs) ind (xs ++ ys) ≡ reindented_from 0 ind ys
left_out [] ind ys = refl
left_out (c ∷ xs) ind ys = left_out xs ind ys

pub behind_is : (ind t : List ℕ) → behind_feed ind (ind ++ t) ≡ four ++ reindented_from 0 ind t
behind_is ind t =
    ap (λ b. cond b (four ++ reindented_from (length ind) ind (ind ++ t)) (reindented_from 0 ind (ind ++ t))) (begins_self ind t)
    ∙ ap (λ l. four ++ l) (left_out ind ind t)

pub behind_not : (ind t : List ℕ) → begins_with ind t ≡ false → behind_feed ind t ≡ reindented_from 0 ind t
behind_not ind t b = ap (λ v. cond v (four ++ reindented_from (length ind) ind t) (reindented_from 0 ind t)) b

pub reindented_line : (ind xs ys : List ℕ) → NoFeed xs → reindented_from 0 ind (xs ++ (10 ∷ ys)) ≡ xs ++ (10 ∷ behind_feed ind ys)
reindented_line ind [] ys n = feed (begins_with ind ys)
  where
    feed : (b : Bool) → cond ((10 == 10) && b) (10 ∷ (four ++ reindented_from (length ind) ind ys)) (10 ∷ reindented_from 0 ind ys)
        ≡ 10 ∷ cond b (four ++ reindented_from (length ind) ind ys) (reindented_from 0 ind ys)
    feed true = refl
    feed false = refl
reindented_line ind (c ∷ xs) ys n =
    ap (λ b. cond (b && begins_with ind (xs ++ (10 ∷ ys))) (c ∷ (four ++ reindented_from (length ind) ind (xs ++ (10 ∷ ys)))) (c ∷ reindented_from 0 ind (xs ++ (10 ∷ ys))))
    (head_not c xs n)
    ∙ ap (λ l. c ∷ l) (reindented_line ind xs ys (tail_not c xs n))

pub reindented_alone : (ind t : List ℕ) → NoFeed t → reindented_from 0 ind t ≡ t
reindented_alone ind [] n = refl
reindented_alone ind (c ∷ t) n =
    ap (λ b. cond (b && begins_with ind t) (c ∷ (four ++ reindented_from (length ind) ind t)) (c ∷ reindented_from 0 ind t)) (head_not c t n)
    ∙ ap (λ l. c ∷ l) (reindented_alone ind t (tail_not c t n))

-- ---- one line more

pub indented_step : (ind line rest o o1 o2 o3 all bs : List ℕ) → bs ≡ line ++ (10 ∷ rest) → NoFeed line → o1 ≡ o ++ line → o2 ≡ o1 ++ 10 ∷ [] → o3 ≡ o2 ++ ind
    → o ++ indented ind bs ≡ all → o3 ++ indented ind rest ≡ all
indented_step ind line rest o o1 o2 o3 all bs e n a b c s =
    let X = indented ind rest in
    ap (λ x. x ++ X) (c ∙ ap (λ x. x ++ ind) (b ∙ ap (λ x. x ++ 10 ∷ []) a))
    ∙ append_assoc ((o ++ line) ++ 10 ∷ []) ind X
    ∙ append_assoc (o ++ line) (10 ∷ []) (ind ++ X)
    ∙ append_assoc o line (10 ∷ (ind ++ X))
    ∙ ap (λ x. o ++ x) (sym (indented_line ind line rest n) ∙ ap (indented ind) (sym e))
    ∙ s

pub indented_end : (ind rest o p all : List ℕ) → NoFeed rest → p ≡ o ++ rest → o ++ indented ind rest ≡ all → p ≡ all
indented_end ind rest o p all n e s = e ∙ ap (λ x. o ++ x) (sym (indented_alone ind rest n)) ∙ s

pub reindented_step : (ind line rest left o o1 o2 o3 all bs : List ℕ) → bs ≡ line ++ (10 ∷ rest) → NoFeed line → o1 ≡ o ++ line → o2 ≡ o1 ++ 10 ∷ []
    → o3 ++ reindented_from 0 ind left ≡ o2 ++ behind_feed ind rest
    → o ++ reindented_from 0 ind bs ≡ all → o3 ++ reindented_from 0 ind left ≡ all
reindented_step ind line rest left o o1 o2 o3 all bs e n a b c s =
    let X = behind_feed ind rest in
    c ∙ ap (λ x. x ++ X) (b ∙ ap (λ x. x ++ 10 ∷ []) a)
    ∙ append_assoc (o ++ line) (10 ∷ []) X
    ∙ append_assoc o line (10 ∷ X)
    ∙ ap (λ x. o ++ x) (sym (reindented_line ind line rest n) ∙ ap (reindented_from 0 ind) (sym e))
    ∙ s

pub reindented_end : (ind rest o p all : List ℕ) → NoFeed rest → p ≡ o ++ rest → o ++ reindented_from 0 ind rest ≡ all → p ≡ all
reindented_end ind rest o p all n e s = e ∙ ap (λ x. o ++ x) (sym (reindented_alone ind rest n)) ∙ s

pub margin_written : (ind rest text o p : List ℕ) → text ≡ ind ++ rest → p ≡ o ++ four → p ++ reindented_from 0 ind rest ≡ o ++ behind_feed ind text
margin_written ind rest text o p e w =
    ap (λ x. x ++ reindented_from 0 ind rest) w
    ∙ append_assoc o four (reindented_from 0 ind rest)
    ∙ ap (λ x. o ++ x) (sym (behind_is ind rest) ∙ ap (behind_feed ind) (sym e))

pub margin_none : (ind text o : List ℕ) → begins_with ind text ≡ false → o ++ reindented_from 0 ind text ≡ o ++ behind_feed ind text
margin_none ind text o e = ap (λ x. o ++ x) (sym (behind_not ind text e))

pub last_step : (line rest text bs : List ℕ) → bs ≡ line ++ (10 ∷ rest) → last_line [] bs ≡ last_line [] text → last_line [] rest ≡ last_line [] text
last_step line rest text bs e s = sym (last_behind [] line rest) ∙ ap (last_line []) (sym e) ∙ s

pub last_end : (rest text : List ℕ) → NoFeed rest → last_line [] rest ≡ last_line [] text → rest ≡ last_line [] text
last_end rest text n s = sym (last_alone [] rest n) ∙ s

-- ---- what a text without the indent at its front is

pub prefix_is : (ind bs : List ℕ) (r : Option (Bor (List ℕ)))
    → MatchOption r (FindsTextPrefix ind bs None) (λ x. (n : ℕ) × FindsTextPrefix ind bs (Some n) × (x.now ≡ drop n bs) × (length x.now + n ≡ length bs))
    → MatchOption r (begins_with ind bs ≡ false) (λ x. bs ≡ ind ++ x.now)
prefix_is ind bs None h = false_from_ne_true (begins_with ind bs) (λ e. h (drop (length ind) bs) (begins_split ind bs e))
prefix_is ind bs (Some x) h = h.1.1 ∙ ap (λ l. ind ++ l) (sym h.2)

-- ---- blanks, one after the other

blank_from : (bs : List ℕ) (i : ℕ) → i < length bs → list_all is_level (drop i bs) ≡ (is_level (get_or bs i 0) && list_all is_level (drop (i + 1) bs))
blank_from bs i w = let n : suc i ≡ i + 1 = omega arith in ap (list_all is_level) (drop-cons bs i 0 w ∙ ap (λ k. get_or bs i 0 ∷ drop k bs) n)

pub blank_step : (bs : List ℕ) (i : ℕ) (b all : Bool) → i < length bs → b ≡ is_level (get_or bs i 0) → b ≡ true
    → list_all is_level (drop i bs) ≡ all → list_all is_level (drop (i + 1) bs) ≡ all
blank_step bs i b all w e y s = ap (λ v. v && list_all is_level (drop (i + 1) bs)) (sym y ∙ e) ∙ sym (blank_from bs i w) ∙ s

pub blank_stop : (bs : List ℕ) (i : ℕ) (b all : Bool) → i < length bs → b ≡ is_level (get_or bs i 0) → b ≡ false
    → list_all is_level (drop i bs) ≡ all → false ≡ all
blank_stop bs i b all w e n s = ap (λ v. v && list_all is_level (drop (i + 1) bs)) (sym n ∙ e) ∙ sym (blank_from bs i w) ∙ s

pub blank_end : (bs : List ℕ) (i : ℕ) (all : Bool) → length bs ≤ i → list_all is_level (drop i bs) ≡ all → true ≡ all
blank_end bs i all w s = ap (list_all is_level) (sym (drop_all i bs w)) ∙ s
