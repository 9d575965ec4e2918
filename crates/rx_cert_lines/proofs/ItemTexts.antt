-- Items and their bytes: an item's bytes tell it, and so do those of items one after another.
use Rattle.std.proofs.Common.{◌≡◌, ℕ, ◌+◌, ◌<◌, false, List, [], ◌∷◌, ◌++◌, length, take, get_or, Option, Some, None, MatchOption, refl, sym, ap, subst, ◌∙◌, arith, append_assoc, length-append}
use Rattle.std.specs.Fmt.{decimal}
use Rattle.std.specs.Int.{IsInRange}
use Rattle.std.proofs.lemmas.Bool.{false≢true}
use Rattle.std.proofs.lemmas.List.{append-nil, take_more}
use Rattle.rx_cert_lines.specs.declared.item.Item.{Item}
use Rattle.rx_cert_lines.specs.declared.item.Item.TheVariants.{Number, Range, End}
use Rattle.rx_cert_lines.specs.Items.{Small, Fits, AllFit, item_text, items_text}
use Rattle.rx_cert_lines.specs.Certificates.{Free}
use Rattle.rx_cert_lines.specs.Reading.{Ends, IsCut, BeginsNot, IsSplit, NoNumber, IsItem, NoItem, is_end, IsRange, NoRange, NoRangeOrNumber, AreItems, NoItems, IsNextItem, NoNextItem}
use Rattle.rx_cert_lines.proofs.Marks.{two, free_append, has_mark, split_same}
use Rattle.rx_cert_lines.proofs.Numerals.{number_free, number_same, not_space, not_feed, not_dash, not_e}

pub tails : (c : ℕ) (x y : List ℕ) → c ∷ x ≡ c ∷ y → x ≡ y
tails c x y e = cc

-- ---- one item

-- a range's bytes, and an end point's, without a byte that is no digit
range_free : (m a b : ℕ) → (IsInRange 48 57 m → ⊥) → (45 ≡ m → ⊥) → Small a → Small b → Free m (decimal a ++ 45 ∷ decimal b)
range_free m a b o d h k = free_append m (decimal a) (45 ∷ decimal b) (number_free m a o h) (d, number_free m b o k)

item_free : (m : ℕ) (i : Item) → (IsInRange 48 57 m → ⊥) → (45 ≡ m → ⊥) → (101 ≡ m → ⊥) → Fits i → Free m (item_text i)
item_free m (Number n) o d e h = number_free m n o h
item_free m (Range a b) o d e h = range_free m a b o d h.0 h.1
item_free m (End n) o d e h = (e, number_free m n o h)

spaceless : (i : Item) → Fits i → Free 32 (item_text i)
spaceless i h = item_free 32 i not_space (λ e. absurd (omega (arith, e))) (λ e. absurd (omega (arith, e))) h

feedless : (i : Item) → Fits i → Free 10 (item_text i)
feedless i h = item_free 10 i not_feed (λ e. absurd (omega (arith, e))) (λ e. absurd (omega (arith, e))) h

-- what begins with an `e` is an end point
other_than_end : (i : Item) (ds : List ℕ) → is_end i ≡ false → Fits i → item_text i ≡ 101 ∷ ds → ⊥
other_than_end (Number n) ds o h e = (subst (Free 101) e (number_free 101 n not_e h)).0 refl
other_than_end (Range a b) ds o h e = (subst (Free 101) e (range_free 101 a b not_e (λ p. absurd (omega (arith, p))) h.0 h.1)).0 refl
other_than_end (End n) ds o h e = false≢true (sym o)

number_no_range : (n a b : ℕ) → Small n → decimal n ≡ decimal a ++ 45 ∷ decimal b → ⊥
number_no_range n a b h e = has_mark 45 (decimal a) (decimal b) (subst (Free 45) e (number_free 45 n not_dash h))

range_same : (a b c d : ℕ) → Small a → Small b → Small c → Small d → decimal a ++ 45 ∷ decimal b ≡ decimal c ++ 45 ∷ decimal d
    → Range a b ≡ Range c d
range_same a b c d h i j k e =
    let p = split_same 45 (decimal a) (45 ∷ decimal b) (decimal c) (45 ∷ decimal d) (number_free 45 a not_dash h) (number_free 45 c not_dash j) refl refl e in
    two Range (number_same a c h j p.0) (number_same b d i k (tails 45 (decimal b) (decimal d) p.1))

item_same : (i j : Item) → Fits i → Fits j → item_text i ≡ item_text j → i ≡ j
item_same (Number n) (Number m) h k e = ap Number (number_same n m h k e)
item_same (Number n) (Range a b) h k e = absurd (number_no_range n a b h e)
item_same (Number n) (End m) h k e = absurd (other_than_end (Number n) (decimal m) refl h e)
item_same (Range a b) (Number m) h k e = absurd (number_no_range m a b k (sym e))
item_same (Range a b) (Range c d) h k e = range_same a b c d h.0 h.1 k.0 k.1 e
item_same (Range a b) (End m) h k e = absurd (other_than_end (Range a b) (decimal m) refl h e)
item_same (End n) (Number m) h k e = absurd (other_than_end (Number m) (decimal n) refl k (sym e))
item_same (End n) (Range c d) h k e = absurd (other_than_end (Range c d) (decimal n) refl k (sym e))
item_same (End n) (End m) h k e = ap End (number_same n m h k (tails 101 (decimal n) (decimal m) e))

-- ---- an item is read

pub number_is_read : (w : List ℕ) (n : ℕ) → Small n × (decimal n ≡ w) → IsItem (Number n) w
number_is_read w n h = record { fits = h.0; text = h.1 }

pub end_is_read : (ds : List ℕ) (n : ℕ) → Small n × (decimal n ≡ ds) → IsItem (End n) (101 ∷ ds)
end_is_read ds n h = record { fits = h.0; text = ap (λ x. 101 ∷ x) h.1 }

pub range_is_read : (x y : List ℕ) (a b : ℕ) → Small a × (decimal a ≡ x) → Small b × (decimal b ≡ y) → IsRange x y (Range a b)
range_is_read x y a b h k = record { fits = (h.0, k.0); text = two (λ v w. v ++ 45 ∷ w) h.1 k.1 }

pub no_first : (x y : List ℕ) → NoNumber x → NoRange x y
no_first x y never a b h k e f = never a h e

pub no_last : (x y : List ℕ) → NoNumber y → NoRange x y
no_last x y never a b h k e f = never b k f

-- with a dash it can only be a range, without one only a number
pub range_in : (w x y : List ℕ) (i : Item) → IsSplit 45 w x y → IsRange x y i → IsItem i w
range_in w x y i s r = record { fits = r.fits; text = r.text ∙ s.whole }

pub no_range_in : (w x y : List ℕ) → IsSplit 45 w x y → NoRange x y → NoRangeOrNumber w
no_range_in w x y s never i o h = go i o h.fits h.text where
  go : (i : Item) → is_end i ≡ false → Fits i → item_text i ≡ w → ⊥
  go (Number n) o f t = has_mark 45 x y (subst (Free 45) (t ∙ sym s.whole) (number_free 45 n not_dash f))
  go (Range a b) o f t =
      let p = split_same 45 (decimal a) (45 ∷ decimal b) x (45 ∷ y) (number_free 45 a not_dash f.0) s.free refl refl (t ∙ sym s.whole) in
      never a b f.0 f.1 p.0 (tails 45 (decimal b) y p.1)
  go (End n) o f t = false≢true (sym o)

pub no_number_in : (w : List ℕ) → Free 45 w → NoNumber w → NoRangeOrNumber w
no_number_in w g never i o h = go i o h.fits h.text where
  go : (i : Item) → is_end i ≡ false → Fits i → item_text i ≡ w → ⊥
  go (Number n) o f t = never n f t
  go (Range a b) o f t = has_mark 45 (decimal a) (decimal b) (subst (Free 45) (sym t) g)
  go (End n) o f t = false≢true (sym o)

-- with an `e` in front it can only be an end point
pub end_in : (w ds : List ℕ) (i : Item) → w ≡ 101 ∷ ds → IsItem i (101 ∷ ds) → IsItem i w
end_in w ds i e h = record { fits = h.fits; text = h.text ∙ sym e }

pub no_end_in : (w ds : List ℕ) → w ≡ 101 ∷ ds → NoNumber ds → NoItem w
no_end_in w ds e never i h = go i h.fits (h.text ∙ e) where
  go : (i : Item) → Fits i → item_text i ≡ 101 ∷ ds → ⊥
  go (Number n) f t = other_than_end (Number n) ds refl f t
  go (Range a b) f t = other_than_end (Range a b) ds refl f t
  go (End n) f t = never n f (tails 101 (decimal n) ds t)

pub no_item_in : (w : List ℕ) → BeginsNot 101 w → NoRangeOrNumber w → NoItem w
no_item_in w o never i h = go i h where
  go : (i : Item) → IsItem i w → ⊥
  go (Number n) h = never (Number n) refl h
  go (Range a b) h = never (Range a b) refl h
  go (End n) h = o (decimal n) (sym h.text)

-- the same of what a reader answers

pub range_answer : (w x y : List ℕ) (r : Option Item) → IsSplit 45 w x y → MatchOption r (NoRange x y) (λ i. IsRange x y i)
    → MatchOption r (NoRangeOrNumber w) (λ i. IsItem i w)
range_answer w x y None s h = no_range_in w x y s h
range_answer w x y (Some i) s h = range_in w x y i s h

pub number_item_answer : (w : List ℕ) (r : Option Item) → Free 45 w → MatchOption r (NoNumber w) (λ i. IsItem i w) → MatchOption r (NoRangeOrNumber w) (λ i. IsItem i w)
number_item_answer w None g h = no_number_in w g h
number_item_answer w (Some i) g h = h

pub end_answer : (w ds : List ℕ) (r : Option Item) → w ≡ 101 ∷ ds → MatchOption r (NoNumber ds) (λ i. IsItem i (101 ∷ ds)) → MatchOption r (NoItem w) (λ i. IsItem i w)
end_answer w ds None e h = no_end_in w ds e h
end_answer w ds (Some i) e h = end_in w ds i e h

pub other_answer : (w : List ℕ) (r : Option Item) → BeginsNot 101 w → MatchOption r (NoRangeOrNumber w) (λ i. IsItem i w) → MatchOption r (NoItem w) (λ i. IsItem i w)
other_answer w None o h = no_item_in w o h
other_answer w (Some i) o h = h

-- ---- items one after another

pub items_end : (is : List Item) (left : List ℕ) → Ends 32 left → Ends 32 (items_text is ++ left)
items_end [] left h = h
items_end (i ∷ is) left h = refl

pub items_ends : (is : List Item) → Ends 32 (items_text is)
items_ends [] = tt
items_ends (i ∷ is) = refl

pub next_read : (left rest word more : List ℕ) (i : Item) → left ≡ 32 ∷ rest → IsCut 32 rest word more → IsItem i word → IsNextItem i left more
next_read left rest word more i e c h = record { fits = h.fits; text = e ∙ ap (λ x. 32 ∷ x) (sym c.whole ∙ ap (λ x. x ++ more) (sym h.text)); ends = c.ends }

pub no_next_read : (left rest word more : List ℕ) → left ≡ 32 ∷ rest → IsCut 32 rest word more → NoItem word → NoNextItem left
no_next_read left rest word more e c never i after h =
    let b : rest ≡ item_text i ++ after = tails 32 rest (item_text i ++ after) (sym e ∙ h.text) in
    let p = split_same 32 (item_text i) after word more (spaceless i h.fits) c.free h.ends c.ends (sym b ∙ sym c.whole) in
    never i (record { fits = h.fits; text = p.0 })

pub no_space_read : (left : List ℕ) → BeginsNot 32 left → NoNextItem left
no_space_read left o i more h = o (item_text i ++ more) h.text

pub record ItemsSoFar (bytes left : List ℕ) (is : List Item) : Type 0 where
  pub fit : AllFit is
  pub text : bytes ≡ items_text is ++ left
  pub ends : Ends 32 left

pub none_so_far : (bytes : List ℕ) → Ends 32 bytes → ItemsSoFar bytes bytes []
none_so_far bytes h = record { fit = tt; text = refl; ends = h }

all_fit_more : (is : List Item) (i : Item) → AllFit is → Fits i → AllFit (is ++ i ∷ [])
all_fit_more [] i a f = (f, tt)
all_fit_more (j ∷ js) i a f = (a.0, all_fit_more js i a.1 f)

items_text_more : (is : List Item) (i : Item) (rest : List ℕ) → items_text is ++ 32 ∷ (item_text i ++ rest) ≡ items_text (is ++ i ∷ []) ++ rest
items_text_more [] i rest = ap (λ x. 32 ∷ (x ++ rest)) (sym (append-nil (item_text i)))
items_text_more (j ∷ js) i rest = ap (λ x. 32 ∷ x)
    (append_assoc (item_text j) (items_text js) (32 ∷ (item_text i ++ rest)) ∙ ap (λ x. item_text j ++ x) (items_text_more js i rest)
    ∙ sym (append_assoc (item_text j) (items_text (js ++ i ∷ [])) rest))

pub one_more_so_far : (bytes left rest : List ℕ) (is : List Item) (i : Item) → ItemsSoFar bytes left is → IsNextItem i left rest → ItemsSoFar bytes rest (is ++ i ∷ [])
one_more_so_far bytes left rest is i s n = record {
  fit = all_fit_more is i s.fit n.fits;
  text = s.text ∙ ap (λ x. items_text is ++ x) n.text ∙ items_text_more is i rest;
  ends = n.ends;
}

pub all_so_far : (bytes left : List ℕ) (is : List Item) → left ≡ [] → ItemsSoFar bytes left is → AreItems is bytes
all_so_far bytes left is e s = record { fit = s.fit; text = sym (s.text ∙ ap (λ x. items_text is ++ x) e ∙ append-nil (items_text is)) }

pub shorter : (i : Item) (left rest : List ℕ) → IsNextItem i left rest → length rest < length left
shorter i left rest h = let e = ap length h.text in let l = length-append (item_text i) rest in omega (arith, e, l)

-- two lists of items, the second of which goes on
cut_items : (i j : Item) (is js : List Item) (left : List ℕ) → Fits i → Fits j → Ends 32 left
    → 32 ∷ (item_text j ++ items_text js) ≡ 32 ∷ ((item_text i ++ items_text is) ++ left) → (item_text j ≡ item_text i) × (items_text js ≡ items_text is ++ left)
cut_items i j is js left f g h e =
    split_same 32 (item_text j) (items_text js) (item_text i) (items_text is ++ left) (spaceless j g) (spaceless i f) (items_ends js) (items_end is left h)
    (tails 32 (item_text j ++ items_text js) ((item_text i ++ items_text is) ++ left) e ∙ append_assoc (item_text i) (items_text is) left)

no_more : (is js : List Item) (left : List ℕ) → AllFit is → AllFit js → Ends 32 left → NoNextItem left → (left ≡ [] → ⊥) → items_text js ≡ items_text is ++ left → ⊥
no_more [] [] left f g h never some e = some (sym e)
no_more [] (j ∷ js) left f g h never some e = never j (items_text js) (record { fits = g.0; text = sym e; ends = items_ends js })
no_more (i ∷ is) [] left f g h never some e = absurd (cc)
no_more (i ∷ is) (j ∷ js) left f g h never some e = no_more is js left f.1 g.1 h never some (cut_items i j is js left f.0 g.0 h e).1

pub no_items_so_far : (bytes left : List ℕ) (is : List Item) → ItemsSoFar bytes left is → NoNextItem left → (left ≡ [] → ⊥) → NoItems bytes
no_items_so_far bytes left is s never some js a = no_more is js left s.fit a.fit s.ends never some (a.text ∙ s.text)

pub items_same : (is js : List Item) → AllFit is → AllFit js → items_text is ≡ items_text js → is ≡ js
items_same [] [] f g e = refl
items_same [] (j ∷ js) f g e = absurd (cc)
items_same (i ∷ is) [] f g e = absurd (cc)
items_same (i ∷ is) (j ∷ js) f g e =
    let p = split_same 32 (item_text i) (items_text is) (item_text j) (items_text js) (spaceless i f.0) (spaceless j g.0) (items_ends is) (items_ends js)
    (tails 32 (item_text i ++ items_text is) (item_text j ++ items_text js) e) in
    two (λ x y. x ∷ y) (item_same i j f.0 g.0 p.0) (items_same is js f.1 g.1 p.1)

pub items_feedless : (is : List Item) → AllFit is → Free 10 (items_text is)
items_feedless [] f = tt
items_feedless (i ∷ is) f = (λ e. absurd (omega (arith, e)), free_append 10 (item_text i) (items_text is) (feedless i f.0) (items_feedless is f.1))

-- ---- items are written

items_text_append : (is js : List Item) → items_text (is ++ js) ≡ items_text is ++ items_text js
items_text_append [] js = refl
items_text_append (i ∷ is) js = ap (λ x. 32 ∷ x) (ap (λ x. item_text i ++ x) (items_text_append is js) ∙ sym (append_assoc (item_text i) (items_text is) (items_text js)))

pub one_more_written : (old text spaced new : List ℕ) (is : List Item) (i : Item) (k : ℕ) (d : Item) → k < length is → i ≡ get_or is k d → text ≡ old ++ items_text (take k is)
    → spaced ≡ text ++ 32 ∷ [] → new ≡ spaced ++ item_text i → new ≡ old ++ items_text (take (k + 1) is)
one_more_written old text spaced new is i k d h e t s n =
    n ∙ ap (λ x. x ++ item_text i) s ∙ append_assoc text (32 ∷ []) (item_text i) ∙ ap (λ x. x ++ 32 ∷ item_text i) t
    ∙ append_assoc old (items_text (take k is)) (32 ∷ item_text i)
    ∙ ap (λ x. old ++ (items_text (take k is) ++ 32 ∷ x)) (sym (append-nil (item_text i)))
    ∙ ap (λ x. old ++ x) (sym (items_text_append (take k is) (i ∷ [])) ∙ ap items_text (ap (λ x. take k is ++ x ∷ []) e ∙ sym (take_more is k d h)))
