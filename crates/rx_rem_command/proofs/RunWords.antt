-- Where all words are integers, those among them are all.
use Rattle.std.proofs.Common.{ℤ, ℕ, ◌≡◌, true, List, [], ◌∷◌, Option, Some, None, refl, ap}
use Rattle.std.specs.Option.{is_some}
use Rattle.rx_rem_command.specs.Numbers.{integer_of, both, integers_of, with_front, integers_among}

both_among : (a : Option ℤ) (r : Option (List ℤ)) (zs : List ℤ) → is_some (both a r) ≡ true → (is_some r ≡ true → r ≡ Some zs)
    → both a r ≡ Some (with_front a zs)
both_among None r zs e h = absurd (cc)
both_among (Some z) None zs e h = absurd (cc)
both_among (Some z) (Some ys) zs e h = ap (both (Some z)) (h refl)

pub all_among : (words : List (List ℕ)) → is_some (integers_of words) ≡ true → integers_of words ≡ Some (integers_among words)
all_among [] e = refl
all_among (word ∷ words) e = both_among (integer_of word) (integers_of words) (integers_among words) e (all_among words)
