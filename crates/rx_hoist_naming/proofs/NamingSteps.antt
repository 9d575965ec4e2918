-- The end of a loop that makes a list of one thing after another.
use Rattle.std.proofs.Common.{◌≡◌, List, [], ◌++◌, sym, ap, ◌∙◌, append-nil}

-- at the end nothing is to come
pub all_made : {Z : Type 0} (now rest whole : List Z) → rest ≡ [] → now ++ rest ≡ whole → now ≡ whole
all_made now rest whole e h = sym (append-nil now) ∙ ap (λ x. now ++ x) (sym e) ∙ h
