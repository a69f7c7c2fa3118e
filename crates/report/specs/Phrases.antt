-- The phrases of the refusals (§4.2, §8.1), as bytes.
use Rattle.std.specs.Prelude.{ℕ, List, [], ◌∷◌, get_or}
use Rattle.facts.specs.Decimal.{bytes}
pub mod Laws

-- the phrases of the refusal numbers 1 to 11, in this order (§4.2)
abbrev pub phrases : List (List ℕ)
phrases =
    bytes "sheet cut or too long"
    ∷ bytes "record kind"
    ∷ bytes "machine shape"
    ∷ bytes "next state"
    ∷ bytes "word"
    ∷ bytes "word does not separate"
    ∷ bytes "sequence"
    ∷ bytes "not connected"
    ∷ bytes "room"
    ∷ bytes "answers"
    ∷ bytes "not certified"
    ∷ []

-- the bytes of the longest phrase
abbrev pub longest_phrase : ℕ
longest_phrase = 22

-- the phrase of a refusal's number; above 11 there is none (§8.1), and 0 is no refusal
unfoldable pub phrase : ℕ → List ℕ
phrase number = get_or ([] ∷ phrases) number []
