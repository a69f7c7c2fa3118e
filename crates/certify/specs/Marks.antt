-- The recognised places as marks, computed: one byte for each of the places 0 to N, 1 for recognised and 0 otherwise.
-- proofs/MarksAgreement.antt shows that they are exactly those of Recognition, by the laws of Marks.Agreement, so only
-- `count`, with `mark`, has to be read. A small name is what is computed, the same name with a capital the statement
-- (`occurs_at` and OccursAt, `closure` and Closure). No other module can unfold `occurs_at`, `by_rule2`, `grown`,
-- `settled`, `closure` and `marks`.
use Rattle.std.specs.Prelude.{ℕ, zero, suc, ◌+◌, ◌-◌, ◌≤◌, Bool, true, false, ◌&&◌, ◌||◌, List, [], ◌∷◌, leb, eqb}
use Rattle.std.specs.Prelude.{length, get_or, take, drop}
use Rattle.facts.specs.Lists.{same}
use Rattle.machine.specs.Machine.{Mealy, state_at}
pub mod Laws
pub mod Agreement
pub mod Twin

-- whether a test holds of some number below n
unfoldable pub any : ℕ → (ℕ → Bool) → Bool
any zero f = false
any (suc n) f = any n f || f n

-- the list f 0, f 1, .., f (n - 1)
unfoldable pub tabulate : ℕ → (ℕ → ℕ) → List ℕ
tabulate zero f = []
tabulate (suc n) f = f 0 ∷ tabulate n (λ i. f (suc i))

-- the mark of a place, by whether it is recognised (§5.4)
abbrev pub mark : Bool → ℕ
mark true = 1
mark false = 0

-- one mark for each of the places 0 to N, by a test
unfoldable pub marks_by : List ℕ → (ℕ → Bool) → List ℕ
marks_by xs f = tabulate (length xs + 1) (λ p. mark (f p))

-- every mark is 0 or 1
abbrev pub Bits : List ℕ → Type 0
Bits ms = (p : ℕ) → get_or ms p 0 ≤ 1

-- whether the mark of a place is 1
abbrev pub marked : List ℕ → ℕ → Bool
marked ms p = eqb (get_or ms p 0) 1

-- how many marks are 1
unfoldable pub count : List ℕ → ℕ
count [] = 0
count (m ∷ ms) = mark (eqb m 1) + count ms

-- rule 1: whether the word stands at p
pub occurs_at : List ℕ → List ℕ → ℕ → Bool
occurs_at w xs p = leb (p + length w) (length xs) && same (take (length w) (drop p xs)) w

-- rule 2: whether p, q and p + m are marked, p and q have the same state, and the m commands from both are equal
abbrev pub follows : List ℕ → (ℕ → ℕ) → List ℕ → ℕ → ℕ → ℕ → Bool
follows xs state ms p q m =
    marked ms p
    && (marked ms q
    && (eqb (state p) (state q)
    && (marked ms (p + m)
    && same (take m (drop p xs)) (take m (drop q xs)))))

-- whether r = q + m is recognised by rule 2 for some p, q and m
pub by_rule2 : List ℕ → (ℕ → ℕ) → List ℕ → ℕ → Bool
by_rule2 xs state ms r = any (length xs) (λ p. any r (λ q. follows xs state ms p q (r - q)))

-- these marks, and those that one use of rule 2 adds
pub grown : List ℕ → (ℕ → ℕ) → List ℕ → List ℕ
grown xs state ms = marks_by xs (λ r. marked ms r || by_rule2 xs state ms r)

-- growing until no more marks are 1, at most f times
pub settled : ℕ → List ℕ → (ℕ → ℕ) → List ℕ → List ℕ
settled zero xs state ms = ms
settled (suc f) xs state ms =
    let more = grown xs state ms in
    elim (eqb (count more) (count ms)) [ true ↦ ms | false ↦ settled f xs state more ]

-- the marks of the places that rule 1 gives, grown by rule 2; N+1 times are enough: settled_stable, in Marks.Agreement
pub closure : List ℕ → (ℕ → ℕ) → (ℕ → Bool) → List ℕ
closure xs state base = settled (length xs + 1) xs state (marks_by xs base)

-- the marks of a sequence (§5.4), computed
pub marks : Mealy → List ℕ → List ℕ → List ℕ
marks M w xs = closure xs (state_at M xs) (occurs_at w xs)
