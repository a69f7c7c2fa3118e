-- Recognition by its rules (§5.1): the recognised places, verified entries and certified sequences (§5.3), the open
-- number, and the marks with their number (§5.4). M is the machine, w the word, xs the sequence. No other module can
-- unfold `Recognised`: what is known of it is in Recognition.Laws, and in proofs/MarksAgreement.antt that it can be
-- computed.
use Rattle.std.specs.Prelude.{ℕ, ◌+◌, ◌*◌, ◌≤◌, ◌<◌, ◌≡◌, List, ◌↔◌, length, get_or, take, drop}
use Rattle.machine.specs.Machine.{Mealy, state_at}
use Rattle.certify.specs.Marks.{count}
pub mod Laws

-- the word begins at place p and ends inside the sequence (§5.1, rule 1)
pub record OccursAt (w xs : List ℕ) (p : ℕ) : Type 0 where
  pub inside : p + length w ≤ length xs
  pub commands : take (length w) (drop p xs) ≡ w

-- the smallest set that satisfies both rules (§5.1), of a sequence, the states of its places, and the places that rule
-- 1 gives: a place is in it only by a finite use of the rules, so no two places are in it by each other alone (§5.2)
pub data Closure (xs : List ℕ) (state : ℕ → ℕ) (Base : ℕ → Type 0) : ℕ → Type 0 where
  rule1 : {p : ℕ} → Base p → Closure xs state Base p
  -- rule 2: p and q are in the set and have one state, p + m is in it, and the m commands from q are those from p; then
  -- so is r, the place q + m. That p + m ≤ N is not asked: of recognised places it follows (recognised_inside)
  rule2 : {r : ℕ} (p q m : ℕ) → 1 ≤ m
      → Closure xs state Base p → Closure xs state Base q → state p ≡ state q
      → Closure xs state Base (p + m) → q + m ≤ length xs
      → take m (drop p xs) ≡ take m (drop q xs)
      → r ≡ q + m → Closure xs state Base r

-- place p is recognised (§5.1); in the literature d-recognised by rule 1, t-recognised by rule 2
pub Recognised : Mealy → List ℕ → List ℕ → ℕ → Type 0
Recognised M w xs = Closure xs (state_at M xs) (OccursAt w xs)

-- entry (s, c) is verified (§5.3), in the literature a verified edge: command c comes at a recognised place of state s,
-- and the place after it is recognised too
pub record Verified (M : Mealy) (w xs : List ℕ) (s c : ℕ) : Type 0 where
  pub place : ℕ
  pub inside : place < length xs
  pub state : state_at M xs place ≡ s
  pub command : get_or xs place 0 ≡ c
  pub before : Recognised M w xs place
  pub after : Recognised M w xs (place + 1)

-- a sequence is certified (§5.3): place 0 is recognised, and each entry verified. Where the word separates, it is
-- then a checking sequence
pub record Certified (M : Mealy) (w xs : List ℕ) : Type 0 where
  pub start : Recognised M w xs 0
  pub entries : (s c : ℕ) → s < M.n → c < M.k → Verified M w xs s c

-- the open number v (§5.4): 0 without place 0 among the recognised ones; else 1 + s·k + c for the first entry (s, c),
-- by state and then by command, that is not verified
pub data OpenNumber (M : Mealy) (w xs : List ℕ) (v : ℕ) : Type 0 where
  start_open : (Recognised M w xs 0 → ⊥) → v ≡ 0 → OpenNumber M w xs v
  entry_open : (s c : ℕ) → s < M.n → c < M.k → Recognised M w xs 0 → (Verified M w xs s c → ⊥)
      → ((t d : ℕ) → t < s → d < M.k → Verified M w xs t d) → ((d : ℕ) → d < c → Verified M w xs s d)
      → v ≡ 1 + (s * M.k + c) → OpenNumber M w xs v

-- the marks of a sequence (§5.4), one for each of its places: 1 where the place is recognised, else 0
pub record MarksOf (M : Mealy) (w xs ms : List ℕ) : Type 0 where
  pub long : length ms ≡ length xs + 1
  pub marked : (p : ℕ) → (get_or ms p 0 ≡ 1) ↔ Recognised M w xs p
  pub otherwise : (p : ℕ) → (Recognised M w xs p → ⊥) → get_or ms p 0 ≡ 0

-- how many places are recognised (§5.4): as many as marks are 1
pub record RecognisedNumber (M : Mealy) (w xs : List ℕ) (recognised : ℕ) : Type 0 where
  pub marks : List ℕ
  pub are : MarksOf M w xs marks
  pub number : recognised ≡ count marks
