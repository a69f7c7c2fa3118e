-- The laws of machines and their runs.
use Rattle.std.specs.Prelude.{ℕ, zero, suc, ◌+◌, ◌*◌, ◌≤◌, ◌<◌, ◌≡◌, refl, length, get_or, take, drop}
use Rattle.std.proofs.Common.{sym, ap, ap₂, ◌∙◌, arith, take-add, take_all}
use mathlib.Core.List.{List, [], ◌∷◌, ◌++◌}
use Rattle.std.proofs.Math.Arith.{digits_lt}
use Rattle.std.proofs.Math.Seq.{take-append_seam}
use Rattle.facts.specs.Lists.{Below, below_head, below_tail, low_take, take_more, rest_cons}
use Rattle.machine.specs.declared.machine.Machine.{Machine}
use Rattle.machine.specs.Limits.{most_entries, entries_few}
use Rattle.machine.specs.Machine.{Mealy, no_answer, tabled, meaning, run, answers, state_at, Proper, AlwaysAnswers}

-- two machines are equal where they have the same states, commands, start and entries
pub mealy_same : (a b : Mealy) → a.n ≡ b.n → a.k ≡ b.k → a.start ≡ b.start
    → ((s c : ℕ) → a.next s c ≡ b.next s c) → ((s c : ℕ) → a.answer s c ≡ b.answer s c) → a ≡ b
mealy_same a b p q r f g = λ i. record { n = p i; k = q i; start = r i; next = λ s c. f s c i; answer = λ s c. g s c i }

-- ---- the machine of two columns
pub tabled_commands : (n k start : ℕ) (next answer : List ℕ) → (tabled n k start next answer).k ≡ k
unfolding tabled
tabled_commands n k start next answer = refl

pub tabled_states : (n k start : ℕ) (next answer : List ℕ) → (tabled n k start next answer).n ≡ n
unfolding tabled
tabled_states n k start next answer = refl

pub tabled_start : (n k start : ℕ) (next answer : List ℕ) → (tabled n k start next answer).start ≡ start
unfolding tabled
tabled_start n k start next answer = refl

-- and of the program's value
module _ (m : Machine) where
  pub meaning_states : (meaning m).n ≡ m.n
  meaning_states = tabled_states m.n m.k m.start m.next m.answer

  pub meaning_commands : (meaning m).k ≡ m.k
  meaning_commands = tabled_commands m.n m.k m.start m.next m.answer

  pub meaning_start : (meaning m).start ≡ m.start
  meaning_start = tabled_start m.n m.k m.start m.next m.answer

-- a cell of a column, at an entry's place, is the entry's
pub tabled_next : (n k start : ℕ) (next answer : List ℕ) (s c : ℕ) {v a : ℕ} → v ≡ get_or next a 0 → a ≡ s * k + c
    → v ≡ (tabled n k start next answer).next s c
unfolding tabled
tabled_next n k start next answer s c ve ae = ve ∙ ap (λ (x : ℕ). get_or next x 0) ae

pub tabled_answer : (n k start : ℕ) (next answer : List ℕ) (s c : ℕ) {v a : ℕ} → v ≡ get_or answer a 0 → a ≡ s * k + c
    → v ≡ (tabled n k start next answer).answer s c
unfolding tabled
tabled_answer n k start next answer s c ve ae = ve ∙ ap (λ (x : ℕ). get_or answer x 0) ae

-- its next states are the cells of the column
pub tabled_cells : (n k start : ℕ) (next answer : List ℕ) (s c : ℕ)
    → (tabled n k start next answer).next s c ≡ get_or next (s * (tabled n k start next answer).k + c) 0
unfolding tabled
tabled_cells n k start next answer s c = refl

-- ---- answers
-- the answers depend on the entries alone
pub answers_same : (a b : Mealy) → ((s c : ℕ) → a.next s c ≡ b.next s c) → ((s c : ℕ) → a.answer s c ≡ b.answer s c)
    → (s : ℕ) (w : List ℕ) → answers a s w ≡ answers b s w
unfolding answers
answers_same a b f g s [] = refl
answers_same a b f g s (c ∷ w) = rw (g s c, f s c, answers_same a b f g (b.next s c) w)

pub answers_tabled : (n k start n' start' : ℕ) (next answer : List ℕ) (s : ℕ) (w : List ℕ)
    → answers (tabled n k start next answer) s w ≡ answers (tabled n' k start' next answer) s w
unfolding tabled
answers_tabled n k start n' start' next answer s w = answers_same _ _ (λ x c. refl) (λ x c. refl) s w

-- one command more in front
pub answers_cons : (M : Mealy) (s c : ℕ) (w : List ℕ) → answers M s (c ∷ w) ≡ M.answer s c ∷ answers M (M.next s c) w
unfolding answers
answers_cons M s c w = refl

-- the same from a place of a word on
pub answers_rest : (M : Mealy) (s : ℕ) (w : List ℕ) (p : ℕ) → p < length w
    → answers M s (drop p w) ≡ M.answer s (get_or w p 0) ∷ answers M (M.next s (get_or w p 0)) (drop (p + 1) w)
answers_rest M s w p l = ap (answers M s) (rest_cons w p l) ∙ answers_cons M s (get_or w p 0) (drop (p + 1) w)

pub answers_none : (M : Mealy) (s : ℕ) → answers M s [] ≡ []
unfolding answers
answers_none M s = refl

-- ---- runs
pub run_none : (M : Mealy) (s : ℕ) → run M s [] ≡ s
unfolding run
run_none M s = refl

pub run_cons : (M : Mealy) (s c : ℕ) (w : List ℕ) → run M s (c ∷ w) ≡ run M (M.next s c) w
unfolding run
run_cons M s c w = refl

pub run_rest : (M : Mealy) (s : ℕ) (w : List ℕ) (p : ℕ) → p < length w
    → run M s (drop p w) ≡ run M (M.next s (get_or w p 0)) (drop (p + 1) w)
run_rest M s w p l = ap (run M s) (rest_cons w p l) ∙ run_cons M s (get_or w p 0) (drop (p + 1) w)

pub run_append : (M : Mealy) (s : ℕ) (u v : List ℕ) → run M s (u ++ v) ≡ run M (run M s u) v
unfolding run
run_append M s [] v = refl
run_append M s (c ∷ u) v = run_append M (M.next s c) u v

pub answers_length : (M : Mealy) (s : ℕ) (w : List ℕ) → length (answers M s w) ≡ length w
unfolding answers
answers_length M s [] = refl
answers_length M s (c ∷ w) = ap suc (answers_length M (M.next s c) w)

-- the answers to two strings in a row
pub answers_append : (M : Mealy) (s : ℕ) (u v : List ℕ)
    → answers M s (u ++ v) ≡ answers M s u ++ answers M (run M s u) v
unfolding run answers
answers_append M s [] v = refl
answers_append M s (c ∷ u) v = ap (◌∷◌ (M.answer s c)) (answers_append M (M.next s c) u v)

-- the first answers, the later ones, and a single one
pub answers_take : (M : Mealy) (s m : ℕ) (xs : List ℕ) → take m (answers M s xs) ≡ answers M s (take m xs)
unfolding answers
answers_take M s zero xs = refl
answers_take M s (suc m) [] = refl
answers_take M s (suc m) (c ∷ xs) = ap (λ (l : List ℕ). M.answer s c ∷ l) (answers_take M (M.next s c) m xs)

pub answers_drop : (M : Mealy) (s p : ℕ) (xs : List ℕ)
    → drop p (answers M s xs) ≡ answers M (run M s (take p xs)) (drop p xs)
unfolding run answers
answers_drop M s zero xs = refl
answers_drop M s (suc p) [] = refl
answers_drop M s (suc p) (c ∷ xs) = answers_drop M (M.next s c) p xs

answers_get : (M : Mealy) (s p : ℕ) (xs : List ℕ) → p < length xs
    → get_or (answers M s xs) p 0 ≡ M.answer (run M s (take p xs)) (get_or xs p 0)
unfolding run answers
answers_get M s p [] l = let z : ⊥ = omega arith in absurd z
answers_get M s zero (c ∷ xs) l = refl
answers_get M s (suc p) (c ∷ xs) l = answers_get M (M.next s c) p xs (omega arith)

-- so the answers to m commands from place p are those of its state, and the answer at a place is its entry's
pub answers_part : (M : Mealy) (xs : List ℕ) (p m : ℕ)
    → take m (drop p (answers M M.start xs)) ≡ answers M (state_at M xs p) (take m (drop p xs))
unfolding state_at
answers_part M xs p m = rw (answers_drop, answers_take)

pub answer_at : (M : Mealy) (xs : List ℕ) (p : ℕ) → p < length xs
    → get_or (answers M M.start xs) p 0 ≡ M.answer (state_at M xs p) (get_or xs p 0)
unfolding state_at
answer_at M xs p l = answers_get M M.start p xs l

-- the state of place 0 is the start, and that of each later place is the next state at the command before it
pub state_start : (M : Mealy) (xs : List ℕ) → state_at M xs 0 ≡ M.start
unfolding state_at run
state_start M xs = refl

pub state_next : (M : Mealy) (xs : List ℕ) (p : ℕ) → p < length xs
    → state_at M xs (p + 1) ≡ M.next (state_at M xs p) (get_or xs p 0)
unfolding state_at run
state_next M xs p l = rw (take_more xs p l, run_append)

-- the state behind the first part of a sequence is where that part leads
pub state_split : (M : Mealy) (u v : List ℕ) → state_at M (u ++ v) (length u) ≡ run M M.start u
unfolding state_at
state_split M u v = ap (run M M.start) (take-append_seam u v)

-- and the last place has the state where the whole sequence leads
pub state_end : (M : Mealy) (xs : List ℕ) → state_at M xs (length xs) ≡ run M M.start xs
unfolding state_at
state_end M xs = ap (run M M.start) (take_all (length xs) xs (omega arith))

-- the state m commands after p is where these lead from p's state
state_along : (M : Mealy) (xs : List ℕ) (p m : ℕ) → state_at M xs (p + m) ≡ run M (state_at M xs p) (take m (drop p xs))
unfolding state_at
state_along M xs p m = rw (take-add, run_append)

-- equal commands from equal states lead to equal states
pub states_agree : (M : Mealy) (xs : List ℕ) (p q m : ℕ) → state_at M xs p ≡ state_at M xs q
    → take m (drop p xs) ≡ take m (drop q xs) → state_at M xs (p + m) ≡ state_at M xs (q + m)
states_agree M xs p q m e same = state_along M xs p m ∙ ap₂ (run M) e same ∙ sym (state_along M xs q m)

-- ---- a run stays among the states
module _ (M : Mealy) (closed : (s c : ℕ) → s < M.n → c < M.k → M.next s c < M.n) where
  run_closed : (s : ℕ) (w : List ℕ) → s < M.n → Below M.k w → run M s w < M.n
  unfolding run
  run_closed s [] sl low = sl
  run_closed s (c ∷ w) sl low =
      run_closed (M.next s c) w (closed s c sl (below_head M.k c w low)) (below_tail M.k c w low)

  -- every place of a sequence has one of them
  pub state_closed : M.start < M.n → (xs : List ℕ) → Below M.k xs → (p : ℕ) → state_at M xs p < M.n
  unfolding state_at
  state_closed starts xs low p = run_closed M.start (take p xs) starts (low_take M.k p xs low)

-- so of a machine within the limits
pub run_stays : (M : Mealy) → Proper M → (s : ℕ) (w : List ℕ) → s < M.n → Below M.k w → run M s w < M.n
run_stays M h = run_closed M h.stays

pub state_stays : (M : Mealy) → Proper M → (xs : List ℕ) → Below M.k xs → (p : ℕ) → state_at M xs p < M.n
state_stays M h = state_closed M h.stays h.starts

-- where every entry specifies an answer, no state answers a command with the byte for no answer
pub answers_always : (M : Mealy) → Proper M → AlwaysAnswers M → (s : ℕ) (w : List ℕ) → s < M.n → Below M.k w
    → (i : ℕ) → i < length w → get_or (answers M s w) i 0 ≡ no_answer → ⊥
unfolding answers
answers_always M h always s [] sl low i l = absurd (omega arith)
answers_always M h always s (c ∷ w) sl low zero l = always s c sl (low 0 l)
answers_always M h always s (c ∷ w) sl low (suc i) l =
    answers_always M h always (M.next s c) w (h.stays s c sl (below_head M.k c w low)) (below_tail M.k c w low)
    i (omega arith)

-- it has few entries, and entry (s, c) stands among them
pub proper_entries : (M : Mealy) → Proper M → M.n * M.k ≤ most_entries
proper_entries M h = entries_few M.n M.k h.few_states h.few_commands

pub proper_entry : (M : Mealy) → Proper M → (s c : ℕ) → s < M.n → c < M.k → s * M.k + c < most_entries
proper_entry M h s c sl cl = omega (arith, digits_lt {q = s} {m = M.n} {r = c} {c = M.k} sl cl, proper_entries M h)
