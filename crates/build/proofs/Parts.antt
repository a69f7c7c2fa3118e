-- The parts of the prescribed sequence as the program writes them: blocks, approaches, tests, the opening. M is the
-- machine, w the word, rows the table of transfers; N is the program's number of states.
-- Assumes nothing.
use Prim.Native.Nat.{ℕ, ◌+◌, ◌-◌, ◌*◌, ◌≤◌, ◌<◌}
use mathlib.Core.Path.{◌≡◌, refl, sym, ap, subst, ◌∙◌}
use mathlib.Core.List.{List, [], ◌∷◌, ◌++◌, append_assoc, append-nil}
use native.Mathlib.Omega.{arith}
use native.Mathlib.Numerals.{add-one}
use lib.ListN.{length, get_or}
use Rattle.machine.specs.Limits.{most_states, most_commands, most_word, most_sequence}
use Rattle.machine.specs.Machine.{Mealy, run}
use Rattle.machine.specs.Machine.Laws.{run_append, run_none}
use Rattle.build.specs.declared.writing.Position.{Position}
use Rattle.build.specs.Sequence.{following, T, nth_state, first_blocks, opening, approach, test, state_tests, tests}
use Rattle.build.specs.Sequence.{sequence, most_block}
use Rattle.build.specs.Sequence.Cycle.{following_below, gap, gap_below, gap_step, nth_state_below, nth_state_start}
use Rattle.build.specs.Sequence.Cycle.{nth_state_next}
use Rattle.build.specs.Building.Connection.{clear_blocks}
use Rattle.build.specs.Sequence.Laws.{Blocks, T_is, approach_here, approach_more, first_blocks_none}
use Rattle.build.specs.Sequence.Laws.{first_blocks_more}
use Rattle.build.specs.Sequence.Laws.{first_blocks_lead, opening_is, opening_leads, test_is, test_leads}
use Rattle.build.specs.Sequence.Laws.{test_stays, state_tests_stay, state_tests_none, state_tests_more}
use Rattle.build.specs.Sequence.Laws.{tests_none, tests_more, sequence_is}
use Rattle.build.specs.Sequence.Length.{approach_length, test_length_lem, state_tests_length, opening_length}
use Rattle.build.specs.Sequence.Length.{block_few, blocks_few, tests_few}
use Rattle.build.specs.Table.{row_size, table_size, row}
use Rattle.build.specs.Writing.{most_approach, most_test, most_state_tests, most_tests, WriteRequires, Adds, Moves}
use Rattle.build.specs.Writing.{PartRequires}
use Rattle.build.proofs.Adds.{adds_none, adds_append}

-- two parts, the second from the state that the first leads to
moves_append : {M : Mealy} {before middle after : List ℕ} {at state : ℕ} {q r : Position} (xs : List ℕ) (f : ℕ → List ℕ)
    → Moves M before at state xs middle q → Moves M middle q.at q.state (f q.state) after r
    → Moves M before at state (xs ++ f (run M state xs)) after r
moves_append {M} {before} {middle} {after} {at} {state} {q} {r} xs f a b = record {
  adds = rw (← a.leads) (adds_append xs (f q.state) a.adds b.adds);
  leads =
      rw (← a.leads)
      (b.leads ∙ ap (λ (x : ℕ). run M x (f q.state)) a.leads ∙ sym (run_append M state xs (f q.state)));
}

moves_none : (M : Mealy) (before : List ℕ) (p : Position) {xs : List ℕ} → xs ≡ []
    → Moves M before p.at p.state xs before p
moves_none M before p e = record { adds = adds_none before p.at e; leads = rw (e, run_none) }

-- a loop that approaches s from p₀: some blocks are written, and the rest is the approach from p
pub record Approaching (M : Mealy) (w before : List ℕ) (at₀ p₀ s : ℕ) (now : List ℕ) (at p : ℕ) : Type 0 where
  pub done : List ℕ
  pub adds : Adds before at₀ done now at
  pub rest : done ++ approach M w M.n p s ≡ approach M w M.n p₀ s
  pub low : p < M.n
  pub room : at + gap M.n p s * most_block ≤ most_sequence

-- every T(s) leads on
blocks_of : {M : Mealy} {w rows : List ℕ} → WriteRequires M w rows → Blocks M w
blocks_of {M} {w} h = clear_blocks M w h.proper h.commands h.connected

-- what a block needs of the table: its row
pub record RowRequires (w rows : List ℕ) (s at : ℕ) : Type 0 where
  pub few : length w ≤ most_word
  pub long : length rows ≡ table_size
  pub state : s < most_states
  pub short : get_or rows (s * row_size) 0 < row_size
  pub room : at + most_block ≤ most_sequence

module _ {M : Mealy} {w rows : List ℕ} (h : WriteRequires M w rows) where
  -- ---- blocks
  pub block_adds : (s : ℕ) → s < M.n → {before after : List ℕ} {at end : ℕ}
      → Adds before at (w ++ row rows s) after end → Adds before at (T M w s) after end
  block_adds s sl l = rw (T_is M w s, h.filled.stored s sl) l

  block_length : (s : ℕ) → s < M.n → length (T M w s) ≤ most_block
  block_length s sl = omega (arith, (blocks_of h).short s sl, block_few M w h.proper h.commands.few)

  -- ---- the approach
  module _ {before : List ℕ} {at₀ p₀ s : ℕ} where
    pub approaching_start : PartRequires M.n at₀ p₀ most_approach → s < M.n
        → Approaching M w before at₀ p₀ s before at₀ p₀
    approaching_start a sl = record {
      done = [];
      adds = adds_none before at₀ refl;
      rest = refl;
      low = a.low;
      room = omega (arith, a.room, gap_below M.n p₀ s a.low sl, h.proper.few_states);
    }

    module _ {now : List ℕ} {at p : ℕ} (a : Approaching M w before at₀ p₀ s now at p) (sl : s < M.n) where
      pub approaching_required : (p ≡ s → ⊥) → PartRequires M.n at p most_block
      approaching_required ne = record {
        low = a.low;
        room = omega (arith, a.room, gap_step M.n p s a.low sl ne);
      }

      pub approaching_on : (p ≡ s → ⊥) → {N q end : ℕ} {after : List ℕ} → N ≡ M.n
          → Adds now at (T M w p) after end → q ≡ following N p → Approaching M w before at₀ p₀ s after end q
      approaching_on ne {N} {q} {end} {after} ne2 block qe =
          let qn : q ≡ following M.n p = qe ∙ ap (λ (n : ℕ). following n p) ne2 in
          let on : Approaching M w before at₀ p₀ s after end (following M.n p) = record {
            done = a.done ++ T M w p;
            adds = adds_append a.done (T M w p) a.adds block;
            rest =
                append_assoc a.done (T M w p) _
                ∙ ap (λ (xs : List ℕ). a.done ++ xs) (sym (approach_more M w (blocks_of h) p s a.low sl ne))
                ∙ a.rest;
            low = following_below M.n p a.low;
            room = omega (arith, a.room, gap_step M.n p s a.low sl ne, block.ends, block_length p a.low);
          } in
          rw qn on

      pub approaching_less : (p ≡ s → ⊥) → {N q : ℕ} → N ≡ M.n → q ≡ following N p → gap N q s < gap N p s
      approaching_less ne {N} {q} e qe = rw (qe, e) (omega (arith, gap_step M.n p s a.low sl ne))

      pub approaching_end : p ≡ s → Adds before at₀ (approach M w M.n p₀ s) now at
      approaching_end e =
          let none : approach M w M.n p s ≡ [] = rw e (approach_here M w M.n s) in
          rw (← a.rest, none, append-nil) a.adds

  -- ---- a test
  module _ {at p s c : ℕ} (a : PartRequires M.n at p most_test) (sl : s < M.n) (cl : c < M.k) where
    reached_room : {before after : List ℕ} {end : ℕ} → Adds before at (approach M w M.n p s) after end
        → end + 1 + most_block ≤ most_sequence
    reached_room l =
        let g = gap_below M.n p s a.low sl in
        let few =
        blocks_few M w h.proper h.commands.few (gap M.n p s) (most_states - 1)
        (omega (arith, h.proper.few_states)) in
        omega (arith, a.room, l.ends, approach_length M w (blocks_of h) M.n p s a.low sl)

    pub command_room : {before after : List ℕ} {end : ℕ} → Adds before at (approach M w M.n p s) after end
        → end + 1 ≤ most_sequence
    command_room l = omega (arith, reached_room l)

    pub led_low : {t : ℕ} → t ≡ M.next s c → t < M.n
    led_low e = rw e (h.proper.stays s c sl cl)

    pub led_required : {t : ℕ} → t ≡ M.next s c → {before middle after : List ℕ} {e f : ℕ}
        → Adds before at (approach M w M.n p s) middle e → Adds middle e (c ∷ []) after f
        → PartRequires M.n f t most_block
    led_required te l one = record { low = led_low te; room = omega (arith, reached_room l, one.ends) }

    pub test_moves : {N t q : ℕ} → N ≡ M.n → t ≡ M.next s c → q ≡ following N t → {b b₁ b₂ b₃ : List ℕ} {e f g : ℕ}
        → Adds b at (approach M w M.n p s) b₁ e → Adds b₁ e (c ∷ []) b₂ f → Adds b₂ f (T M w t) b₃ g
        → Moves M b at p (test M w p s c) b₃ (record { at = g; state = q })
    test_moves {N} {t} {q} ne te qe {b} {b₁} {b₂} {b₃} {e} {f} {g} l one block =
        let led : Adds b₂ f (T M w (M.next s c)) b₃ g = rw (← te) block in
        record {
          adds =
              rw (test_is M w p s c)
              (adds_append (approach M w M.n p s) (c ∷ T M w (M.next s c)) l
              (adds_append (c ∷ []) (T M w (M.next s c)) one led));
          leads = qe ∙ (rw (ne, te) (sym (test_leads M w (blocks_of h) p s c a.low sl cl)));
        }

-- ---- the tests of a state's first entries, and of the first states
pub record TestingState (M : Mealy) (w before : List ℕ) (p₀ : Position) (s : ℕ) (now : List ℕ) (p : Position)
    (c : ℕ) : Type 0 where
  pub inside : c ≤ M.k
  pub moves : Moves M before p₀.at p₀.state (state_tests M w p₀.state s c) now p
  pub low : p.state < M.n
  pub room : p.at + (most_commands - c) * most_test ≤ most_sequence

pub record Testing (M : Mealy) (w before : List ℕ) (p₀ : Position) (now : List ℕ) (p : Position) (s : ℕ) : Type 0 where
  pub inside : s ≤ M.n
  pub moves : Moves M before p₀.at p₀.state (tests M w p₀.state s) now p
  pub low : p.state < M.n
  pub room : p.at + (most_states - s) * most_state_tests ≤ most_sequence

module _ {M : Mealy} {w rows : List ℕ} (h : WriteRequires M w rows) where
  -- a test's length, on a machine within the limits
  test_few : (p s c : ℕ) → p < M.n → s < M.n → c < M.k → length (test M w p s c) ≤ most_test
  test_few p s c pl sl cl = omega (
    arith,
    blocks_few M w h.proper h.commands.few M.n most_states h.proper.few_states,
    test_length_lem M w (blocks_of h) p s c pl sl cl,
  )

  state_few : (p s : ℕ) → p < M.n → s < M.n → length (state_tests M w p s M.k) ≤ most_state_tests
  state_few p s pl sl =
      let all = tests_few M w h.proper h.commands.few M.k most_commands h.proper.few_commands in
      omega (arith, state_tests_length M w (blocks_of h) p s M.k pl sl (omega arith))

module _ {M : Mealy} {w rows before : List ℕ} {p₀ : Position} (h : WriteRequires M w rows) where
  -- ---- one state's tests
  module _ {s : ℕ} (sl : s < M.n) where
    pub testing_state_start : PartRequires M.n p₀.at p₀.state most_state_tests
        → TestingState M w before p₀ s before p₀ 0
    testing_state_start a = record {
      inside = omega arith;
      moves = moves_none M before p₀ (state_tests_none M w p₀.state s);
      low = a.low;
      room = omega (arith, a.room);
    }

    module _ {now : List ℕ} {p : Position} {c : ℕ} (a : TestingState M w before p₀ s now p c) where
      pub testing_state_required : c < M.k → PartRequires M.n p.at p.state most_test
      testing_state_required cl = record {
        low = a.low;
        room = omega (arith, a.room, h.proper.few_commands);
      }

      pub testing_state_on : c < M.k → {after : List ℕ} {q : Position}
          → Moves M now p.at p.state (test M w p.state s c) after q
          → TestingState M w before p₀ s after q (c + 1)
      testing_state_on cl {after} {q} m = record {
        inside = omega arith;
        moves =
            rw (add-one, state_tests_more M w p₀.state s c)
            (moves_append (state_tests M w p₀.state s c) (λ x. test M w x s c) a.moves m);
        low = rw m.leads (test_stays M w (blocks_of h) p.state s c a.low sl cl);
        room = omega (
          arith,
          a.room,
          h.proper.few_commands,
          m.adds.ends,
          test_few h p.state s c a.low sl cl,
        );
      }

      pub testing_state_end : M.k ≤ c → Moves M before p₀.at p₀.state (state_tests M w p₀.state s M.k) now p
      testing_state_end l =
          subst (λ (x : ℕ). Moves M before p₀.at p₀.state (state_tests M w p₀.state s x) now p)
          (omega (arith, a.inside)) a.moves

  -- ---- all tests
  pub testing_start : PartRequires M.n p₀.at p₀.state most_tests → Testing M w before p₀ before p₀ 0
  testing_start a = record {
    inside = omega arith;
    moves = moves_none M before p₀ (tests_none M w p₀.state);
    low = a.low;
    room = omega (arith, a.room);
  }

  module _ {now : List ℕ} {p : Position} {s : ℕ} (a : Testing M w before p₀ now p s) where
    pub testing_required : s < M.n → PartRequires M.n p.at p.state most_state_tests
    testing_required sl = record {
      low = a.low;
      room = omega (arith, a.room, h.proper.few_states);
    }

    pub testing_on : s < M.n → {after : List ℕ} {q : Position}
        → Moves M now p.at p.state (state_tests M w p.state s M.k) after q
        → Testing M w before p₀ after q (s + 1)
    testing_on sl {after} {q} m = record {
      inside = omega arith;
      moves =
          rw (add-one, tests_more M w p₀.state s)
          (moves_append (tests M w p₀.state s) (λ x. state_tests M w x s M.k) a.moves m);
      low = rw m.leads (state_tests_stay M w (blocks_of h) p.state s M.k a.low sl (omega arith));
      room = omega (arith, a.room, h.proper.few_states, m.adds.ends, state_few h p.state s a.low sl);
    }

    pub testing_end : M.n ≤ s → Moves M before p₀.at p₀.state (tests M w p₀.state M.n) now p
    testing_end l =
        subst (λ (x : ℕ). Moves M before p₀.at p₀.state (tests M w p₀.state x) now p)
        (omega (arith, a.inside)) a.moves

-- ---- the opening: the first i blocks
pub record Opening (M : Mealy) (w before now : List ℕ) (at p i : ℕ) : Type 0 where
  pub inside : i ≤ M.n + 1
  pub adds : Adds before 0 (first_blocks M w i) now at
  pub state : p ≡ nth_state M i
  pub room : at ≤ i * most_block

module _ {M : Mealy} {w rows before : List ℕ} (h : WriteRequires M w rows) where
  pub opening_start : {p : ℕ} → p ≡ M.start → Opening M w before before 0 p 0
  opening_start e = record {
    inside = omega arith;
    adds = adds_none before 0 (first_blocks_none M w);
    state = e ∙ sym (nth_state_start M h.proper);
    room = omega arith;
  }

  module _ {now : List ℕ} {at p i : ℕ} (a : Opening M w before now at p i) where
    pub opening_low : p < M.n
    opening_low = rw a.state (nth_state_below M h.proper i)

    pub opening_required : {N : ℕ} → N ≡ M.n → i ≤ N → PartRequires M.n at p most_block
    opening_required e l = record { low = opening_low; room = omega (arith, a.room, h.proper.few_states) }

    pub opening_on : {N q end : ℕ} {after : List ℕ} → N ≡ M.n → i ≤ N → Adds now at (T M w p) after end
        → q ≡ following N p → Opening M w before after end q (i + 1)
    opening_on {N} {q} {end} {after} e l block qe =
        let here : Adds now at (T M w (nth_state M i)) after end = rw (← a.state) block in
        record {
          inside = omega arith;
          adds =
              rw (add-one, first_blocks_more M w i)
              (adds_append (first_blocks M w i) (T M w (nth_state M i)) a.adds here);
          state = qe ∙ (rw (e, a.state, add-one) (sym (nth_state_next M h.proper i)));
          room = omega (arith, a.room, block.ends, block_length h p opening_low);
        }

    pub opening_end : {N : ℕ} → N ≡ M.n → N < i
        → Moves M before 0 M.start (opening M w) now (record { at = at; state = p })
    opening_end e l =
        let all : first_blocks M w i ≡ opening M w =
        ap (first_blocks M w) (omega (arith, a.inside)) ∙ sym (opening_is M w (blocks_of h)) in
        record {
          adds = rw (← all) a.adds;
          leads = a.state ∙ sym (first_blocks_lead M w (blocks_of h) i) ∙ ap (run M M.start) all;
        }

  -- ---- the whole
  pub tests_required : {after : List ℕ} {p : Position} → Moves M before 0 M.start (opening M w) after p
      → PartRequires M.n p.at p.state most_tests
  tests_required m =
      let few =
      blocks_few M w h.proper h.commands.few (M.n + 1) (most_states + 1)
      (omega (arith, h.proper.few_states)) in
      record {
        low =
            rw (m.leads, opening_leads M w (blocks_of h))
            (following_below M.n M.start h.proper.starts);
        room = omega (arith, m.adds.ends, opening_length M w (blocks_of h));
      }

  pub sequence_written : {middle after : List ℕ} {p q : Position} → Moves M before 0 M.start (opening M w) middle p
      → Moves M middle p.at p.state (tests M w p.state M.n) after q
      → Adds before 0 (sequence M w) after q.at
  sequence_written a b = rw (sequence_is M w) (moves_append (opening M w) (λ x. tests M w x M.n) a b).adds
