-- The prescribed sequence is certified. Each T(s) stands in the opening between two recognised places, so the end of
-- every T(s) is recognised by rule 2, its start by rule 1: each tested command lies between the end of one and the
-- start of another. M is the machine, w the word; a split of the sequence says where a block stands.
use Rattle.std.specs.Prelude.{ℕ, zero, suc, ◌+◌, ◌-◌, ◌≤◌, ◌<◌, ◌≡◌, refl, List, [], ◌∷◌, ◌++◌, length, take, drop}
use Rattle.std.proofs.Common.{sym, ap, ◌∙◌, inl, inr, append_assoc, append-nil, arith, add-one, add-zero, add-suc}
use Rattle.std.proofs.Common.{not-suc-le-zero, le_refl, length-append, below_more}
use Rattle.std.proofs.Math.Nat.{le_of_suc-le}
use Rattle.facts.specs.Numbers.{equal_or_not}
use Rattle.std.proofs.Math.Seq.{take-append_seam, drop-append_seam, get_or-append_seam}
use Rattle.machine.specs.Machine.{Mealy, run, state_at}
use Rattle.machine.specs.Machine.Laws.{run_none, run_append, run_cons, state_split}
use Rattle.certify.specs.Recognition.{Recognised, Verified, Certified}
use Rattle.certify.specs.Recognition.Laws.{by_rule1, by_rule2}
use Rattle.build.specs.Sequence.{following, T, nth_state, first_blocks, opening, approach, test, state_tests, tests}
use Rattle.build.specs.Sequence.{sequence}
use Rattle.build.specs.Sequence.Cycle.{following_below, gap, gap_below, nth_state_next, nth_state_at}
use Rattle.build.specs.Sequence.Cycle.{nth_state_below, nth_state_start}
use Rattle.build.specs.Sequence.Laws.{Blocks, first_blocks_none, first_blocks_more, test_is, approach_none}
use Rattle.build.specs.Sequence.Laws.{approach_here, approach_on, approach_reaches, first_blocks_lead, opening_is}
use Rattle.build.specs.Sequence.Laws.{state_tests_none, state_tests_more, tests_none, tests_more, sequence_is}

module _ (M : Mealy) (w : List ℕ) (h : Blocks M w) where
  -- ---- what is found in a beginning of the sequence, and stays in it when more follows
  -- T(s) stands where the machine is in state s, and the next block follows
  record Opened (xs : List ℕ) (s : ℕ) : Type 0 where
    before : List ℕ
    after : List ℕ
    split : xs ≡ before ++ (T M w s ++ (T M w (following M.n s) ++ after))
    state : run M M.start before ≡ s

  -- it ends with T(last), which begins where the machine is in that state
  record Ended (xs : List ℕ) : Type 0 where
    before : List ℕ
    last : ℕ
    low : last < M.n
    split : xs ≡ before ++ T M w last
    state : run M M.start before ≡ last

  -- the command c follows T(last), which leads to s, and T of the state that the entry leads to follows c
  record Tested (xs : List ℕ) (s c : ℕ) : Type 0 where
    before : List ℕ
    last : ℕ
    after : List ℕ
    low : last < M.n
    split : xs ≡ before ++ (T M w last ++ (c ∷ (T M w (M.next s c) ++ after)))
    state : run M M.start before ≡ last
    reached : following M.n last ≡ s

  longer_opened : (xs ys : List ℕ) (s : ℕ) → Opened xs s → Opened (xs ++ ys) s
  longer_opened xs ys s o = record {
    before = o.before;
    after = o.after ++ ys;
    split = rw (o.split, append_assoc, append_assoc, append_assoc);
    state = o.state;
  }

  longer_tested : (xs ys : List ℕ) (s c : ℕ) → Tested xs s c → Tested (xs ++ ys) s c
  longer_tested xs ys s c o = record {
    before = o.before;
    last = o.last;
    after = o.after ++ ys;
    low = o.low;
    split = rw (o.split, append_assoc, append_assoc, append_assoc);
    state = o.state;
    reached = o.reached;
  }

  -- ---- the opening
  split_blocks : (i j : ℕ) → (after : List ℕ)
      × (first_blocks M w (suc (suc i) + j)
      ≡ first_blocks M w i ++ (T M w (nth_state M i) ++ (T M w (nth_state M (suc i)) ++ after)))
  split_blocks i zero =
      ([], rw (add-zero, first_blocks_more M w (suc i), first_blocks_more M w i, append-nil, append_assoc))
  split_blocks i (suc j) =
      let o = split_blocks i j in (
        o.0 ++ T M w (nth_state M (suc (suc i) + j)),
        rw (add-suc, first_blocks_more M w (suc (suc i) + j), o.1, append_assoc, append_assoc, append_assoc),
      )

  opening_split : (i : ℕ) → i < M.n
      → (after : List ℕ)
      × (opening M w ≡ first_blocks M w i ++ (T M w (nth_state M i) ++ (T M w (nth_state M (suc i)) ++ after)))
  opening_split i l =
      let o = split_blocks i (M.n - suc i) in
      let e : suc M.n ≡ suc (suc i) + (M.n - suc i) = omega arith in
      (o.0, opening_is M w h ∙ ap (first_blocks M w) e ∙ o.1)

  opening_opened : (s : ℕ) → s < M.n → Opened (opening M w) s
  opening_opened s sl =
      let i = gap M.n M.start s in
      let at : nth_state M i ≡ s = nth_state_at M h.proper s sl in
      let o = opening_split i (gap_below M.n M.start s h.proper.starts sl) in
      record {
        before = first_blocks M w i;
        after = o.0;
        split = rw (nth_state_next M h.proper i, at) at o.1;
        state = first_blocks_lead M w h i ∙ at;
      }

  opening_ended : Ended (opening M w)
  opening_ended = record {
    before = first_blocks M w M.n;
    last = nth_state M M.n;
    low = nth_state_below M h.proper M.n;
    split = opening_is M w h ∙ first_blocks_more M w M.n;
    state = first_blocks_lead M w h M.n;
  }

  -- ---- the tests
  -- the machine's state after a beginning that ends with a block
  ended_leads : (xs : List ℕ) (o : Ended xs) → run M M.start xs ≡ following M.n o.last
  ended_leads xs o = rw (o.split, run_append, o.state) (h.leads o.last o.low)

  ended_stays : (xs : List ℕ) → Ended xs → run M M.start xs < M.n
  ended_stays xs o = rw (ended_leads xs o) (following_below M.n o.last o.low)

  -- the approach
  ended_here : (xs : List ℕ) → Ended xs → {ys : List ℕ} → ys ≡ [] → Ended (xs ++ ys)
  ended_here xs o e = rw (e, append-nil) o

  ended_approach : (i : ℕ) (xs : List ℕ) (p s : ℕ) → Ended xs → run M M.start xs ≡ p
      → Ended (xs ++ approach M w i p s)
  ended_approach zero xs p s o e = ended_here xs o (approach_none M w p s)
  ended_approach (suc i) xs p s o e = elim (equal_or_not p s) [
    | inl q ↦ ended_here xs o (rw q (approach_here M w (suc i) s))
    | inr ne ↦ (let now : Ended (xs ++ T M w p) =
        record { before = xs; last = p; low = rw (← e) (ended_stays xs o); split = refl; state = e } in
        rw (approach_on M w i p s ne, ← append_assoc)
        (ended_approach i (xs ++ T M w p) (run M p (T M w p)) s now (rw (run_append, e))))
  ]

  -- the test of an entry behind a beginning
  module _ (xs : List ℕ) (p s c : ℕ) (o : Ended xs) (e : run M M.start xs ≡ p) (sl : s < M.n) (cl : c < M.k) where
    at_state : List ℕ
    at_state = xs ++ approach M w M.n p s

    at_ended : Ended at_state
    unfolding at_state
    at_ended = ended_approach M.n xs p s o e

    at_leads : run M M.start at_state ≡ s
    unfolding at_state
    at_leads = rw (run_append, e) (approach_reaches M w h p s (rw (← e) (ended_stays xs o)) sl)

    tested_is : xs ++ test M w p s c ≡ at_state ++ (c ∷ T M w (M.next s c))
    unfolding at_state
    tested_is = rw (test_is M w p s c, append_assoc)

    test_tested : Tested (xs ++ test M w p s c) s c
    test_tested = record {
      before = at_ended.before;
      last = at_ended.last;
      after = [];
      low = at_ended.low;
      split = rw (tested_is, at_ended.split, append-nil, append_assoc);
      state = at_ended.state;
      reached = sym (ended_leads at_state at_ended) ∙ at_leads;
    }

    test_ended : Ended (xs ++ test M w p s c)
    test_ended = record {
      before = at_state ++ (c ∷ []);
      last = M.next s c;
      low = h.proper.stays s c sl cl;
      split = tested_is ∙ sym (append_assoc at_state (c ∷ []) (T M w (M.next s c)));
      state = rw (run_append, at_leads, run_cons, run_none);
    }

  -- the tests of a state's first entries
  record StateTested (xs : List ℕ) (s k : ℕ) : Type 0 where
    ended : Ended xs
    tested : (c : ℕ) → c < k → Tested xs s c

  state_more : (xs ys : List ℕ) (s k : ℕ) → StateTested xs s k → Ended (xs ++ ys) → Tested (xs ++ ys) s k
      → StateTested (xs ++ ys) s (suc k)
  state_more xs ys s k o e t = record {
    ended = e;
    tested = λ c l.
        below_more (Tested (xs ++ ys) s) k (λ d q. longer_tested xs ys s d (o.tested d q)) t c (rw add-one l);
  }

  state_step : (xs ys : List ℕ) (p s k : ℕ) → run M M.start xs ≡ p → s < M.n → k < M.k → StateTested (xs ++ ys) s k
      → StateTested (xs ++ (ys ++ test M w (run M p ys) s k)) s (suc k)
  state_step xs ys p s k e sl kl so =
      let at : run M M.start (xs ++ ys) ≡ run M p ys = rw (run_append, e) in
      rw (← append_assoc)
      (state_more (xs ++ ys) (test M w (run M p ys) s k) s k so
      (test_ended (xs ++ ys) (run M p ys) s k so.ended at sl kl)
      (test_tested (xs ++ ys) (run M p ys) s k so.ended at sl kl))

  state_tested : (xs : List ℕ) (p s k : ℕ) → Ended xs → run M M.start xs ≡ p → s < M.n → k ≤ M.k
      → StateTested (xs ++ state_tests M w p s k) s k
  state_tested xs p s zero o e sl kl = record {
    ended = ended_here xs o (state_tests_none M w p s);
    tested = λ c l. absurd (not-suc-le-zero l);
  }
  state_tested xs p s (suc k) o e sl kl =
      rw (state_tests_more M w p s k)
      (state_step xs (state_tests M w p s k) p s k e sl kl (state_tested xs p s k o e sl (le_of_suc-le kl)))

  -- the tests of the first states
  record AllTested (xs : List ℕ) (n : ℕ) : Type 0 where
    ended : Ended xs
    tested : (s c : ℕ) → s < n → c < M.k → Tested xs s c

  all_more : (xs ys : List ℕ) (n : ℕ) → AllTested xs n → StateTested (xs ++ ys) n M.k → AllTested (xs ++ ys) (suc n)
  all_more xs ys n o t = record {
    ended = t.ended;
    tested = λ s c l cl.
        below_more (λ r. (d : ℕ) → d < M.k → Tested (xs ++ ys) r d) n
        (λ r q d dl. longer_tested xs ys r d (o.tested r d q dl)) t.tested s (rw add-one l) c cl;
  }

  all_step : (xs ys : List ℕ) (p n : ℕ) → run M M.start xs ≡ p → n < M.n → AllTested (xs ++ ys) n
      → AllTested (xs ++ (ys ++ state_tests M w (run M p ys) n M.k)) (suc n)
  all_step xs ys p n e nl so =
      rw (← append_assoc)
      (all_more (xs ++ ys) (state_tests M w (run M p ys) n M.k) n so
      (state_tested (xs ++ ys) (run M p ys) n M.k so.ended (rw (run_append, e)) nl (le_refl M.k)))

  all_tested : (xs : List ℕ) (p n : ℕ) → Ended xs → run M M.start xs ≡ p → n ≤ M.n
      → AllTested (xs ++ tests M w p n) n
  all_tested xs p zero o e nl = record {
    ended = ended_here xs o (tests_none M w p);
    tested = λ s c l cl. absurd (not-suc-le-zero l);
  }
  all_tested xs p (suc n) o e nl =
      rw (tests_more M w p n) (all_step xs (tests M w p n) p n e nl (all_tested xs p n o e (le_of_suc-le nl)))

  -- ---- the whole sequence
  sequence_opened : (s : ℕ) → s < M.n → Opened (sequence M w) s
  sequence_opened s sl = rw (sequence_is M w) (longer_opened (opening M w) _ s (opening_opened s sl))

  sequence_tested : (s c : ℕ) → s < M.n → c < M.k → Tested (sequence M w) s c
  sequence_tested s c sl cl =
      rw (sequence_is M w)
      ((all_tested (opening M w) (run M M.start (opening M w)) M.n opening_ended refl
      (le_refl M.n)).tested s c sl cl)

  sequence_begins : (after : List ℕ) × (sequence M w ≡ T M w M.start ++ after)
  sequence_begins =
      let o = opening_split 0 h.proper.some_states in
      let begins = rw (first_blocks_none M w, nth_state_start M h.proper) at o.1 in
      let rest = tests M w (run M M.start (opening M w)) M.n in
      ((T M w (nth_state M 1) ++ o.0) ++ rest, rw (sequence_is M w, ← append_assoc, ← begins))

  -- it is not empty
  pub sequence_some : 1 ≤ length (sequence M w)
  sequence_some =
      rw (sequence_begins.1, (h.begins M.start h.proper.starts).1, append_assoc, length-append)
      (omega (arith, h.some))

  -- ---- recognised places
  module _ (xs : List ℕ) where
    -- a block begins with the word
    block_start : (before : List ℕ) (s : ℕ) (after : List ℕ) → s < M.n → xs ≡ before ++ (T M w s ++ after)
        → Recognised M w xs (length before)
    block_start before s after sl e =
        let b = h.begins s sl in
        let whole : xs ≡ before ++ (w ++ (b.0 ++ after)) = rw (e, b.1, append_assoc w) in
        by_rule1 M w xs (length before) (record {
          inside = rw whole (simp length-append (omega arith));
          commands = rw (whole, drop-append_seam, take-append_seam);
        })

    state_behind : (before after : List ℕ) → xs ≡ before ++ after
        → state_at M xs (length before) ≡ run M M.start before
    state_behind before after e = rw (e, state_split)

    commands_at : (before : List ℕ) (s : ℕ) (after : List ℕ) → xs ≡ before ++ (T M w s ++ after)
        → take (length (T M w s)) (drop (length before) xs) ≡ T M w s
    commands_at before s after e = rw (e, drop-append_seam, take-append_seam)

    -- the end of a block, by the same block in the opening
    block_end : (before : List ℕ) (s : ℕ) (after : List ℕ) → s < M.n → xs ≡ before ++ (T M w s ++ after)
        → run M M.start before ≡ s → Opened xs s → Recognised M w xs (length before + length (T M w s))
    block_end before s after sl e st o =
        let m = length (T M w s) in
        let p = length o.before in
        let q = length before in
        let b = h.begins s sl in
        let long : length (T M w s) ≡ length w + length b.0 = ap length b.1 ∙ length-append w b.0 in
        let end : Recognised M w xs (p + m) =
        rw (← length-append o.before (T M w s))
        (block_start (o.before ++ T M w s) (following M.n s) o.after (following_below M.n s sl)
        (rw append_assoc o.split)) in
        let whole : length xs ≡ q + (m + length after) = ap length e ∙ (simp length-append) in
        by_rule2 M w xs p q m (omega (arith, h.some)) (block_start o.before s _ sl o.split)
        (block_start before s after sl e)
        (state_behind o.before _ o.split ∙ o.state ∙ sym (state_behind before _ e ∙ st)) end (omega arith)
        (commands_at o.before s _ o.split ∙ sym (commands_at before s after e))

    -- a tested entry is verified
    tested_verified : (s c : ℕ) → s < M.n → c < M.k → ((t : ℕ) → t < M.n → Opened xs t) → Tested xs s c
        → Verified M w xs s c
    tested_verified s c sl cl o t =
        let u = t.before ++ T M w t.last in
        let behind = T M w (M.next s c) ++ t.after in
        let here : xs ≡ u ++ (c ∷ behind) = rw append_assoc t.split in
        let there : xs ≡ (u ++ (c ∷ [])) ++ behind = rw append_assoc here in
        let at : length (u ++ (c ∷ [])) ≡ length u + 1 = length-append u (c ∷ []) in
        record {
          place = length u;
          inside = rw (here, length-append u) (omega arith);
          state =
              rw (state_behind u (c ∷ behind) here, run_append, t.state, h.leads t.last t.low) t.reached;
          command = rw (here, get_or-append_seam);
          before =
              rw (length-append t.before (T M w t.last))
              (block_end t.before t.last _ t.low t.split t.state (o t.last t.low));
          after = rw (← at) (block_start (u ++ (c ∷ [])) (M.next s c) t.after (h.proper.stays s c sl cl) there);
        }

  -- what is built is certified
  pub sequence_certified : Certified M w (sequence M w)
  sequence_certified = record {
    start = let b = sequence_begins in block_start (sequence M w) [] M.start b.0 h.proper.starts b.1;
    entries = λ s c sl cl. tested_verified (sequence M w) s c sl cl sequence_opened (sequence_tested s c sl cl);
  }
