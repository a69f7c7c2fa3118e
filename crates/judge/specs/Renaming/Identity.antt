-- The identity claim over any certified sequence: a unit that gives the specified answers to it is the specified
-- machine, its states renamed. Of certification it uses what a certified sequence has (`Certified`, `Verified`) and the
-- induction over recognised places (`smallest`); of the word one fact, that two places where it stands have one state
-- of the sheet if the unit is in one state there (`alike`).
use Prim.Native.Nat.{ℕ, zero, suc, ◌+◌, ◌≤◌, ◌<◌}
use Rattle.std.specs.Prelude.{◌≡◌, refl, length, take, drop}
use Rattle.std.proofs.Math.Path.{sym, ap}
use Rattle.std.proofs.Common.{◌∙◌, arith}
use mathlib.Core.List.{List}
use Rattle.std.proofs.Math.Numerals.{add-one}
use Rattle.std.proofs.Math.ListN.{get_or}
use Rattle.facts.specs.Numbers.{choice}
use Rattle.machine.specs.Limits.{most_sequence}
use Rattle.machine.specs.Machine.{Mealy, answers, state_at, Separates, Proper, Commands}
use Rattle.machine.specs.Machine.Laws.{answers_part, answer_at, state_start, state_next, state_end, states_agree}
use Rattle.machine.specs.Machine.Laws.{state_closed, state_stays}
use Rattle.machine.specs.Unit.{Unit, table_of, own_answers}
use Rattle.machine.specs.Unit.Laws.{assigns_all}
use Rattle.certify.specs.Recognition.{OccursAt, Recognised, Certified}
use Rattle.certify.specs.Recognition.Laws.{smallest}
use Rattle.judge.specs.Renaming.{Renaming}

module _ (M : Mealy) (w xs : List ℕ) (proper : Proper M) (commands : Commands most_sequence M.k xs)
    (separates : Separates M w) (certified : Certified M w xs) (U : Unit M.n M.k)
    (same : answers M M.start xs ≡ own_answers M.n M.k U xs) where
  -- the unit as a machine
  abbrev unit : Mealy
  unit = table_of M.n M.k U

  -- ---- the word shows the state
  word_answers : (p : ℕ) → OccursAt w xs p → answers M (state_at M xs p) w ≡ answers unit (state_at unit xs p) w
  word_answers p h =
      let there = ap (λ (l : List ℕ). take (length w) (drop p l)) same in
      rw (answers_part M xs p, answers_part unit xs p, h.commands) at there

  state_low : (p : ℕ) → state_at M xs p < M.n
  state_low p = state_stays M proper xs commands.low p

  alike : (p q : ℕ) → OccursAt w xs p → OccursAt w xs q → state_at unit xs p ≡ state_at unit xs q
      → state_at M xs p ≡ state_at M xs q
  alike p q hp hq e =
      separates (state_at M xs p) (state_at M xs q) (state_low p) (state_low q)
      (rw (word_answers p hp, word_answers q hq, e))

  -- the state of a recognised place has a place where the word stands
  recognised_word : (p : ℕ) → Recognised M w xs p → (i : ℕ) × (OccursAt w xs i) × (state_at M xs i ≡ state_at M xs p)
  recognised_word =
      smallest M w xs (λ p. (i : ℕ) × (OccursAt w xs i) × (state_at M xs i ≡ state_at M xs p)) (λ p h. (p, h, refl))
      (λ p q m ml rp hp rq hq e rm hm i equal. (hm.0, hm.1, hm.2 ∙ states_agree M xs p q m e equal))

  -- ---- the state assigned to each state: that of the unit at a place where the word occurs
  MetAtWord : ℕ → ℕ → Type 0
  MetAtWord s x = (p : ℕ) × (OccursAt w xs p) × (state_at M xs p ≡ s) × (state_at unit xs p ≡ x)

  met_at_word : (s : ℕ) → s < M.n → (x : ℕ) × MetAtWord s x
  unfolding MetAtWord
  met_at_word s l =
      let v = certified.entries s 0 l proper.some_commands in
      let h = recognised_word v.place v.before in
      (state_at unit xs h.0, (h.0, h.1, h.2 ∙ v.state, refl))

  assigned : ℕ → ℕ
  assigned = (choice M.n MetAtWord met_at_word).0

  assigned_met : (s : ℕ) → s < M.n → MetAtWord s (assigned s)
  unfolding assigned
  assigned_met = (choice M.n MetAtWord met_at_word).1

  unit_low : (p : ℕ) → state_at unit xs p < U.m
  unit_low p = state_closed unit U.stays U.u_low xs commands.low p

  assigned_low : (s : ℕ) → s < M.n → assigned s < U.m
  unfolding MetAtWord
  assigned_low s l = let h = assigned_met s l in omega (arith, unit_low h.0, h.3)

  assigned_one : (s t : ℕ) → s < M.n → t < M.n → assigned s ≡ assigned t → s ≡ t
  unfolding MetAtWord
  assigned_one s t sl tl e =
      let a = assigned_met s sl in
      let b = assigned_met t tl in
      sym a.2 ∙ alike a.0 b.0 a.1 b.1 (a.3 ∙ e ∙ sym b.3) ∙ b.2

  assigned_onto : (x : ℕ) → x < U.m → (s : ℕ) × (s < M.n) × (assigned s ≡ x)
  assigned_onto = assigns_all M.n M.k U assigned assigned_low assigned_one

  -- ---- at every recognised place the unit is in the state assigned to the place's
  Met : ℕ → Type 0
  Met p = state_at unit xs p ≡ assigned (state_at M xs p)

  word_met : (p : ℕ) → OccursAt w xs p → Met p
  unfolding Met MetAtWord
  word_met p h =
      let o = assigned_onto (state_at unit xs p) (unit_low p) in
      let a = assigned_met o.0 o.1 in
      sym o.2 ∙ ap assigned (sym a.2 ∙ alike a.0 p a.1 h (a.3 ∙ o.2))

  recognised_met : (p : ℕ) → Recognised M w xs p → Met p
  unfolding Met
  recognised_met =
      smallest M w xs Met word_met
      (λ p q m ml rp hp rq hq e rm hm i equal.
      states_agree unit xs q p m (hq ∙ ap assigned (sym e) ∙ sym hp) (sym equal)
      ∙ hm
      ∙ ap assigned (states_agree M xs p q m e equal))

  -- ---- verified entries
  assigned_answers : (s c : ℕ) → s < M.n → c < M.k → unit.answer (assigned s) c ≡ M.answer s c
  unfolding Met
  assigned_answers s c sl cl =
      let v = certified.entries s c sl cl in
      let at = recognised_met v.place v.before in
      let there = ap (λ (l : List ℕ). get_or l v.place 0) (sym same) in
      rw (answer_at unit xs _ v.inside, answer_at M xs _ v.inside, at, v.state, v.command) at there

  assigned_next : (s c : ℕ) → s < M.n → c < M.k → unit.next (assigned s) c ≡ assigned (M.next s c)
  unfolding Met
  assigned_next s c sl cl =
      let v = certified.entries s c sl cl in
      let at = recognised_met v.place v.before in
      let after = recognised_met (v.place + 1) v.after in
      rw (state_next unit xs _ v.inside, state_next M xs _ v.inside, at, v.state, v.command) at after

  -- ---- every place of the run
  all_met : (p : ℕ) → p ≤ length xs → Met p
  unfolding Met
  all_met zero l = recognised_met 0 certified.start
  all_met (suc p) l =
      rw (← add-one p, state_next unit xs p (omega arith), state_next M xs p (omega arith), all_met p (omega arith))
      (assigned_next (state_at M xs p) (get_or xs p 0) (state_low p) (commands.low p (omega arith)))

  -- ---- start, end and no state left out
  -- the claim: the end state is that of place N
  pub identity : Renaming M U xs (state_at M xs (length xs))
  unfolding Met
  identity = record {
    isomorphism = record {
      assigned = assigned;
      into = assigned_low;
      one_to_one = assigned_one;
      onto = assigned_onto;
      answers_alike = assigned_answers;
      goes_alike = assigned_next;
    };
    end_is = refl;
    start_assigned = sym (rw (state_start unit xs, state_start M xs) at (recognised_met 0 certified.start));
    end_assigned = sym (all_met (length xs) (omega arith)) ∙ state_end unit xs;
  }
