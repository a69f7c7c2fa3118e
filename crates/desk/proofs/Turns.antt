-- From what the parts of a step promise to what step promises: over a sheet and answers that lead to the desk.
-- Assumes nothing.
use Prim.Native.Nat.{ℕ, ◌+◌, ◌-◌, ◌≤◌, ◌<◌}
use mathlib.Core.Path.{◌≡◌, refl, sym, ap, ap₂, subst, ◌∙◌}
use mathlib.Core.Bool.{true, true≢false}
use mathlib.Core.Logic.{inl, inr}
use mathlib.Core.List.{List, [], ◌∷◌, ◌++◌}
use mathlib.Core.Option.{none, some, mem_unique, some-ne-none}
use native.Mathlib.Omega.{arith}
use lib.ListN.{length, get_or, take, length-append}
use lib.Seq.{take_all, get_or-take}
use Rattle.facts.specs.Numbers.{equal_or_not, less_or_not}
use Rattle.facts.specs.FirstOf.{nothing, value, seen}
use Rattle.sheet.specs.Check.{first_cause, Clear}
use Rattle.sheet.specs.Reader.{word_in}
use Rattle.sheet.specs.Values.Laws.{returns_specified}
use Rattle.machine.specs.Machine.{Mealy, run, meaning, Distinguishes}
use Rattle.machine.specs.Causes.{machine_in}
use Rattle.build.specs.Transfer.Laws.{transfer_none_left}
use Rattle.build.specs.Building.{connected_causes}
use Rattle.desk.specs.declared.desk.Desk.{Desk}
use Rattle.desk.specs.declared.desk.Order.{Order}
use Rattle.desk.specs.declared.desk.Order.TheVariants.{Command, Home, Stranger}
use Rattle.desk.specs.declared.desk.Phase.{Phase}
use Rattle.desk.specs.declared.desk.Phase.TheVariants.{Reading, Driving, Home as HomePhase}
use Rattle.desk.specs.declared.desk.Phase.TheVariants.{Stranger as StrangerPhase}
use Rattle.desk.specs.declared.stepping.Stepped.{Stepped}
use Rattle.desk.specs.Desk.{first_state, order_of, is_end, phase_of}
use Rattle.desk.specs.Desk.Laws.{first_answers, began_is, order_reading, order_none, along_command}
use Rattle.desk.specs.Desk.Laws.{course_short, Along, along_word, along_length, along_read, along_home}
use Rattle.desk.specs.Desk.Laws.{along_differs, along_next, along_reached, along_phase}
use Rattle.desk.specs.Desk.Agreement.{Suited, clear_suited, course_transfer, order_along}
use Rattle.desk.specs.Desk.Ends.{order_repeats, end_read, phase_reading, phase_home, phase_stranger, phase_read}
use Rattle.desk.specs.Desk.Ends.{phase_driven, phase_at_home, phase_at_stranger}
use Rattle.desk.specs.Service.{order_on, Reached, end_of, order_values, Steps}
use Rattle.desk.specs.Stepping.{Keeps, AtHome, AtStranger, Arrives, Drives, word_of, Reads, Finds, Hears}

-- an order is the specified one, and the answers lead to the desk
record Correct (s ys : List ℕ) (r : Stepped) : Type 0 where
  order : r.order ≡ order_on s ys
  desk : Reached s ys r.desk

-- ---- a sheet that is not refused, and a desk with its machine and word
module _ (s : List ℕ) (clear : first_cause (connected_causes s) ≡ Clear) (d : Desk)
    (me : meaning d.machine ≡ machine_in s) (se : d.size ≡ length (word_in s)) (we : word_of d ≡ word_in s) where
  abbrev M : Mealy
  M = machine_in s

  abbrev w : List ℕ
  w = word_in s

  suited : Suited M w
  suited = clear_suited s clear

  abbrev word : Distinguishes M w
  word = suited.word

  -- the new desk, by its phase
  reached_by : (ys : List ℕ) (e : Desk) → Keeps d e → e.phase ≡ phase_of M w ys
      → (length ys < length w → take (length ys) e.heard ≡ ys)
      → ((c : ℕ) → order_of M w ys ≡ Command c → (e.count ≡ length ys) × (e.sent ≡ c)) → Reached s ys e
  reached_by ys e k p h q = record {
    clear = clear;
    machine = ap meaning k.machine ∙ me;
    size = k.size ∙ se;
    word = ap₂ take k.size k.word ∙ we;
    phase = p;
    heard = h;
    waits = q;
  }

  -- where all of the word is answered nothing more is heard
  past : {A : Type 0} (ys : List ℕ) → length w ≤ length ys → length ys < length w → A
  past ys l k = let z : ⊥ = omega arith in absurd z

  ended_home : (ys : List ℕ) (n : ℕ) {r : Stepped} → length w ≤ length ys → order_of M w ys ≡ Home n → AtHome d n r
      → Correct s ys r
  ended_home ys n {r} l e h = record {
    order = h.order ∙ sym e;
    desk =
        reached_by ys r.desk h.kept (h.phase ∙ sym (phase_home M w ys e)) (past ys l)
        (λ c q. let z : ◌≡◌ {A = ℕ} 0 1 = cc in absurd (omega arith));
  }

  ended_stranger : (ys : List ℕ) (p : ℕ) {r : Stepped} → length w ≤ length ys → order_of M w ys ≡ Stranger p
      → AtStranger d p r → Correct s ys r
  ended_stranger ys p {r} l e h = record {
    order = h.order ∙ sym e;
    desk =
        reached_by ys r.desk h.kept (h.phase ∙ sym (phase_stranger M w ys e)) (past ys l)
        (λ c q. let z : ◌≡◌ {A = ℕ} 0 1 = cc in absurd (omega arith));
  }

  -- ---- arriving, all answers being right so far
  arrived_home : {b : ℕ} {v zs : List ℕ} → Along M w b v [] zs → {at n : ℕ} → at ≡ run M b v → n ≡ length zs
      → {r : Stepped} → Arrives d at n r → Correct s zs r
  arrived_home {b} {v} {zs} h {at} {n} ae ne a =
      let home = transfer_none_left M (run M b v) M.start h.drives in
      let many : length v ≡ n = sym (along_length M w h) ∙ sym ne in
      ended_home zs n (along_read M w h) (along_home M w h word.separates refl ∙ ap Home many)
      (a.home (ae ∙ home ∙ ap (λ (N : Mealy). N.start) (sym me)))

  arrived_on : {b : ℕ} {v zs : List ℕ} (c : ℕ) (u : List ℕ) → Along M w b v (c ∷ u) zs → {at n : ℕ} → at ≡ run M b v
      → n ≡ length zs → {r : Stepped} → Arrives d at n r → Correct s zs r
  arrived_on {b} {v} {zs} c u h {at} {n} ae ne {r} a =
      let k = a.sends c u (rw (me, ae) h.drives) in
      let order = along_command M w h c u refl word.separates in
      record {
        order = k.order ∙ sym order;
        desk =
            reached_by zs r.desk k.kept
            (k.phase ∙ ap Driving ae ∙ sym (along_phase M w h c u refl word.separates))
            (past zs (along_read M w h))
            (λ f q. let same-command : c ≡ f = cc in (k.count ∙ ne, k.sent ∙ same-command));
      }

  arrived : {b : ℕ} {v zs : List ℕ} (rest : List ℕ) → Along M w b v rest zs → {at n : ℕ} → at ≡ run M b v
      → n ≡ length zs → {r : Stepped} → Arrives d at n r → Correct s zs r
  arrived [] h ae ne a = arrived_home h ae ne a
  arrived (c ∷ u) h ae ne a = arrived_on c u h ae ne a

  one_longer : (ys : List ℕ) (y : ℕ) → length (ys ++ (y ∷ [])) ≡ length ys + 1
  one_longer ys y = omega (arith, length-append ys (y ∷ []))

  -- ---- the answer to a command of the word
  hears_more : (ys : List ℕ) (y : ℕ) → Reached s ys d → length ys + 1 < length w → {r : Stepped}
      → Reads d (length ys) y r → Correct s (ys ++ (y ∷ [])) r
  hears_more ys y g l {r} h =
      let zs = ys ++ (y ∷ []) in
      let long = one_longer ys y in
      let command : get_or w (length zs) 0 ≡ get_or d.word (length ys + 1) 0 =
      rw (← we, long, get_or-take d.size d.word (length ys + 1) 0 (omega arith)) in
      let order = order_reading M w zs (omega arith) in
      record {
        order = h.order ∙ ap Command (sym command) ∙ sym order;
        desk =
            reached_by zs r.desk h.kept
            (h.phase ∙ ap Reading (sym long) ∙ sym (phase_reading M w zs (omega arith)))
            (λ _. rw (long, h.heard, g.heard (omega arith)))
            (λ c q.
            let same-command : get_or w (length zs) 0 ≡ c = cc in
            (h.count ∙ sym long, h.sent ∙ sym command ∙ same-command));
      }

  hears_last : (p : ℕ) (zs : List ℕ) → p + 1 ≡ length w → length zs ≡ length w → {r : Stepped} → Finds d p zs r
      → Correct s zs r
  hears_last p zs l long h =
      let began =
      began_is M w zs ∙ ap (λ (x : List ℕ). first_state M w x M.n) (take_all (length w) zs (omega (arith, long))) in
      let theirs = ap₂ (λ (N : Mealy) (x : List ℕ). first_state N x zs N.n) me we in
      elim (seen (first_state M w zs M.n)) [
        | nothing e ↦ (let place : length w - 1 ≡ p = omega arith in
            ended_stranger zs p (omega (arith, long))
            (order_none M w zs (omega (arith, long)) (began ∙ e) ∙ ap Stranger place) (h.missing (theirs ∙ e)))
        | value b e ↦ (let f = first_answers M w zs M.n e in
            let t = course_transfer M w suited b f.0 in
            let a = subst (Along M w b w t.0) f.1 (along_word M w b f.0 t.1) in
            arrived t.0 a (ap₂ (λ (N : Mealy) (x : List ℕ). run N b x) me we) (l ∙ sym long)
            (h.found b (theirs ∙ e)))
      ]

  hears_right : (ys : List ℕ) (y : ℕ) → Reached s ys d → length ys < length w → {r : Stepped}
      → Hears d (length ys) y r → Correct s (ys ++ (y ∷ [])) r
  hears_right ys y g l h =
      let few : d.size ≤ 16 = omega (arith, se, word.commands.few) in
      elim (less_or_not (length ys + 1) (length w)) [
        | inl k ↦ hears_more ys y g k (h.reads (omega (arith, se)) few)
        | inr k ↦ (let last : length ys + 1 ≡ length w = omega arith in
            hears_last (length ys) (ys ++ (y ∷ [])) last (one_longer ys y ∙ last)
            (rw (g.heard l) at (h.finds (last ∙ sym se) few)))
      ]

  -- ---- the answer to a command of the transfer
  drives_right : (ys : List ℕ) (y at : ℕ) → Reached s ys d → d.phase ≡ Driving at → {r : Stepped} → Drives d at y r
      → Correct s (ys ++ (y ∷ [])) r
  drives_right ys y at g pe {r} h =
      let p = phase_driven M w ys (sym g.phase ∙ pe) in
      let c = p.1.0 in
      let a = order_along M w suited ys p.0 p.1.1 in
      let on : Along M w a.0 a.1 (c ∷ a.2) ys = a.3 in
      let same-phase : Driving at ≡ Driving (run M a.0 a.1) =
      sym pe ∙ g.phase ∙ along_phase M w on c a.2 refl word.separates in
      let here : at ≡ run M a.0 a.1 = cc in
      let waiting = g.waits c p.1.1 in
      go c a.0 a.1 a.2 on here waiting
    where
      go : (c b : ℕ) (v u : List ℕ) → Along M w b v (c ∷ u) ys → at ≡ run M b v
          → (d.count ≡ length ys) × (d.sent ≡ c) → Correct s (ys ++ (y ∷ [])) r
      go c b v u on here waiting = elim (equal_or_not (M.answer (run M b v) c) y) [
        | inl same_answer ↦ arrived u (along_next M w on c u refl y same_answer) next_is
            (ap (λ (n : ℕ). n + 1) waiting.0 ∙ sym (one_longer ys y))
            (h.arrives (answer_is ∙ same_answer) small)
        | inr apart ↦ (let strange = along_differs M w on c u refl word.separates y apart in
            ended_stranger (ys ++ (y ∷ [])) d.count (omega (arith, one_longer ys y, along_read M w on))
            (strange ∙ ap Stranger (sym waiting.0)) (h.differs (λ q. apart (sym answer_is ∙ q))))
      ]
        where
          answer_is : (meaning d.machine).answer at d.sent ≡ M.answer (run M b v) c
          answer_is = rw (me, here, waiting.1)

          next_is : (meaning d.machine).next at d.sent ≡ run M b (v ++ (c ∷ []))
          next_is = rw (me, here, waiting.1, along_reached M w on c u refl)

          small : d.count + 1 < 256
          small =
              omega (
                arith,
                waiting.0,
                along_length M w on,
                ap length on.splits,
                length-append v (c ∷ u),
                course_short M w b suited.proper.some_states,
                word.commands.few,
                suited.proper.few_states,
              )

  -- ---- an end stays
  stays_right : (ys : List ℕ) (y : ℕ) (o : Order) → Reached s ys d → is_end (order_on s ys) ≡ true → order_on s ys ≡ o
      → d.phase ≡ phase_of M w (ys ++ (y ∷ [])) → Correct s (ys ++ (y ∷ [])) (record { order = o; desk = d })
  stays_right ys y o g t e p =
      let zs = ys ++ (y ∷ []) in
      let same_end = order_repeats M w ys t (y ∷ []) in
      let far = end_read M w ys t in
      record {
        order = sym (same_end ∙ e);
        desk =
            reached_by zs d (record { machine = refl; size = refl; word = refl }) p
            (past zs (omega (arith, far, one_longer ys y)))
            (λ c q. absurd (true≢false (sym t ∙ ap is_end (sym same_end ∙ q))));
      }

-- ---- step
-- what step promises, by the phase of the desk
module _ (d : Desk) (y : ℕ) where
  right_steps : {r : Stepped} → ((s ys : List ℕ) → Reached s ys d → Correct s (ys ++ (y ∷ [])) r)
      → ((e : Order) → end_of d.phase ≡ some e → (r.order ≡ e) × (r.desk ≡ d)) → Steps d y r
  right_steps h e = record {
    order = λ s ys g. returns_specified order_values (h s ys g).order;
    desk = λ s ys g. (h s ys g).desk;
    repeats = e;
  }

  no_end : {A : Type 0} (p : Phase) (e : Order) → d.phase ≡ p → end_of p ≡ none → end_of d.phase ≡ some e → A
  no_end p e q n f = absurd (some-ne-none e (sym f ∙ ap end_of q ∙ n))

  pub hears_steps : {p : ℕ} → d.phase ≡ Reading p → {r : Stepped} → Hears d p y r → Steps d y r
  hears_steps {p} pe {r} h =
      right_steps
      (λ s ys g.
      let q = phase_read (machine_in s) (word_in s) ys (sym g.phase ∙ pe) in
      hears_right s g.clear d g.machine g.size g.word ys y g q.0
      (subst (λ (n : ℕ). Hears d n y r) q.1 h))
      (λ e f. no_end (Reading p) e pe refl f)

  pub drives_steps : {at : ℕ} → d.phase ≡ Driving at → {r : Stepped} → Drives d at y r → Steps d y r
  drives_steps {at} pe h =
      right_steps
      (λ s ys g. drives_right s g.clear d g.machine g.size g.word ys y at g pe h)
      (λ e f. no_end (Driving at) e pe refl f)

  pub home_steps : {n : ℕ} → d.phase ≡ HomePhase n → Steps d y (record { order = Home n; desk = d })
  home_steps {n} pe =
      right_steps
      (λ s ys g.
      let o = phase_at_home (machine_in s) (word_in s) ys (sym g.phase ∙ pe) in
      let t = ap is_end o in
      stays_right s g.clear d g.machine g.size g.word ys y (Home n) g t o
      (pe ∙ sym (phase_home (machine_in s) (word_in s) (ys ++ (y ∷ []))
      (order_repeats (machine_in s) (word_in s) ys t (y ∷ []) ∙ o))))
      (λ e f. (mem_unique (ap end_of pe) f, refl))

  pub stranger_steps : {p : ℕ} → d.phase ≡ StrangerPhase p → Steps d y (record { order = Stranger p; desk = d })
  stranger_steps {p} pe =
      right_steps
      (λ s ys g.
      let o = phase_at_stranger (machine_in s) (word_in s) ys (sym g.phase ∙ pe) in
      let t = ap is_end o in
      stays_right s g.clear d g.machine g.size g.word ys y (Stranger p) g t o
      (pe ∙ sym (phase_stranger (machine_in s) (word_in s) (ys ++ (y ∷ []))
      (order_repeats (machine_in s) (word_in s) ys t (y ∷ []) ∙ o))))
      (λ e f. (mem_unique (ap end_of pe) f, refl))
